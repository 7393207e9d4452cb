-- The bodies of a cell are one range of the order: behind those of lower keys, as many as they are.
use Rattle.std.proofs.Common.{◌≡◌, ℕ, ◌+◌, ◌-◌, ◌*◌, ◌^◌, ◌<◌, ◌≤◌, Bool, true, false, cond, not, ◌&&◌, eqb, ltb, List, [], ◌∷◌, ◌++◌, length, take, drop, sym, ap, ◌∙◌, refl, subst, inl, inr, arith}
use Rattle.std.specs.Prelude.{◌⊎◌, ◌≢◌, filter, sum_by}
use Rattle.std.specs.List.{list_all}
use Rattle.std.proofs.Math.Nat.{add-mul, one-mul}
use Rattle.std.proofs.lemmas.Bool.{eqb-true, ltb-true, eq-eqb, ne_eqb, lt-ltb, le-ltb, cases_eq, cases_lt}
use Rattle.std.proofs.lemmas.List.{length-append, take_at, drop_at}
use Rattle.std.proofs.lemmas.List.Sorted.{sum_by-IsPermutation}
use Rattle.std.proofs.lemmas.List.Sums.{length-filter}
use Rattle.nb_model.specs.declared.body.Body.{Body}
use Rattle.nb_model.specs.Leapfrog.{unescaped}
use Rattle.nb_key.specs.Morton.{key_at, morton_key, IsKeyAt, first_key, last_key}
use Rattle.nb_key.proofs.Levels.{eight_pos}
use Rattle.nb_key.proofs.Ranges.{in_range}
use Rattle.nb_record.specs.Order.{by_key, sorted_by}
use Rattle.nb_record.specs.Cells.{first_body, in_cell}
use Rattle.nb_record.proofs.Sorting.{Each, either, In, each_in, each_implied, permuted}
use Rattle.nb_record.proofs.Orders.{stayed}
use Rattle.nb_record.proofs.Splits.{length-sorted_by, is_below, isnt_below, filter_yes, filter_no, each_kept, sorted_split}

-- ---- two tests

pub filter_on : (p q : Body → Bool) (bs : List Body) → Each (λ b. p b ≡ q b) bs → filter p bs ≡ filter q bs
filter_on p q [] same = refl
filter_on p q (b ∷ bs) same =
    elim (either (q b)) [
      | inl is ↦ filter_yes p b bs (same.0 ∙ is) ∙ ap (λ l. b ∷ l) (filter_on p q bs same.1) ∙ sym (filter_yes q b bs is)
      | inr is ↦ filter_no p b bs (same.0 ∙ is) ∙ filter_on p q bs same.1 ∙ sym (filter_no q b bs is)
    ]

pub filter_twice : (p q : Body → Bool) (bs : List Body) → filter q (filter p bs) ≡ filter (λ b. p b && q b) bs
filter_twice p q [] = refl
filter_twice p q (b ∷ bs) =
    elim (either (p b)) [
      | inl is ↦ ap (filter q) (filter_yes p b bs is) ∙ ap (λ l. cond (q b) (b ∷ l) l) (filter_twice p q bs) ∙ ap (λ t. cond (t && q b) (b ∷ filter (λ c. p c && q c) bs) (filter (λ c. p c && q c) bs)) (sym is)
      | inr is ↦ ap (filter q) (filter_no p b bs is) ∙ filter_twice p q bs ∙ sym (filter_no (λ c. p c && q c) b bs (ap (λ t. t && q b) is))
    ]

each_member : (P : Body → Type 0) (bs : List Body) → ((b : Body) → In b bs → P b) → Each P bs
each_member P [] at = tt
each_member P (b ∷ bs) at = (at b (inl refl), each_member P bs (λ c within. at c (inr within)))

member_kept : (p : Body → Bool) (b : Body) (bs : List Body) → In b bs → p b ≡ true → In b (filter p bs)
member_kept p b [] within is = absurd within
member_kept p b (c ∷ cs) (inl here) is = subst (In b) (sym (filter_yes p c cs (ap p (sym here) ∙ is))) (inl here)
member_kept p b (c ∷ cs) (inr behind) is =
    elim (either (p c)) [
      | inl yields ↦ subst (In b) (sym (filter_yes p c cs yields)) (inr (member_kept p b cs behind is))
      | inr fails ↦ subst (In b) (sym (filter_no p c cs fails)) (member_kept p b cs behind is)
    ]

-- ---- the keys of a cell, as a test

-- the first key behind those of a cell
abbrev pub next_key : ℕ → ℕ → ℕ
next_key level key = first_key level (key + 1)

pub next_above : (level key : ℕ) → next_key level key ≡ first_key level key + 8 ^ (21 - level)
next_above level key = add-mul key 1 (8 ^ (21 - level)) ∙ ap (λ t. key * 8 ^ (21 - level) + t) (one-mul (8 ^ (21 - level)))

outside : (m lo hi : ℕ) → ((lo ≤ m) × (m ≤ hi - 1) → ⊥) → 0 < hi → (not (ltb m lo) && ltb m hi) ≡ false
outside m lo hi other some = away (cases_lt m lo) (cases_lt m hi) where
  away : (m < lo) ⊎ (lo ≤ m) → (m < hi) ⊎ (hi ≤ m) → (not (ltb m lo) && ltb m hi) ≡ false
  away (inl below) _ = ap (λ t. not t && ltb m hi) (lt-ltb m lo below)
  away (inr from) (inr above) = ap (λ t. not t && ltb m hi) (le-ltb m lo from) ∙ le-ltb m hi above
  away (inr from) (inl under) = absurd (other (from, omega arith))

range_test : (m lo hi k key : ℕ) → (k ≡ key → (lo ≤ m) × (m ≤ hi - 1)) → ((lo ≤ m) × (m ≤ hi - 1) → k ≡ key) → 0 < hi → (not (ltb m lo) && ltb m hi) ≡ eqb k key
range_test m lo hi k key into back some =
    elim (cases_eq k key) [
      | inl same ↦
          let within : (lo ≤ m) × (m ≤ hi - 1) = into same in
          ap (λ t. not t && ltb m hi) (le-ltb m lo within.0) ∙ lt-ltb m hi (omega arith) ∙ sym (eq-eqb k key same)
      | inr other ↦ outside m lo hi (λ within. other (back within)) some ∙ sym (ne_eqb k key other)
    ]

inside_rank : (out : Bool) (key : ℕ) → out ≡ false → cond out (2 ^ 64) 0 + key ≡ key
inside_rank true key is = absurd (cc)
inside_rank false key is = omega arith

pub by_key_inside : (b : Body) → b.out ≡ false → by_key b ≡ morton_key b.at
by_key_inside b is = inside_rank b.out (morton_key b.at) is

-- all are in the box
abbrev pub Inside : List Body → Type 0
Inside bs = Each (λ b. b.out ≡ false) bs

pub inside_box : (bs : List Body) → Inside (unescaped bs)
inside_box bs = each_implied (λ b. not b.out ≡ true) (λ b. b.out ≡ false) (unescaped bs) (λ b stays. stayed b.out stays) (each_kept (λ b. not b.out) bs)

pub cell_test : (level key : ℕ) → IsKeyAt level key → (b : Body) → b.out ≡ false → (isnt_below by_key (first_key level key) b && is_below by_key (next_key level key) b) ≡ eqb (key_at level b.at) key
cell_test level key is b stays =
    let range = in_range level key b.at is in
    ap (λ r. not (ltb r (first_key level key)) && ltb r (next_key level key)) (by_key_inside b stays)
    ∙ range_test (morton_key b.at) (first_key level key) (next_key level key) (key_at level b.at) key range.0 range.1 (omega (arith, next_above level key, eight_pos (21 - level)))

-- ---- the bodies of lower keys, those of the cell, and those of higher keys

abbrev pub lower : ℕ → ℕ → List Body → List Body
lower level key all = filter (is_below by_key (first_key level key)) all

abbrev pub upper : ℕ → ℕ → List Body → List Body
upper level key all = filter (isnt_below by_key (next_key level key)) (filter (isnt_below by_key (first_key level key)) all)

cell_is : (level key : ℕ) (all : List Body) → IsKeyAt level key → Inside all → filter (is_below by_key (next_key level key)) (filter (isnt_below by_key (first_key level key)) all) ≡ in_cell level key all
cell_is level key all is stay =
    filter_twice (isnt_below by_key (first_key level key)) (is_below by_key (next_key level key)) all
    ∙ filter_on (λ b. isnt_below by_key (first_key level key) b && is_below by_key (next_key level key) b) (λ b. eqb (key_at level b.at) key) all
    (each_implied (λ b. b.out ≡ false) (λ b. (isnt_below by_key (first_key level key) b && is_below by_key (next_key level key) b) ≡ eqb (key_at level b.at) key) all (cell_test level key is) stay)

pub order_is : (level key : ℕ) (all : List Body) → IsKeyAt level key → Inside all → sorted_by by_key all ≡ sorted_by by_key (lower level key all) ++ (sorted_by by_key (in_cell level key all) ++ sorted_by by_key (upper level key all))
order_is level key all is stay =
    let rest = filter (isnt_below by_key (first_key level key)) all in
    sorted_split by_key (first_key level key) all
    ∙ ap (λ l. sorted_by by_key (lower level key all) ++ l) (sorted_split by_key (next_key level key) rest)
    ∙ ap (λ l. sorted_by by_key (lower level key all) ++ (sorted_by by_key l ++ sorted_by by_key (upper level key all))) (cell_is level key all is stay)

-- ---- the number of the first body

passes : (p : Body → Bool) (bs : List Body) → Each (λ b. p b ≡ true) bs → list_all p bs ≡ true
passes p [] each = refl
passes p (b ∷ bs) each = ap (λ t. t && list_all p bs) each.0 ∙ passes p bs each.1

both_pass : (t u : Bool) → (t && u) ≡ true → (t ≡ true) × (u ≡ true)
both_pass true u is = (refl, is)
both_pass false u is = absurd (cc)

passed : (p : Body → Bool) (bs : List Body) → list_all p bs ≡ true → Each (λ b. p b ≡ true) bs
passed p [] all = tt
passed p (b ∷ bs) all =
    let both = both_pass (p b) (list_all p bs) all in
    (both.0, passed p bs both.1)

-- a body whose key is below those of all the bodies of a cell is below the cell
first_test : (level key : ℕ) (all : List Body) → IsKeyAt level key → (cell : List Body) → cell ≡ in_cell level key all → cell ≢ [] → (b : Body) → In b all → list_all (λ c. ltb (morton_key b.at) (morton_key c.at)) cell ≡ ltb (morton_key b.at) (first_key level key)
first_test level key all is [] of some b within = absurd (some refl)
first_test level key all is (c ∷ cs) of some b within =
    let m = morton_key b.at in
    let test = λ (d : Body). ltb m (morton_key d.at) in
    let each : Each (λ d. (first_key level key ≤ morton_key d.at) × (morton_key d.at ≤ last_key level key)) (c ∷ cs) =
    subst (Each (λ d. (first_key level key ≤ morton_key d.at) × (morton_key d.at ≤ last_key level key))) (sym of)
    (each_implied (λ d. eqb (key_at level d.at) key ≡ true) (λ d. (first_key level key ≤ morton_key d.at) × (morton_key d.at ≤ last_key level key)) (in_cell level key all)
    (λ d here. (in_range level key d.at is).0 (eqb-true (key_at level d.at) key here)) (each_kept (λ d. eqb (key_at level d.at) key) all)) in
    elim (cases_lt m (first_key level key)) [
      | inl below ↦
          passes test (c ∷ cs) (each_implied (λ d. (first_key level key ≤ morton_key d.at) × (morton_key d.at ≤ last_key level key)) (λ d. test d ≡ true) (c ∷ cs) (λ d range. lt-ltb m (morton_key d.at) (omega arith)) each)
          ∙ sym (lt-ltb m (first_key level key) below)
      | inr from ↦ never from each.0 (either (list_all test (c ∷ cs))) ∙ sym (le-ltb m (first_key level key) from)
    ] where
      never : first_key level key ≤ morton_key b.at → (first_key level key ≤ morton_key c.at) × (morton_key c.at ≤ last_key level key) → (list_all (λ d. ltb (morton_key b.at) (morton_key d.at)) (c ∷ cs) ≡ true) ⊎ (list_all (λ d. ltb (morton_key b.at) (morton_key d.at)) (c ∷ cs) ≡ false) → list_all (λ d. ltb (morton_key b.at) (morton_key d.at)) (c ∷ cs) ≡ false
      never from range (inr no_one) = no_one
      never from range (inl every) =
          let each_below = passed (λ d. ltb (morton_key b.at) (morton_key d.at)) (c ∷ cs) every in
          let below : morton_key b.at < morton_key c.at = ltb-true (morton_key b.at) (morton_key c.at) each_below.0 in
          let here : key_at level b.at ≡ key = (in_range level key b.at is).1 (from, omega arith) in
          let held : In b (c ∷ cs) = subst (In b) (sym of) (member_kept (λ d. eqb (key_at level d.at) key) b all within (eq-eqb (key_at level b.at) key here)) in
          let self : morton_key b.at < morton_key b.at = ltb-true (morton_key b.at) (morton_key b.at) (each_in (λ d. ltb (morton_key b.at) (morton_key d.at) ≡ true) b (c ∷ cs) each_below held) in
          absurd (omega arith)

pub first_is : (level key : ℕ) (all : List Body) → IsKeyAt level key → Inside all → in_cell level key all ≢ [] → first_body all (in_cell level key all) ≡ length (lower level key all)
first_is level key all is stay some =
    let cell = in_cell level key all in
    let test = λ (b : Body). list_all (λ c. ltb (morton_key b.at) (morton_key c.at)) cell in
    sym (length-filter test all)
    ∙ ap length (filter_on test (is_below by_key (first_key level key)) all (each_member (λ b. test b ≡ is_below by_key (first_key level key) b) all
    (λ b within. first_test level key all is cell refl some b within
    ∙ ap (λ r. ltb r (first_key level key)) (sym (by_key_inside b (each_in (λ c. c.out ≡ false) b all stay within))))))

-- ---- the range

pub cell_range : (level key : ℕ) (all : List Body) → IsKeyAt level key → Inside all → in_cell level key all ≢ [] → take (length (in_cell level key all)) (drop (first_body all (in_cell level key all)) (sorted_by by_key all)) ≡ sorted_by by_key (in_cell level key all)
cell_range level key all is stay some =
    let cell = in_cell level key all in
    let low = lower level key all in
    let behind = sorted_by by_key cell ++ sorted_by by_key (upper level key all) in
    ap (λ n. take (length cell) (drop n (sorted_by by_key all))) (first_is level key all is stay some)
    ∙ ap (λ l. take (length cell) (drop (length low) l)) (order_is level key all is stay)
    ∙ ap (take (length cell)) (drop_at (sorted_by by_key low) behind (length low) (length-sorted_by by_key low))
    ∙ take_at (sorted_by by_key cell) (sorted_by by_key (upper level key all)) (length cell) (length-sorted_by by_key cell)

pub range_sum : (f : Body → ℕ) (level key : ℕ) (all : List Body) → IsKeyAt level key → Inside all → in_cell level key all ≢ [] → sum_by f (take (length (in_cell level key all)) (drop (first_body all (in_cell level key all)) (sorted_by by_key all))) ≡ sum_by f (in_cell level key all)
range_sum f level key all is stay some =
    let cell = in_cell level key all in
    ap (sum_by f) (cell_range level key all is stay some) ∙ sum_by-IsPermutation f cell (sorted_by by_key cell) (permuted by_key cell)

pub range_within : (level key : ℕ) (all : List Body) → IsKeyAt level key → Inside all → in_cell level key all ≢ [] → first_body all (in_cell level key all) + length (in_cell level key all) ≤ length all
range_within level key all is stay some =
    let cell = in_cell level key all in
    let low = lower level key all in
    let high = upper level key all in
    omega (arith, ap length (order_is level key all is stay), length-append (sorted_by by_key low) (sorted_by by_key cell ++ sorted_by by_key high), length-append (sorted_by by_key cell) (sorted_by by_key high), length-sorted_by by_key all, length-sorted_by by_key low, length-sorted_by by_key cell, first_is level key all is stay some)
