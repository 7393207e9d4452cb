-- The octants of a cell follow one another in the order, and where a body stands tells its cell.
use Rattle.std.proofs.Common.{◌≡◌, ℕ, zero, suc, ◌+◌, ◌-◌, ◌*◌, ◌^◌, ◌<◌, ◌≤◌, ◌↔◌, Bool, true, false, not, ◌&&◌, eqb, ltb, List, [], ◌∷◌, ◌++◌, length, get_or, take, sym, ap, ◌∙◌, refl, subst, inl, inr, arith}
use Rattle.std.specs.Prelude.{◌≢◌, filter, sum_by, slice_get, Some, All}
use Rattle.std.proofs.Math.Nat.{pow-suc, mul_assoc, mul_comm}
use Rattle.std.proofs.lemmas.Bool.{eqb-true, eq-eqb, ne_eqb, lt-ltb, le-ltb, cases_eq, cases_lt}
use Rattle.std.proofs.lemmas.List.{length-append, get_or_append_left, get_or-append_right}
use Rattle.std.proofs.lemmas.List.Elements.{filter_agree, filter_passes, All-weaker}
use Rattle.std.proofs.lemmas.List.Filters.{length-filter_both}
use Rattle.std.proofs.lemmas.List.Sums.{sum_by_more}
use Rattle.std.proofs.lemmas.Option.{slice_get_within, get_or_from_slice_get}
use Rattle.nb_model.specs.declared.body.At.{At}
use Rattle.nb_model.specs.declared.body.Body.{Body}
use Rattle.nb_model.specs.Octree.{octant_at, in_octant}
use Rattle.nb_model.specs.Gravity.{octants}
use Rattle.nb_model.proofs.Facts.{octant_at-lt}
use Rattle.nb_key.specs.Morton.{octants_to, key_at, IsKeyAt, first_key}
use Rattle.nb_key.proofs.Levels.{child_at}
use Rattle.nb_key.proofs.Paths.{key_step}
use Rattle.nb_record.specs.Order.{by_key, sorted_by}
use Rattle.nb_record.specs.Cells.{first_body, in_cell}
use Rattle.nb_record.proofs.Sorting.{Each, each_implied, each_sorted}
use Rattle.nb_record.proofs.Splits.{length-sorted_by, is_below, isnt_below, filter_yes, each_kept}
use Rattle.nb_record.proofs.Orders.{each_at}
use Rattle.nb_record.proofs.Ranges.{next_key, next_above, Inside, lower, upper, cell_test, order_is, first_is, filter_on, filter_twice}

-- ---- the root, and the octants of a cell

key_of_root : (p : At) → key_at 0 p ≡ 1
unfolding octants_to
key_of_root p = refl

pub in_root : (bs : List Body) → in_cell 0 1 bs ≡ bs
in_root [] = refl
in_root (b ∷ bs) = filter_yes (λ c. eqb (key_at 0 c.at) 1) b bs (eq-eqb (key_at 0 b.at) 1 (key_of_root b.at)) ∙ ap (λ l. b ∷ l) (in_root bs)

pub all_in_cell : (level key : ℕ) (bs : List Body) → All (λ b. key_at level b.at ≡ key) (in_cell level key bs)
all_in_cell level key bs =
    let test = λ (b : Body). eqb (key_at level b.at) key in
    All-weaker (λ b. test b ≡ true) (λ b. key_at level b.at ≡ key) (λ b is. eqb-true (key_at level b.at) key is) (filter test bs) (filter_passes test bs)

child_test : (k o key octant child : ℕ) → child ≡ 8 * k + o → o < 8 → octant < 8 → (eqb k key && eqb o octant) ≡ eqb child (8 * key + octant)
child_test k o key octant child is small within =
    elim (cases_eq k key) [
      | inl one ↦ elim (cases_eq o octant) [
        | inl same ↦ ap (λ t. t && eqb o octant) (eq-eqb k key one) ∙ eq-eqb o octant same ∙ sym (eq-eqb child (8 * key + octant) (omega arith))
        | inr other ↦ ap (λ t. t && eqb o octant) (eq-eqb k key one) ∙ ne_eqb o octant other ∙ sym (ne_eqb child (8 * key + octant) (λ alike. other (omega arith)))
      ]
      | inr other ↦ ap (λ t. t && eqb o octant) (ne_eqb k key other) ∙ sym (ne_eqb child (8 * key + octant) (λ alike. other (omega arith)))
    ]

pub key_step_one : (level : ℕ) (p : At) → key_at (level + 1) p ≡ 8 * key_at level p + octant_at level p
key_step_one level p =
    let more : level + 1 ≡ suc level = omega arith in
    ap (λ l. key_at l p) more ∙ key_step level p

pub octant_of_cell : (level key octant : ℕ) (bs : List Body) → octant < 8 → in_octant level (in_cell level key bs) octant ≡ in_cell (level + 1) (8 * key + octant) bs
octant_of_cell level key octant bs within =
    let here = λ (b : Body). eqb (key_at level b.at) key in
    let there = λ (b : Body). eqb (octant_at level b.at) octant in
    filter_twice here there bs
    ∙ filter_agree (λ b. here b && there b) (λ b. eqb (key_at (level + 1) b.at) (8 * key + octant))
    (λ b. child_test (key_at level b.at) (octant_at level b.at) key octant (key_at (level + 1) b.at) (key_step_one level b.at) (octant_at-lt level b.at) within) bs

-- ---- one cell behind the other

below_both : (r lo hi : ℕ) → lo ≤ hi → (ltb r hi && ltb r lo) ≡ ltb r lo
below_both r lo hi up =
    elim (cases_lt r lo) [
      | inl below ↦ ap (λ t. t && ltb r lo) (lt-ltb r hi (omega arith))
      | inr from ↦ ap (λ t. ltb r hi && t) (le-ltb r lo from) ∙ and_false (ltb r hi) ∙ sym (le-ltb r lo from)
    ] where
      and_false : (t : Bool) → (t && false) ≡ false
      and_false true = refl
      and_false false = refl

swap_tests : (t u : Bool) → (t && not u) ≡ (not u && t)
swap_tests true true = refl
swap_tests true false = refl
swap_tests false true = refl
swap_tests false false = refl

-- how many bodies have keys below a number
abbrev count_below : ℕ → List Body → ℕ
count_below t all = length (filter (is_below by_key t) all)

below_next : (level key : ℕ) (all : List Body) → IsKeyAt level key → Inside all → count_below (next_key level key) all ≡ count_below (first_key level key) all + length (in_cell level key all)
below_next level key all is stay =
    let lo = first_key level key in
    let hi = next_key level key in
    let low : filter (is_below by_key lo) (filter (is_below by_key hi) all) ≡ filter (is_below by_key lo) all =
    filter_twice (is_below by_key hi) (is_below by_key lo) all
    ∙ filter_agree (λ b. is_below by_key hi b && is_below by_key lo b) (is_below by_key lo) (λ b. below_both (by_key b) lo hi (omega (arith, next_above level key))) all in
    let same : filter (isnt_below by_key lo) (filter (is_below by_key hi) all) ≡ in_cell level key all =
    filter_twice (is_below by_key hi) (isnt_below by_key lo) all
    ∙ filter_on (λ b. is_below by_key hi b && isnt_below by_key lo b) (λ b. eqb (key_at level b.at) key) all
    (each_implied (λ b. b.out ≡ false) (λ b. (is_below by_key hi b && isnt_below by_key lo b) ≡ eqb (key_at level b.at) key) all (λ b stays. swap_tests (ltb (by_key b) hi) (ltb (by_key b) lo) ∙ cell_test level key is b stays) stay) in
    omega (arith, length-filter_both (is_below by_key lo) (isnt_below by_key lo) (λ _. refl) (filter (is_below by_key hi) all), ap length low, ap length same)

pub octant_number : (i : ℕ) → i < 8 → get_or octants i 0 ≡ i
octant_number zero _ = omega arith
octant_number (suc zero) _ = omega arith
octant_number (suc (suc zero)) _ = omega arith
octant_number (suc (suc (suc zero))) _ = omega arith
octant_number (suc (suc (suc (suc zero)))) _ = omega arith
octant_number (suc (suc (suc (suc (suc zero))))) _ = omega arith
octant_number (suc (suc (suc (suc (suc (suc zero)))))) _ = omega arith
octant_number (suc (suc (suc (suc (suc (suc (suc zero))))))) _ = omega arith
octant_number (suc (suc (suc (suc (suc (suc (suc (suc k)))))))) below = absurd (omega arith)

-- the first key of a cell is that of its first octant
first_of_octants : (level key : ℕ) → level < 21 → first_key (level + 1) (8 * key + 0) ≡ first_key level key
first_of_octants level key above =
    let none : 8 * key + 0 ≡ key * 8 = omega arith in
    let power : 8 ^ (21 - level) ≡ 8 * 8 ^ (21 - (level + 1)) = ap (λ e. 8 ^ e) (one_more level above) ∙ pow-suc 8 (21 - (level + 1)) ∙ mul_comm (8 ^ (21 - (level + 1))) 8 in
    ap (λ k. k * 8 ^ (21 - (level + 1))) none ∙ mul_assoc key 8 (8 ^ (21 - (level + 1))) ∙ ap (λ e. key * e) (sym power) where
      one_more : (l : ℕ) → l < 21 → 21 - l ≡ suc (21 - (l + 1))
      one_more l below = omega arith

octants_below : (level key : ℕ) (all : List Body) → IsKeyAt level key → level < 21 → Inside all → (n : ℕ) → n < 8 → count_below (first_key (level + 1) (8 * key + n)) all ≡ count_below (first_key level key) all + sum_by (λ octant. length (in_octant level (in_cell level key all) octant)) (take n octants)
octants_below level key all is above stay zero within = ap (λ t. count_below t all) (first_of_octants level key above) ∙ omega arith
octants_below level key all is above stay (suc n) within =
    let size = λ (octant : ℕ). length (in_octant level (in_cell level key all) octant) in
    let child : IsKeyAt (level + 1) (8 * key + n) = subst (λ l. IsKeyAt l (8 * key + n)) (omega arith) (child_at level key n is above (omega arith)) in
    let more : sum_by size (take (n + 1) octants) ≡ sum_by size (take n octants) + size n = sum_by_more size octants n 0 (omega arith) ∙ ap (λ o. sum_by size (take n octants) + size o) (octant_number n (omega arith)) in
    let held : size n ≡ length (in_cell (level + 1) (8 * key + n) all) = ap length (octant_of_cell level key n all (omega arith)) in
    let step = below_next (level + 1) (8 * key + n) all child stay in
    let behind : 8 * key + suc n ≡ 8 * key + n + 1 = omega arith in
    let next : count_below (first_key (level + 1) (8 * key + suc n)) all ≡ count_below (next_key (level + 1) (8 * key + n)) all = ap (λ k. count_below (first_key (level + 1) k) all) behind in
    let count : suc n ≡ n + 1 = omega arith in
    let one : sum_by size (take (suc n) octants) ≡ sum_by size (take (n + 1) octants) = ap (λ m. sum_by size (take m octants)) count in
    omega (arith, next, step, one, more, held, octants_below level key all is above stay n (omega arith))

some_parent : (level key octant : ℕ) (all : List Body) → in_octant level (in_cell level key all) octant ≢ [] → in_cell level key all ≢ []
some_parent level key octant all some none = some (ap (λ l. in_octant level l octant) none)

pub first_of_octant : (level key octant : ℕ) (all : List Body) → IsKeyAt level key → level < 21 → octant < 8 → Inside all → in_octant level (in_cell level key all) octant ≢ [] → first_body all (in_octant level (in_cell level key all) octant) ≡ first_body all (in_cell level key all) + sum_by (λ o. length (in_octant level (in_cell level key all) o)) (take octant octants)
first_of_octant level key octant all is above within stay some =
    let same = octant_of_cell level key octant all within in
    let child : IsKeyAt (level + 1) (8 * key + octant) = subst (λ l. IsKeyAt l (8 * key + octant)) (omega arith) (child_at level key octant is above within) in
    ap (first_body all) same
    ∙ first_is (level + 1) (8 * key + octant) all child stay (λ none. some (same ∙ none))
    ∙ octants_below level key all is above stay octant within
    ∙ ap (λ n. n + sum_by (λ o. length (in_octant level (in_cell level key all) o)) (take octant octants)) (sym (first_is level key all is stay (some_parent level key octant all some)))

-- ---- the next octant that isn't empty

octants_more : (f : ℕ → ℕ) (n : ℕ) → n < 8 → sum_by f (take (n + 1) octants) ≡ sum_by f (take n octants) + f n
octants_more f n below = sum_by_more f octants n 0 below ∙ ap (λ o. sum_by f (take n octants) + f o) (octant_number n below)

octants_still : (f : ℕ → ℕ) (from more : ℕ) → from + more ≤ 8 → ((octant : ℕ) → from ≤ octant → octant < from + more → f octant ≡ 0) → sum_by f (take (from + more) octants) ≡ sum_by f (take from octants)
octants_still f from zero within none =
    let same : from + zero ≡ from = omega arith in
    ap (λ n. sum_by f (take n octants)) same
octants_still f from (suc more) within none =
    let same : from + suc more ≡ from + more + 1 = omega arith in
    let last : f (from + more) ≡ 0 = none (from + more) (omega arith) (omega arith) in
    let rest = octants_still f from more (omega arith) (λ octant least below. none octant least (omega arith)) in
    omega (arith, ap (λ n. sum_by f (take n octants)) same, octants_more f (from + more) (omega arith), last, rest)

pub next_octant : (level key octant later : ℕ) (all : List Body) → IsKeyAt level key → level < 21 → octant < later → later < 8 → Inside all → in_octant level (in_cell level key all) octant ≢ [] → in_octant level (in_cell level key all) later ≢ [] → ((between : ℕ) → octant < between → between < later → in_octant level (in_cell level key all) between ≡ []) → first_body all (in_octant level (in_cell level key all) later) ≡ first_body all (in_octant level (in_cell level key all) octant) + length (in_octant level (in_cell level key all) octant)
next_octant level key octant later all is above before below stay here there none =
    let size = λ (o : ℕ). length (in_octant level (in_cell level key all) o) in
    let steps : octant + 1 + (later - (octant + 1)) ≡ later = omega arith in
    let still : sum_by size (take (octant + 1 + (later - (octant + 1))) octants) ≡ sum_by size (take (octant + 1) octants) =
    octants_still size (octant + 1) (later - (octant + 1)) (omega arith) (λ between least most. ap length (none between (omega arith) (omega arith))) in
    omega (arith, first_of_octant level key octant all is above (omega arith) stay here, first_of_octant level key later all is above below stay there, ap (λ n. sum_by size (take n octants)) steps, still, octants_more size octant (omega arith))

-- ---- the index of a body

-- tests of a body before the cell, in it and behind it
test_before : (t u e : Bool) → (not t && u) ≡ e → t ≡ true → e ≡ false
test_before t u e is before = sym is ∙ ap (λ s. not s && u) before

test_behind : (t u e : Bool) → (not t && u) ≡ e → not u ≡ true → e ≡ false
test_behind t true e is behind = absurd (cc)
test_behind true false e is behind = sym is
test_behind false false e is behind = sym is

not_equal : (k key : ℕ) → eqb k key ≡ false → k ≢ key
not_equal k key fails same = absurd (false_isnt_true (sym fails ∙ eq-eqb k key same)) where
  false_isnt_true : false ≡ true → ⊥
  false_isnt_true e = absurd (cc)

pub index_in_cell : (level key : ℕ) (all : List Body) → IsKeyAt level key → Inside all → in_cell level key all ≢ [] → (j : ℕ) (b : Body) → slice_get (sorted_by by_key all) j ≡ Some b → (key_at level b.at ≡ key) ↔ ((first_body all (in_cell level key all) ≤ j) × (j < first_body all (in_cell level key all) + length (in_cell level key all)))
index_in_cell level key all is stay some j b there = (into, back) where
  first : ℕ
  first = first_body all (in_cell level key all)

  before : List Body
  before = sorted_by by_key (lower level key all)

  cell : List Body
  cell = sorted_by by_key (in_cell level key all)

  behind : List Body
  behind = sorted_by by_key (upper level key all)

  within : j < length (sorted_by by_key all)
  within = slice_get_within (sorted_by by_key all) j b there

  order : sorted_by by_key all ≡ before ++ (cell ++ behind)
  order = order_is level key all is stay

  reads : get_or (before ++ (cell ++ behind)) j b ≡ b
  reads = ap (λ l. get_or l j b) (sym order) ∙ get_or_from_slice_get (sorted_by by_key all) j b b there

  stays : b.out ≡ false
  stays =
      let read = get_or_from_slice_get (sorted_by by_key all) j b b there in
      subst (λ c. c.out ≡ false) read (each_at (λ c. c.out ≡ false) (sorted_by by_key all) (each_sorted (λ c. c.out ≡ false) by_key all stay) j b within)

  test : (not (ltb (by_key b) (first_key level key)) && ltb (by_key b) (next_key level key)) ≡ eqb (key_at level b.at) key
  test = cell_test level key is b stays

  lengths : (length before ≡ first) × (length cell ≡ length (in_cell level key all)) × (length before + (length cell + length behind) ≡ length (sorted_by by_key all))
  lengths = (
    length-sorted_by by_key (lower level key all) ∙ sym (first_is level key all is stay some),
    length-sorted_by by_key (in_cell level key all),
    omega (arith, ap length order, length-append before (cell ++ behind), length-append cell behind),
  )

  here : first ≤ j → j < first + length (in_cell level key all) → key_at level b.at ≡ key
  here from to =
      let rest : get_or (before ++ (cell ++ behind)) j b ≡ get_or (cell ++ behind) (j - first) b = get_or-append_right before (cell ++ behind) first j b lengths.0 from in
      let front : get_or (cell ++ behind) (j - first) b ≡ get_or cell (j - first) b = get_or_append_left cell behind b (j - first) (omega (arith, lengths.1)) in
      let each : Each (λ c. eqb (key_at level c.at) key ≡ true) cell = each_sorted (λ c. eqb (key_at level c.at) key ≡ true) by_key (in_cell level key all) (each_kept (λ c. eqb (key_at level c.at) key) all) in
      eqb-true (key_at level b.at) key (subst (λ c. eqb (key_at level c.at) key ≡ true) (sym front ∙ sym rest ∙ reads) (each_at (λ c. eqb (key_at level c.at) key ≡ true) cell each (j - first) b (omega (arith, lengths.1))))

  early : j < first → key_at level b.at ≢ key
  early to =
      let front : get_or (before ++ (cell ++ behind)) j b ≡ get_or before j b = get_or_append_left before (cell ++ behind) b j (omega (arith, lengths.0)) in
      let each : Each (λ c. is_below by_key (first_key level key) c ≡ true) before = each_sorted (λ c. is_below by_key (first_key level key) c ≡ true) by_key (lower level key all) (each_kept (is_below by_key (first_key level key)) all) in
      let low = subst (λ c. is_below by_key (first_key level key) c ≡ true) (sym front ∙ reads) (each_at (λ c. is_below by_key (first_key level key) c ≡ true) before each j b (omega (arith, lengths.0))) in
      not_equal (key_at level b.at) key (test_before (ltb (by_key b) (first_key level key)) (ltb (by_key b) (next_key level key)) (eqb (key_at level b.at) key) test low)

  late : first + length (in_cell level key all) ≤ j → key_at level b.at ≢ key
  late from =
      let rest : get_or (before ++ (cell ++ behind)) j b ≡ get_or (cell ++ behind) (j - first) b = get_or-append_right before (cell ++ behind) first j b lengths.0 (omega arith) in
      let last : get_or (cell ++ behind) (j - first) b ≡ get_or behind (j - first - length (in_cell level key all)) b = get_or-append_right cell behind (length (in_cell level key all)) (j - first) b lengths.1 (omega arith) in
      let test_high = λ (c : Body). isnt_below by_key (next_key level key) c ≡ true in
      let each : Each test_high behind = each_sorted test_high by_key (upper level key all) (each_kept (isnt_below by_key (next_key level key)) (filter (isnt_below by_key (first_key level key)) all)) in
      let high : test_high b = subst test_high (sym last ∙ sym rest ∙ reads) (each_at test_high behind each (j - first - length (in_cell level key all)) b (omega (arith, within, lengths.0, lengths.1, lengths.2))) in
      not_equal (key_at level b.at) key (test_behind (ltb (by_key b) (first_key level key)) (ltb (by_key b) (next_key level key)) (eqb (key_at level b.at) key) test high)

  into : key_at level b.at ≡ key → (first ≤ j) × (j < first + length (in_cell level key all))
  into same =
      elim (cases_lt j first) [
        | inl low ↦ absurd (early low same)
        | inr from ↦ elim (cases_lt j (first + length (in_cell level key all))) [
          | inl to ↦ (from, to)
          | inr high ↦ absurd (late high same)
        ]
      ]

  back : (first ≤ j) × (j < first + length (in_cell level key all)) → key_at level b.at ≡ key
  back range = here range.0 range.1
