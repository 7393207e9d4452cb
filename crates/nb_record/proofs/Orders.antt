-- The order of a list of bodies: which come first, and that it doesn't depend on the list's own order.
use Rattle.std.proofs.Common.{◌≡◌, ℕ, zero, suc, ◌+◌, ◌^◌, ◌<◌, ◌≤◌, Bool, true, false, cond, not, ◌&&◌, ◌||◌, eqb, ltb, List, [], ◌∷◌, ◌++◌, length, get_or, take, drop, append-nil, sym, ap, ◌∙◌, refl, subst, inl, inr, arith}
use Rattle.std.specs.Prelude.{filter, All, IsPermutation}
use Rattle.std.specs.List.Sorted.{IsNonDecreasingBy}
use Rattle.std.proofs.lemmas.Bool.{lt-ltb, le-ltb}
use Rattle.std.proofs.lemmas.Bool.Decides.{nat_tests}
use Rattle.std.proofs.lemmas.List.{take_at, drop_at}
use Rattle.std.proofs.lemmas.List.Elements.{All-same, All-weaker, filter-append, filter_agree, filter_passes}
use Rattle.std.proofs.lemmas.List.Sorted.{All-permutation, IsPermutation-sym, IsPermutation-trans}
use Rattle.nb_model.specs.declared.body.Body.{Body}
use Rattle.nb_model.specs.Leapfrog.{unescaped}
use Rattle.nb_key.specs.Morton.{morton_key}
use Rattle.nb_key.proofs.Levels.{key_fits}
use Rattle.nb_key.proofs.Paths.{key_is}
use Rattle.nb_record.specs.Order.{by_key, by_id, precedes, insert_by, sorted_by, HaveDifferentIds}
use Rattle.nb_record.proofs.Sorting.{Before, Differ, Apart, apart_permuted, Each, Ordered, either, each_implied, insert_here, insert_behind, insert_nil, sorted_cons, sorted_nil, each_sorted, each_inserted, ordered, neighbours, apart_by_ids, permuted, sorted, only}
use Rattle.nb_record.proofs.Splits.{length-sorted_by, is_below, isnt_below, filter_yes, filter_no, each_kept, sorted_split}
use Rattle.nb_record.proofs.Moves.{IsPermutation-filter}

-- ---- the bodies in the box, and those that have left it

pub morton_key-lt : (b : Body) → morton_key b.at < 2 ^ 64
morton_key-lt b = key_fits (morton_key b.at) (21, key_is 21 b.at (omega arith))

inside_below : (out : Bool) (key : ℕ) → key < 2 ^ 64 → ltb (cond out (2 ^ 64) 0 + key) (2 ^ 64) ≡ not out
inside_below true key small = le-ltb (2 ^ 64 + key) (2 ^ 64) (omega arith)
inside_below false key small = lt-ltb (0 + key) (2 ^ 64) (omega arith)

not_twice : (t : Bool) → not (not t) ≡ t
not_twice true = refl
not_twice false = refl

inside : (bs : List Body) → filter (is_below by_key (2 ^ 64)) bs ≡ unescaped bs
inside bs = filter_agree (is_below by_key (2 ^ 64)) (λ b. not b.out) (λ b. inside_below b.out (morton_key b.at) (morton_key-lt b)) bs

outside : (bs : List Body) → filter (isnt_below by_key (2 ^ 64)) bs ≡ filter (λ b. b.out) bs
outside bs =
    filter_agree (isnt_below by_key (2 ^ 64)) (λ b. b.out) (λ b. ap not (inside_below b.out (morton_key b.at) (morton_key-lt b)) ∙ not_twice b.out) bs

pub parts : (bs : List Body) → sorted_by by_key bs ≡ sorted_by by_key (unescaped bs) ++ sorted_by by_key (filter (λ b. b.out) bs)
parts bs =
    sorted_split by_key (2 ^ 64) bs
    ∙ ap (λ l. sorted_by by_key l ++ sorted_by by_key (filter (isnt_below by_key (2 ^ 64)) bs)) (inside bs)
    ∙ ap (λ l. sorted_by by_key (unescaped bs) ++ sorted_by by_key l) (outside bs)

pub front : (bs : List Body) → take (length (unescaped bs)) (sorted_by by_key bs) ≡ sorted_by by_key (unescaped bs)
front bs =
    ap (take (length (unescaped bs))) (parts bs)
    ∙ take_at (sorted_by by_key (unescaped bs)) (sorted_by by_key (filter (λ b. b.out) bs)) (length (unescaped bs)) (length-sorted_by by_key (unescaped bs))

pub stayed : (out : Bool) → not out ≡ true → out ≡ false
stayed true stays = absurd (cc)
stayed false stays = refl

pub present : (bs : List Body) → All (λ b. b.out ≡ false) (take (length (unescaped bs)) (sorted_by by_key bs))
present bs =
    All-same (λ b. b.out ≡ false) (take (length (unescaped bs)) (sorted_by by_key bs)) (sorted_by by_key (unescaped bs)) (front bs)
    (All-permutation (λ b. b.out ≡ false) (unescaped bs) (sorted_by by_key (unescaped bs)) (permuted by_key (unescaped bs))
    (All-weaker (λ b. not b.out ≡ true) (λ b. b.out ≡ false) (λ b stays. stayed b.out stays) (unescaped bs) (filter_passes (λ b. not b.out) bs)))

pub back : (bs : List Body) → drop (length (unescaped bs)) (sorted_by by_key bs) ≡ sorted_by by_key (filter (λ b. b.out) bs)
back bs =
    ap (drop (length (unescaped bs))) (parts bs)
    ∙ drop_at (sorted_by by_key (unescaped bs)) (sorted_by by_key (filter (λ b. b.out) bs)) (length (unescaped bs)) (length-sorted_by by_key (unescaped bs))

pub escaped : (bs : List Body) → All (λ b. b.out ≡ true) (drop (length (unescaped bs)) (sorted_by by_key bs))
escaped bs =
    let out = filter (λ b. b.out) bs in
    All-same (λ b. b.out ≡ true) (drop (length (unescaped bs)) (sorted_by by_key bs)) (sorted_by by_key out) (back bs)
    (All-permutation (λ b. b.out ≡ true) out (sorted_by by_key out) (permuted by_key out) (filter_passes (λ b. b.out) bs))

-- ---- ranks don't fall

abbrev Rising : (Body → ℕ) → List Body → Type 0
Rising rank [] = Unit {0}
Rising rank (b ∷ bs) = Each (λ c. rank b ≤ rank c) bs × Rising rank bs

not_after : (m n i j : ℕ) → (ltb m n || (eqb m n && ltb i j)) ≡ true → m ≤ n
not_after m n i j is = grind (arith, nat_tests)

not_before : (m n i j : ℕ) → (ltb m n || (eqb m n && ltb i j)) ≡ false → n ≤ m
not_before m n i j is = grind (arith, nat_tests)

rising_inserted : (rank : Body → ℕ) (b : Body) (cs : List Body) → Rising rank cs → Rising rank (insert_by rank b cs)
rising_inserted rank b [] up = subst (Rising rank) (sym (insert_nil rank b)) (tt, tt)
rising_inserted rank b (c ∷ cs) up =
    elim (either (precedes rank b c)) [
      | inl is ↦
          let low : rank b ≤ rank c = not_after (rank b) (rank c) b.id c.id is in
          subst (Rising rank) (sym (insert_here rank b c cs is)) ((low, each_implied (λ d. rank c ≤ rank d) (λ d. rank b ≤ rank d) cs (λ d behind. omega arith) up.0), up)
      | inr is ↦
          subst (Rising rank) (sym (insert_behind rank b c cs is))
          (each_inserted (λ d. rank c ≤ rank d) rank b cs (not_before (rank b) (rank c) b.id c.id is) up.0, rising_inserted rank b cs up.1)
    ]

rising_sorted : (rank : Body → ℕ) (bs : List Body) → Rising rank (sorted_by rank bs)
rising_sorted rank [] = subst (Rising rank) (sym (sorted_nil rank)) tt
rising_sorted rank (b ∷ bs) = subst (Rising rank) (sym (sorted_cons rank b bs)) (rising_inserted rank b (sorted_by rank bs) (rising_sorted rank bs))

pub each_at : (P : Body → Type 0) (bs : List Body) → Each P bs → (k : ℕ) (d : Body) → k < length bs → P (get_or bs k d)
each_at P [] each k d below = absurd (omega arith)
each_at P (b ∷ bs) each zero d below = each.0
each_at P (b ∷ bs) each (suc k) d below = each_at P bs each.1 k d (omega arith)

rising_at : (rank : Body → ℕ) (bs : List Body) → Rising rank bs → IsNonDecreasingBy rank bs
rising_at rank [] up i j d before within = absurd (omega arith)
rising_at rank (b ∷ bs) up zero zero d before within = omega arith
rising_at rank (b ∷ bs) up zero (suc j) d before within = each_at (λ c. rank b ≤ rank c) bs up.0 j d (omega arith)
rising_at rank (b ∷ bs) up (suc i) zero d before within = absurd (omega arith)
rising_at rank (b ∷ bs) up (suc i) (suc j) d before within = rising_at rank bs up.1 i j d (omega arith) (omega arith)

pub ranks_rise : (rank : Body → ℕ) (bs : List Body) → IsNonDecreasingBy rank (sorted_by rank bs)
ranks_rise rank bs = rising_at rank (sorted_by rank bs) (rising_sorted rank bs)

-- ---- the list's own order doesn't matter

pub same_order : (rank : Body → ℕ) (xs ys : List Body) → HaveDifferentIds xs → IsPermutation xs ys → sorted_by rank xs ≡ sorted_by rank ys
same_order rank xs ys different is =
    only rank ys (sorted_by rank xs) (IsPermutation-trans ys xs (sorted_by rank xs) (IsPermutation-sym xs ys is) (permuted rank xs)) (sorted rank xs different)

apart_at : (rank : Body → ℕ) (bs : List Body) → Apart rank bs → (i j : ℕ) (d : Body) → i < j → j < length bs → Differ rank (get_or bs i d) (get_or bs j d)
apart_at rank [] apart i j d before within = absurd (omega arith)
apart_at rank (b ∷ bs) apart zero zero d before within = absurd (omega arith)
apart_at rank (b ∷ bs) apart zero (suc j) d before within = each_at (Differ rank b) bs apart.0 j d (omega arith)
apart_at rank (b ∷ bs) apart (suc i) zero d before within = absurd (omega arith)
apart_at rank (b ∷ bs) apart (suc i) (suc j) d before within = apart_at rank bs apart.1 i j d (omega arith) (omega arith)

-- ids that differ do so in any order
pub different_permuted : (xs ys : List Body) → HaveDifferentIds xs → IsPermutation xs ys → HaveDifferentIds ys
different_permuted xs ys different is i j d before within =
    let sorted_xs = sorted_by by_id xs in
    let back = IsPermutation-trans ys xs sorted_xs (IsPermutation-sym xs ys is) (permuted by_id xs) in
    apart_at by_id ys (apart_permuted by_id ys sorted_xs back (ordered by_id xs (apart_by_ids by_id xs different))) i j d before within refl

each_filtered : (P : Body → Type 0) (p : Body → Bool) (bs : List Body) → Each P bs → Each P (filter p bs)
each_filtered P p [] each = tt
each_filtered P p (b ∷ bs) each =
    elim (either (p b)) [
      | inl is ↦ subst (Each P) (sym (filter_yes p b bs is)) (each.0, each_filtered P p bs each.1)
      | inr is ↦ subst (Each P) (sym (filter_no p b bs is)) (each_filtered P p bs each.1)
    ]

pub ordered_filtered : (rank : Body → ℕ) (p : Body → Bool) (bs : List Body) → Ordered rank bs → Ordered rank (filter p bs)
ordered_filtered rank p [] is = tt
ordered_filtered rank p (b ∷ bs) all =
    elim (either (p b)) [
      | inl is ↦ subst (Ordered rank) (sym (filter_yes p b bs is)) (each_filtered (Before rank b) p bs all.0, ordered_filtered rank p bs all.1)
      | inr is ↦ subst (Ordered rank) (sym (filter_no p b bs is)) (ordered_filtered rank p bs all.1)
    ]

-- to choose from the sorted list is to sort what is chosen
pub chosen_sorted : (rank : Body → ℕ) (p : Body → Bool) (bs : List Body) → HaveDifferentIds bs → filter p (sorted_by rank bs) ≡ sorted_by rank (filter p bs)
chosen_sorted rank p bs different =
    only rank (filter p bs) (filter p (sorted_by rank bs)) (IsPermutation-filter p bs (sorted_by rank bs) (permuted rank bs))
    (neighbours rank (filter p (sorted_by rank bs)) (ordered_filtered rank p (sorted_by rank bs) (ordered rank bs (apart_by_ids rank bs different))))

-- ---- the bodies in the box, in the order of all

kept_whole : (p : Body → Bool) (bs : List Body) → Each (λ b. p b ≡ true) bs → filter p bs ≡ bs
kept_whole p [] each = refl
kept_whole p (b ∷ bs) each = filter_yes p b bs each.0 ∙ ap (λ l. b ∷ l) (kept_whole p bs each.1)

none_kept : (p : Body → Bool) (bs : List Body) → Each (λ b. p b ≡ false) bs → filter p bs ≡ []
none_kept p [] each = refl
none_kept p (b ∷ bs) each = filter_no p b bs each.0 ∙ none_kept p bs each.1

pub unescaped_sorted : (bs : List Body) → unescaped (sorted_by by_key bs) ≡ sorted_by by_key (unescaped bs)
unescaped_sorted bs =
    let stays = λ (b : Body). not b.out in
    let out = filter (λ b. b.out) bs in
    let here : Each (λ b. stays b ≡ true) (sorted_by by_key (unescaped bs)) = each_sorted (λ b. stays b ≡ true) by_key (unescaped bs) (each_kept stays bs) in
    let gone : Each (λ b. stays b ≡ false) (sorted_by by_key out) =
    each_sorted (λ b. stays b ≡ false) by_key out (each_implied (λ b. b.out ≡ true) (λ b. stays b ≡ false) out (λ b is. ap not is) (each_kept (λ b. b.out) bs)) in
    ap (filter stays) (parts bs)
    ∙ filter-append stays (sorted_by by_key (unescaped bs)) (sorted_by by_key out)
    ∙ ap (λ l. l ++ filter stays (sorted_by by_key out)) (kept_whole stays (sorted_by by_key (unescaped bs)) here)
    ∙ ap (λ l. sorted_by by_key (unescaped bs) ++ l) (none_kept stays (sorted_by by_key out) gone)
    ∙ append-nil (sorted_by by_key (unescaped bs))
