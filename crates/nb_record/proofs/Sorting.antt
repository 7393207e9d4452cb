-- The order of bodies is the one list of them in which each precedes the next.
use Rattle.std.proofs.Common.{◌≡◌, ℕ, zero, suc, ◌<◌, ◌+◌, ◌≤◌, Bool, true, false, cond, ◌&&◌, ◌||◌, eqb, ltb, List, [], ◌∷◌, length, map, get_or, sym, subst, refl, inl, inr, arith}
use Rattle.std.specs.Prelude.{◌≢◌, ◌⊎◌, Contains, IsPermutation, sum_by}
use Rattle.std.proofs.lemmas.Bool.{cond-true, cond-false, cases_eq}
use Rattle.std.proofs.lemmas.Bool.Decides.{nat_tests}
use Rattle.std.specs.List.Sorted.{IsStrictlyIncreasing}
use Rattle.std.proofs.lemmas.List.{get_or-map, length-map}
use Rattle.std.proofs.lemmas.List.Kept.{AllPairs-from_increasing}
use Rattle.std.proofs.lemmas.List.Sorted.{IsPermutation-refl, IsPermutation-sym, IsPermutation-cons, IsPermutation-middle, IsPermutation-trans, Contains-permutation, sum_by-IsPermutation}
use Rattle.std.proofs.lemmas.List.Sums.{sum_by-cons}
use Rattle.nb_model.specs.declared.body.Body.{Body}
use Rattle.nb_record.specs.Order.{precedes, insert_by, sorted_by, IsSortedByRank, HaveDifferentIds}

-- ---- the order of two bodies

-- the first comes before the second
abbrev pub Before : (Body → ℕ) → Body → Body → Type 0
Before rank a b = (rank a < rank b) ⊎ ((rank a ≡ rank b) × (a.id < b.id))

before_by : (m n i j : ℕ) → (ltb m n || (eqb m n && ltb i j)) ≡ true → (m < n) ⊎ ((m ≡ n) × (i < j))
before_by m n i j is = grind (arith, nat_tests)

by_before : (m n i j : ℕ) → (m < n) ⊎ ((m ≡ n) × (i < j)) → (ltb m n || (eqb m n && ltb i j)) ≡ true
by_before m n i j is = grind (arith, nat_tests)

after_by : (m n i j : ℕ) → (m ≡ n → i ≢ j) → (ltb m n || (eqb m n && ltb i j)) ≡ false → (n < m) ⊎ ((n ≡ m) × (j < i))
after_by m n i j other is = grind (arith, nat_tests)

joined : (l m n h i j : ℕ) → (l < m) ⊎ ((l ≡ m) × (h < i)) → (m < n) ⊎ ((m ≡ n) × (i < j)) → (l < n) ⊎ ((l ≡ n) × (h < j))
joined l m n h i j first second = grind arith

never_both : (m n i j : ℕ) → (m < n) ⊎ ((m ≡ n) × (i < j)) → (n < m) ⊎ ((n ≡ m) × (j < i)) → ⊥
never_both m n i j one other = grind arith

before : (rank : Body → ℕ) (a b : Body) → precedes rank a b ≡ true → Before rank a b
before rank a b is = before_by (rank a) (rank b) a.id b.id is

-- the two differ in rank or in id
abbrev pub Differ : (Body → ℕ) → Body → Body → Type 0
Differ rank a b = rank a ≡ rank b → a.id ≢ b.id

after : (rank : Body → ℕ) (a b : Body) → Differ rank a b → precedes rank a b ≡ false → Before rank b a
after rank a b other is = after_by (rank a) (rank b) a.id b.id other is

before-trans : (rank : Body → ℕ) (a b c : Body) → Before rank a b → Before rank b c → Before rank a c
before-trans rank a b c first second = joined (rank a) (rank b) (rank c) a.id b.id c.id first second

behind_differs : (m n j k r i : ℕ) → m ≡ r → j ≡ i → (m < n) ⊎ ((m ≡ n) × (j < k)) → n ≡ r → k ≡ i → ⊥
behind_differs m n j k r i of_rank of_id (inl below) same one = omega arith
behind_differs m n j k r i of_rank of_id (inr both) same one = omega arith

never : (rank : Body → ℕ) (a b : Body) → Before rank a b → Before rank b a → ⊥
never rank a b one other = never_both (rank a) (rank b) a.id b.id one other

-- ---- lists, element by element

abbrev pub Each : (Body → Type 0) → List Body → Type 0
Each P [] = Unit {0}
Each P (b ∷ bs) = P b × Each P bs

pub each_implied : (P Q : Body → Type 0) (bs : List Body) → ((b : Body) → P b → Q b) → Each P bs → Each Q bs
each_implied P Q [] implies each = tt
each_implied P Q (b ∷ bs) implies each = (implies b each.0, each_implied P Q bs implies each.1)

-- each body comes before all behind it
abbrev pub Ordered : (Body → ℕ) → List Body → Type 0
Ordered rank [] = Unit {0}
Ordered rank (b ∷ bs) = Each (Before rank b) bs × Ordered rank bs

-- ---- an insertion, by whether the body precedes the first

pub insert_here : (rank : Body → ℕ) (b c : Body) (cs : List Body) → precedes rank b c ≡ true → insert_by rank b (c ∷ cs) ≡ b ∷ c ∷ cs
unfolding insert_by
insert_here rank b c cs is = cond-true (precedes rank b c) (b ∷ c ∷ cs) (c ∷ insert_by rank b cs) is

pub insert_behind : (rank : Body → ℕ) (b c : Body) (cs : List Body) → precedes rank b c ≡ false → insert_by rank b (c ∷ cs) ≡ c ∷ insert_by rank b cs
unfolding insert_by
insert_behind rank b c cs is = cond-false (precedes rank b c) (b ∷ c ∷ cs) (c ∷ insert_by rank b cs) is

pub insert_nil : (rank : Body → ℕ) (b : Body) → insert_by rank b [] ≡ b ∷ []
unfolding insert_by
insert_nil rank b = refl

pub either : (t : Bool) → (t ≡ true) ⊎ (t ≡ false)
either true = inl refl
either false = inr refl

pub each_inserted : (P : Body → Type 0) (rank : Body → ℕ) (b : Body) (cs : List Body) → P b → Each P cs → Each P (insert_by rank b cs)
each_inserted P rank b [] here each = subst (Each P) (sym (insert_nil rank b)) (here, tt)
each_inserted P rank b (c ∷ cs) here each =
    elim (either (precedes rank b c)) [
      | inl is ↦ subst (Each P) (sym (insert_here rank b c cs is)) (here, each)
      | inr is ↦ subst (Each P) (sym (insert_behind rank b c cs is)) (each.0, each_inserted P rank b cs here each.1)
    ]

ordered_inserted : (rank : Body → ℕ) (b : Body) (cs : List Body) → Each (Differ rank b) cs → Ordered rank cs → Ordered rank (insert_by rank b cs)
ordered_inserted rank b [] other ordered = subst (Ordered rank) (sym (insert_nil rank b)) (tt, tt)
ordered_inserted rank b (c ∷ cs) other ordered =
    elim (either (precedes rank b c)) [
      | inl is ↦ subst (Ordered rank) (sym (insert_here rank b c cs is))
          ((before rank b c is, each_implied (Before rank c) (Before rank b) cs (λ d behind. before-trans rank b c d (before rank b c is) behind) ordered.0), ordered)
      | inr is ↦ subst (Ordered rank) (sym (insert_behind rank b c cs is))
          (each_inserted (Before rank c) rank b cs (after rank b c other.0 is) ordered.0, ordered_inserted rank b cs other.1 ordered.1)
    ]

permuted_inserted : (rank : Body → ℕ) (b : Body) (cs : List Body) → IsPermutation (b ∷ cs) (insert_by rank b cs)
permuted_inserted rank b [] = subst (IsPermutation (b ∷ [])) (sym (insert_nil rank b)) (IsPermutation-refl (b ∷ []))
permuted_inserted rank b (c ∷ cs) =
    elim (either (precedes rank b c)) [
      | inl is ↦ subst (IsPermutation (b ∷ c ∷ cs)) (sym (insert_here rank b c cs is)) (IsPermutation-refl (b ∷ c ∷ cs))
      | inr is ↦ subst (IsPermutation (b ∷ c ∷ cs)) (sym (insert_behind rank b c cs is))
          (IsPermutation-trans (b ∷ c ∷ cs) (c ∷ b ∷ cs) (c ∷ insert_by rank b cs)
          (IsPermutation-sym (c ∷ b ∷ cs) (b ∷ c ∷ cs) (IsPermutation-middle (c ∷ []) b cs))
          (IsPermutation-cons c (b ∷ cs) (insert_by rank b cs) (permuted_inserted rank b cs)))
    ]

-- ---- the whole list

pub sorted_cons : (rank : Body → ℕ) (b : Body) (bs : List Body) → sorted_by rank (b ∷ bs) ≡ insert_by rank b (sorted_by rank bs)
unfolding sorted_by
sorted_cons rank b bs = refl

pub sorted_nil : (rank : Body → ℕ) → sorted_by rank [] ≡ []
unfolding sorted_by
sorted_nil rank = refl

pub permuted : (rank : Body → ℕ) (bs : List Body) → IsPermutation bs (sorted_by rank bs)
permuted rank [] = subst (IsPermutation []) (sym (sorted_nil rank)) (IsPermutation-refl [])
permuted rank (b ∷ bs) =
    subst (IsPermutation (b ∷ bs)) (sym (sorted_cons rank b bs))
    (IsPermutation-trans (b ∷ bs) (b ∷ sorted_by rank bs) (insert_by rank b (sorted_by rank bs))
    (IsPermutation-cons b bs (sorted_by rank bs) (permuted rank bs)) (permuted_inserted rank b (sorted_by rank bs)))

pub each_sorted : (P : Body → Type 0) (rank : Body → ℕ) (bs : List Body) → Each P bs → Each P (sorted_by rank bs)
each_sorted P rank [] each = subst (Each P) (sym (sorted_nil rank)) tt
each_sorted P rank (b ∷ bs) each =
    subst (Each P) (sym (sorted_cons rank b bs)) (each_inserted P rank b (sorted_by rank bs) each.0 (each_sorted P rank bs each.1))

each_by_index : (P : Body → Type 0) (bs : List Body) → ((k : ℕ) (d : Body) → k < length bs → P (get_or bs k d)) → Each P bs
each_by_index P [] at = tt
each_by_index P (b ∷ bs) at = (at 0 b (omega arith), each_by_index P bs (λ k d below. at (suc k) d (omega arith)))

-- each body differs from all behind it
abbrev pub Apart : (Body → ℕ) → List Body → Type 0
Apart rank [] = Unit {0}
Apart rank (b ∷ bs) = Each (Differ rank b) bs × Apart rank bs

pub apart_by_ids : (rank : Body → ℕ) (bs : List Body) → HaveDifferentIds bs → Apart rank bs
apart_by_ids rank [] different = tt
apart_by_ids rank (b ∷ bs) different = (
  each_by_index (Differ rank b) bs (λ k d below _. different 0 (suc k) d (omega arith) (omega arith)),
  apart_by_ids rank bs (λ i j d before within. different (suc i) (suc j) d (omega arith) (omega arith)),
)

pub ordered : (rank : Body → ℕ) (bs : List Body) → Apart rank bs → Ordered rank (sorted_by rank bs)
ordered rank [] apart = subst (Ordered rank) (sym (sorted_nil rank)) tt
ordered rank (b ∷ bs) apart =
    subst (Ordered rank) (sym (sorted_cons rank b bs))
    (ordered_inserted rank b (sorted_by rank bs) (each_sorted (Differ rank b) rank bs apart.0) (ordered rank bs apart.1))

-- ---- bodies of an ordered list differ, in any order

abbrev mark : Bool → ℕ
mark is = cond is 1 0

-- how many bodies of a list have this rank and this id
abbrev alike : (Body → ℕ) → ℕ → ℕ → List Body → ℕ
alike rank r i bs = sum_by (λ b. mark (eqb (rank b) r && eqb b.id i)) bs

one_alike : (m r j i : ℕ) → (m ≡ r) × (j ≡ i) → mark (eqb m r && eqb j i) ≡ 1
one_alike m r j i same = grind (arith, nat_tests)

none_alike : (m r j i : ℕ) → (m ≡ r → j ≢ i) → mark (eqb m r && eqb j i) ≡ 0
none_alike m r j i other = grind (arith, nat_tests)

alike_or_not : (m r j i : ℕ) → ((m ≡ r) × (j ≡ i)) ⊎ (m ≡ r → j ≢ i)
alike_or_not m r j i =
    elim (cases_eq m r) [
      | inl same ↦ elim (cases_eq j i) [ inl one ↦ inl (same, one) | inr other ↦ inr (λ _. other) ]
      | inr other ↦ inr (λ same. absurd (other same))
    ]

alike-cons : (rank : Body → ℕ) (r i : ℕ) (b : Body) (bs : List Body) → alike rank r i (b ∷ bs) ≡ mark (eqb (rank b) r && eqb b.id i) + alike rank r i bs
alike-cons rank r i b bs = sum_by-cons (λ c. mark (eqb (rank c) r && eqb c.id i)) b bs

-- behind a body that comes before all of them none is like it
none_behind : (rank : Body → ℕ) (r i : ℕ) (b : Body) (bs : List Body) → rank b ≡ r → b.id ≡ i → Each (Before rank b) bs → alike rank r i bs ≡ 0
none_behind rank r i b [] of_rank of_id each = refl
none_behind rank r i b (c ∷ cs) of_rank of_id each =
    let other : rank c ≡ r → c.id ≢ i = behind_differs (rank b) (rank c) b.id c.id r i of_rank of_id each.0 in
    omega (arith, alike-cons rank r i c cs, none_alike (rank c) r c.id i other, none_behind rank r i b cs of_rank of_id each.1)

at_most_one : (rank : Body → ℕ) (r i : ℕ) (bs : List Body) → Ordered rank bs → alike rank r i bs ≤ 1
at_most_one rank r i [] is = omega arith
at_most_one rank r i (b ∷ bs) is =
    elim (alike_or_not (rank b) r b.id i) [
      | inl same ↦ omega (arith, alike-cons rank r i b bs, one_alike (rank b) r b.id i same, none_behind rank r i b bs same.0 same.1 is.0)
      | inr other ↦ omega (arith, alike-cons rank r i b bs, none_alike (rank b) r b.id i other, at_most_one rank r i bs is.1)
    ]

none_differ : (rank : Body → ℕ) (b : Body) (bs : List Body) → alike rank (rank b) b.id bs ≡ 0 → Each (Differ rank b) bs
none_differ rank b [] none = tt
none_differ rank b (c ∷ cs) none =
    let more = alike-cons rank (rank b) b.id c cs in (
      (λ same one. absurd (omega (arith, more, one_alike (rank c) (rank b) c.id b.id (sym same, sym one)))),
      none_differ rank b cs (omega (arith, more)),
    )

apart_by_count : (rank : Body → ℕ) (bs : List Body) → ((r i : ℕ) → alike rank r i bs ≤ 1) → Apart rank bs
apart_by_count rank [] most = tt
apart_by_count rank (b ∷ bs) most =
    let one = one_alike (rank b) (rank b) b.id b.id (refl, refl) in (
      none_differ rank b bs (omega (arith, most (rank b) b.id, alike-cons rank (rank b) b.id b bs, one)),
      apart_by_count rank bs (λ r i. omega (arith, most r i, alike-cons rank r i b bs)),
    )

pub apart_permuted : (rank : Body → ℕ) (xs ys : List Body) → IsPermutation xs ys → Ordered rank ys → Apart rank xs
apart_permuted rank xs ys is order =
    apart_by_count rank xs
    (λ r i. omega (arith, sum_by-IsPermutation (λ b. mark (eqb (rank b) r && eqb b.id i)) xs ys is, at_most_one rank r i ys order))

-- ---- neighbours, and all

pub neighbours : (rank : Body → ℕ) (bs : List Body) → Ordered rank bs → IsSortedByRank rank bs
neighbours rank [] is = tt
neighbours rank (b ∷ []) is = tt
neighbours rank (b ∷ c ∷ cs) is = (by_before (rank b) (rank c) b.id c.id is.0.0, neighbours rank (c ∷ cs) is.1)

first_before : (rank : Body → ℕ) (b : Body) (bs : List Body) → IsSortedByRank rank (b ∷ bs) → Each (Before rank b) bs
first_before rank b [] is = tt
first_before rank b (c ∷ cs) is =
    (before rank b c is.0, each_implied (Before rank c) (Before rank b) cs (λ d behind. before-trans rank b c d (before rank b c is.0) behind) (first_before rank c cs is.1))

pub all_before : (rank : Body → ℕ) (bs : List Body) → IsSortedByRank rank bs → Ordered rank bs
all_before rank [] is = tt
all_before rank (b ∷ []) is = (tt, tt)
all_before rank (b ∷ c ∷ cs) is = (first_before rank b (c ∷ cs) is, all_before rank (c ∷ cs) is.1)

pub sorted : (rank : Body → ℕ) (bs : List Body) → HaveDifferentIds bs → IsSortedByRank rank (sorted_by rank bs)
sorted rank bs different = neighbours rank (sorted_by rank bs) (ordered rank bs (apart_by_ids rank bs different))

-- ---- no other list

abbrev pub In : Body → List Body → Type 0
In z [] = ⊥
In z (b ∷ bs) = (z ≡ b) ⊎ In z bs

in_from_index : (z : Body) (bs : List Body) (k : ℕ) → k < length bs → get_or bs k z ≡ z → In z bs
in_from_index z [] k below is = absurd (omega arith)
in_from_index z (b ∷ bs) zero below is = inl (sym is)
in_from_index z (b ∷ bs) (suc k) below is = inr (in_from_index z bs k (omega arith) is)

contained : (z : Body) (bs : List Body) → In z bs → Contains bs z
contained z [] is = absurd is
contained z (b ∷ bs) (inl here) = (0, omega arith, sym here)
contained z (b ∷ bs) (inr behind) =
    let index = contained z bs behind in
    (suc index.0, omega (arith, index.1), index.2)

moved : (xs ys : List Body) → IsPermutation xs ys → (z : Body) → In z xs → In z ys
moved xs ys is z within =
    let index = Contains-permutation xs ys z is (contained z xs within) in
    in_from_index z ys index.0 index.1 index.2

pub each_in : (P : Body → Type 0) (z : Body) (bs : List Body) → Each P bs → In z bs → P z
each_in P z [] each within = absurd within
each_in P z (b ∷ bs) each (inl here) = subst P (sym here) each.0
each_in P z (b ∷ bs) each (inr behind) = each_in P z bs each.1 behind

-- ordered lists with the same bodies have the same first
same_first : (rank : Body → ℕ) (x y : Body) (xs ys : List Body) → Ordered rank (x ∷ xs) → Ordered rank (y ∷ ys) → In x (y ∷ ys) → In y (x ∷ xs) → x ≡ y
same_first rank x y xs ys left right (inl here) within = here
same_first rank x y xs ys left right (inr behind) (inl here) = sym here
same_first rank x y xs ys left right (inr behind) (inr within) =
    absurd (never rank x y (each_in (Before rank x) y xs left.0 within) (each_in (Before rank y) x ys right.0 behind))

-- and the same behind it
tail_in : (rank : Body → ℕ) (x : Body) (xs ys : List Body) → Each (Before rank x) xs → ((z : Body) → In z (x ∷ xs) → In z (x ∷ ys)) → (z : Body) → In z xs → In z ys
tail_in rank x xs ys each into z within = behind (into z (inr within)) where
  behind : (z ≡ x) ⊎ In z ys → In z ys
  behind (inl is) =
      let self : Before rank x x = subst (Before rank x) is (each_in (Before rank x) z xs each within) in
      absurd (never rank x x self self)
  behind (inr rest) = rest

same_list : (rank : Body → ℕ) (xs ys : List Body) → Ordered rank xs → Ordered rank ys → ((z : Body) → In z xs → In z ys) → ((z : Body) → In z ys → In z xs) → xs ≡ ys
same_list rank [] [] left right into back = refl
same_list rank [] (y ∷ ys) left right into back = absurd (back y (inl refl))
same_list rank (x ∷ xs) [] left right into back = absurd (into x (inl refl))
same_list rank (x ∷ xs) (y ∷ ys) left right into back =
    let first : x ≡ y = same_first rank x y xs ys left right (into x (inl refl)) (back y (inl refl)) in
    let into_x : (z : Body) → In z (x ∷ xs) → In z (x ∷ ys) = subst (λ b. (z : Body) → In z (x ∷ xs) → In z (b ∷ ys)) (sym first) into in
    let back_x : (z : Body) → In z (x ∷ ys) → In z (x ∷ xs) = subst (λ b. (z : Body) → In z (b ∷ ys) → In z (x ∷ xs)) (sym first) back in
    let right_x : Each (Before rank x) ys = subst (λ b. Each (Before rank b) ys) (sym first) right.0 in
    let rest = same_list rank xs ys left.1 right.1 (tail_in rank x xs ys left.0 into_x) (tail_in rank x ys xs right_x back_x) in
    λ i. first i ∷ rest i

pub only : (rank : Body → ℕ) (bs ys : List Body) → IsPermutation bs ys → IsSortedByRank rank ys → ys ≡ sorted_by rank bs
only rank bs ys is order =
    let from : IsPermutation ys bs = IsPermutation-sym bs ys is in
    let into : IsPermutation ys (sorted_by rank bs) = IsPermutation-trans ys bs (sorted_by rank bs) from (permuted rank bs) in
    let all = all_before rank ys order in
    same_list rank ys (sorted_by rank bs) all (ordered rank bs (apart_permuted rank bs ys is all))
    (moved ys (sorted_by rank bs) into) (moved (sorted_by rank bs) ys (IsPermutation-sym ys (sorted_by rank bs) into))

-- ids that rise differ
pub different_ids : (bs : List Body) → IsStrictlyIncreasing (map (λ b. b.id) bs) → HaveDifferentIds bs
different_ids bs rises = λ i j d before within.
    let pairs = AllPairs-from_increasing (map (λ b. b.id) bs) rises i j 0 before (omega (arith, length-map bs (λ b. b.id))) in
    λ same. omega (arith, pairs, get_or-map (λ b. b.id) bs i d 0 (omega arith), get_or-map (λ b. b.id) bs j d 0 within, same)
