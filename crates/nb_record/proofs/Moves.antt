-- What an exchange of two neighbours keeps, every permutation keeps.
use Rattle.std.proofs.Common.{◌≡◌, ℕ, zero, suc, ◌<◌, Bool, true, false, cond, ◌&&◌, List, [], ◌∷◌, length, get_or, set, ap, ◌∙◌, refl, arith}
use Rattle.std.specs.Prelude.{filter, IsPermutation}
use Rattle.std.specs.List.{swap, list_all}
use Rattle.std.proofs.lemmas.List.Sorted.{IsPermutation-refl, IsPermutation-sym, IsPermutation-cons, IsPermutation-middle, IsPermutation-trans, IsPermutation-keeps}

-- a relation of lists that goes from element to element
pub record IsKept {X : Type 0} (R : List X → List X → Type 0) : Type 0 where
  pub same : (xs : List X) → R xs xs
  pub join : (xs ys zs : List X) → R xs ys → R ys zs → R xs zs
  pub more : (x : X) (xs ys : List X) → R xs ys → R (x ∷ xs) (x ∷ ys)
  pub exchange : (x y : X) (xs : List X) → R (x ∷ y ∷ xs) (y ∷ x ∷ xs)

-- the first and another exchanged
first_exchanged : {X : Type 0} (R : List X → List X → Type 0) → IsKept R → (d x : X) (xs : List X) (j : ℕ) → j < length xs → R (x ∷ xs) (get_or xs j d ∷ set xs j x)
first_exchanged R kept d x [] j below = absurd (omega arith)
first_exchanged R kept d x (y ∷ ys) zero below = kept.exchange x y ys
first_exchanged R kept d x (z ∷ zs) (suc j) below =
    let y = get_or zs j d in
    let rest = set zs j x in
    kept.join (x ∷ z ∷ zs) (z ∷ x ∷ zs) (y ∷ z ∷ rest) (kept.exchange x z zs)
    (kept.join (z ∷ x ∷ zs) (z ∷ y ∷ rest) (y ∷ z ∷ rest) (kept.more z (x ∷ zs) (y ∷ rest) (first_exchanged R kept d x zs j (omega arith))) (kept.exchange z y rest))

two_exchanged : {X : Type 0} (R : List X → List X → Type 0) → IsKept R → (d : X) (xs : List X) (i j : ℕ) → i < length xs → j < length xs → R xs (set (set xs i (get_or xs j d)) j (get_or xs i d))
two_exchanged R kept d [] i j below_i below_j = absurd (omega arith)
two_exchanged R kept d (x ∷ xs) zero zero below_i below_j = kept.same (x ∷ xs)
two_exchanged R kept d (x ∷ xs) zero (suc j) below_i below_j = first_exchanged R kept d x xs j (omega arith)
two_exchanged R kept d (x ∷ xs) (suc i) zero below_i below_j = first_exchanged R kept d x xs i (omega arith)
two_exchanged R kept d (x ∷ xs) (suc i) (suc j) below_i below_j =
    kept.more x xs (set (set xs i (get_or xs j d)) j (get_or xs i d)) (two_exchanged R kept d xs i j (omega arith) (omega arith))

swapped : {X : Type 0} (R : List X → List X → Type 0) → IsKept R → (xs : List X) (i j : ℕ) → i < length xs → j < length xs → R xs (swap xs i j)
swapped R kept [] i j below_i below_j = absurd (omega arith)
swapped R kept (x ∷ xs) i j below_i below_j = two_exchanged R kept x (x ∷ xs) i j below_i below_j

pub permutation_keeps : {X : Type 0} (R : List X → List X → Type 0) → IsKept R → (xs ys : List X) → IsPermutation xs ys → R xs ys
permutation_keeps R kept xs ys is =
    IsPermutation-keeps xs (λ l. R xs l) (kept.same xs) (λ l i j below_i below_j done. kept.join xs l (swap l i j) done (swapped R kept l i j below_i below_j)) ys is

-- ---- what a filter keeps

pub exchanged : {X : Type 0} (x y : X) (xs : List X) → IsPermutation (x ∷ y ∷ xs) (y ∷ x ∷ xs)
exchanged x y xs = IsPermutation-sym (y ∷ x ∷ xs) (x ∷ y ∷ xs) (IsPermutation-middle (y ∷ []) x xs)

more_chosen : {X : Type 0} (t : Bool) (x : X) (xs ys : List X) → IsPermutation xs ys → IsPermutation (cond t (x ∷ xs) xs) (cond t (x ∷ ys) ys)
more_chosen true x xs ys is = IsPermutation-cons x xs ys is
more_chosen false x xs ys is = is

two_chosen : {X : Type 0} (t u : Bool) (x y : X) (xs : List X) → IsPermutation (cond t (x ∷ cond u (y ∷ xs) xs) (cond u (y ∷ xs) xs)) (cond u (y ∷ cond t (x ∷ xs) xs) (cond t (x ∷ xs) xs))
two_chosen true true x y xs = exchanged x y xs
two_chosen true false x y xs = IsPermutation-refl (x ∷ xs)
two_chosen false true x y xs = IsPermutation-refl (y ∷ xs)
two_chosen false false x y xs = IsPermutation-refl xs

pub IsPermutation-filter : {X : Type 0} (p : X → Bool) (xs ys : List X) → IsPermutation xs ys → IsPermutation (filter p xs) (filter p ys)
IsPermutation-filter p xs ys is =
    permutation_keeps (λ fs bs. IsPermutation (filter p fs) (filter p bs))
    (record {
      same = λ fs. IsPermutation-refl (filter p fs);
      join = λ fs bs cs. IsPermutation-trans (filter p fs) (filter p bs) (filter p cs);
      more = λ a fs bs. more_chosen (p a) a (filter p fs) (filter p bs);
      exchange = λ a b fs. two_chosen (p a) (p b) a b (filter p fs);
    })
    xs ys is

-- ---- what all pass

both_ways : (t u v : Bool) → (t && (u && v)) ≡ (u && (t && v))
both_ways true true v = refl
both_ways true false v = refl
both_ways false true v = refl
both_ways false false v = refl

pub list_all-IsPermutation : {X : Type 0} (p : X → Bool) (xs ys : List X) → IsPermutation xs ys → list_all p xs ≡ list_all p ys
list_all-IsPermutation p xs ys is =
    permutation_keeps (λ fs bs. list_all p fs ≡ list_all p bs)
    (record {
      same = λ fs. refl;
      join = λ fs bs cs one other. one ∙ other;
      more = λ a fs bs one. ap (λ t. p a && t) one;
      exchange = λ a b fs. both_ways (p a) (p b) (list_all p fs);
    })
    xs ys is
