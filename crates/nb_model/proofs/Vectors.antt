-- Vectors by their axes, their sums and their sizes.
use Rattle.std.proofs.Common.{◌≡◌, ℕ, ◌+◌, ◌<◌, ◌≤◌, ℤ, ◌+ℤ◌, List, [], ◌∷◌, length, map, take, get_or, ap, ◌∙◌, arith}
use Rattle.std.specs.Prelude.{unsigned_abs, fold, sum_by}
use Rattle.std.proofs.lemmas.Int.{ints}
use Rattle.std.proofs.lemmas.List.{map_more}
use Rattle.std.proofs.lemmas.List.Sums.{fold_push, sum_by-cons}
use Rattle.nb_model.specs.declared.body.At.{At}
use Rattle.nb_model.specs.declared.body.V3.{V3}
use Rattle.nb_model.specs.Valid.{IsBelow}
use Rattle.nb_model.specs.Vector.{zero_vector, plus, vector_sum}

pub same_vector : (v w : V3) → v.x ≡ w.x → v.y ≡ w.y → v.z ≡ w.z → v ≡ w
same_vector v w x y z =
    ap (λ k. record v { x = k }) x ∙ ap (λ k. record w { y = k; z = v.z }) y ∙ ap (λ k. record w { z = k }) z

pub same_position : (p q : At) → p.x ≡ q.x → p.y ≡ q.y → p.z ≡ q.z → p ≡ q
same_position p q x y z =
    ap (λ k. record p { x = k }) x ∙ ap (λ k. record q { y = k; z = p.z }) y ∙ ap (λ k. record q { z = k }) z

-- each axis is, in size, at most this
pub record IsAtMost (most : ℕ) (v : V3) : Type 0 where
  pub x : unsigned_abs v.x ≤ most
  pub y : unsigned_abs v.y ≤ most
  pub z : unsigned_abs v.z ≤ most

size-plus : (a b : ℤ) (m n : ℕ) → unsigned_abs a ≤ m → unsigned_abs b ≤ n → unsigned_abs (a +ℤ b) ≤ m + n
size-plus a b m n p q = omega (arith, ints)

pub IsAtMost-plus : (m n : ℕ) (v w : V3) → IsAtMost m v → IsAtMost n w → IsAtMost (m + n) (plus v w)
IsAtMost-plus m n v w p q =
    record { x = size-plus v.x w.x m n p.x q.x; y = size-plus v.y w.y m n p.y q.y; z = size-plus v.z w.z m n p.z q.z }

pub IsAtMost-more : (m n : ℕ) (v : V3) → m ≤ n → IsAtMost m v → IsAtMost n v
IsAtMost-more m n v le p = record { x = omega (arith, p.x); y = omega (arith, p.y); z = omega (arith, p.z) }

pub IsBelow-from_most : (m n : ℕ) (v : V3) → m < n → IsAtMost m v → IsBelow n v
IsBelow-from_most m n v lt p = record { x = omega (arith, p.x); y = omega (arith, p.y); z = omega (arith, p.z) }

pub IsAtMost-zero : (m : ℕ) → IsAtMost m zero_vector
IsAtMost-zero m = record { x = omega arith; y = omega arith; z = omega arith }

-- one more term of a sum
pub vector_sum_more : {X : Type 0} (f : X → V3) (xs : List X) (i : ℕ) (d : X) → i < length xs → vector_sum (map f (take (i + 1) xs)) ≡ plus (vector_sum (map f (take i xs))) (f (get_or xs i d))
vector_sum_more f xs i d h =
    ap vector_sum (map_more f xs i d h) ∙ fold_push plus zero_vector (map f (take i xs)) (f (get_or xs i d))

-- A sum is at most the sum of what its terms are at most.
sum_bound_from : {X : Type 0} (f : X → V3) (n : X → ℕ) (each : (x : X) → IsAtMost (n x) (f x)) (a : V3) (m : ℕ) → IsAtMost m a → (xs : List X) → IsAtMost (m + sum_by n xs) (fold plus a (map f xs))
sum_bound_from f n each a m p [] = IsAtMost-more m (m + sum_by n []) a (omega arith) p
sum_bound_from f n each a m p (x ∷ xs) =
    let next = sum_bound_from f n each (plus a (f x)) (m + n x) (IsAtMost-plus m (n x) a (f x) p (each x)) xs in
    IsAtMost-more (m + n x + sum_by n xs) (m + sum_by n (x ∷ xs)) (fold plus (plus a (f x)) (map f xs)) (omega (arith, sum_by-cons n x xs)) next

pub vector_sum_bound : {X : Type 0} (f : X → V3) (n : X → ℕ) → ((x : X) → IsAtMost (n x) (f x)) → (xs : List X) → IsAtMost (sum_by n xs) (vector_sum (map f xs))
vector_sum_bound f n each xs =
    IsAtMost-more (0 + sum_by n xs) (sum_by n xs) (vector_sum (map f xs)) (omega arith) (sum_bound_from f n each zero_vector 0 (IsAtMost-zero 0) xs)
