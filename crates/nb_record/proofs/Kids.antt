-- The kids of a cell, bit by bit.
use Rattle.std.proofs.Common.{◌≡◌, ℕ, zero, suc, ◌+◌, ◌*◌, ◌/◌, ◌%◌, ◌^◌, ◌<◌, ◌↔◌, Bool, true, false, cond, eqb, ltb, List, [], ◌∷◌, length, sym, ap, ◌∙◌, refl, arith}
use Rattle.std.specs.Prelude.{◌≢◌}
use Rattle.std.proofs.Math.Nat.{zero-div}
use Rattle.std.proofs.lemmas.Bool.{cond-true, eq-eqb, lt-ltb}
use Rattle.nb_model.specs.declared.body.Body.{Body}
use Rattle.nb_model.specs.Octree.{octant_at, in_octant}
use Rattle.nb_model.proofs.Facts.{octant_at-lt}
use Rattle.nb_record.specs.Cells.{kids_of}

-- ---- a sum of eight bits

abbrev mark : Bool → ℕ
mark is = cond is 1 0

mark-lt : (t : Bool) → mark t < 2
mark-lt true = omega arith
mark-lt false = omega arith

weighed : (t : Bool) (n : ℕ) → cond t n 0 ≡ n * mark t
weighed true n = omega arith
weighed false n = omega arith

-- the number whose bits from 0 to 7 are those of a function
abbrev with_bits : (ℕ → ℕ) → ℕ
with_bits f = f 0 + 2 * f 1 + 4 * f 2 + 8 * f 3 + 16 * f 4 + 32 * f 5 + 64 * f 6 + 128 * f 7

bit_of : (f : ℕ → ℕ) (k : ℕ) → ((j : ℕ) → f j < 2) → k < 8 → with_bits f / 2 ^ k % 2 ≡ f k
bit_of f zero bits below = omega (arith, bits 0, bits 1, bits 2, bits 3, bits 4, bits 5, bits 6, bits 7)
bit_of f (suc zero) bits below = omega (arith, bits 0, bits 1, bits 2, bits 3, bits 4, bits 5, bits 6, bits 7)
bit_of f (suc (suc zero)) bits below = omega (arith, bits 0, bits 1, bits 2, bits 3, bits 4, bits 5, bits 6, bits 7)
bit_of f (suc (suc (suc zero))) bits below = omega (arith, bits 0, bits 1, bits 2, bits 3, bits 4, bits 5, bits 6, bits 7)
bit_of f (suc (suc (suc (suc zero)))) bits below = omega (arith, bits 0, bits 1, bits 2, bits 3, bits 4, bits 5, bits 6, bits 7)
bit_of f (suc (suc (suc (suc (suc zero))))) bits below = omega (arith, bits 0, bits 1, bits 2, bits 3, bits 4, bits 5, bits 6, bits 7)
bit_of f (suc (suc (suc (suc (suc (suc zero)))))) bits below = omega (arith, bits 0, bits 1, bits 2, bits 3, bits 4, bits 5, bits 6, bits 7)
bit_of f (suc (suc (suc (suc (suc (suc (suc zero))))))) bits below = omega (arith, bits 0, bits 1, bits 2, bits 3, bits 4, bits 5, bits 6, bits 7)
bit_of f (suc (suc (suc (suc (suc (suc (suc (suc k)))))))) bits below = absurd (omega arith)

bits_below : (f : ℕ → ℕ) → ((j : ℕ) → f j < 2) → with_bits f < 256
bits_below f bits = omega (arith, bits 0, bits 1, bits 2, bits 3, bits 4, bits 5, bits 6, bits 7)

-- ---- the kids

-- 1 for an octant that isn't empty
abbrev kid : ℕ → List Body → ℕ → ℕ
kid level bodies octant = mark (ltb 0 (length (in_octant level bodies octant)))

kids_by_bits : (level : ℕ) (bodies : List Body) → kids_of level bodies ≡ with_bits (kid level bodies)
kids_by_bits level bodies =
    let t = λ (octant : ℕ). ltb 0 (length (in_octant level bodies octant)) in
    omega (arith, weighed (t 0) 1, weighed (t 1) 2, weighed (t 2) 4, weighed (t 3) 8, weighed (t 4) 16, weighed (t 5) 32, weighed (t 6) 64, weighed (t 7) 128)

some_marked : (bs : List Body) → (mark (ltb 0 (length bs)) ≡ 1) ↔ (bs ≢ [])
some_marked [] = (λ is. absurd (omega arith), λ other. absurd (other refl))
some_marked (b ∷ bs) = (λ is none. cc, λ other. ap mark (lt-ltb 0 (length (b ∷ bs)) (omega arith)))

kid-lt : (level : ℕ) (bodies : List Body) (octant : ℕ) → kid level bodies octant < 2
kid-lt level bodies octant = mark-lt (ltb 0 (length (in_octant level bodies octant)))

kid_bit : (level octant : ℕ) (bodies : List Body) → octant < 8 → kids_of level bodies / 2 ^ octant % 2 ≡ kid level bodies octant
kid_bit level octant bodies below = ap (λ n. n / 2 ^ octant % 2) (kids_by_bits level bodies) ∙ bit_of (kid level bodies) octant (kid-lt level bodies) below

pub kid_is : (level octant : ℕ) (bodies : List Body) → octant < 8 → (kids_of level bodies / 2 ^ octant % 2 ≡ 1) ↔ (in_octant level bodies octant ≢ [])
kid_is level octant bodies below =
    let bit = kid_bit level octant bodies below in
    let marked = some_marked (in_octant level bodies octant) in
    (λ set. marked.0 (sym bit ∙ set), λ some. bit ∙ marked.1 some)

pub kids_of-lt : (level : ℕ) (bodies : List Body) → kids_of level bodies < 256
kids_of-lt level bodies = omega (arith, kids_by_bits level bodies, bits_below (kid level bodies) (kid-lt level bodies))

-- the first body lies in one of the octants
pub some_kid : (level : ℕ) (b : Body) (bs : List Body) → kids_of level (b ∷ bs) ≢ 0
some_kid level b bs none =
    let k = octant_at level b.at in
    let within : k < 8 = octant_at-lt level b.at in
    let here : in_octant level (b ∷ bs) k ≡ b ∷ in_octant level bs k = cond-true (eqb k k) (b ∷ in_octant level bs k) (in_octant level bs k) (eq-eqb k k refl) in
    let some : in_octant level (b ∷ bs) k ≢ [] = λ empty. absurd (cc) in
    let set : kids_of level (b ∷ bs) / 2 ^ k % 2 ≡ 1 = (kid_is level k (b ∷ bs) within).1 some in
    let unset : kids_of level (b ∷ bs) / 2 ^ k % 2 ≡ 0 / 2 ^ k % 2 = ap (λ n. n / 2 ^ k % 2) none in
    let nothing : 0 / 2 ^ k ≡ 0 = zero-div (2 ^ k) in
    omega (arith, set, unset, nothing)
