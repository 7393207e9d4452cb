-- The integer root lies between its square and the next one, and nothing else does.
use Rattle.std.proofs.Common.{◌≡◌, ℕ, zero, suc, ◌+◌, ◌*◌, ◌<◌, ◌≤◌, cond, inl, inr, arith}
use Rattle.std.proofs.lemmas.Bool.{cases_lt, le-leb, lt-leb}
use Rattle.std.proofs.Math.Nat.{mul-le-mul}
use Rattle.std.specs.Prelude.{nat_le}
use Rattle.nb_model.specs.Root.{IsIntegerRoot, integer_root}

s_le_next : (s : ℕ) → s ≤ s + 1
s_le_next s = omega arith

next_root : (q s : ℕ) → s * s ≤ q → q < (s + 1) * (s + 1)
    → let r = cond (nat_le ((s + 1) * (s + 1)) (suc q)) (s + 1) s in (r * r ≤ suc q) × (suc q < (r + 1) * (r + 1))
next_root q s low high =
    elim (cases_lt (suc q) ((s + 1) * (s + 1))) [
      | inl lt ↦ rw (lt-leb _ _ lt) (omega arith, omega arith)
      | inr le ↦ rw (le-leb _ _ le) (omega arith, omega (arith, mul-le-mul (s_le_next s) (s_le_next s)))
    ]

pub integer_root_bounds : (q : ℕ) → (integer_root q * integer_root q ≤ q) × (q < (integer_root q + 1) * (integer_root q + 1))
unfolding integer_root
integer_root_bounds zero = (omega arith, omega arith)
integer_root_bounds (suc q) = let h = integer_root_bounds q in next_root q (integer_root q) h.0 h.1

-- a number whose square is at most q is below one whose square is above q
pub below_from_squares : (t u q : ℕ) → t * t ≤ q → q < u * u → t < u
below_from_squares t u q low high =
    elim (cases_lt t u) [
      | inl lt ↦ lt
      | inr le ↦ absurd (omega (arith, mul-le-mul le le))
    ]

pub is_integer_root : (q : ℕ) → IsIntegerRoot q (integer_root q)
is_integer_root q =
    let h = integer_root_bounds q in
    record { square = h.0; greatest = λ t low. let k = below_from_squares t (integer_root q + 1) q low h.1 in omega arith }

-- what lies between its square and the next one is the root
pub integer_root_is : (q s : ℕ) → s * s ≤ q → q < (s + 1) * (s + 1) → s ≡ integer_root q
integer_root_is q s low high =
    let h = integer_root_bounds q in
    let below = below_from_squares s (integer_root q + 1) q low h.1 in
    let above = below_from_squares (integer_root q) (s + 1) q h.0 high in
    omega arith

-- a number whose square is at most q is at most the root of q
pub le-integer_root : (n q : ℕ) → n * n ≤ q → n ≤ integer_root q
le-integer_root n q low =
    let k = below_from_squares n (integer_root q + 1) q low (integer_root_bounds q).1 in omega arith

-- the root of a number below n * n is below n
pub integer_root-lt : (q n : ℕ) → q < n * n → integer_root q < n
integer_root-lt q n high = below_from_squares (integer_root q) n q (integer_root_bounds q).0 high
