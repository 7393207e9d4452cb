-- Sets of numbers, a bit for each.
use Rattle.std.proofs.Common.{◌≡◌, ℕ, suc, ◌+◌, ◌-◌, ◌*◌, ◌^◌, ◌<◌, ◌≤◌, true, false, eqb, sym, ap, ◌∙◌, arith, subst, inl, inr}
use Rattle.std.specs.Prelude.{◌⊎◌, ◌==◌, if◌then◌else◌}
use Rattle.std.proofs.Math.Nat.{pow-suc}
use Rattle.std.proofs.lemmas.Bool.{cases_lt, cond-true, cond-false, eq-eqb, ne_eqb}
use Rattle.std.proofs.lemmas.Nat.Bits.{bit_at_above, bit_at_cat_low, bit_at_cat_high, bit_at-zero}
use Rattle.nb_walk.specs.Shared.{in_set}

-- the empty set
pub in_none : (j : ℕ) → in_set 0 j ≡ false
in_none j = ap (λ b. eqb b 1) (bit_at-zero j)

-- a set below 2 ^ k has none from k on
pub in_above : (walks k j : ℕ) → walks < 2 ^ k → k ≤ j → in_set walks j ≡ false
in_above walks k j below from = ap (λ b. eqb b 1) (bit_at_above walks k j below from)

pub is_below : (walks k j : ℕ) → walks < 2 ^ k → in_set walks j ≡ true → j < k
is_below walks k j below is = elim (cases_lt j k) [
  | inl before ↦ before
  | inr from ↦ let none = in_above walks k j below from in absurd (cc)
]

-- with one more behind all that it has
pub in_with : (walks k j : ℕ) → walks < 2 ^ k → in_set (walks + 2 ^ k) j ≡ (if j == k then true else in_set walks j)
in_with walks k j below = subst (λ n. in_set n j ≡ (if j == k then true else in_set walks j)) turned (by_place (cases_lt j k)) where
  turned : 1 * 2 ^ k + walks ≡ walks + 2 ^ k
  turned = omega arith

  by_place : (j < k) ⊎ (k ≤ j) → in_set (1 * 2 ^ k + walks) j ≡ (if j == k then true else in_set walks j)
  by_place (inl before) =
      ap (λ b. eqb b 1) (bit_at_cat_low 1 k walks j before)
      ∙ sym (cond-false (eqb j k) true (in_set walks j) (ne_eqb j k (omega arith)))
  by_place (inr from) = ap (λ b. eqb b 1) (bit_at_cat_high 1 k walks j below from) ∙ at_end (cases_lt k j) where
    at_end : (k < j) ⊎ (j ≤ k) → in_set 1 (j - k) ≡ (if j == k then true else in_set walks j)
    at_end (inl behind) =
        in_above 1 1 (j - k) (omega arith) (omega arith)
        ∙ sym (in_above walks k j below from)
        ∙ sym (cond-false (eqb j k) true (in_set walks j) (ne_eqb j k (omega arith)))
    at_end (inr there) =
        let same : j ≡ k = omega arith in
        let none : j - k ≡ 0 = omega arith in
        ap (in_set 1) none ∙ sym (cond-true (eqb j k) true (in_set walks j) (eq-eqb j k same))

pub with_below : (walks k : ℕ) → walks < 2 ^ k → walks + 2 ^ k < 2 ^ (k + 1)
with_below walks k below =
    let next : k + 1 ≡ suc k = omega arith in
    let twice = ap (λ n. 2 ^ n) next ∙ pow-suc 2 k in
    omega arith
