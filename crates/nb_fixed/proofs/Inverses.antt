-- A quotient by way of the divisor's inverse (Granlund and Montgomery 1994).
use Rattle.std.proofs.Common.{◌≡◌, ℕ, ◌+◌, ◌-◌, ◌*◌, ◌/◌, ◌%◌, ◌<◌, ◌≤◌, ap, sym, ◌∙◌, inl, inr, arith}
use Rattle.std.proofs.lemmas.Bool.{cases_lt}
use Rattle.std.proofs.lemmas.Nat.{mul-le, div-mul-add, mod-mul-add}

-- With v one over r, n * v over one is the quotient of n by r, or one less.
low_inverse : (one n r v est : ℕ) → v * r ≤ one → est * one ≤ n * v → 0 < one → est * r ≤ n
low_inverse one n r v est inverse low some =
    elim (cases_lt n (est * r)) [
      | inl above ↦ absurd (omega (arith, mul-le (n + 1) one (est * r) one (omega arith) (omega arith), mul-le (est * one) r (n * v) r low (omega arith), mul-le n (v * r) n one (omega arith) inverse))
      | inr within ↦ within
    ]

high_inverse : (one n r v est : ℕ) → one < (v + 1) * r → n * v < (est + 1) * one → n ≤ one → 0 < r → n < est * r + 2 * r
high_inverse one n r v est inverse high within some =
    elim (cases_lt n (est * r + 2 * r)) [
      | inl below ↦ below
      | inr above ↦ absurd (omega (arith, mul-le (est * r + 2 * r) one n one above (omega arith), mul-le n one n ((v + 1) * r) (omega arith) (omega arith), mul-le (n * v + 1) r ((est + 1) * one) r (omega arith) (omega arith), mul-le n r one r within (omega arith)))
    ]

pub record IsAlmostQuotient (n r est : ℕ) : Type 0 where
  pub low : est * r ≤ n
  pub high : n < est * r + 2 * r

pub almost_quotient : (one n r : ℕ) → 0 < one → 0 < r → n ≤ one → IsAlmostQuotient n r (n * (one / r) / one)
almost_quotient one n r some root within =
    let v = one / r in
    let est = n * v / one in
    record {
      low = low_inverse one n r v est (omega arith) (omega arith) some;
      high = high_inverse one n r v est (omega arith) (omega arith) within root;
    }

-- the quotient, where what is left is below the divisor, and where it isn't
pub quotient_reached : (n r est : ℕ) → est * r ≤ n → n - est * r < r → (est ≡ n / r) × (n - est * r ≡ n % r)
quotient_reached n r est low less =
    let split : n ≡ est * r + (n - est * r) = omega arith in
    (sym (ap (λ k. k / r) split ∙ div-mul-add est r (n - est * r) less), sym (ap (λ k. k % r) split ∙ mod-mul-add est r (n - est * r) less))

pub quotient_one_more : (n r est : ℕ) → IsAlmostQuotient n r est → r ≤ n - est * r → (est + 1 ≡ n / r) × (n - est * r - r ≡ n % r)
quotient_one_more n r est almost more =
    let left = n - est * r - r in
    let less : left < r = omega (arith, almost.low, almost.high) in
    let split : n ≡ (est + 1) * r + left = omega (arith, almost.low) in
    (sym (ap (λ k. k / r) split ∙ div-mul-add (est + 1) r left less), sym (ap (λ k. k % r) split ∙ mod-mul-add (est + 1) r left less))
