-- One digit more of a square root. The root of the number so far is s, and its square leaves r. In base b the two next
-- digits are l1 and l0. The dividend r * b + l1 over 2 * s gives the root's next digit t, or one more, and leaves u.
use Rattle.std.proofs.Common.{◌≡◌, ℕ, ◌+◌, ◌-◌, ◌*◌, ◌/◌, ◌%◌, ◌^◌, ◌<◌, ◌≤◌, ap, subst, inl, inr, arith}
use Rattle.std.proofs.lemmas.Bool.{cases_lt}
use Rattle.std.proofs.lemmas.Nat.{mul-le, div_below, div-add-mod'}

-- a division by 2 * s, by way of half the dividend
pub halved : (n s : ℕ) → 0 < s → n ≡ n / 2 / s * (2 * s) + (2 * (n / 2 % s) + n % 2)
halved n s some = omega arith

over_within : (n s : ℕ) → 0 < s → 2 * (n / 2 % s) + n % 2 < 2 * s
over_within n s some = omega arith

-- what the number is, with the digit
digit_joins : (s r l1 l0 b t u : ℕ) → r * b + l1 ≡ t * (2 * s) + u → (s * s + r) * (b * b) + (l1 * b + l0) + t * t ≡ (s * b + t) * (s * b + t) + (u * b + l0)
digit_joins s r l1 l0 b t u divided = let h = ap (λ x. x * b) divided in omega arith

-- the digit is at most the base
digit_within : (s r l1 b t u : ℕ) → r * b + l1 ≡ t * (2 * s) + u → r ≤ 2 * s → l1 < b → b ≤ 2 * s → t ≤ b
digit_within s r l1 b t u divided rest digit bits =
    elim (cases_lt b t) [
      | inl above ↦ absurd (omega (arith, mul-le (b + 1) (2 * s) t (2 * s) (omega arith) (omega arith), mul-le r b (2 * s) b rest (omega arith)))
      | inr within ↦ within
    ]

rest_within : (s b t u l0 : ℕ) → u < 2 * s → l0 < b → u * b + l0 ≤ 2 * (s * b + t)
rest_within s b t u l0 over digit = omega (arith, mul-le (u + 1) b (2 * s) b (omega arith) (omega arith))

-- twice the root makes up for the square of the digit
square_within : (s b t u l0 : ℕ) → t ≤ b → b ≤ 2 * s → 0 < b → t * t < u * b + l0 + 2 * (s * b + t)
square_within s b t u l0 within bits some =
    let squares = mul-le t t b b within within in
    let doubles = mul-le b b (2 * s) b bits (omega arith) in
    let one = mul-le 1 1 b b (omega arith) (omega arith) in
    elim (cases_lt 0 t) [
      | inl more ↦ omega arith
      | inr none ↦ omega (arith, mul-le t t 0 b none within)
    ]

-- the digit as the code finds it, from the low digits as one number
pub record IsNextDigit (s r low b t u : ℕ) : Type 0 where
  pub within : t ≤ b
  pub rest : u * b + low % b ≤ 2 * (s * b + t)
  pub square : t * t < u * b + low % b + 2 * (s * b + t)
  pub joins : (s * s + r) * (b * b) + low + t * t ≡ (s * b + t) * (s * b + t) + (u * b + low % b)

pub next_digit : (s r low b : ℕ) → r ≤ 2 * s → b ≤ 2 * s → 0 < b → low < b * b → IsNextDigit s r low b ((r * b + low / b) / 2 / s) (2 * ((r * b + low / b) / 2 % s) + (r * b + low / b) % 2)
next_digit s r low b rest bits some digits =
    let n = r * b + low / b in
    let t = n / 2 / s in
    let u = 2 * (n / 2 % s) + n % 2 in
    let root : 0 < s = omega arith in
    let first : low / b < b = div_below low b b some digits in
    let divided : r * b + low / b ≡ t * (2 * s) + u = halved n s root in
    let within : t ≤ b = digit_within s r (low / b) b t u divided rest first bits in
    record {
      within = within;
      rest = rest_within s b t u (low % b) (over_within n s root) (omega arith);
      square = square_within s b t u (low % b) within bits some;
      joins = omega (arith, digit_joins s r (low / b) (low % b) b t u divided, div-add-mod' low b);
    }

-- the root one less, where the digit's square is more than what is left
pub one_less : (root rest square : ℕ) → 1 ≤ root → square ≤ rest + (2 * root - 1) → (root - 1) * (root - 1) + (rest + (2 * root - 1) - square) + square ≡ root * root + rest
one_less root rest square some within =
    let next : root ≡ root - 1 + 1 = omega arith in
    omega (arith, ap (λ x. x * x) next)

-- the digit in base 2 ^ 32, as the code finds it within 64 bits
pub last_digit : (s r low : ℕ) → r ≤ 2 * s → 2 ^ 31 ≤ s → low < 2 ^ 64 → IsNextDigit s r low (2 ^ 32) ((r * 2 ^ 31 + low / 2 ^ 33) / s) (2 * ((r * 2 ^ 31 + low / 2 ^ 33) % s) + low / 2 ^ 32 % 2)
last_digit s r low rest bits digits =
    let n = r * 2 ^ 32 + low / 2 ^ 32 in
    let half : n / 2 ≡ r * 2 ^ 31 + low / 2 ^ 33 = omega arith in
    let last : n % 2 ≡ low / 2 ^ 32 % 2 = omega arith in
    let digit = next_digit s r low (2 ^ 32) rest (omega arith) (omega arith) digits in
    let halved = subst (λ h. IsNextDigit s r low (2 ^ 32) (h / s) (2 * (h % s) + n % 2)) half digit in
    subst (λ l. IsNextDigit s r low (2 ^ 32) ((r * 2 ^ 31 + low / 2 ^ 33) / s) (2 * ((r * 2 ^ 31 + low / 2 ^ 33) % s) + l)) last halved

-- the root of n, from what it is with the digit's square
pub root_kept : (n root rest square : ℕ) → n + square ≡ root * root + rest → square ≤ rest → rest ≤ 2 * root → (root * root ≤ n) × (n < (root + 1) * (root + 1))
root_kept n root rest square joins within most = (omega arith, omega arith)

pub root_lowered : (n root rest square : ℕ) → n + square ≡ root * root + rest → rest < square → square < rest + 2 * root → ((root - 1) * (root - 1) ≤ n) × (n < (root - 1 + 1) * (root - 1 + 1))
root_lowered n root rest square joins above most =
    let next : root - 1 + 1 ≡ root = omega arith in
    let squares = ap (λ x. x * x) next in
    (omega arith, rw next (omega arith))
