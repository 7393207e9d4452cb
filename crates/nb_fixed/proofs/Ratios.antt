-- Tests of an estimated ratio, and what they settle.
use Rattle.std.proofs.Common.{◌≡◌, ℕ, suc, ◌+◌, ◌-◌, ◌*◌, ◌/◌, ◌%◌, ◌^◌, ◌<◌, ◌≤◌, ap, sym, ◌∙◌, inl, inr, arith}
use Rattle.std.proofs.lemmas.Bool.{cases_lt}
use Rattle.std.proofs.lemmas.Nat.{mul-le, div-mul-add, pow-add, pow_pos, leading_top, shl_whole}
use lib.Count.{count_leading_zeros}
use Rattle.nb_model.proofs.Facts.{below_from_squares}

same : (n : ℕ) → n ≤ n
same n = omega arith

-- ---- a factor that both sides have

pub le_of_times : (a b m : ℕ) → 0 < m → a * m ≤ b * m → a ≤ b
le_of_times a b m some times =
    elim (cases_lt b a) [
      | inl above ↦ absurd (omega (arith, mul-le (b + 1) m a m (omega arith) (same m)))
      | inr within ↦ within
    ]

pub lt_of_times : (a b m : ℕ) → a * m < b * m → a < b
lt_of_times a b m times =
    elim (cases_lt a b) [
      | inl below ↦ below
      | inr above ↦ absurd (omega (arith, mul-le b m a m above (same m)))
    ]

-- ---- the highest bits of n * s, of those of n

pub product_low : (n s a c : ℕ) → a * 2 ^ 32 ≤ n → c * 2 ^ 20 ≤ a * s → c * 2 ^ 52 ≤ n * s
product_low n s a c word part = omega (arith, mul-le (a * 2 ^ 32) s n s word (same s))

pub product_next : (n s a c : ℕ) → n < (a + 1) * 2 ^ 32 → a * s < (c + 1) * 2 ^ 20 → s < 2 ^ 32 → n * s ≤ (c + 4097) * 2 ^ 52
product_next n s a c word part small =
    let up : n ≤ (a + 1) * 2 ^ 32 = omega arith in
    omega (arith, mul-le n s ((a + 1) * 2 ^ 32) s up (same s))

-- ---- gm over d, shifted by e on both sides, from the highest bits g of gm and c of d

pub ratio_low : (t c g w d e : ℕ) → t * (c + 4097) ≤ g * 2 ^ 29 → d * e ≤ (c + 4097) * 2 ^ 52 → g * 2 ^ 32 ≤ w → t * d * e ≤ w * 2 ^ 49
ratio_low t c g w d e test divisor dividend =
    let first : t * (d * e) ≤ t * ((c + 4097) * 2 ^ 52) = mul-le t (d * e) t ((c + 4097) * 2 ^ 52) (same t) divisor in
    let second : t * (c + 4097) * 2 ^ 52 ≤ g * 2 ^ 29 * 2 ^ 52 = mul-le (t * (c + 4097)) (2 ^ 52) (g * 2 ^ 29) (2 ^ 52) test (same (2 ^ 52)) in
    omega arith

pub ratio_next : (t c g w d e : ℕ) → (g + 1) * 2 ^ 29 ≤ (t + 8) * c → c * 2 ^ 52 ≤ d * e → w < (g + 1) * 2 ^ 32 → w * 2 ^ 49 < (t + 8) * d * e
ratio_next t c g w d e test divisor dividend =
    let first : (t + 8) * (c * 2 ^ 52) ≤ (t + 8) * (d * e) = mul-le (t + 8) (c * 2 ^ 52) (t + 8) (d * e) (same (t + 8)) divisor in
    omega arith

-- the shifts of both sides, taken together
pub shifts_meet : (gm f h k : ℕ) → f + h ≡ 49 + k → gm * 2 ^ k * 2 ^ 49 ≡ gm * 2 ^ f * 2 ^ h
shifts_meet gm f h k sum =
    let right : 2 ^ (f + h) ≡ 2 ^ f * 2 ^ h = pow-add 2 f h in
    let left : 2 ^ (49 + k) ≡ 2 ^ 49 * 2 ^ k = pow-add 2 49 k in
    let both : 2 ^ f * 2 ^ h ≡ 2 ^ 49 * 2 ^ k = sym right ∙ ap (λ n. 2 ^ n) sum ∙ left in
    let times = ap (λ n. gm * n) both in
    omega (arith, times)

pub settled_low : (gm d t c g k h f : ℕ) → f + h ≡ 49 + k → t * (c + 4097) ≤ g * 2 ^ 29 → d * 2 ^ h ≤ (c + 4097) * 2 ^ 52 → g * 2 ^ 32 ≤ gm * 2 ^ k → t * d ≤ gm * 2 ^ f
settled_low gm d t c g k h f sum test divisor dividend =
    let most = ratio_low t c g (gm * 2 ^ k) d (2 ^ h) test divisor dividend in
    let meet = shifts_meet gm f h k sum in
    le_of_times (t * d) (gm * 2 ^ f) (2 ^ h) (pow_pos h) (omega arith)

pub settled_next : (gm d t c g k h f : ℕ) → f + h ≡ 49 + k → (g + 1) * 2 ^ 29 ≤ (t + 8) * c → c * 2 ^ 52 ≤ d * 2 ^ h → gm * 2 ^ k < (g + 1) * 2 ^ 32 → gm * 2 ^ f < (t + 8) * d
settled_next gm d t c g k h f sum test divisor dividend =
    let most = ratio_next t c g (gm * 2 ^ k) d (2 ^ h) test divisor dividend in
    let meet = shifts_meet gm f h k sum in
    lt_of_times (gm * 2 ^ f) ((t + 8) * d) (2 ^ h) (omega arith)

-- ---- one axis

pub below_next : (n k p : ℕ) → 0 < p → n / p ≡ k → n < (k + 1) * p
below_next n k p some is = let times = ap (λ m. m * p) is in omega arith

-- Where gm over d is from t to t + slack over p, and both ends give the quotient k at this distance, so does the ratio.
pub quotient_settled : (gm d t p l k distance s : ℕ) → 0 < p → t * d ≤ gm * p → gm * p < (t + l) * d → distance ≤ s
    → k * p ≤ distance * t → distance * t + l * s < (k + 1) * p → k ≡ gm * distance / d
quotient_settled gm d t p l k distance s some low next near floor last =
    let a : distance * (t * d) ≤ distance * (gm * p) = mul-le distance (t * d) distance (gm * p) (same distance) low in
    let b : k * p * d ≤ distance * t * d = mul-le (k * p) d (distance * t) d floor (same d) in
    let down : k * d * p ≤ gm * distance * p = omega arith in
    let less : k * d ≤ gm * distance = le_of_times (k * d) (gm * distance) p some down in
    let e : distance * (gm * p) ≤ distance * ((t + l) * d) = mul-le distance (gm * p) distance ((t + l) * d) (same distance) (omega arith) in
    let f : l * distance ≤ l * s = mul-le l distance l s (same l) near in
    let g : (distance * t + l * distance + 1) * d ≤ (k + 1) * p * d = mul-le (distance * t + l * distance + 1) d ((k + 1) * p) d (omega arith) (same d) in
    let some_d : 0 < d = elim (cases_lt 0 d) [
      | inl above ↦ above
      | inr none ↦ absurd (let zero : d ≡ 0 = omega arith in let product : (t + l) * d ≡ (t + l) * 0 = ap (λ n. (t + l) * n) zero in omega arith)
    ] in
    let up : gm * distance * p < (k * d + d) * p = omega arith in
    let more : gm * distance < k * d + d = lt_of_times (gm * distance) (k * d + d) p up in
    let split : gm * distance ≡ k * d + (gm * distance - k * d) = omega arith in
    sym (ap (λ n. n / d) split ∙ div-mul-add k d (gm * distance - k * d) (omega arith))

-- ---- numbers shifted up

-- a number of 64 bits shifted up until its highest bit is set
pub shifted_whole : (q : ℕ) → 0 < q → q < 2 ^ 64 → ((q * 2 ^ count_leading_zeros 64 q) % 2 ^ 64 ≡ q * 2 ^ count_leading_zeros 64 q) × (count_leading_zeros 64 q ≤ 64)
shifted_whole q some fits =
    let top = leading_top 64 q some fits in
    (shl_whole q (suc top.0) (count_leading_zeros 64 q) 64 top.3 (omega (arith, top.1)), omega (arith, top.1))

-- the root of a number shifted up by an even count, shifted by half of it
pub root_limit : (q s h : ℕ) → s * s ≤ q → q * 2 ^ (2 * h) < 2 ^ 64 → s * 2 ^ h < 2 ^ 32
root_limit q s h root fits =
    let twice : 2 * h ≡ h + h = omega arith in
    let square : 2 ^ (2 * h) ≡ 2 ^ h * 2 ^ h = ap (λ n. 2 ^ n) twice ∙ pow-add 2 h h in
    let wide : q * 2 ^ (2 * h) ≡ q * (2 ^ h * 2 ^ h) = ap (λ n. q * n) square in
    let most : s * s * (2 ^ h * 2 ^ h) ≤ q * (2 ^ h * 2 ^ h) = mul-le (s * s) (2 ^ h * 2 ^ h) q (2 ^ h * 2 ^ h) root (same (2 ^ h * 2 ^ h)) in
    below_from_squares (s * 2 ^ h) (2 ^ 32) (q * 2 ^ (2 * h)) (omega arith) fits

pub product_shifted : (q s h : ℕ) → q * 2 ^ (2 * h) * (s * 2 ^ h) ≡ q * s * 2 ^ (3 * h)
product_shifted q s h =
    let thrice : 3 * h ≡ 2 * h + h = omega arith in
    let cube : 2 ^ (3 * h) ≡ 2 ^ (2 * h) * 2 ^ h = ap (λ n. 2 ^ n) thrice ∙ pow-add 2 (2 * h) h in
    let wide : q * s * 2 ^ (3 * h) ≡ q * s * (2 ^ (2 * h) * 2 ^ h) = ap (λ n. q * s * n) cube in
    omega arith

-- the highest bits of the root times its square, both shifted up
pub record IsDivisor (q s h n : ℕ) : Type 0 where
  pub whole : (s * 2 ^ h) % 2 ^ 64 ≡ s * 2 ^ h
  pub root : s * 2 ^ h < 2 ^ 32
  pub fits : n / 2 ^ 32 * (s * 2 ^ h) ≤ (2 ^ 32 - 1) * (2 ^ 32 - 1)
  pub low : n / 2 ^ 32 * (s * 2 ^ h) / 2 ^ 20 * 2 ^ 52 ≤ q * s * 2 ^ (3 * h)
  pub next : q * s * 2 ^ (3 * h) ≤ (n / 2 ^ 32 * (s * 2 ^ h) / 2 ^ 20 + 4097) * 2 ^ 52

pub is_divisor : (q s h n : ℕ) → s * s ≤ q → n ≡ q * 2 ^ (2 * h) → n < 2 ^ 64 → IsDivisor q s h n
is_divisor q s h n root is fits =
    let up = s * 2 ^ h in
    let small : s * 2 ^ h < 2 ^ 32 = root_limit q s h root (omega arith) in
    let word = n / 2 ^ 32 in
    let product : n * (s * 2 ^ h) ≡ q * s * 2 ^ (3 * h) = ap (λ m. m * (s * 2 ^ h)) is ∙ product_shifted q s h in
    record {
      whole = omega arith;
      root = small;
      fits = mul-le word up (2 ^ 32 - 1) (2 ^ 32 - 1) (omega arith) (omega arith);
      low = omega (arith, product, product_low n up word (word * up / 2 ^ 20) (omega arith) (omega arith));
      next = omega (arith, product, product_next n up word (word * up / 2 ^ 20) (omega arith) (omega arith) small);
    }
