-- A number shifted up so that one of its two highest bits is set, and its root shifted back.
use Rattle.std.proofs.Common.{◌≡◌, ℕ, suc, ◌+◌, ◌-◌, ◌*◌, ◌/◌, ◌%◌, ◌^◌, ◌<◌, ◌≤◌, ap, ◌∙◌, inl, inr, arith}
use Rattle.std.proofs.lemmas.Bool.{cases_lt}
use Rattle.std.proofs.lemmas.Nat.{mul-le, pow-add, pow_pos, shl_whole, leading_top}
use Rattle.std.proofs.Math.Nat.{pow-le-pow_right}
use lib.Count.{count_leading_zeros}
use Rattle.nb_model.specs.Root.{integer_root}
use Rattle.nb_model.proofs.Facts.{integer_root_is}

-- the root over m, where the number is multiplied by the square of m
root_over : (q m s : ℕ) → 0 < m → s * s ≤ q * (m * m) → q * (m * m) < (s + 1) * (s + 1) → s / m ≡ integer_root q
root_over q m s some low high =
    let t = s / m in
    let down : t * m ≤ s = omega arith in
    let up : s + 1 ≤ (t + 1) * m = omega arith in
    let square : t * t ≤ q = elim (cases_lt q (t * t)) [
      | inl above ↦ absurd (omega (arith, mul-le (t * m) (t * m) s s down down, mul-le (q + 1) (m * m) (t * t) (m * m) (omega arith) (omega arith), mul-le 1 1 m m (omega arith) (omega arith)))
      | inr within ↦ within
    ] in
    let next : q < (t + 1) * (t + 1) = elim (cases_lt q ((t + 1) * (t + 1))) [
      | inl below ↦ below
      | inr above ↦ absurd (omega (arith, mul-le (s + 1) (s + 1) ((t + 1) * m) ((t + 1) * m) up up, mul-le ((t + 1) * (t + 1)) (m * m) q (m * m) above (omega arith)))
    ] in
    integer_root_is q t square next

pub root_shifted : (q k s : ℕ) → s * s ≤ q * 2 ^ (2 * k) → q * 2 ^ (2 * k) < (s + 1) * (s + 1) → s / 2 ^ k ≡ integer_root q
root_shifted q k s low high =
    let twice : 2 * k ≡ k + k = omega arith in
    let square : 2 ^ (2 * k) ≡ 2 ^ k * 2 ^ k = ap (λ n. 2 ^ n) twice ∙ pow-add 2 k k in
    let wide : q * 2 ^ (2 * k) ≡ q * (2 ^ k * 2 ^ k) = ap (λ n. q * n) square in
    root_over q (2 ^ k) s (pow_pos k) (omega (arith, wide, low)) (omega (arith, wide, high))

-- a number of some even count of bits, w, shifted up by an even count
pub record IsShifted (w q k n : ℕ) : Type 0 where
  pub is : n ≡ q * 2 ^ (2 * k)
  pub low : 2 ^ (w - 2) ≤ n
  pub high : n < 2 ^ w

pub shifted : (w q : ℕ) → 2 ≤ w → 0 < q → q < 2 ^ w → IsShifted w q (count_leading_zeros w q / 2) (q * 2 ^ (2 * (count_leading_zeros w q / 2)) % 2 ^ w)
shifted w q wide some fits =
    let top = leading_top w q some fits in
    let j = top.0 in
    let k = count_leading_zeros w q / 2 in
    let sum : count_leading_zeros w q + suc j ≡ w = top.1 in
    let bits : suc j + 2 * k ≤ w = omega arith in
    let whole = shl_whole q (suc j) (2 * k) w top.3 bits in
    let product = pow-add 2 j (2 * k) in
    let two : 0 < 2 = omega arith in
    let most : w - 2 ≤ j + 2 * k = omega arith in
    record {
      is = whole;
      low = omega (arith, whole, product, mul-le (2 ^ j) (2 ^ (2 * k)) q (2 ^ (2 * k)) top.2 (omega arith), pow-le-pow_right {n = 2} two {i = w - 2} {j = j + 2 * k} most);
      high = omega arith;
    }
