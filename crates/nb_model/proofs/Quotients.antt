-- Quotients toward zero, and one axis of a pull.
use Rattle.std.proofs.Common.{◌≡◌, ℕ, zero, suc, ◌+◌, ◌-◌, ◌*◌, ◌/◌, ◌%◌, ◌<◌, ◌≤◌, ℤ, pos, negsuc, ◌-ℤ◌, ◌*ℤ◌, neg_ℤ, refl, ap, ◌∙◌, arith}
use Rattle.std.specs.Prelude.{int_div, unsigned_abs}
use Rattle.std.proofs.lemmas.Int.{ints}
use Rattle.std.proofs.lemmas.Nat.{div-mul-add, mul-le}
use Rattle.std.proofs.Math.Nat.{div-le_of_le-mul, mul-le-mul_left}
use Rattle.nb_model.specs.Vector.{square}
use Rattle.nb_model.specs.Root.{integer_root}
use Rattle.nb_model.specs.Gravity.{pull_along}
use Rattle.nb_model.proofs.Roots.{le-integer_root}

-- ---- the sign of a difference

pub size-neg : (n : ℕ) → unsigned_abs (neg_ℤ (pos n)) ≡ n
size-neg zero = refl
size-neg (suc n) = refl

-- ---- a quotient toward zero has the sign of its dividend

pub int_div-neg : (n m : ℕ) → int_div (neg_ℤ (pos n)) (pos m) ≡ neg_ℤ (pos (n / m))
int_div-neg zero m = let none : 0 / m ≡ 0 = omega arith in rw none refl
int_div-neg (suc n) m = refl

mul-neg : (w n : ℕ) → pos w *ℤ neg_ℤ (pos n) ≡ neg_ℤ (pos (w * n))
mul-neg w zero = omega (arith, ints)
mul-neg w (suc n) = refl

pub pull_along-pos : (w q n : ℕ) → pull_along w q (pos n) ≡ pos (w * n / (q * integer_root q))
pull_along-pos w q n = refl

pub pull_along-neg : (w q n : ℕ) → pull_along w q (neg_ℤ (pos n)) ≡ neg_ℤ (pos (w * n / (q * integer_root q)))
pull_along-neg w q n =
    ap (λ z. int_div z (pos (q * integer_root q))) (mul-neg w n) ∙ int_div-neg (w * n) (q * integer_root q)

-- ---- the size of a pull

pub quotient_bound : (w q n : ℕ) → n * n ≤ q → w * n / (q * integer_root q) ≤ w
quotient_bound w q zero low = omega arith
quotient_bound w q (suc n) low =
    let r = integer_root q in
    let one : 1 ≤ q = omega arith in
    let within : suc n ≤ r = le-integer_root (suc n) q low in
    let more : 1 * r ≤ q * r = mul-le 1 r q r one (omega arith) in
    div-le_of_le-mul (q * r) (omega (arith, mul-le-mul_left w within, mul-le-mul_left w more))

pub pull_along_bound : (w q : ℕ) (d : ℤ) → square d ≤ q → unsigned_abs (pull_along w q d) ≤ w
pull_along_bound w q (pos n) low = quotient_bound w q n low
pull_along_bound w q (negsuc n) low =
    let e = ap unsigned_abs (pull_along-neg w q (suc n)) ∙ size-neg (w * suc n / (q * integer_root q)) in
    let bound = quotient_bound w q (suc n) low in
    omega arith

-- where q is above the gm a pull is 0 on each axis
pub quotient_too_far : (w q n : ℕ) → n * n ≤ q → w < q → w * n / (q * integer_root q) ≡ 0
quotient_too_far w q zero low far = omega arith
quotient_too_far w q (suc n) low far =
    let r = integer_root q in
    let within : suc n ≤ r = le-integer_root (suc n) q low in
    let small : w * suc n ≤ w * r = mul-le-mul_left w within in
    let gap : (w + 1) * r ≤ q * r = mul-le (w + 1) r q r (omega arith) (omega arith) in
    let below : w * suc n < q * r = omega arith in
    let parts : w * suc n ≡ 0 * (q * r) + w * suc n = omega arith in
    ap (λ k. k / (q * r)) parts ∙ div-mul-add 0 (q * r) (w * suc n) below

pub pull_along_too_far : (w q : ℕ) (d : ℤ) → square d ≤ q → w < q → pull_along w q d ≡ pos 0
pull_along_too_far w q (pos n) low far = ap pos (quotient_too_far w q n low far)
pull_along_too_far w q (negsuc n) low far =
    pull_along-neg w q (suc n) ∙ ap (λ k. neg_ℤ (pos k)) (quotient_too_far w q (suc n) low far)

-- ---- a pull's quotient by one division of numbers below the gm

-- With gm ≡ k * q + m and k * d ≡ c * s + e, the dividend gm * d is c times the divisor q * s, and e * q + m * d.
dividend_split : (q s d k m c e : ℕ) → k * d ≡ c * s + e → (k * q + m) * d ≡ c * (q * s) + (e * q + m * d)
dividend_split q s d k m c e scaled = let h = ap (λ x. x * q) scaled in omega arith

-- what is left of the dividend is below twice the divisor
left_below : (q s d m e : ℕ) → e < s → m < q → d ≤ s → e * q + m * d < q * s + q * s
left_below q s d m e over part near =
    let first : (e + 1) * q ≤ s * q = mul-le (e + 1) q s q (omega arith) (omega arith) in
    let second : m * d ≤ m * s = mul-le-mul_left m near in
    let third : m * s ≤ q * s = mul-le m s q s (omega arith) (omega arith) in
    omega arith

pub quotient_floor : (q s d k m c e : ℕ) → k * d ≡ c * s + e → e ≤ s → m * d < (s - e) * q → (k * q + m) * d / (q * s) ≡ c
quotient_floor q s d k m c e scaled over less =
    let sum : s ≡ (s - e) + e = omega arith in
    let parts = ap (λ x. x * q) sum in
    let below : e * q + m * d < q * s = omega arith in
    ap (λ n. n / (q * s)) (dividend_split q s d k m c e scaled) ∙ div-mul-add c (q * s) (e * q + m * d) below

pub quotient_next : (q s d k m c e : ℕ) → k * d ≡ c * s + e → e < s → m < q → d ≤ s → (s - e) * q ≤ m * d → (k * q + m) * d / (q * s) ≡ c + 1
quotient_next q s d k m c e scaled over part near more =
    let sum : s ≡ (s - e) + e = omega arith in
    let parts = ap (λ x. x * q) sum in
    let left = left_below q s d m e over part near in
    let rest : q * s ≤ e * q + m * d = omega arith in
    let below : e * q + m * d - q * s < q * s = omega arith in
    let split : (k * q + m) * d ≡ (c + 1) * (q * s) + (e * q + m * d - q * s) = omega (arith, dividend_split q s d k m c e scaled) in
    ap (λ n. n / (q * s)) split ∙ div-mul-add (c + 1) (q * s) (e * q + m * d - q * s) below

-- both, as the code finds k, m, c and e
pub pull_size-floor : (q r d k m : ℕ) → 1 ≤ q → r ≡ integer_root q → m * d < (r - k * d % r) * q → (k * q + m) * d / (q * r) ≡ k * d / r
pull_size-floor q r d k m some is less =
    let one : 1 ≤ r = rw is (le-integer_root 1 q some) in
    quotient_floor q r d k m (k * d / r) (k * d % r) (omega arith) (omega arith) less

pub pull_size-next : (q r d k m : ℕ) → 1 ≤ q → r ≡ integer_root q → m < q → d * d ≤ q → (r - k * d % r) * q ≤ m * d → (k * q + m) * d / (q * r) ≡ k * d / r + 1
pull_size-next q r d k m some is part near more =
    let one : 1 ≤ r = rw is (le-integer_root 1 q some) in
    let within : d ≤ r = rw is (le-integer_root d q near) in
    quotient_next q r d k m (k * d / r) (k * d % r) (omega arith) (omega arith) part within more
