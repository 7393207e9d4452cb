-- The five steps of the code spread the bits of a number of 21 bits.
use Rattle.std.proofs.Common.{◌≡◌, ℕ, zero, suc, ◌+◌, ◌*◌, ◌/◌, ◌%◌, ◌^◌, ◌<◌, ◌≤◌, Bool, true, false, ◌&&◌, eqb, sym, ap, ◌∙◌, refl, arith, inl, inr}
use Rattle.std.specs.Prelude.{bit_or}
use Rattle.std.proofs.Math.Nat.{pow-suc, mul_assoc, mul_comm, zero-mul, one-mul}
use Rattle.std.proofs.lemmas.Bool.{eqb-true, cases_lt}
use Rattle.std.proofs.lemmas.Nat.{pow_pos, or_shifted, shr_split, mod_below, pow-add, shr_below}
use Rattle.std.specs.Int.Bits.{block_half, block_odd}
use Rattle.nb_key.specs.Spread.{spread_of}
use Rattle.nb_key.proofs.Bits.{step, step-or}

-- the code's five steps
unfoldable pub spread_code : ℕ → ℕ
spread_code x = step 2 0x1249_2492_4924_9249 (step 4 0x10c3_0c30_c30c_30c3 (step 8 0x100f_00f0_0f00_f00f (step 16 0x001f_0000_ff00_00ff (step 32 0x001f_0000_0000_ffff x))))

code-or : (a b : ℕ) → spread_code (bit_or a b) ≡ bit_or (spread_code a) (spread_code b)
unfolding spread_code
code-or a b = simp step-or

-- ---- one bit, tried for each of the 21

all_below : (ℕ → Bool) → ℕ → Bool
all_below test zero = true
all_below test (suc n) = all_below test n && test n

both_true : (a b : Bool) → (a && b) ≡ true → (a ≡ true) × (b ≡ true)
both_true true true e = (refl, refl)
both_true true false e = absurd (cc)
both_true false b e = absurd (cc)

all_below_at : (test : ℕ → Bool) (n m : ℕ) → m < n → all_below test n ≡ true → test m ≡ true
unfolding all_below
all_below_at test zero m below all = absurd (omega arith)
all_below_at test (suc n) m below all =
    let both = both_true (all_below test n) (test n) all in
    elim (cases_lt m n) [
      | inl before ↦ all_below_at test n m before both.0
      | inr from ↦ ap test (omega arith) ∙ both.1
    ]

bits_tried : all_below (λ n. eqb (spread_code (2 ^ n)) (8 ^ n)) 21 ≡ true
unfolding all_below spread_code step
bits_tried = refl

code_of_bit : (n : ℕ) → n < 21 → spread_code (2 ^ n) ≡ 8 ^ n
code_of_bit n below = eqb-true (spread_code (2 ^ n)) (8 ^ n) (all_below_at (λ n. eqb (spread_code (2 ^ n)) (8 ^ n)) 21 n below bits_tried)

code_of_zero : spread_code 0 ≡ 0
unfolding spread_code step
code_of_zero = refl

-- ---- the spread by its highest bit

lowest : (t r : ℕ) → r ≡ 0 → t ≡ t % 2 → 8 * spread_of 0 ((t * 2 ^ 0 + r) / 2) + (t * 2 ^ 0 + r) % 2 ≡ t * 8 ^ 0 + spread_of 0 r
unfolding spread_of
lowest t r none bit = omega arith

pub spread_top : (n t r : ℕ) → t < 2 → r < 2 ^ n → spread_of (suc n) (t * 2 ^ n + r) ≡ t * 8 ^ n + spread_of n r
unfolding spread_of
spread_top zero zero r bit below = lowest 0 r (omega arith) (omega arith)
spread_top zero (suc zero) r bit below = lowest 1 r (omega arith) (omega arith)
spread_top zero (suc (suc t)) r bit below = absurd (omega arith)
spread_top (suc n) t r bit below =
    let half : r / 2 < 2 ^ n = shr_below r n 1 (omega (arith, pow-suc 2 n, pow-add 2 n 1)) in
    let more = spread_top n t (r / 2) bit half in
    let scaled : t * 8 ^ suc n ≡ 8 * (t * 8 ^ n) = ap (λ e. t * e) (pow-suc 8 n) ∙ sym (mul_assoc t (8 ^ n) 8) ∙ mul_comm (t * 8 ^ n) 8 in
    ap (λ h. 8 * spread_of (suc n) h + (t * 2 ^ suc n + r) % 2) (block_half t n r)
    ∙ ap (λ s. 8 * s + (t * 2 ^ suc n + r) % 2) more
    ∙ omega (arith, block_odd t n r, scaled)

pub spread_bound : (n x : ℕ) → 7 * spread_of n x + 1 ≤ 8 ^ n
unfolding spread_of
spread_bound zero x = omega arith
spread_bound (suc n) x = omega (arith, spread_bound n (x / 2), pow-suc 8 n, mod_below x 2 (omega arith))

-- ---- the whole

pub eight_pow : (n : ℕ) → 8 ^ n ≡ 2 ^ (3 * n)
eight_pow zero = refl
eight_pow (suc n) =
    let more : 3 * suc n ≡ suc (suc (suc (3 * n))) = omega arith in
    pow-suc 8 n ∙ ap (λ e. e * 8) (eight_pow n) ∙ omega (arith, pow-suc 2 (3 * n), pow-suc 2 (suc (3 * n)), pow-suc 2 (suc (suc (3 * n)))) ∙ ap (λ e. 2 ^ e) (sym more)

-- the code on a number with at most the bit n
code_of_top : (n t : ℕ) → n < 21 → t < 2 → spread_code (t * 2 ^ n) ≡ t * 8 ^ n
code_of_top n zero below bit =
    let none : 0 * 2 ^ n ≡ 0 = zero-mul (2 ^ n) in
    let nothing : 0 ≡ 0 * 8 ^ n = sym (zero-mul (8 ^ n)) in
    ap spread_code none ∙ code_of_zero ∙ nothing
code_of_top n (suc zero) below bit =
    let one : 1 * 2 ^ n ≡ 2 ^ n = one-mul (2 ^ n) in
    let alone : 8 ^ n ≡ 1 * 8 ^ n = sym (one-mul (8 ^ n)) in
    ap spread_code one ∙ code_of_bit n below ∙ alone
code_of_top n (suc (suc t)) below bit = absurd (omega arith)

pub spread_is : (n x : ℕ) → n ≤ 21 → x < 2 ^ n → spread_code x ≡ spread_of n x
unfolding spread_of
spread_is zero x within below =
    let none : x ≡ 0 = omega arith in
    ap spread_code none ∙ code_of_zero
spread_is (suc n) x within below =
    let t = x / 2 ^ n in
    let r = x % 2 ^ n in
    let small : r < 2 ^ n = mod_below x (2 ^ n) (pow_pos n) in
    let bit : t < 2 = shr_below x 1 n (omega (arith, pow-suc 2 n, pow-add 2 1 n)) in
    let parts : x ≡ t * 2 ^ n + r = sym (shr_split x n) in
    let bound : spread_of n r < 2 ^ (3 * n) = omega (arith, spread_bound n r, eight_pow n) in
    let joined : bit_or (t * 8 ^ n) (spread_of n r) ≡ t * 8 ^ n + spread_of n r = ap (λ e. bit_or (t * e) (spread_of n r)) (eight_pow n) ∙ or_shifted t (3 * n) (spread_of n r) bound ∙ ap (λ e. t * e + spread_of n r) (sym (eight_pow n)) in
    ap spread_code (parts ∙ sym (or_shifted t n r small))
    ∙ code-or (t * 2 ^ n) r
    ∙ ap (λ s. bit_or s (spread_code r)) (code_of_top n t (omega arith) bit)
    ∙ ap (λ s. bit_or (t * 8 ^ n) s) (spread_is n r (omega arith) small)
    ∙ joined
    ∙ sym (spread_top n t r bit small)
    ∙ ap (spread_of (suc n)) (sym parts)
