-- One step of a spread, on bits: it goes by each bit apart.
use Rattle.std.proofs.Common.{◌≡◌, ℕ, ◌+◌, ◌*◌, ◌%◌, ◌^◌, sym, ap, ◌∙◌, refl, arith}
use Rattle.std.specs.Prelude.{bit_and, bit_or}
use Rattle.std.proofs.lemmas.Nat.{pow_pos, or_mod, or_block}
use Rattle.std.proofs.lemmas.Nat.Bits.{bit_at_and, bit_at_or, same_from_bits}

and_over_or : (a b m : ℕ) → bit_and (bit_or a b) m ≡ bit_or (bit_and a m) (bit_and b m)
and_over_or a b m =
    same_from_bits (bit_and (bit_or a b) m) (bit_or (bit_and a m) (bit_and b m))
    (λ i. omega (arith, bit_at_and (bit_or a b) m i, bit_at_or a b i, bit_at_or (bit_and a m) (bit_and b m) i, bit_at_and a m i, bit_at_and b m i))

or_of_or : (a b c d : ℕ) → bit_or (bit_or a b) (bit_or c d) ≡ bit_or (bit_or a c) (bit_or b d)
or_of_or a b c d =
    same_from_bits (bit_or (bit_or a b) (bit_or c d)) (bit_or (bit_or a c) (bit_or b d))
    (λ i. omega (arith, bit_at_or (bit_or a b) (bit_or c d) i, bit_at_or a b i, bit_at_or c d i, bit_at_or (bit_or a c) (bit_or b d) i, bit_at_or a c i, bit_at_or b d i))

or_shift : (k a b : ℕ) → bit_or (a * 2 ^ k) (b * 2 ^ k) ≡ bit_or a b * 2 ^ k
or_shift k a b =
    let whole : bit_or (a * 2 ^ k + 0) (b * 2 ^ k + 0) ≡ bit_or a b * 2 ^ k + bit_or 0 0 = or_block k a b 0 0 (pow_pos k) (pow_pos k) in
    let left : a * 2 ^ k + 0 ≡ a * 2 ^ k = omega arith in
    let right : b * 2 ^ k + 0 ≡ b * 2 ^ k = omega arith in
    let none : bit_or 0 0 ≡ 0 = refl in
    ap (λ t. bit_or t (b * 2 ^ k)) (sym left) ∙ ap (λ t. bit_or (a * 2 ^ k + 0) t) (sym right) ∙ whole ∙ omega arith

-- a step: the bits of a number and the same moved up by k, of which a mask keeps some
unfoldable pub step : ℕ → ℕ → ℕ → ℕ
step k mask x = bit_and (bit_or x (x * 2 ^ k % 2 ^ 64)) mask

pub step-or : (k mask a b : ℕ) → step k mask (bit_or a b) ≡ bit_or (step k mask a) (step k mask b)
unfolding step
step-or k mask a b =
    let up = λ (x : ℕ). x * 2 ^ k % 2 ^ 64 in
    let moved : up (bit_or a b) ≡ bit_or (up a) (up b) = ap (λ t. t % 2 ^ 64) (sym (or_shift k a b)) ∙ or_mod (a * 2 ^ k) (b * 2 ^ k) 64 in
    ap (λ t. bit_and (bit_or (bit_or a b) t) mask) moved
    ∙ ap (λ t. bit_and t mask) (or_of_or a b (up a) (up b))
    ∙ and_over_or (bit_or a (up a)) (bit_or b (up b)) mask
