-- The number at an offset, and the bytes that spell it there.
use Rattle.std.proofs.Common.{◌≡◌, ℕ, ◌+◌, ◌-◌, ◌*◌, ◌^◌, ◌<◌, ◌≤◌, List, length, take, drop, get_or, refl, sym, ap, subst, ◌∙◌, arith}
use Rattle.std.specs.Int.{w32, w64, to_le_bytes, from_le_bytes}
use Rattle.std.proofs.lemmas.Nat.{from_le_bytes-to_le_bytes_4, from_le_bytes-to_le_bytes_8, le_bytes_4, le_bytes_8}
use Rattle.std.proofs.lemmas.List.{take-take, drop-take, length-take, length-drop}
use Rattle.std.proofs.lemmas.List.Elements.{All-get_or, All-take, All-drop}
use Rattle.std.proofs.Math.ListN.{get_or-eq_default}
use Rattle.std.proofs.lemmas.Bool.{cases_lt}
use Rattle.std.proofs.Math.Logic.{⊎_elim}
use Rattle.nb_format.specs.SnapshotRefusal.{u32_at, u64_at, AreBytes}

-- ---- the number of the bytes that spell it

pub u32_at-spells : (w : List ℕ) (at n : ℕ) → n < 2 ^ 32 → take 4 (drop at w) ≡ to_le_bytes w32 n → u32_at at w ≡ n
unfolding u32_at
u32_at-spells w at n fits is = ap (from_le_bytes w32) is ∙ from_le_bytes-to_le_bytes_4 n fits

pub u64_at-spells : (w : List ℕ) (at n : ℕ) → n < 2 ^ 64 → take 8 (drop at w) ≡ to_le_bytes w64 n → u64_at at w ≡ n
unfolding u64_at
u64_at-spells w at n fits is = ap (from_le_bytes w64) is ∙ from_le_bytes-to_le_bytes_8 n fits

-- ---- the bytes of a number

get_or-byte : (w : List ℕ) (i : ℕ) → AreBytes w → get_or w i 0 < 256
get_or-byte w i all =
    ⊎_elim (λ inside. All-get_or (λ (b : ℕ). b < 2 ^ 8) w i 0 inside all)
    (λ outside. subst (λ (b : ℕ). b < 256) (sym (get_or-eq_default w 0 outside)) (omega arith)) (cases_lt i (length w))

part-bytes : (w : List ℕ) (at n : ℕ) → AreBytes w → AreBytes (take n (drop at w))
part-bytes w at n all = All-take (λ (b : ℕ). b < 2 ^ 8) n (drop at w) (All-drop (λ (b : ℕ). b < 2 ^ 8) at w all)

fits_4 : (a b c d : ℕ) → a < 256 → b < 256 → c < 256 → d < 256 → a + b * 256 + c * 65536 + d * 16777216 < 2 ^ 32
fits_4 a b c d at_0 at_1 at_2 at_3 = omega arith

fits_8 : (a b c d e f g h : ℕ) → a < 256 → b < 256 → c < 256 → d < 256 → e < 256 → f < 256 → g < 256 → h < 256
    → a + b * 256 + c * 65536 + d * 16777216 + e * 4294967296 + f * 1099511627776 + g * 281474976710656 + h * 72057594037927936 < 2 ^ 64
fits_8 a b c d e f g h at_0 at_1 at_2 at_3 at_4 at_5 at_6 at_7 = omega arith

pub u32_at-fits : (w : List ℕ) (at : ℕ) → AreBytes w → u32_at at w < 2 ^ 32
unfolding u32_at
u32_at-fits w at all =
    let small : (i : ℕ) → get_or (take 4 (drop at w)) i 0 < 256 = λ i. get_or-byte (take 4 (drop at w)) i (part-bytes w at 4 all) in
    fits_4 _ _ _ _ (small 0) (small 1) (small 2) (small 3)

pub u64_at-fits : (w : List ℕ) (at : ℕ) → AreBytes w → u64_at at w < 2 ^ 64
unfolding u64_at
u64_at-fits w at all =
    let small : (i : ℕ) → get_or (take 8 (drop at w)) i 0 < 256 = λ i. get_or-byte (take 8 (drop at w)) i (part-bytes w at 8 all) in
    fits_8 _ _ _ _ _ _ _ _ (small 0) (small 1) (small 2) (small 3) (small 4) (small 5) (small 6) (small 7)

pub u32_at-back : (w : List ℕ) (at : ℕ) → AreBytes w → at + 4 ≤ length w → take 4 (drop at w) ≡ to_le_bytes w32 (u32_at at w)
unfolding u32_at
u32_at-back w at all inside =
    let part = take 4 (drop at w) in
    let long : length part ≡ 4 = omega (arith, length-take 4 (drop at w), length-drop at w) in
    sym (le_bytes_4 part _ long (λ i. get_or-byte part i (part-bytes w at 4 all)) refl)

pub u64_at-back : (w : List ℕ) (at : ℕ) → AreBytes w → at + 8 ≤ length w → take 8 (drop at w) ≡ to_le_bytes w64 (u64_at at w)
unfolding u64_at
u64_at-back w at all inside =
    let part = take 8 (drop at w) in
    let long : length part ≡ 8 = omega (arith, length-take 8 (drop at w), length-drop at w) in
    sym (le_bytes_8 part _ long (λ i. get_or-byte part i (part-bytes w at 8 all)) refl)

-- ---- the front of longer bytes

pub part-take : (w : List ℕ) (at n k : ℕ) → at + n ≤ k → take n (drop at (take k w)) ≡ take n (drop at w)
part-take w at n k inside =
    let more : k ≡ at + (k - at) = omega arith in
    ap (λ (m : ℕ). take n (drop at (take m w))) more ∙ ap (take n) (drop-take at (k - at) w) ∙ take-take n (k - at) (drop at w) (omega arith)

pub u64_at-take : (w : List ℕ) (at k : ℕ) → at + 8 ≤ k → u64_at at (take k w) ≡ u64_at at w
unfolding u64_at
u64_at-take w at k inside = ap (from_le_bytes w64) (part-take w at 8 k inside)
