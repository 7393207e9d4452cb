-- The bytes of a number spell it alone.
use Rattle.std.proofs.Common.{◌≡◌, ℕ, ◌^◌, ◌<◌, sym, ap, ◌∙◌}
use Rattle.std.specs.Int.{w32, w64, to_le_bytes, from_le_bytes}
use Rattle.std.proofs.lemmas.Nat.{from_le_bytes-to_le_bytes_4, from_le_bytes-to_le_bytes_8}

pub same_u32 : (m n : ℕ) → m < 2 ^ 32 → n < 2 ^ 32 → to_le_bytes w32 m ≡ to_le_bytes w32 n → m ≡ n
same_u32 m n fits_m fits_n same =
    sym (from_le_bytes-to_le_bytes_4 m fits_m) ∙ ap (from_le_bytes w32) same ∙ from_le_bytes-to_le_bytes_4 n fits_n

pub same_u64 : (m n : ℕ) → m < 2 ^ 64 → n < 2 ^ 64 → to_le_bytes w64 m ≡ to_le_bytes w64 n → m ≡ n
same_u64 m n fits_m fits_n same =
    sym (from_le_bytes-to_le_bytes_8 m fits_m) ∙ ap (from_le_bytes w64) same ∙ from_le_bytes-to_le_bytes_8 n fits_n
