-- Fields among bytes. Numbers are little-endian, and those with a sign are two's complement.
use Rattle.std.specs.Prelude.{ℕ, ◌+◌, List, ◌++◌, length, take, drop, ℤ}
use Rattle.std.specs.Int.{w64, cast_signed}
use Rattle.byteorder.specs.Endian.{little_number, little_bytes}

-- the number of the eight bytes from an offset on
unfoldable pub u64_at : ℕ → List ℕ → ℕ
u64_at offset bytes = little_number 8 (drop offset bytes)

-- the number of the four bytes from an offset on
unfoldable pub u32_at : ℕ → List ℕ → ℕ
u32_at offset bytes = little_number 4 (drop offset bytes)

-- the signed number of the eight bytes from an offset on
abbrev pub i64_at : ℕ → List ℕ → ℤ
i64_at offset bytes = cast_signed w64 (u64_at offset bytes)

-- a number as eight bytes, and as four
unfoldable pub u64_bytes : ℕ → List ℕ
u64_bytes n = little_bytes 8 n

unfoldable pub u32_bytes : ℕ → List ℕ
u32_bytes n = little_bytes 4 n

-- the bytes with a piece written over those from an offset on
abbrev pub written : ℕ → List ℕ → List ℕ → List ℕ
written offset piece bytes = take offset bytes ++ piece ++ drop (offset + length piece) bytes
