-- Bits with room between them.
use Rattle.std.specs.Prelude.{ℕ, zero, suc, ◌+◌, ◌*◌, ◌/◌, ◌%◌}

-- the lowest n bits of a number, with two zeros before each
unfoldable pub spread_of : ℕ → ℕ → ℕ
spread_of zero x = 0
spread_of (suc n) x = 8 * spread_of n (x / 2) + x % 2
