-- The integer square root.
use Rattle.std.specs.Prelude.{ℕ, zero, suc, ◌+◌, ◌*◌, ◌≤◌, nat_le, if◌then◌else◌}

-- s is the greatest number whose square is at most q
pub record IsIntegerRoot (q s : ℕ) : Type 0 where
  pub square : s * s ≤ q
  pub greatest : (t : ℕ) → t * t ≤ q → t ≤ s

-- that number, by counting up to q. It is no `abbrev`, since it must not run on a numeral: `law_integer_root` says
-- all that there is to know of it.
unfoldable pub integer_root : ℕ → ℕ
integer_root zero = 0
integer_root (suc q) = let s = integer_root q in if nat_le ((s + 1) * (s + 1)) (suc q) then s + 1 else s
