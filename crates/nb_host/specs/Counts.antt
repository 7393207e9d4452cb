-- How a host in memory counts, and what it does where it fails.
use Rattle.std.specs.Prelude.{ℕ, ◌+◌, ◌-◌, ◌/◌, ◌^◌, min, List, length, take}

-- The count after one more. It stands still at the end of its type.
abbrev pub next_count : ℕ → ℕ
next_count count = min (count + 1) (2 ^ 64 - 1)

-- what a write or a say that fails does of its bytes
abbrev pub first_half : List ℕ → List ℕ
first_half bytes = take (length bytes / 2) bytes
