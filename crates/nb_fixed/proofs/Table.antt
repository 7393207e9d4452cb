-- The table of roots, entry by entry.
use Rattle.std.proofs.Common.{◌≡◌, ℕ, ◌+◌, ◌*◌, ◌<◌, ◌≤◌, Bool, true, ◌&&◌, get_or, refl}
use Rattle.std.specs.Prelude.{nat_le, nat_lt}
use Rattle.std.proofs.lemmas.Bool.{agree_below, agree_below_at, and_parts, leb-true, ltb-true}
use Rattle.nb_fixed.specs.declared.square_root.TheConstants.{ROOTS}

-- whether the entry at i is the root of the greatest number of 16 bits whose high byte is 64 + i, and is at least 128
abbrev is_entry : ℕ → Bool
is_entry i =
    nat_le 128 (get_or ROOTS i 0) && nat_le (get_or ROOTS i 0 * get_or ROOTS i 0) (256 * (i + 64) + 255) && nat_lt (256 * (i + 64) + 255) ((get_or ROOTS i 0 + 1) * (get_or ROOTS i 0 + 1))

all_entries : agree_below is_entry (λ _. true) 192 ≡ true
all_entries = refl

pub record IsEntry (i : ℕ) : Type 0 where
  pub some : 128 ≤ get_or ROOTS i 0
  pub square : get_or ROOTS i 0 * get_or ROOTS i 0 ≤ 256 * (i + 64) + 255
  pub next_square : 256 * (i + 64) + 255 < (get_or ROOTS i 0 + 1) * (get_or ROOTS i 0 + 1)

pub entry_at : (i : ℕ) → i < 192 → IsEntry i
entry_at i within =
    let all : is_entry i ≡ true = agree_below_at is_entry (λ _. true) 192 i all_entries within in
    let e = get_or ROOTS i 0 in
    let first = and_parts (nat_le 128 e && nat_le (e * e) (256 * (i + 64) + 255)) (nat_lt (256 * (i + 64) + 255) ((e + 1) * (e + 1))) all in
    let second = and_parts (nat_le 128 e) (nat_le (e * e) (256 * (i + 64) + 255)) first.0 in
    record { some = leb-true 128 e second.0; square = leb-true (e * e) (256 * (i + 64) + 255) second.1; next_square = ltb-true (256 * (i + 64) + 255) ((e + 1) * (e + 1)) first.1 }
