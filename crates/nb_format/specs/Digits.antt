-- Numbers in decimal, as the parameters and the program's words spell them: leading zeros are allowed, and signs aren't.
use Rattle.std.specs.Prelude.{ℕ, ◌+◌, ◌-◌, ◌*◌, ◌^◌, Bool, ◌&&◌, nat_le, nat_lt, if◌then◌else◌, Option, Some, None, List, length, fold}
use Rattle.std.specs.List.{list_all}

-- a number has at most so many digits
abbrev pub most_digits : ℕ
most_digits = 20

-- whether a byte is one of the digits 0 to 9
abbrev pub is_digit : ℕ → Bool
is_digit c = nat_le 48 c && nat_le c 57

-- the value of a text of digits
abbrev pub decimal_value : List ℕ → ℕ
decimal_value text = fold (λ n c. 10 * n + (c - 48)) 0 text

-- whether a text is a number: 1 to 20 digits, of any value
abbrev pub is_number : List ℕ → Bool
is_number text = nat_le 1 (length text) && nat_le (length text) most_digits && list_all is_digit text

-- the number that a text spells, where its value is below 2 ^ 64
abbrev pub number_of : List ℕ → Option ℕ
number_of text = if is_number text && nat_lt (decimal_value text) (2 ^ 64) then Some (decimal_value text) else None
