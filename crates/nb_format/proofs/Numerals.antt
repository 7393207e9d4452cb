-- What a text of digits is, and what `parse` reads in it.
use Rattle.std.proofs.Common.{◌≡◌, ℕ, ◌+◌, ◌-◌, ◌*◌, ◌^◌, ◌<◌, ◌≤◌, Bool, true, false, ◌==◌, if◌then◌else◌, Some, None, List, length, Result, Ok, Err, rules, arith}
use Rattle.std.specs.Prelude.{fold}
use Rattle.std.specs.List.{list_all}
use Rattle.std.specs.Result.{result_ok}
use Rattle.std.specs.Str.{IsUtf8}
use Rattle.std.specs.Str.Parse.{ParsesUnsigned}
use Rattle.std.proofs.lemmas.Bool.Decides.{nat_tests}
use Rattle.std.proofs.lemmas.Str.{IsUtf8-from_ascii}
use Rattle.std.proofs.lemmas.Fmt.{IsAscii-from_digits}
use Rattle.std.proofs.lemmas.Str.Parse.{IsNumeralModel, numerals_by_fold, parse_digits, digits_value_short}
use Rattle.nb_format.specs.Digits.{is_digit, is_number, decimal_value, most_digits}

pub are_numerals : IsNumeralModel (λ ds. list_all is_digit ds ≡ true) decimal_value
are_numerals = numerals_by_fold _ (search rules) (λ n ds. fold (λ m c. 10 * m + (c - 48)) n ds) (search rules)

-- what is left of the test once the length is known to be right
pub is_number-within : (text : List ℕ) (b : Bool) → false ≡ (length text == 0) → length text ≤ most_digits → b ≡ list_all is_digit text → b ≡ is_number text
is_number-within text b some short e = grind (arith, nat_tests)

-- what a number is
pub record IsNumber (text : List ℕ) : Type 0 where
  pub some : 1 ≤ length text
  pub short : length text ≤ most_digits
  pub digits : list_all is_digit text ≡ true

pub IsNumber-is_number : (text : List ℕ) → is_number text ≡ true → IsNumber text
IsNumber-is_number text e = record { some = grind (arith, nat_tests); short = grind (arith, nat_tests); digits = grind (arith, nat_tests) }

pub is_number-IsNumber : (text : List ℕ) → IsNumber text → is_number text ≡ true
is_number-IsNumber text is = let some = is.some in let short = is.short in let digits = is.digits in grind (arith, nat_tests)

pub IsUtf8-number : (text : List ℕ) → is_number text ≡ true → IsUtf8 text
IsUtf8-number text e = IsUtf8-from_ascii text (IsAscii-from_digits text (are_numerals.to text (IsNumber-is_number text e).digits))

-- a number's value is below 10 ^ 20
pub decimal_value-number : (text : List ℕ) → is_number text ≡ true → decimal_value text < 10 ^ 20
decimal_value-number text e = let is = IsNumber-is_number text e in digits_value_short are_numerals text 20 is.digits is.short

-- what `parse` reads in a number
pub parse-number : {E : Type 0} (text : List ℕ) (r : Result ℕ E) → ParsesUnsigned 128 10 text r → is_number text ≡ true
    → result_ok r ≡ (if is_number text then Some (decimal_value text) else None)
parse-number {E} text (Ok x) parsed e =
    let read = parse_digits are_numerals {E = E} 128 text (Ok x) parsed (IsNumber-is_number text e).digits in grind arith
parse-number {E} text (Err x) parsed e =
    let read = parse_digits are_numerals {E = E} 128 text (Err x) parsed (IsNumber-is_number text e).digits in
    let small = decimal_value-number text e in
    absurd (read ((IsNumber-is_number text e).some, omega arith))
