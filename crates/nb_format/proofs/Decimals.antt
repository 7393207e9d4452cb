-- Numbers in decimal: their digits, and how many they have.
use Rattle.std.proofs.Common.{◌≡◌, ℕ, ◌+◌, ◌/◌, ◌%◌, ◌^◌, ◌<◌, ◌≤◌, [], ◌∷◌, ◌++◌, length, ap, ◌∙◌, arith, length-append}
use Rattle.std.specs.Prelude.{decimal}
use Rattle.std.proofs.lemmas.Fmt.{decimal_digit, decimal_step_wide, length-decimal-le, length-decimal-le_wide}
use Rattle.nb_model.specs.Limits.{most_bodies, most_ticks}

pub length-decimal_digit : (n : ℕ) → n < 10 → length (decimal n) ≡ 1
length-decimal_digit n small = ap length (decimal_digit n small)

-- any other number is the one without its last digit, and then this digit
pub decimal_more : (n : ℕ) → 10 ≤ n → n < 2 ^ 128 → decimal n ≡ decimal (n / 10) ++ (48 + n % 10) ∷ []
decimal_more n more fits = decimal_step_wide n more (omega arith)

pub length-decimal_more : (n : ℕ) → 10 ≤ n → n < 2 ^ 128 → length (decimal n) ≡ length (decimal (n / 10)) + 1
length-decimal_more n more fits =
    ap length (decimal_more n more fits) ∙ length-append (decimal (n / 10)) ((48 + n % 10) ∷ [])

pub length-decimal_u64 : (n : ℕ) → n < 2 ^ 64 → length (decimal n) ≤ 20
length-decimal_u64 n fits = length-decimal-le 20 n (omega arith) (omega arith) fits

pub length-decimal_u128 : (n : ℕ) → n < 2 ^ 128 → length (decimal n) ≤ 39
length-decimal_u128 n fits = length-decimal-le_wide 39 n (omega arith) (omega arith) (omega arith)

pub length-decimal_ticks : (n : ℕ) → n ≤ most_ticks → length (decimal n) ≤ 13
length-decimal_ticks n few = length-decimal-le 13 n (omega arith) (omega arith) (omega arith)

pub length-decimal_bodies : (n : ℕ) → n ≤ most_bodies → length (decimal n) ≤ 8
length-decimal_bodies n few = length-decimal-le 8 n (omega arith) (omega arith) (omega arith)

-- how many digits a number has at most, by its type
pub ruleset digit_counts = (length-decimal_u64, length-decimal_u128)

-- the same for the numbers of ticks and bodies of a run too
pub ruleset run_digit_counts = (length-decimal_u64, length-decimal_ticks, length-decimal_bodies)
