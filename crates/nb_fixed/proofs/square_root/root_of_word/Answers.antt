use Rattle.std.proofs.Common.{◌≡◌, ℕ, ◌*◌, ◌/◌, ◌%◌, ◌^◌, ◌<◌, ◌≤◌, ap, inl, inr, arith}
use Rattle.std.proofs.lemmas.Bool.{cases_lt}
use Rattle.std.proofs.lemmas.Nat.{leading_top}
use lib.Count.{count_leading_zeros}
use Rattle.nb_model.proofs.Facts.{integer_root_is}
use Rattle.nb_fixed.proofs.Shifts.{IsShifted, root_shifted, shifted}
use Rattle.nb_fixed.proofs.square_root.root_of_word.Goals as goal

half : ℕ → ℕ
half q = count_leading_zeros 64 q / 2 % 32

unmasked : (q : ℕ) → 0 < q → q < 2 ^ 64 → half q ≡ count_leading_zeros 64 q / 2
unfolding half
unmasked q some fits = omega (arith, (leading_top 64 q some fits).1)

up : (q : ℕ) → 0 < q → q < 2 ^ 64 → IsShifted 64 q (half q) (q * 2 ^ (2 * half q) % 2 ^ 64)
up q some fits = rw (unmasked q some fits) (shifted 64 q (omega arith) some fits)

some : (q : ℕ) → 2 ^ 62 ≤ q * 2 ^ (2 * half q) % 2 ^ 64 → 0 < q
some q shifted_up =
    elim (cases_lt 0 q) [
      | inl above ↦ above
      | inr none ↦ absurd (let zero : q ≡ 0 = omega arith in omega (arith, ap (λ n. n * 2 ^ (2 * half q)) zero))
    ]

none : (q : ℕ) → q < 2 ^ 64 → q * 2 ^ (2 * half q) % 2 ^ 64 < 2 ^ 62 → q ≡ 0
none q fits low =
    elim (cases_lt 0 q) [
      | inl above ↦ absurd (omega (arith, (up q above fits).low))
      | inr within ↦ omega arith
    ]

pub returns-then-n-lt-FIRST_WORD : goal.returns-then-n-lt-FIRST_WORD
unfolding half
returns-then-n-lt-FIRST_WORD c =
    let zero = none c.args.q (omega arith) c.if-n-lt-FIRST_WORD.true in
    integer_root_is c.args.q 0 (omega arith) (omega arith)

pub returns : goal.returns
unfolding half
returns c =
    let above = some c.args.q (omega arith) in
    let shifted_up = up c.args.q above (omega arith) in
    let found = c.rooted_64.result in
    root_shifted c.args.q _ found.root (omega (arith, shifted_up.is, c.rooted_64.ensures.value, found.is_root)) (omega (arith, shifted_up.is, c.rooted_64.ensures.value, found.is_root))
