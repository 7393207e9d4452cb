-- What holds of the values that were read, and of a refusal.
use Rattle.std.proofs.Common.{◌≡◌, ℕ, zero, suc, ◌+◌, ◌<◌, Bool, true, false, nat_lt, if◌then◌else◌, Option, Some, None, Result, Ok, Err, List, [], ◌∷◌, length, refl, arith, lit<, length-set}
use Rattle.std.specs.Prelude.{IfSome, IfOk, IfErr, slice_set, is_none, is_some}
use Rattle.std.specs.List.{position, position_or_len}
use Rattle.std.proofs.lemmas.Bool.Decides.{nat_tests}
use Rattle.nb_model.specs.declared.params.Params.{Params}
use Rattle.nb_model.specs.Valid.{AreInRange}
use Rattle.nb_format.specs.declared.params_error.ParamsError.{ParamsError}
use Rattle.nb_format.specs.declared.params_error.ParamsError.TheVariants as refused
use Rattle.nb_format.specs.declared.params_line.Line.{Line}
use Rattle.nb_format.specs.declared.params_line.Line.TheVariants.{Skipped, Malformed, Setting, Border}
use Rattle.nb_format.specs.declared.params_reader.Values.{Values}
use Rattle.nb_format.specs.ParamsText.{no_values, is_read, is_in_range, line_of, with_line, with_lines, result_and_then, read_value, assembled_params, unless_missing, params_from, params_of, most_text, lines_of, NamesParameter}
use Rattle.nb_format.proofs.ParamsLines.{IsFirstIndex-position, position_or_len-none}

-- the values, from the parameter of this number on, are in their ranges
abbrev pub Within : ℕ → List (Option ℕ) → Type 0
Within which [] = Unit {0}
Within which (value ∷ values) = IfSome value (λ v. is_in_range which v ≡ true) × Within (which + 1) values

-- there are six values, each in its range
pub record AreWithin (values : Values) : Type 0 where
  six : length values.numbers ≡ 6
  within : Within 0 values.numbers

-- a setting is refused, or kept
setting-names : (read fits : Bool) (kept : Values) (number : ℕ)
    → IfErr (if read then Err (refused.Twice number) else (if fits then Ok kept else Err (refused.Range number))) NamesParameter
setting-names true fits kept number = tt
setting-names false true kept number = tt
setting-names false false kept number = tt

setting-keeps : (read fits : Bool) (kept : Values) (number : ℕ) → (fits ≡ true → AreWithin kept)
    → IfOk (if read then Err (refused.Twice number) else (if fits then Ok kept else Err (refused.Range number))) AreWithin
setting-keeps true fits kept number keeps = tt
setting-keeps false true kept number keeps = keeps refl
setting-keeps false false kept number keeps = tt

-- an edge is refused, or kept
border-names : (read : Bool) (kept : Values) (number : ℕ) → IfErr (if read then Err (refused.Twice number) else Ok kept) NamesParameter
border-names true kept number = tt
border-names false kept number = tt

border-keeps : (read : Bool) (kept : Values) (number : ℕ) → AreWithin kept → IfOk (if read then Err (refused.Twice number) else Ok kept) AreWithin
border-keeps true kept number keeps = tt
border-keeps false kept number keeps = keeps

and_then-names : (next : Values → Result Values ParamsError) (r : Result Values ParamsError) → IfErr r NamesParameter
    → ((values : Values) → IfErr (next values) NamesParameter) → IfErr (result_and_then next r) NamesParameter
and_then-names next (Ok values) now later = later values
and_then-names next (Err e) now later = now

and_then-keeps : (next : Values → Result Values ParamsError) (r : Result Values ParamsError) → IfOk r AreWithin
    → ((values : Values) → AreWithin values → IfOk (next values) AreWithin) → IfOk (result_and_then next r) AreWithin
and_then-keeps next (Ok values) now later = later values now
and_then-keeps next (Err e) now later = tt

-- a line's refusal names no parameter
with_line-names : (number : ℕ) (values : Values) (line : Line) → IfErr (with_line number values line) NamesParameter
with_line-names number values Skipped = tt
with_line-names number values Malformed = tt
with_line-names number values (Setting which value) =
    setting-names (is_read values.numbers which) (is_in_range which value) (record values { numbers = slice_set values.numbers which (Some value) }) number
with_line-names number values (Border edge) = border-names (is_some values.edge) (record values { edge = Some edge }) number

with_lines-names : (number : ℕ) (values : Values) (lines : List (List ℕ)) → IfErr (with_lines number values lines) NamesParameter
with_lines-names number values [] = tt
with_lines-names number values (line ∷ lines) =
    and_then-names (λ more. with_lines (number + 1) more lines) (with_line number values (line_of line))
    (with_line-names number values (line_of line))
    (λ more. with_lines-names (number + 1) more lines)

read-in_range : (k : ℕ) (values : List (Option ℕ)) (i : ℕ) → i < length values → position_or_len is_none values ≡ length values → Within k values → is_in_range (k + i) (read_value values i) ≡ true
read-in_range k [] i below all within = absurd (omega arith)
read-in_range k (None ∷ values) i below all within = absurd (omega arith)
read-in_range k (Some v ∷ values) zero below all within = let e : k + 0 ≡ k = omega arith in rw e within.0
read-in_range k (Some v ∷ values) (suc i) below all within =
    let e : k + suc i ≡ (k + 1) + i = omega arith in
    rw e (read-in_range (k + 1) values i (omega arith) (omega (arith, all)) within.1)

set-within : (k : ℕ) (values : List (Option ℕ)) (i v : ℕ) → is_in_range (k + i) v ≡ true → Within k values → Within k (slice_set values i (Some v))
set-within k [] i v fits within = tt
set-within k (had ∷ values) zero v fits within = let e : k + 0 ≡ k = omega arith in (rw e at fits, within.1)
set-within k (had ∷ values) (suc i) v fits within =
    let e : k + suc i ≡ (k + 1) + i = omega arith in
    (within.0, set-within (k + 1) values i v (rw e at fits) within.1)

with_line-within : (number : ℕ) (values : Values) (line : Line) → AreWithin values → IfOk (with_line number values line) AreWithin
with_line-within number values Skipped are = are
with_line-within number values Malformed are = tt
with_line-within number values (Setting which value) are =
    setting-keeps (is_read values.numbers which) (is_in_range which value) (record values { numbers = slice_set values.numbers which (Some value) }) number
    (λ fits. record {
      six = simp length-set are.six;
      within = set-within 0 values.numbers which value (let e : 0 + which ≡ which = omega arith in rw e fits) are.within;
    })
with_line-within number values (Border edge) are =
    border-keeps (is_some values.edge) (record values { edge = Some edge }) number (record { six = are.six; within = are.within })

with_lines-within : (number : ℕ) (values : Values) (lines : List (List ℕ)) → AreWithin values → IfOk (with_lines number values lines) AreWithin
with_lines-within number values [] are = are
with_lines-within number values (line ∷ lines) are =
    and_then-keeps (λ more. with_lines (number + 1) more lines) (with_line number values (line_of line))
    (with_line-within number values (line_of line) are)
    (λ more are_more. with_lines-within (number + 1) more lines are_more)

no_values-within : AreWithin no_values
no_values-within = record { six = refl; within = (tt, (tt, (tt, (tt, (tt, (tt, tt)))))) }

-- values that are in their ranges, and none of which is missing, make parameters in range
AreInRange-within : (values : Values) → AreWithin values → position_or_len is_none values.numbers ≡ length values.numbers → AreInRange (assembled_params values)
AreInRange-within values are all =
    let in_range : (i : ℕ) → i < 6 → is_in_range i (read_value values.numbers i) ≡ true =
    λ i below. (let e : 0 + i ≡ i = omega arith in rw e at (read-in_range 0 values.numbers i (omega (arith, are.six)) all are.within)) in
    let grav = in_range 0 (lit< tt) in
    let theta_num = in_range 1 (lit< tt) in
    let theta_den = in_range 2 (lit< tt) in
    let soft = in_range 3 (lit< tt) in
    let leaf = in_range 4 (lit< tt) in
    let every = in_range 5 (lit< tt) in
    record {
      grav = grind (arith, nat_tests);
      theta_num = grind (arith, nat_tests);
      some_theta_den = grind (arith, nat_tests);
      theta_den = grind (arith, nat_tests);
      some_soft = grind (arith, nat_tests);
      soft = grind (arith, nat_tests);
      some_leaf = grind (arith, nat_tests);
      leaf = grind (arith, nat_tests);
      some_every = grind (arith, nat_tests);
      every = grind (arith, nat_tests);
    }

unless_missing-in_range : (missing : Option ℕ) (params : Params) → (None ≡ missing → AreInRange params) → IfOk (unless_missing missing params) AreInRange
unless_missing-in_range None params in_range = in_range refl
unless_missing-in_range (Some which) params in_range = tt

params_from-in_range : (values : Values) → AreWithin values → IfOk (params_from values) AreInRange
params_from-in_range values are =
    unless_missing-in_range (position is_none values.numbers) (assembled_params values)
    (λ none. AreInRange-within values are (position_or_len-none is_none values.numbers none))

unless_missing-names : (missing : Option ℕ) (params : Params) → ((which : ℕ) → Some which ≡ missing → which < 6) → IfErr (unless_missing missing params) NamesParameter
unless_missing-names None params below = tt
unless_missing-names (Some which) params below = below which refl

params_from-names : (values : Values) → AreWithin values → IfErr (params_from values) NamesParameter
params_from-names values are =
    unless_missing-names (position is_none values.numbers) (assembled_params values)
    (λ which some. omega (arith, are.six, (IsFirstIndex-position is_none values.numbers which some).within))

if-in_range : (long : Bool) (r : Result Params ParamsError) → IfOk r AreInRange → IfOk (if long then Err refused.Long else r) AreInRange
if-in_range true r in_range = tt
if-in_range false r in_range = in_range

if-names : (long : Bool) (r : Result Params ParamsError) → IfErr r NamesParameter → IfErr (if long then Err refused.Long else r) NamesParameter
if-names true r names = tt
if-names false r names = names

from-in_range : (r : Result Values ParamsError) → IfOk r AreWithin → IfOk (result_and_then params_from r) AreInRange
from-in_range (Ok values) are = params_from-in_range values are
from-in_range (Err e) are = tt

from-names : (r : Result Values ParamsError) → IfOk r AreWithin → IfErr r NamesParameter → IfErr (result_and_then params_from r) NamesParameter
from-names (Ok values) are names = params_from-names values are
from-names (Err e) are names = names

-- what is read is in range
pub params_of-in_range : (text : List ℕ) → IfOk (params_of text) AreInRange
params_of-in_range text =
    let read = with_lines 1 no_values (lines_of text) in
    if-in_range (nat_lt most_text (length text)) (result_and_then params_from read)
    (from-in_range read (with_lines-within 1 no_values (lines_of text) no_values-within))

-- a missing parameter is one of the six
pub params_of-names : (text : List ℕ) → IfErr (params_of text) NamesParameter
params_of-names text =
    let read = with_lines 1 no_values (lines_of text) in
    if-names (nat_lt most_text (length text)) (result_and_then params_from read)
    (from-names read (with_lines-within 1 no_values (lines_of text) no_values-within) (with_lines-names 1 no_values (lines_of text)))
