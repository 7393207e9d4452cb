-- The first faulty line of a parameter text is the one that is told.
use Rattle.std.proofs.Common.{◌≡◌, ℕ, zero, suc, ◌+◌, ◌<◌, ◌≤◌, Bool, true, false, nat_lt, if◌then◌else◌, Option, Some, None, Result, Ok, Err, List, [], ◌∷◌, length, get_or, take, refl, ap, ◌∙◌, arith, ◌⊎◌, inl, inr}
use Rattle.std.specs.Prelude.{slice_get, is_some, option_and_then}
use Rattle.std.specs.Option.{option_map_or}
use Rattle.std.proofs.lemmas.Bool.{cases_order}
use Rattle.std.proofs.lemmas.Bool.Decides.{nat_tests}
use Rattle.std.proofs.lemmas.List.{take_all}
use Rattle.std.proofs.lemmas.Option.{slice_get_cases}
use Rattle.nb_model.specs.declared.params.Params.{Params}
use Rattle.nb_format.specs.declared.params_error.ParamsError.{ParamsError}
use Rattle.nb_format.specs.declared.params_error.ParamsError.TheVariants as refused
use Rattle.nb_format.specs.declared.params_line.Line.{Line}
use Rattle.nb_format.specs.declared.params_line.Line.TheVariants.{Skipped, Malformed, Setting, Border}
use Rattle.nb_format.specs.declared.params_reader.Values.{Values}
use Rattle.nb_format.specs.ParamsText.{no_values, is_read, is_in_range, line_of, lines_of, with_line, with_lines, result_and_then, assembled_params, unless_missing, params_from, params_of, most_text, settings_of, edges_of}
use Rattle.nb_format.specs.ParamsReading.{SetsParameter}
use Rattle.nb_format.specs.ParamsFaults.{has_any, fault_behind, fault_at, IsFirstFault, IsOfLine}
use Rattle.nb_format.proofs.ParamsOnce.{Changed, between, no_value, with_lines-changed, with_lines-bordered}
use Rattle.nb_format.proofs.Settings.{line_of-sets}

-- the refusal of a result, where it is one
abbrev refusal_of : {T : Type 0} → Result T ParamsError → Option ParamsError
refusal_of (Ok x) = None
refusal_of (Err e) = Some e

any-read : {X : Type 0} (had have : Option (Option X)) (settings : List X) → Changed had settings have → had ≡ Some None
    → has_any settings ≡ option_map_or is_some have false
any-read had have settings (inl kept) none = rw (kept.1, kept.0, none) refl
any-read had have settings (inr given) none = rw (given.1.1, given.1.2) refl

setting-refusal : (read fits : Bool) (kept : Values) (number : ℕ)
    → (if read then Some (refused.Twice number) else (if fits then None else Some (refused.Range number)))
    ≡ refusal_of (if read then Err (refused.Twice number) else (if fits then Ok kept else Err (refused.Range number)))
setting-refusal true fits kept number = refl
setting-refusal false true kept number = refl
setting-refusal false false kept number = refl

border-refusal : (read : Bool) (kept : Values) (number : ℕ)
    → (if read then Some (refused.Twice number) else None) ≡ refusal_of (if read then Err (refused.Twice number) else Ok kept)
border-refusal true kept number = refl
border-refusal false kept number = refl

-- Behind lines that went well, a line's fault is its refusal.
fault-refusal : (before : List (List ℕ)) (number : ℕ) (mid : Values) (line : Line) → with_lines 1 no_values before ≡ Ok mid → SetsParameter line
    → fault_behind before number line ≡ refusal_of (with_line number mid line)
fault-refusal before number mid Skipped well sets = refl
fault-refusal before number mid Malformed well sets = refl
fault-refusal before number mid (Setting which value) well sets =
    let read = any-read (slice_get no_values.numbers which) (slice_get mid.numbers which) (settings_of which before) (with_lines-changed 1 no_values mid before which well sets) (no_value which sets) in
    rw read (setting-refusal (is_read mid.numbers which) (is_in_range which value) _ number)
fault-refusal before number mid (Border edge) well sets =
    let read = any-read (Some None) (Some mid.edge) (edges_of before) (with_lines-bordered 1 no_values mid before well) refl in
    rw read (border-refusal (is_some mid.edge) _ number)

-- what stands where lines are refused
record StopsAt (number : ℕ) (values : Values) (lines : List (List ℕ)) (error : ParamsError) : Type 0 where
  index : ℕ
  mid : Values
  line : List ℕ
  within : index < length lines
  well : with_lines number values (take index lines) ≡ Ok mid
  here : slice_get lines index ≡ Some line
  refusal : with_line (number + index) mid (line_of line) ≡ Err error

stops-more : (number : ℕ) (values : Values) (line : List ℕ) (lines : List (List ℕ)) (error : ParamsError) (first : Result Values ParamsError)
    → with_line number values (line_of line) ≡ first → result_and_then (λ more. with_lines (number + 1) more lines) first ≡ Err error
    → ((more : Values) → with_lines (number + 1) more lines ≡ Err error → StopsAt (number + 1) more lines error)
    → StopsAt number values (line ∷ lines) error
stops-more number values line lines error (Ok more) is e later =
    let rest = later more e in record {
      index = suc rest.index;
      mid = rest.mid;
      line = rest.line;
      within = (let within = rest.within in omega arith);
      well = rw is rest.well;
      here = rest.here;
      refusal = (let same : number + suc rest.index ≡ (number + 1) + rest.index = omega arith in rw same rest.refusal);
    }
stops-more number values line lines error (Err x) is e later = record {
  index = 0;
  mid = values;
  line = line;
  within = omega arith;
  well = refl;
  here = refl;
  refusal = (let same : number + 0 ≡ number = omega arith in rw same (is ∙ e));
}

stops : (number : ℕ) (values : Values) (lines : List (List ℕ)) (error : ParamsError) → with_lines number values lines ≡ Err error → StopsAt number values lines error
stops number values [] error e = cc
stops number values (line ∷ lines) error e =
    stops-more number values line lines error (with_line number values (line_of line)) refl e (λ more later. stops (number + 1) more lines error later)

-- what stands at an earlier line
record PassesAt (number : ℕ) (values : Values) (lines : List (List ℕ)) (index : ℕ) : Type 0 where
  mid : Values
  line : List ℕ
  next : Values
  well : with_lines number values (take index lines) ≡ Ok mid
  here : slice_get lines index ≡ Some line
  passes : with_line (number + index) mid (line_of line) ≡ Ok next

passes-before : (number : ℕ) (values mid : Values) (lines : List (List ℕ)) (index : ℕ) → with_lines number values (take index lines) ≡ Ok mid → index ≤ length lines
    → (earlier : ℕ) → earlier < index → PassesAt number values lines earlier
passes-before number values mid lines zero well within earlier below = absurd (omega arith)
passes-before number values mid [] (suc index) well within earlier below = absurd (omega arith)
passes-before number values mid (line ∷ lines) (suc index) well within zero below =
    let first = between (λ more. with_lines (number + 1) more (take index lines)) (with_line number values (line_of line)) mid well in record {
      mid = values;
      line = line;
      next = first.0;
      well = refl;
      here = refl;
      passes = (let same : number + 0 ≡ number = omega arith in rw same first.1);
    }
passes-before number values mid (line ∷ lines) (suc index) well within (suc earlier) below =
    let first = between (λ more. with_lines (number + 1) more (take index lines)) (with_line number values (line_of line)) mid well in
    let rest = passes-before (number + 1) first.0 mid lines index first.2 (omega arith) earlier (omega arith) in record {
      mid = rest.mid;
      line = rest.line;
      next = rest.next;
      well = ap (result_and_then (λ more. with_lines (number + 1) more (take earlier lines))) first.1 ∙ rest.well;
      here = rest.here;
      passes = (let same : number + suc earlier ≡ (number + 1) + earlier = omega arith in rw same rest.passes);
    }

-- the fault at a line, behind lines that went well
fault_at-refusal : (lines : List (List ℕ)) (index : ℕ) (mid : Values) (line : List ℕ) → with_lines 1 no_values (take index lines) ≡ Ok mid
    → slice_get lines index ≡ Some line → fault_at lines index ≡ refusal_of (with_line (index + 1) mid (line_of line))
fault_at-refusal lines index mid line well here =
    ap (option_and_then (λ found. fault_behind (take index lines) (index + 1) (line_of found))) here
    ∙ fault-refusal (take index lines) (index + 1) mid (line_of line) well (line_of-sets line)

no_fault : (lines : List (List ℕ)) (index : ℕ) → PassesAt 1 no_values lines index → fault_at lines index ≡ None
no_fault lines index at =
    let same : index + 1 ≡ 1 + index = omega arith in
    let passes : with_line (index + 1) at.mid (line_of at.line) ≡ Ok at.next = rw same at.passes in
    fault_at-refusal lines index at.mid at.line at.well at.here ∙ ap refusal_of passes

-- Where lines are refused there is a first fault, and it is told.
first-fault : (lines : List (List ℕ)) (error : ParamsError) → with_lines 1 no_values lines ≡ Err error → (index : ℕ) × IsFirstFault lines index error
first-fault lines error e =
    let at = stops 1 no_values lines error e in
    let same : at.index + 1 ≡ 1 + at.index = omega arith in
    let refusal : with_line (at.index + 1) at.mid (line_of at.line) ≡ Err error = rw same at.refusal in (
      at.index,
      record {
        fault = fault_at-refusal lines at.index at.mid at.line at.well at.here ∙ ap refusal_of refusal;
        before = λ earlier below. no_fault lines earlier (passes-before 1 no_values at.mid lines at.index at.well (let within = at.within in omega arith) earlier below);
      },
    )

-- there is one first fault
same_fault : (lines : List (List ℕ)) (i j : ℕ) (a b : ParamsError) → IsFirstFault lines i a → IsFirstFault lines j b → ((i ≡ j) ⊎ ((i < j) ⊎ (j < i))) → a ≡ b
same_fault lines i j a b first second (inl same) = let p : fault_at lines j ≡ Some a = rw same at first.fault in let q = second.fault in cc
same_fault lines i j a b first second (inr (inl below)) = let p = first.fault in let q = second.before i below in absurd (cc)
same_fault lines i j a b first second (inr (inr below)) = let p = second.fault in let q = first.before j below in absurd (cc)

none_within : (lines : List (List ℕ)) (values : Values) (index : ℕ) → with_lines 1 no_values lines ≡ Ok values → index < length lines → fault_at lines index ≡ None
none_within lines values index well below =
    let whole = take_all (length lines) lines (omega arith) in
    no_fault lines index (passes-before 1 no_values values lines (length lines) (rw whole well) (omega arith) index below)

within-by : (lines : List (List ℕ)) (index : ℕ) (error : ParamsError) → fault_at lines index ≡ Some error
    → ((line : List ℕ) × (index < length lines) × (slice_get lines index ≡ Some line) × (get_or lines index line ≡ line)) ⊎ ((length lines ≤ index) × (slice_get lines index ≡ None))
    → index < length lines
within-by lines index error is (inl found) = found.1
within-by lines index error is (inr none) =
    let gone : fault_at lines index ≡ None = ap (option_and_then (λ line. fault_behind (take index lines) (index + 1) (line_of line))) none.1 in absurd (cc)

fault-within : (lines : List (List ℕ)) (index : ℕ) (error : ParamsError) → fault_at lines index ≡ Some error → index < length lines
fault-within lines index error is = within-by lines index error is (slice_get_cases lines index).1

fault-by : (lines : List (List ℕ)) (index : ℕ) (error : ParamsError) (read : Result Values ParamsError) → with_lines 1 no_values lines ≡ read
    → IsFirstFault lines index error → read ≡ Err error
fault-by lines index error (Ok values) well first =
    let none = none_within lines values index well (fault-within lines index error first.fault) in let some = first.fault in absurd (cc)
fault-by lines index error (Err told) e first =
    let found = first-fault lines told e in
    ap Err (same_fault lines found.0 index told error found.1 first (cases_order found.0 index))

short-read : (long : Bool) (read : Result Params ParamsError) → long ≡ false → (if long then Err refused.Long else read) ≡ read
short-read true read short = cc
short-read false read short = refl

-- The first faulty line is told.
pub params_of-fault : (text : List ℕ) (index : ℕ) (error : ParamsError) → length text ≤ most_text → IsFirstFault (lines_of text) index error
    → params_of text ≡ Err error
params_of-fault text index error few first =
    let read = with_lines 1 no_values (lines_of text) in
    let short : nat_lt most_text (length text) ≡ false = grind (arith, nat_tests) in
    short-read (nat_lt most_text (length text)) (result_and_then params_from read) short
    ∙ ap (result_and_then params_from) (fault-by (lines_of text) index error read refl first)

missing-of_line : (missing : Option ℕ) (params : Params) (number : ℕ) (error : ParamsError) → unless_missing missing params ≡ Err error → IsOfLine number error → ⊥
missing-of_line None params number error e is = cc
missing-of_line (Some which) params number error e is = let P : ParamsError → Type 0 = λ x. IsOfLine number x in (let same : error ≡ refused.Missing which = cc in rw same at is)

read-of_line : (read : Result Values ParamsError) (number : ℕ) (error : ParamsError) → result_and_then params_from read ≡ Err error → IsOfLine number error → read ≡ Err error
read-of_line (Ok values) number error e is = absurd (missing-of_line _ (assembled_params values) number error e is)
read-of_line (Err told) number error e is = let same : told ≡ error = cc in ap Err same

long-of_line : (long : Bool) (read : Result Params ParamsError) (number : ℕ) (error : ParamsError)
    → (if long then Err refused.Long else read) ≡ Err error → IsOfLine number error → read ≡ Err error
long-of_line true read number error e is = (let same : error ≡ refused.Long = cc in absurd (rw same at is))
long-of_line false read number error e is = e

-- What is told of a line is that it is the first faulty one.
pub params_of-of_line : (text : List ℕ) (number : ℕ) (error : ParamsError) → params_of text ≡ Err error → IsOfLine number error
    → (index : ℕ) × IsFirstFault (lines_of text) index error
params_of-of_line text number error e is =
    let read = with_lines 1 no_values (lines_of text) in
    first-fault (lines_of text) error
    (read-of_line read number error (long-of_line (nat_lt most_text (length text)) (result_and_then params_from read) number error e is) is)

fault_behind-number : (twice fits : Bool) (number : ℕ) (error : ParamsError)
    → (if twice then Some (refused.Twice number) else (if fits then None else Some (refused.Range number))) ≡ Some error → IsOfLine number error
fault_behind-number true fits number error e = let same : error ≡ refused.Twice number = cc in rw same refl
fault_behind-number false true number error e = cc
fault_behind-number false false number error e = let same : error ≡ refused.Range number = cc in rw same refl

border-number : (twice : Bool) (number : ℕ) (error : ParamsError) → (if twice then Some (refused.Twice number) else None) ≡ Some error → IsOfLine number error
border-number true number error e = let same : error ≡ refused.Twice number = cc in rw same refl
border-number false number error e = cc

line-number : (before : List (List ℕ)) (number : ℕ) (line : Line) (error : ParamsError) → fault_behind before number line ≡ Some error → IsOfLine number error
line-number before number Skipped error e = cc
line-number before number Malformed error e = let same : error ≡ refused.Line number = cc in rw same refl
line-number before number (Setting which value) error e = fault_behind-number (has_any (settings_of which before)) (is_in_range which value) number error e
line-number before number (Border edge) error e = border-number (has_any (edges_of before)) number error e

found-number : (before : List (List ℕ)) (number : ℕ) (found : Option (List ℕ)) (error : ParamsError)
    → option_and_then (λ line. fault_behind before number (line_of line)) found ≡ Some error → IsOfLine number error
found-number before number None error e = cc
found-number before number (Some line) error e = line-number before number (line_of line) error e

-- A fault tells its own line.
pub fault_at-number : (lines : List (List ℕ)) (index : ℕ) (error : ParamsError) → fault_at lines index ≡ Some error → IsOfLine (index + 1) error
fault_at-number lines index error e = found-number (take index lines) (index + 1) (slice_get lines index) error e
