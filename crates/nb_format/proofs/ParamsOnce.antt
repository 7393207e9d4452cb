-- In a text that is accepted each parameter stands exactly once.
use Rattle.std.proofs.Common.{◌≡◌, ◌≢◌, ℕ, zero, suc, ◌+◌, ◌<◌, ◌==◌, Bool, true, false, nat_lt, if◌then◌else◌, Option, Some, None, Result, Ok, Err, List, [], ◌∷◌, ◌++◌, length, refl, sym, ap, subst, ◌∙◌, arith, ◌⊎◌, inl, inr, length-set}
use Rattle.std.specs.Prelude.{slice_get, slice_set, slice_index, is_none, is_some, unwrap_or}
use Rattle.std.specs.List.{position, position_or_len}
use Rattle.std.proofs.lemmas.Bool.{eqb-true, eqb-false}
use Rattle.nb_model.specs.declared.edge.Edge.{Edge}
use Rattle.nb_model.specs.declared.edge.Edge.TheVariants.{Open}
use Rattle.nb_model.specs.declared.params.Params.{Params}
use Rattle.nb_format.specs.declared.params_error.ParamsError.{ParamsError}
use Rattle.nb_format.specs.declared.params_error.ParamsError.TheVariants as refused
use Rattle.nb_format.specs.declared.params_line.Line.{Line}
use Rattle.nb_format.specs.declared.params_line.Line.TheVariants.{Skipped, Malformed, Setting, Border}
use Rattle.nb_format.specs.declared.params_reader.Values.{Values}
use Rattle.nb_format.specs.ParamsText.{no_values, is_read, is_in_range, line_of, lines_of, with_line, with_lines, result_and_then, read_value, assembled_params, unless_missing, params_from, params_of, most_text, values_of, value_for, settings_of, edge_for, edges_of}
use Rattle.nb_format.proofs.ParamsLines.{position_or_len-none}

-- what settings make of a parameter's value: no setting keeps it, and one gives it a value that it hadn't
abbrev pub Changed : {X : Type 0} → Option (Option X) → List X → Option (Option X) → Type 0
Changed {X} before settings after =
    ((after ≡ before) × (settings ≡ [])) ⊎ ((before ≡ Some None) × ((value : X) × (settings ≡ value ∷ []) × (after ≡ Some (Some value))))

changed_twice : {X : Type 0} (a b c : Option (Option X)) (s t : List X) → Changed a s b → Changed b t c → Changed a (s ++ t) c
changed_twice a b c s t (inl first) (inl second) = inl (second.0 ∙ first.0, rw first.1 second.1)
changed_twice a b c s t (inl first) (inr second) = inr (sym first.0 ∙ second.0, (second.1.0, rw first.1 second.1.1, second.1.2))
changed_twice a b c s t (inr first) (inl second) = inr (first.0, (first.1.0, rw (first.1.1, second.1) refl, second.0 ∙ first.1.2))
changed_twice a b c s t (inr first) (inr second) = let e = first.1.2 in let f = second.0 in cc

unread : (values : List (Option ℕ)) (which : ℕ) → is_read values which ≡ false → which < length values → slice_get values which ≡ Some None
unread [] which new below = absurd (omega arith)
unread (None ∷ values) zero new below = refl
unread (Some value ∷ values) zero new below = cc
unread (value ∷ values) (suc which) new below = unread values which new (omega arith)

set-here : (values : List (Option ℕ)) (which value : ℕ) → which < length values → slice_get (slice_set values which (Some value)) which ≡ Some (Some value)
set-here [] which value below = absurd (omega arith)
set-here (had ∷ values) zero value below = refl
set-here (had ∷ values) (suc which) value below = set-here values which value (omega arith)

set-elsewhere : (values : List (Option ℕ)) (which other value : ℕ) → other ≢ which → slice_get (slice_set values other (Some value)) which ≡ slice_get values which
set-elsewhere [] which other value ne = refl
set-elsewhere (had ∷ values) zero zero value ne = absurd (ne refl)
set-elsewhere (had ∷ values) zero (suc other) value ne = refl
set-elsewhere (had ∷ values) (suc which) zero value ne = refl
set-elsewhere (had ∷ values) (suc which) (suc other) value ne = set-elsewhere values which other value (λ e. ne (ap suc e))

-- a setting that is kept
kept-was : (read fits : Bool) (kept values : Values) (number : ℕ)
    → (if read then Err (refused.Twice number) else (if fits then Ok kept else Err (refused.Range number))) ≡ Ok values → (read ≡ false) × (values ≡ kept)
kept-was true fits kept values number e = cc
kept-was false true kept values number e = (refl, cc)
kept-was false false kept values number e = cc

-- an edge that is kept
border-was : (read : Bool) (kept values : Values) (number : ℕ) → (if read then Err (refused.Twice number) else Ok kept) ≡ Ok values → (read ≡ false) × (values ≡ kept)
border-was true kept values number e = cc
border-was false kept values number e = (refl, cc)

length-with_line : (number : ℕ) (values after : Values) (line : Line) → with_line number values line ≡ Ok after → length after.numbers ≡ length values.numbers
length-with_line number values after Skipped e = let same : after ≡ values = cc in rw same refl
length-with_line number values after Malformed e = cc
length-with_line number values after (Setting which value) e =
    let was = kept-was (is_read values.numbers which) (is_in_range which value) (record values { numbers = slice_set values.numbers which (Some value) }) after number e in
    rw was.1 (length-set values.numbers which (Some value))
length-with_line number values after (Border edge) e =
    let was = border-was (is_some values.edge) (record values { edge = Some edge }) after number e in rw was.1 refl

value_for-setting : (same : Bool) (other which value : ℕ) (values : List (Option ℕ)) → same ≡ (other == which) → is_read values other ≡ false → which < length values
    → Changed (slice_get values which) (if same then value ∷ [] else []) (slice_get (slice_set values other (Some value)) which)
value_for-setting true other which value values e new below =
    let same : other ≡ which = eqb-true other which (sym e) in
    let new_here : is_read values which ≡ false = rw same at new in
    let here : slice_get (slice_set values other (Some value)) which ≡ Some (Some value) = rw same (set-here values which value below) in
    inr (unread values which new_here below, (value, refl, here))
value_for-setting false other which value values e new below = inl (set-elsewhere values which other value (eqb-false other which (sym e)), refl)

with_line-changed : (number : ℕ) (values after : Values) (line : Line) (which : ℕ) → with_line number values line ≡ Ok after → which < length values.numbers
    → Changed (slice_get values.numbers which) (value_for which line) (slice_get after.numbers which)
with_line-changed number values after Skipped which e below = let same : after ≡ values = cc in rw same (inl (refl, refl))
with_line-changed number values after Malformed which e below = cc
with_line-changed number values after (Setting other value) which e below =
    let was = kept-was (is_read values.numbers other) (is_in_range other value) (record values { numbers = slice_set values.numbers other (Some value) }) after number e in
    rw was.1 (value_for-setting (other == which) other which value values.numbers refl was.0 below)
with_line-changed number values after (Border edge) which e below =
    let was = border-was (is_some values.edge) (record values { edge = Some edge }) after number e in rw was.1 (inl (refl, refl))

no_edge : (edge : Option Edge) → is_some edge ≡ false → edge ≡ None
no_edge None none = refl
no_edge (Some edge) none = cc

-- what a line makes of the edge
with_line-bordered : (number : ℕ) (values after : Values) (line : Line) → with_line number values line ≡ Ok after
    → Changed (Some values.edge) (edge_for line) (Some after.edge)
with_line-bordered number values after Skipped e = let same : after ≡ values = cc in rw same (inl (refl, refl))
with_line-bordered number values after Malformed e = cc
with_line-bordered number values after (Setting other value) e =
    let was = kept-was (is_read values.numbers other) (is_in_range other value) (record values { numbers = slice_set values.numbers other (Some value) }) after number e in
    rw was.1 (inl (refl, refl))
with_line-bordered number values after (Border edge) e =
    let was = border-was (is_some values.edge) (record values { edge = Some edge }) after number e in
    rw was.1 (inr (ap Some (no_edge values.edge was.0), (edge, refl, refl)))

-- the value between two steps that both went well
pub between : {T U : Type 0} (next : T → Result U ParamsError) (r : Result T ParamsError) (after : U) → result_and_then next r ≡ Ok after
    → (mid : T) × (r ≡ Ok mid) × (next mid ≡ Ok after)
between next (Ok mid) after e = (mid, refl, e)
between next (Err x) after e = cc

length-with_lines : (number : ℕ) (values after : Values) (lines : List (List ℕ)) → with_lines number values lines ≡ Ok after → length after.numbers ≡ length values.numbers
length-with_lines number values after [] e = let same : after ≡ values = cc in rw same refl
length-with_lines number values after (line ∷ lines) e =
    let mid = between (λ more. with_lines (number + 1) more lines) (with_line number values (line_of line)) after e in
    length-with_lines (number + 1) mid.0 after lines mid.2 ∙ length-with_line number values mid.0 (line_of line) mid.1

pub with_lines-changed : (number : ℕ) (values after : Values) (lines : List (List ℕ)) (which : ℕ) → with_lines number values lines ≡ Ok after
    → which < length values.numbers → Changed (slice_get values.numbers which) (settings_of which lines) (slice_get after.numbers which)
with_lines-changed number values after [] which e below = let same : after ≡ values = cc in rw same (inl (refl, refl))
with_lines-changed number values after (line ∷ lines) which e below =
    let mid = between (λ more. with_lines (number + 1) more lines) (with_line number values (line_of line)) after e in
    let same_length = length-with_line number values mid.0 (line_of line) mid.1 in
    changed_twice (slice_get values.numbers which) (slice_get mid.0.numbers which) (slice_get after.numbers which) (value_for which (line_of line)) (settings_of which lines)
    (with_line-changed number values mid.0 (line_of line) which mid.1 below)
    (with_lines-changed (number + 1) mid.0 after lines which mid.2 (omega (arith, same_length)))

pub with_lines-bordered : (number : ℕ) (values after : Values) (lines : List (List ℕ)) → with_lines number values lines ≡ Ok after
    → Changed (Some values.edge) (edges_of lines) (Some after.edge)
with_lines-bordered number values after [] e = let same : after ≡ values = cc in rw same (inl (refl, refl))
with_lines-bordered number values after (line ∷ lines) e =
    let mid = between (λ more. with_lines (number + 1) more lines) (with_line number values (line_of line)) after e in
    changed_twice (Some values.edge) (Some mid.0.edge) (Some after.edge) (edge_for (line_of line)) (edges_of lines)
    (with_line-bordered number values mid.0 (line_of line) mid.1)
    (with_lines-bordered (number + 1) mid.0 after lines mid.2)

all_read : (values : List (Option ℕ)) (i : ℕ) → i < length values → position_or_len is_none values ≡ length values → slice_get values i ≡ Some (Some (read_value values i))
all_read [] i below all = absurd (omega arith)
all_read (None ∷ values) i below all = absurd (omega arith)
all_read (Some value ∷ values) zero below all = refl
all_read (Some value ∷ values) (suc i) below all = all_read values i (omega arith) (omega (arith, all))

-- what holds of each of the six parameters
each_of_six : (P : ℕ → Type 0) → P 0 → P 1 → P 2 → P 3 → P 4 → P 5 → (which : ℕ) → which < 6 → P which
each_of_six P a b c d e f zero below = a
each_of_six P a b c d e f (suc zero) below = b
each_of_six P a b c d e f (suc (suc zero)) below = c
each_of_six P a b c d e f (suc (suc (suc zero))) below = d
each_of_six P a b c d e f (suc (suc (suc (suc zero)))) below = e
each_of_six P a b c d e f (suc (suc (suc (suc (suc zero))))) below = f
each_of_six P a b c d e f (suc (suc (suc (suc (suc (suc which)))))) below = absurd (omega arith)

pub no_value : (which : ℕ) → which < 6 → slice_get no_values.numbers which ≡ Some None
no_value = each_of_six (λ which. slice_get no_values.numbers which ≡ Some None) refl refl refl refl refl refl

assembled_value : (values : Values) (which : ℕ) → which < 6 → slice_index (values_of (assembled_params values)) which ≡ read_value values.numbers which
assembled_value values = each_of_six (λ which. slice_index (values_of (assembled_params values)) which ≡ read_value values.numbers which) refl refl refl refl refl refl

unless-was : (missing : Option ℕ) (made params : Params) → unless_missing missing made ≡ Ok params → (None ≡ missing) × (params ≡ made)
unless-was None made params e = (refl, cc)
unless-was (Some which) made params e = cc

short-was : (long : Bool) (r : Result Params ParamsError) (params : Params) → (if long then Err refused.Long else r) ≡ Ok params → r ≡ Ok params
short-was true r params e = cc
short-was false r params e = e

once-from : (had have : Option (Option ℕ)) (settings : List ℕ) (value : ℕ) → Changed had settings have → had ≡ Some None → have ≡ Some (Some value) → settings ≡ value ∷ []
once-from had have settings value (inl kept) none some = let same = kept.0 in cc
once-from had have settings value (inr given) none some = let only = given.1.1 in let last = given.1.2 in cc

-- each parameter stands once, with its value
pub settings_of-accepted : (text : List ℕ) (params : Params) → params_of text ≡ Ok params → (which : ℕ) → which < 6
    → settings_of which (lines_of text) ≡ slice_index (values_of params) which ∷ []
settings_of-accepted text params read which below =
    let lines = lines_of text in
    let went_well = short-was (nat_lt most_text (length text)) (result_and_then params_from (with_lines 1 no_values lines)) params read in
    let mid = between params_from (with_lines 1 no_values lines) params went_well in
    let values = mid.0 in
    let was = unless-was (position is_none values.numbers) (assembled_params values) params mid.2 in
    let six : length values.numbers ≡ 6 = length-with_lines 1 no_values values lines mid.1 in
    let value_read = all_read values.numbers which (omega (arith, six)) (position_or_len-none is_none values.numbers was.0) in
    let changed = with_lines-changed 1 no_values values lines which mid.1 below in
    let once = once-from (slice_get no_values.numbers which) (slice_get values.numbers which) (settings_of which lines) (read_value values.numbers which) changed (no_value which below) value_read in
    let same : slice_index (values_of params) which ≡ read_value values.numbers which =
    ap (λ p. slice_index (values_of p) which) was.1 ∙ assembled_value values which below in
    once ∙ ap {B = List ℕ} (λ value. value ∷ []) (sym same)

edge-from : (edge : Option Edge) (edges : List Edge) → Changed (Some None) edges (Some edge)
    → ((edges ≡ []) × (unwrap_or edge Open ≡ Open)) ⊎ (edges ≡ unwrap_or edge Open ∷ [])
edge-from edge edges (inl kept) = let none : edge ≡ None = (let same = kept.0 in cc) in inl (kept.1, rw none refl)
edge-from edge edges (inr given) = let some : edge ≡ Some given.1.0 = (let same = given.1.2 in cc) in inr (rw some given.1.1)

-- the edge stands once, with its value, or it doesn't stand and the box is open
pub edges_of-accepted : (text : List ℕ) (params : Params) → params_of text ≡ Ok params
    → ((edges_of (lines_of text) ≡ []) × (params.edge ≡ Open)) ⊎ (edges_of (lines_of text) ≡ params.edge ∷ [])
edges_of-accepted text params read =
    let lines = lines_of text in
    let went_well = short-was (nat_lt most_text (length text)) (result_and_then params_from (with_lines 1 no_values lines)) params read in
    let mid = between params_from (with_lines 1 no_values lines) params went_well in
    let was = unless-was (position is_none mid.0.numbers) (assembled_params mid.0) params mid.2 in
    let P : Params → Type 0 = λ made. ((edges_of lines ≡ []) × (made.edge ≡ Open)) ⊎ (edges_of lines ≡ made.edge ∷ []) in
    subst P (sym was.1) (edge-from mid.0.edge (edges_of lines) (with_lines-bordered 1 no_values mid.0 lines mid.1))
