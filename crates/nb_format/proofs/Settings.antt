-- What a name and the text of a value say.
use Rattle.std.proofs.Common.{◌≡◌, ◌≢◌, ℕ, ◌+◌, ◌<◌, Bool, true, false, ◌==◌, if◌then◌else◌, Option, Some, None, List, [], ◌∷◌, length, get_or, refl, sym, ap, ◌∙◌, arith}
use Rattle.std.specs.Prelude.{IfSome}
use Rattle.std.specs.List.{position, before_first, after_first}
use Rattle.std.specs.Str.{bytes_eq}
use Rattle.std.specs.List.{position_or_len}
use Rattle.std.proofs.lemmas.Bool.{ne_eqb}
use Rattle.std.proofs.lemmas.List.{drop_all}
use Rattle.nb_model.specs.declared.edge.Edge.{Edge}
use Rattle.nb_format.specs.declared.params_line.Line.{Line}
use Rattle.nb_format.specs.declared.params_line.Line.TheVariants.{Skipped, Malformed, Setting}
use Rattle.nb_format.specs.Digits.{decimal_value, is_number}
use Rattle.nb_format.specs.ParamsText.{is_equals, trimmed, parameters, which_of, edge_name, edge_of, edge_setting, number_setting, setting_of, content_of, line_of}
use Rattle.nb_format.specs.ParamsReading.{SetsParameter}
use Rattle.nb_format.proofs.ParamsLines.{IsFirstIndex-position, position_or_len-none}

nothing-by : (edge : Bool) (which : Option ℕ) → (if edge then edge_setting (edge_of []) else number_setting which []) ≡ Malformed
nothing-by true which = refl
nothing-by false None = refl
nothing-by false (Some which) = refl

-- no value is none of any name
pub setting_of_nothing : (name : List ℕ) → setting_of name [] ≡ Malformed
unfolding setting_of
setting_of_nothing name = nothing-by (bytes_eq edge_name name) (which_of name)

if-sets : (b : Bool) (l m : Line) → SetsParameter l → SetsParameter m → SetsParameter (if b then l else m)
if-sets true l m first second = first
if-sets false l m first second = second

found-below : (name : List ℕ) (found : Option ℕ) → found ≡ position (λ p. bytes_eq p.name name) parameters → IfSome found (λ which. which < length parameters)
found-below name None is = tt
found-below name (Some which) is = (IsFirstIndex-position (λ p. bytes_eq p.name name) parameters which is).within

number-sets : (found : Option ℕ) (value : List ℕ) → IfSome found (λ which. which < length parameters) → SetsParameter (number_setting found value)
number-sets None value below = tt
number-sets (Some which) value below = if-sets (is_number value) (Setting which (decimal_value value)) Malformed below tt

edge-sets : (edge : Option Edge) → SetsParameter (edge_setting edge)
edge-sets None = tt
edge-sets (Some edge) = tt

-- a setting of a number is one of the six
setting-sets : (name value : List ℕ) → SetsParameter (setting_of name value)
unfolding setting_of
setting-sets name value =
    if-sets (bytes_eq edge_name name) (edge_setting (edge_of value)) (number_setting (which_of name) value) (edge-sets (edge_of value))
    (number-sets (which_of name) value (found-below name (which_of name) refl))

pub content_of-sets : (line : List ℕ) → SetsParameter (content_of line)
content_of-sets [] = tt
content_of-sets (c ∷ cs) =
    let setting = setting_of (trimmed (before_first is_equals (c ∷ cs))) (trimmed (after_first is_equals (c ∷ cs))) in
    if-sets (c == 35) Skipped setting tt (setting-sets (trimmed (before_first is_equals (c ∷ cs))) (trimmed (after_first is_equals (c ∷ cs))))

pub line_of-sets : (line : List ℕ) → SetsParameter (line_of line)
line_of-sets line = content_of-sets (trimmed line)

else-content : (comment : Bool) (setting : Line) → comment ≡ false → Malformed ≡ setting → Malformed ≡ (if comment then Skipped else setting)
else-content true setting uncommented is = cc
else-content false setting uncommented is = is

after_first-none : (p : ℕ → Bool) (xs : List ℕ) → None ≡ position p xs → after_first p xs ≡ []
after_first-none p xs none =
    let all = position_or_len-none p xs none in drop_all (position_or_len p xs + 1) xs (omega (arith, all))

-- A line without a = says nothing.
pub content_of-no_equals : (line : List ℕ) → 0 < length line → get_or line 0 0 ≢ 35 → None ≡ position is_equals line → Malformed ≡ content_of line
content_of-no_equals [] some uncommented none = absurd (omega arith)
content_of-no_equals (c ∷ cs) some uncommented none =
    let name = trimmed (before_first is_equals (c ∷ cs)) in
    else-content (c == 35) (setting_of name (trimmed (after_first is_equals (c ∷ cs)))) (ne_eqb c 35 uncommented)
    (sym (setting_of_nothing name) ∙ ap (λ value. setting_of name (trimmed value)) (sym (after_first-none is_equals (c ∷ cs) none)))
