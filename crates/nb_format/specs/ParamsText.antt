-- The text of the parameters: lines of the form `name = value`, in any order, with comments and empty lines among them.
-- Six parameters are numbers. The seventh is the edge of the box, and it may be left out.
use Rattle.std.specs.Prelude.{ℕ, ◌+◌, ◌-◌, ◌<◌, Bool, false, ◌==◌, ◌&&◌, ◌||◌, nat_le, nat_lt, if◌then◌else◌, Option, Some, None, is_some, is_none, unwrap_or, Result, Ok, Err, List, [], ◌∷◌, ◌++◌, length, take, drop, replicate, slice_get, slice_index, slice_set, codes}
use Rattle.std.specs.List.{prefix_len, suffix_len, position, before_first, after_first, slice_split, flat_map}
use Rattle.std.specs.Option.{option_map_or}
use Rattle.std.specs.Str.{bytes_eq}
use Rattle.std.specs.Fmt.{decimal}
use Rattle.nb_model.specs.declared.edge.Edge.{Edge}
use Rattle.nb_model.specs.declared.edge.Edge.TheVariants.{Open, Wrap}
use Rattle.nb_model.specs.declared.params.Params.{Params}
use Rattle.nb_model.specs.Limits.{box_side, gm_limit, most_ticks}
use Rattle.nb_format.specs.declared.params_error.ParamsError.{ParamsError}
use Rattle.nb_format.specs.declared.params_error.ParamsError.TheVariants as refused
use Rattle.nb_format.specs.declared.params_line.Line.{Line}
use Rattle.nb_format.specs.declared.params_line.Line.TheVariants.{Skipped, Malformed, Setting, Border}
use Rattle.nb_format.specs.declared.params_reader.Values.{Values}
use Rattle.nb_format.specs.Digits.{decimal_value, is_number}

-- a text has at most so many bytes
abbrev pub most_text : ℕ
most_text = 65536

-- the name of a parameter that is a number, and the least and the greatest of its values
pub record Parameter : Type 0 where
  pub name : List ℕ
  pub least : ℕ
  pub greatest : ℕ

-- the six that are numbers. The number of each is its index, from 0 on.
abbrev pub parameters : List Parameter
parameters =
    record { name = codes "grav"; least = 0; greatest = gm_limit - 1 }
    ∷ record { name = codes "theta_num"; least = 0; greatest = 32768 }
    ∷ record { name = codes "theta_den"; least = 1; greatest = 32768 }
    ∷ record { name = codes "soft"; least = 1; greatest = box_side - 1 }
    ∷ record { name = codes "leaf"; least = 1; greatest = 32 }
    ∷ record { name = codes "every"; least = 1; greatest = most_ticks }
    ∷ []

-- the number of the edge, which comes behind the six
abbrev pub edge_number : ℕ
edge_number = 6

abbrev pub edge_name : List ℕ
edge_name = codes "edge"

-- the name of a parameter, by its number
abbrev pub name_at : ℕ → List ℕ
name_at which = if which == edge_number then edge_name else option_map_or (λ p. p.name) (slice_get parameters which) []

-- how the edge is written
abbrev pub edge_text : Edge → List ℕ
edge_text Open = codes "open"
edge_text Wrap = codes "wrap"

-- the edge that a text names
abbrev pub edge_of : List ℕ → Option Edge
edge_of text = if bytes_eq (edge_text Open) text then Some Open else if bytes_eq (edge_text Wrap) text then Some Wrap else None

-- whether a value is in the range of a parameter
abbrev pub is_in_range : ℕ → ℕ → Bool
is_in_range which value = option_map_or (λ p. nat_le p.least value && nat_le value p.greatest) (slice_get parameters which) false

-- the number of the one of the six with this name
abbrev pub which_of : List ℕ → Option ℕ
which_of name = position (λ p. bytes_eq p.name name) parameters

-- Space, tab and carriage return are blanks.
abbrev pub is_blank : ℕ → Bool
is_blank c = c == 32 || c == 9 || c == 13

-- the sign between a name and a value
abbrev pub is_equals : ℕ → Bool
is_equals c = c == 61

-- whether a byte ends a line
abbrev pub is_line_end : ℕ → Bool
is_line_end c = c == 10

-- a text without the blanks at its two ends
abbrev pub trimmed : List ℕ → List ℕ
trimmed text =
    let rest = drop (prefix_len is_blank text) text in
    take (length rest - suffix_len is_blank rest) rest

-- what the number of one of the six and the text of its value say
abbrev pub number_setting : Option ℕ → List ℕ → Line
number_setting None value = Malformed
number_setting (Some which) value = if is_number value then Setting which (decimal_value value) else Malformed

-- what an edge says, where there is one
abbrev pub edge_setting : Option Edge → Line
edge_setting None = Malformed
edge_setting (Some edge) = Border edge

-- what a name and the text of a value say
unfoldable pub setting_of : List ℕ → List ℕ → Line
setting_of name value = if bytes_eq edge_name name then edge_setting (edge_of value) else number_setting (which_of name) value

-- What a line without outer blanks says. It is skipped where it is empty or begins with #. Else its name stands before its
-- first =, and its value behind it; a line without a = has no value.
abbrev pub content_of : List ℕ → Line
content_of [] = Skipped
content_of (c ∷ cs) =
    if c == 35 then Skipped
    else setting_of (trimmed (before_first is_equals (c ∷ cs))) (trimmed (after_first is_equals (c ∷ cs)))

-- what a line says
abbrev pub line_of : List ℕ → Line
line_of line = content_of (trimmed line)

-- Each line ends before a byte 10, and the last where the text does: behind a last byte 10 that line is empty.
abbrev pub lines_of : List ℕ → List (List ℕ)
lines_of text = slice_split is_line_end text

abbrev pub no_values : Values
no_values = record { numbers = replicate (length parameters) None; edge = None }

-- whether a value of this one of the six was read
abbrev pub is_read : List (Option ℕ) → ℕ → Bool
is_read numbers which = option_map_or is_some (slice_get numbers which) false

-- the values after the line of this number, or why it is refused
abbrev pub with_line : ℕ → Values → Line → Result Values ParamsError
with_line number values Skipped = Ok values
with_line number values Malformed = Err (refused.Line number)
with_line number values (Setting which value) =
    if is_read values.numbers which then Err (refused.Twice number)
    else (if is_in_range which value then Ok (record values { numbers = slice_set values.numbers which (Some value) }) else Err (refused.Range number))
with_line number values (Border edge) =
    if is_some values.edge then Err (refused.Twice number) else Ok (record values { edge = Some edge })

-- what the next step makes of a value, or the refusal that there is
abbrev pub result_and_then : {T U E : Type 0} → (T → Result U E) → Result T E → Result U E
result_and_then next (Ok x) = next x
result_and_then next (Err e) = Err e

-- the values after lines, the first of which has this number, or why the first faulty one is refused
abbrev pub with_lines : ℕ → Values → List (List ℕ) → Result Values ParamsError
with_lines number values [] = Ok values
with_lines number values (line ∷ lines) =
    result_and_then (λ more. with_lines (number + 1) more lines) (with_line number values (line_of line))

-- the value that was read of one of the six
abbrev pub read_value : List (Option ℕ) → ℕ → ℕ
read_value numbers which = option_map_or (λ value. unwrap_or value 0) (slice_get numbers which) 0

-- the parameters of values that were read: where no edge was, the box is open
abbrev pub assembled_params : Values → Params
assembled_params values = record {
  grav = read_value values.numbers 0;
  theta_num = read_value values.numbers 1;
  theta_den = read_value values.numbers 2;
  soft = read_value values.numbers 3;
  leaf = read_value values.numbers 4;
  every = read_value values.numbers 5;
  edge = unwrap_or values.edge Open;
}

-- the parameters, where none of the six is missing
abbrev pub unless_missing : Option ℕ → Params → Result Params ParamsError
unless_missing None params = Ok params
unless_missing (Some which) params = Err (refused.Missing which)

-- the parameters of values that were read, or the first of the six that is missing
abbrev pub params_from : Values → Result Params ParamsError
params_from values = unless_missing (position is_none values.numbers) (assembled_params values)

-- The parameters that a text gives, or why it is refused: it is too long; else its first faulty line, counted from 1; else
-- the first of the six that is missing.
abbrev pub params_of : List ℕ → Result Params ParamsError
params_of text =
    if nat_lt most_text (length text) then Err refused.Long
    else result_and_then params_from (with_lines 1 no_values (lines_of text))

-- the values of the six, by their numbers
abbrev pub values_of : Params → List ℕ
values_of params = params.grav ∷ params.theta_num ∷ params.theta_den ∷ params.soft ∷ params.leaf ∷ params.every ∷ []

-- how the value of the parameter of this number is written
abbrev pub value_text : Params → ℕ → List ℕ
value_text params which = if which == edge_number then edge_text params.edge else decimal (slice_index (values_of params) which)

-- the line by which the parameter of this number is written
abbrev pub canonical_line : Params → ℕ → List ℕ
canonical_line params which = name_at which ++ codes " = " ++ value_text params which ++ 10 ∷ []

-- the seven lines, in order
abbrev pub canonical_text : Params → List ℕ
canonical_text params = flat_map (canonical_line params) (0 ∷ 1 ∷ 2 ∷ 3 ∷ 4 ∷ 5 ∷ 6 ∷ [])

-- the six lines without that of the edge
abbrev pub text_without_edge : Params → List ℕ
text_without_edge params = flat_map (canonical_line params) (0 ∷ 1 ∷ 2 ∷ 3 ∷ 4 ∷ 5 ∷ [])

-- the value that a line gives one of the six, where it gives it one
abbrev pub value_for : ℕ → Line → List ℕ
value_for which Skipped = []
value_for which Malformed = []
value_for which (Setting other value) = if other == which then value ∷ [] else []
value_for which (Border edge) = []

-- the values that lines give one of the six, in their order
abbrev pub settings_of : ℕ → List (List ℕ) → List ℕ
settings_of which lines = flat_map (λ line. value_for which (line_of line)) lines

-- the edge that a line gives, where it gives one
abbrev pub edge_for : Line → List Edge
edge_for Skipped = []
edge_for Malformed = []
edge_for (Setting which value) = []
edge_for (Border edge) = edge ∷ []

-- the edges that lines give, in their order
abbrev pub edges_of : List (List ℕ) → List Edge
edges_of lines = flat_map (λ line. edge_for (line_of line)) lines

-- the number of a missing parameter is one of the six
abbrev pub NamesParameter : ParamsError → Type 0
NamesParameter (refused.Missing which) = which < length parameters
NamesParameter _ = Unit {0}
