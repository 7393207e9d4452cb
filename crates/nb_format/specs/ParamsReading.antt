-- What the parts of the reader of a parameter text say.
use Rattle.std.specs.Prelude.{ℕ, ◌<◌, Option, List, [], length}
use Rattle.std.specs.Option.{option_map_or}
use Rattle.nb_format.specs.declared.params_line.Line.{Line}
use Rattle.nb_format.specs.declared.params_line.Line.TheVariants.{Skipped, Malformed, Setting, Border}
use Rattle.nb_format.specs.ParamsText.{lines_of, parameters}

-- the lines of what is left of a text, where something is
abbrev pub lines_from : Option (List ℕ) → List (List ℕ)
lines_from rest = option_map_or lines_of rest []

-- a setting of a number is one of the six
abbrev pub SetsParameter : Line → Type 0
SetsParameter Skipped = Unit {0}
SetsParameter Malformed = Unit {0}
SetsParameter (Setting which value) = which < length parameters
SetsParameter (Border edge) = Unit {0}
