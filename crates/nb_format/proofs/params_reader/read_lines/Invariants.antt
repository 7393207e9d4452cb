use Rattle.std.proofs.Common.{◌≡◌, ℕ, ◌+◌, ◌≤◌, Option, List, length}
use Rattle.std.specs.Option.{option_map_or, option_copied}
use Rattle.nb_format.specs.ParamsText.{with_lines, no_values, lines_of}
use Rattle.nb_format.specs.ParamsReading.{lines_from}
use Rattle.nb_format.proofs.params_reader.read_lines.Given as goal

-- how many bytes are left, and one line with them
abbrev pub left_of : Option (List ℕ) → ℕ
left_of rest = option_map_or (λ text. length text + 1) rest 0

abbrev pub invariant-loop-rest : goal.invariant-loop-rest
invariant-loop-rest l = record {
  reads : with_lines 1 no_values (lines_of l.text) ≡ with_lines l.number l.values (lines_from (option_copied l.rest));
  few : l.number + left_of (option_copied l.rest) ≤ length l.text + 2;
}

abbrev pub decreases-loop-rest : goal.decreases-loop-rest
decreases-loop-rest l = left_of (option_copied l.rest)
