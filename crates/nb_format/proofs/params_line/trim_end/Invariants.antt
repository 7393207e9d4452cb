use Rattle.std.proofs.Common.{◌≡◌, ◌+◌, ◌≤◌, length, take}
use Rattle.std.specs.List.{suffix_len}
use Rattle.nb_format.specs.ParamsText.{is_blank}
use Rattle.nb_format.proofs.params_line.trim_end.Given as goal

-- the bytes from `end` on are blanks
abbrev pub invariant-loop-end : goal.invariant-loop-end
invariant-loop-end l = (l.end ≤ length l.text) × (suffix_len is_blank l.text + l.end ≡ length l.text + suffix_len is_blank (take l.end l.text))

abbrev pub decreases-loop-end : goal.decreases-loop-end
decreases-loop-end l = l.end
