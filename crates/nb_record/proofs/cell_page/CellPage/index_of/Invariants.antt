use Rattle.std.proofs.Common.{◌≡◌, ◌-◌}
use Rattle.nb_record.specs.Looking.{find_key, index_of_key}
use Rattle.nb_record.proofs.cell_page.CellPage.index_of.Given as goal

abbrev pub invariant-loop-i : goal.invariant-loop-i
invariant-loop-i l = index_of_key l.fn.key l.self ≡ find_key (l.count - l.i) l.i l.fn.key l.self
