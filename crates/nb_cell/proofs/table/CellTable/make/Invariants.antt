use Rattle.nb_cell.proofs.Calls.{Makes}
use Rattle.nb_cell.proofs.table.CellTable.make.Given as goal

abbrev pub invariant-loop-page : goal.invariant-loop-page
invariant-loop-page g l = Makes g.H.Host.meaning l.file l.fn.cache l.fn.host l.page l.cache l.host
