use Rattle.std.proofs.Common.{◌-◌}
use Rattle.nb_cell.proofs.Calls.{Walks}
use Rattle.nb_cell.proofs.table.CellTable.last_page.Given as goal

abbrev pub invariant-loop-next : goal.invariant-loop-next
invariant-loop-next g l = Walks g.H.Host.meaning l.self l.key l.fn.cache l.fn.host l.page l.cache l.host

abbrev pub decreases-loop-next : goal.decreases-loop-next
decreases-loop-next g l = l.self.pages - l.page
