use Rattle.nb_walk.specs.Left.{step_bound}
use Rattle.nb_walk.proofs.Visits.{Visited}
use Rattle.nb_walk.proofs.alone.run_own.Given as goal

abbrev pub invariant-loop-name : goal.invariant-loop-name
invariant-loop-name g l = Visited (g.L.Lender.cells l.lender) (g.L.Lender.bodies l.lender) l.params l.tree l.fn.items.items l.items.items l.fn.tally l.tally

abbrev pub decreases-loop-name : goal.decreases-loop-name
decreases-loop-name g l = step_bound l.tree l.items.items
