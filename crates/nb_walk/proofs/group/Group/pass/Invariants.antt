use Rattle.nb_walk.specs.Group.{shared_bound}
use Rattle.nb_walk.proofs.Passes.{HasPassed}
use Rattle.nb_walk.proofs.group.Group.pass.Given as goal

abbrev pub invariant-loop-entry : goal.invariant-loop-entry
invariant-loop-entry g l = HasPassed (g.L.Lender.cells l.lender) (g.L.Lender.bodies l.lender) l.params l.tree l.fn.self l.self

abbrev pub decreases-loop-entry : goal.decreases-loop-entry
decreases-loop-entry g l = shared_bound l.tree l.self.items.items
