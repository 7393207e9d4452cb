use Rattle.nb_walk.proofs.OwnRuns.{RunsTo}
use Rattle.nb_walk.proofs.group.Group.run_alone.Given as goal

abbrev pub invariant-loop-i : goal.invariant-loop-i
invariant-loop-i g l = RunsTo (g.L.Lender.cells l.lender) (g.L.Lender.bodies l.lender) l.params l.tree l.fn.self l.self l.i
