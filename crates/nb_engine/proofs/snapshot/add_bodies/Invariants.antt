use Rattle.nb_engine.proofs.SnapshotSteps.{Adding}
use Rattle.nb_engine.proofs.snapshot.add_bodies.Given as goal

abbrev pub invariant-loop-index : goal.invariant-loop-index
invariant-loop-index g l = Adding g.H.Host.meaning l.fn.filling l.fn.cache l.fn.host l.count l.index l.last l.filling l.cache l.host
