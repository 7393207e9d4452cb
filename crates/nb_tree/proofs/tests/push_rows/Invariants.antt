use Rattle.nb_cache.specs.InStep.{IsInStep}
use Rattle.nb_tree.proofs.tests.push_rows.Given as goal

abbrev pub invariant-loop-mass : goal.invariant-loop-mass
invariant-loop-mass g l = IsInStep g.H.Host.meaning l.cache l.host
