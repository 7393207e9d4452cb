use Rattle.nb_cache.specs.InStep.{IsInStep}
use Rattle.nb_tick.proofs.tests.put_crowd.Given as goal

abbrev pub invariant-loop-index : goal.invariant-loop-index
invariant-loop-index g l = IsInStep g.H.Host.meaning l.cache l.host
