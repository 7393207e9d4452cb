use Rattle.nb_cache.specs.InStep.{IsInStep}
use Rattle.nb_cache.proofs.cache.tests.put_all.Given as goal

abbrev pub invariant-loop-number : goal.invariant-loop-number
invariant-loop-number g l = IsInStep g.H.Host.meaning l.cache l.host
