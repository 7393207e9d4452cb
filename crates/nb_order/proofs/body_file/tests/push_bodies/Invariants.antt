use Rattle.nb_cache.specs.InStep.{IsInStep}
use Rattle.nb_order.proofs.body_file.tests.push_bodies.Given as goal

abbrev pub invariant-loop-number : goal.invariant-loop-number
invariant-loop-number g l = IsInStep g.H.Host.meaning l.cache l.host
