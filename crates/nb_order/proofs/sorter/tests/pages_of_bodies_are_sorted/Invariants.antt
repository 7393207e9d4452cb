use Rattle.nb_host.specs.Memory.{meaning_of}
use Rattle.nb_cache.specs.InStep.{IsInStep}
use Rattle.nb_order.proofs.sorter.tests.pages_of_bodies_are_sorted.Given as goal

abbrev pub invariant-loop-index : goal.invariant-loop-index
invariant-loop-index g l = IsInStep meaning_of l.cache l.host

abbrev pub invariant-loop-index-2 : goal.invariant-loop-index-2
invariant-loop-index-2 g l = IsInStep meaning_of l.cache l.host
