use Rattle.nb_walk.specs.Walk.{IsSumInRange}
use Rattle.nb_walk.proofs.tests.pools.last_visit.Given as goal

abbrev pub invariant-loop : goal.invariant-loop
invariant-loop l = IsSumInRange l.params l.walk
