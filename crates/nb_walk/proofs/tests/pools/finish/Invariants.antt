use Rattle.nb_walk.specs.Pool.{AreSumsInRange}
use Rattle.nb_walk.proofs.tests.pools.finish.Given as goal

abbrev pub invariant-loop : goal.invariant-loop
invariant-loop l = AreSumsInRange l.params l.pool.walks
