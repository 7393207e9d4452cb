use Rattle.nb_walk.specs.Pool.{AreSumsInRange}
use Rattle.nb_walk.proofs.tests.pools.begin_many.Given as goal

abbrev pub invariant-loop-i : goal.invariant-loop-i
invariant-loop-i l = AreSumsInRange l.params l.pool.walks
