use Rattle.std.proofs.Common.{sym, subst}
use Rattle.nb_walk.specs.Pool.{AreSumsInRange}
use Rattle.nb_walk.proofs.OnTheirWay.{begun_range}
use Rattle.nb_walk.proofs.tests.pools.begin.Goals as goal

pub returns-then-len-walks : goal.returns-then-len-walks
returns-then-len-walks c = record {
  range = subst (λ v. AreSumsInRange c.args.params.now v.walks) (sym c.begin.ensures) (begun_range c.args.params.now c.args.target c.args.pool.now.walks c.requires.range);
}
