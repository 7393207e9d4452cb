use Rattle.std.proofs.Common.{arith}
use Rattle.nb_key.specs.Morton.{position}
use Rattle.nb_key.proofs.Paths.{key_sum, deepest_is}
use Rattle.nb_key.proofs.key.Key.of.Goals as goal

pub returns-clause-value : goal.returns-clause-value
returns-clause-value c = omega (arith, key_sum 21 (position c.args.x c.args.y c.args.z) (omega arith))

pub returns-clause-deepest : goal.returns-clause-deepest
returns-clause-deepest c =
    deepest_is (position c.args.x c.args.y c.args.z) c.spread-x.result c.spread-y.result c.spread-z.result c.spread-x.ensures.spread c.spread-y.ensures.spread c.spread-z.ensures.spread

pub invariant_of-result : goal.invariant_of-result
invariant_of-result c =
    (21, deepest_is (position c.args.x c.args.y c.args.z) c.spread-x.result c.spread-y.result c.spread-z.result c.spread-x.ensures.spread c.spread-y.ensures.spread c.spread-z.ensures.spread)
