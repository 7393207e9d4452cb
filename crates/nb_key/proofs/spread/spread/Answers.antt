use Rattle.std.proofs.Common.{arith}
use Rattle.nb_key.proofs.Bits.{step}
use Rattle.nb_key.proofs.Spreads.{spread_code, spread_is}
use Rattle.nb_key.proofs.spread.spread.Goals as goal

pub returns-clause-spread : goal.returns-clause-spread
unfolding spread_code step
returns-clause-spread c = spread_is 21 c.args.x (omega arith) c.requires
