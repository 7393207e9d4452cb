use Rattle.std.proofs.Common.{◌-◌, ◌*◌, ap}
use Rattle.nb_key.proofs.Levels.{one_level}
use Rattle.nb_key.proofs.key.Key.bits_below.Goals as goal

pub returns-clause-bits : goal.returns-clause-bits
returns-clause-bits c = λ level is. ap (λ l. 3 * (21 - l)) (one_level c.level.result level c.args.self c.level.ensures is)
