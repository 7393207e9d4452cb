use Rattle.std.proofs.Common.{refl, arith}
use Rattle.nb_key.proofs.Levels.{no_key, level_of_zeros}
use Rattle.nb_key.proofs.key.Key.from_number.Goals as goal

pub returns-then-number-ne0 : goal.returns-then-number-ne0
returns-then-number-ne0 c = no_key c.args.number c.if-number-ne0.true

pub invariant_of-result : goal.invariant_of-result
invariant_of-result c = level_of_zeros c.args.number (omega arith) (omega arith) c.if-number-ne0.false

pub returns : goal.returns
returns c = (refl, level_of_zeros c.args.number (omega arith) (omega arith) c.if-number-ne0.false)
