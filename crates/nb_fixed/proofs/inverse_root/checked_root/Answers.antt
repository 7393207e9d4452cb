use Rattle.std.proofs.Common.{arith}
use Rattle.nb_model.proofs.Facts.{integer_root_is}
use Rattle.nb_fixed.proofs.inverse_root.checked_root.Goals as goal

pub returns-then-square-low : goal.returns-then-square-low
returns-then-square-low c = integer_root_is c.args.square c.args.root (omega arith) (omega arith)
