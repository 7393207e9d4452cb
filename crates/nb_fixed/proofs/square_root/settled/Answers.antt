use Rattle.std.proofs.Common.{arith}
use Rattle.nb_fixed.proofs.Karatsuba.{one_less}
use Rattle.nb_fixed.proofs.square_root.settled.Goals as goal

pub returns : goal.returns
returns c = one_less c.args.root c.args.rest c.args.square c.requires.root (omega arith)
