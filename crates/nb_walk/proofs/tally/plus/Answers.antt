use Rattle.std.proofs.Common.{arith}
use Rattle.std.proofs.lemmas.Int.{ints}
use Rattle.nb_model.specs.Vector.{plus}
use Rattle.nb_model.proofs.Facts.{same_vector}
use Rattle.nb_walk.proofs.tally.plus.Goals as goal

pub returns : goal.returns
returns c = same_vector _ (plus c.args.a c.args.b) (omega (arith, ints)) (omega (arith, ints)) (omega (arith, ints))
