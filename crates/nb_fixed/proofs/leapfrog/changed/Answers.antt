use Rattle.std.proofs.Common.{arith}
use Rattle.std.proofs.lemmas.Int.{ints}
use Rattle.nb_model.specs.declared.way.Way.TheVariants.{Back}
use Rattle.nb_model.specs.Leapfrog.{changed}
use Rattle.nb_model.proofs.Facts.{same_vector}
use Rattle.nb_fixed.proofs.leapfrog.changed.Goals as goal

pub returns-in-Forward : goal.returns-in-Forward
returns-in-Forward c = rw c.in-Forward.is c.plus.ensures

pub returns-in-Back : goal.returns-in-Back
returns-in-Back c =
    rw c.in-Back.is (same_vector _ (changed Back c.args.vector c.args.change) (omega (arith, ints)) (omega (arith, ints)) (omega (arith, ints)))
