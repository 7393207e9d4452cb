use Rattle.std.proofs.Common.{◌≡◌, take}
use Rattle.nb_model.specs.Gravity.{direct_sum}
use Rattle.nb_fixed.proofs.recursion.direct_sum.Given as goal

abbrev pub invariant-loop-body : goal.invariant-loop-body
invariant-loop-body l = l.total ≡ direct_sum l.params l.from (take l.body-index l.bodies)
