use Rattle.std.proofs.Common.{arith}
use Rattle.nb_fixed.proofs.Ratios.{shifted_whole}
use Rattle.nb_fixed.proofs.estimate.dividend_of.Goals as goal

pub invariant_of-result : goal.invariant_of-result
invariant_of-result c =
    let up = shifted_whole c.args.gm (omega arith) (omega arith) in
    record { low = omega (arith, up.0, up.1); next = omega (arith, up.0, up.1); limit = omega arith; some = omega (arith, up.1) }
