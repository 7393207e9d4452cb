use Rattle.std.proofs.Common.{arith}
use Rattle.nb_key.proofs.Ranges.{last_is}
use Rattle.nb_key.proofs.key.Key.last.Goals as goal

pub overflow_add-result : goal.overflow_add-result
overflow_add-result c =
    let key = c.bits_below.ensures.key in
    let last = last_is key.0 c.args.self c.bits_below.result key.1 (c.bits_below.ensures.bits key.0 key.1) in
    omega (arith, last.1, c.first.ensures key.0 key.1)

pub returns : goal.returns
returns c = λ level is.
    let last = last_is level c.args.self c.bits_below.result is (c.bits_below.ensures.bits level is) in
    omega (arith, last.0, c.first.ensures level is)
