use Rattle.std.proofs.Common.{◌^◌, arith}
use Rattle.std.proofs.lemmas.Nat.{mul-le}
use Rattle.nb_fixed.proofs.Karatsuba.{next_digit}
use Rattle.nb_fixed.proofs.square_root.with_digit.Goals as goal

pub overflow_mul-digit : goal.overflow_mul-digit
overflow_mul-digit c =
    let high = c.args.high in
    let digit = next_digit high.root high.rest c.args.low c.args.base high.is_root c.requires.bits (omega arith) c.requires.low in
    omega (arith, mul-le _ _ c.args.base c.args.base digit.within digit.within, mul-le c.args.base c.args.base (2 ^ 16) (2 ^ 16) c.requires.base c.requires.base)

pub settled-requires-clause-square : goal.settled-requires-clause-square
settled-requires-clause-square c =
    let high = c.args.high in
    let digit = next_digit high.root high.rest c.args.low c.args.base high.is_root c.requires.bits (omega arith) c.requires.low in
    digit.square

pub returns : goal.returns
returns c =
    let high = c.args.high in
    let digit = next_digit high.root high.rest c.args.low c.args.base high.is_root c.requires.bits (omega arith) c.requires.low in
    omega (arith, digit.joins)
