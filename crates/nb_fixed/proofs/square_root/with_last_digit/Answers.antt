use Rattle.std.proofs.Common.{arith}
use Rattle.nb_fixed.proofs.Karatsuba.{last_digit, root_kept, root_lowered}
use Rattle.nb_fixed.proofs.square_root.with_last_digit.Goals as goal

pub returns-then-digit-rest-clause-square : goal.returns-then-digit-rest-clause-square
returns-then-digit-rest-clause-square c =
    let h = c.args.high in
    let digit = last_digit h.root h.rest c.args.low h.is_root c.requires.bits (omega arith) in
    (root_kept _ _ _ _ digit.joins c.if-digit-rest.true digit.rest).0

pub returns-then-digit-rest-clause-next_square : goal.returns-then-digit-rest-clause-next_square
returns-then-digit-rest-clause-next_square c =
    let h = c.args.high in
    let digit = last_digit h.root h.rest c.args.low h.is_root c.requires.bits (omega arith) in
    (root_kept _ _ _ _ digit.joins c.if-digit-rest.true digit.rest).1

pub returns-else-digit-rest-clause-square : goal.returns-else-digit-rest-clause-square
returns-else-digit-rest-clause-square c =
    let h = c.args.high in
    let digit = last_digit h.root h.rest c.args.low h.is_root c.requires.bits (omega arith) in
    (root_lowered _ _ _ _ digit.joins c.if-digit-rest.false digit.square).0

pub returns-else-digit-rest-clause-next_square : goal.returns-else-digit-rest-clause-next_square
returns-else-digit-rest-clause-next_square c =
    let h = c.args.high in
    let digit = last_digit h.root h.rest c.args.low h.is_root c.requires.bits (omega arith) in
    (root_lowered _ _ _ _ digit.joins c.if-digit-rest.false digit.square).1
