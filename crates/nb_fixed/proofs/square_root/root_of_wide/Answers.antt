use Rattle.std.proofs.Common.{◌+◌, ◌*◌, ◌^◌, arith}
use Rattle.nb_model.proofs.Facts.{below_from_squares}
use Rattle.nb_fixed.proofs.Shifts.{root_shifted, shifted}
use Rattle.nb_fixed.proofs.square_root.root_of_wide.Goals as goal

pub rooted_64-requires : goal.rooted_64-requires
rooted_64-requires c =
    let up = shifted 128 c.args.q (omega arith) (omega arith) (omega arith) in
    omega (arith, up.low)

pub with_last_digit-requires-clause-bits : goal.with_last_digit-requires-clause-bits
with_last_digit-requires-clause-bits c =
    let up = shifted 128 c.args.q (omega arith) (omega arith) (omega arith) in
    let found = c.rooted_64.result in
    let below = below_from_squares (2 ^ 31) (found.root + 1) (found.root * found.root + found.rest) (omega (arith, up.low, c.rooted_64.ensures.value)) (omega (arith, found.is_root)) in
    omega arith

pub returns : goal.returns
returns c =
    let up = shifted 128 c.args.q (omega arith) (omega arith) (omega arith) in
    root_shifted c.args.q _ c.with_last_digit.result (omega (arith, up.is, c.rooted_64.ensures.value, c.with_last_digit.ensures.square)) (omega (arith, up.is, c.rooted_64.ensures.value, c.with_last_digit.ensures.next_square))
