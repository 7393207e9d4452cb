use Rattle.std.proofs.Common.{◌≡◌, ◌-◌, get_or, arith}
use Rattle.nb_fixed.specs.declared.square_root.TheConstants.{ROOTS}
use Rattle.nb_fixed.proofs.Table.{entry_at}
use Rattle.nb_fixed.proofs.square_root.root_of_byte.Goals as goal

pub returns-clause-some : goal.returns-clause-some
returns-clause-some c =
    let e = entry_at (c.args.byte - 64) (omega arith) in
    omega (arith, e.some)

pub returns-clause-square : goal.returns-clause-square
returns-clause-square c =
    let e = entry_at (c.args.byte - 64) (omega arith) in
    let is : c.from.result ≡ get_or ROOTS (c.args.byte - 64) 0 = c.from.ensures in
    rw is (omega (arith, e.square))

pub returns-clause-next_square : goal.returns-clause-next_square
returns-clause-next_square c =
    let e = entry_at (c.args.byte - 64) (omega arith) in
    let is : c.from.result ≡ get_or ROOTS (c.args.byte - 64) 0 = c.from.ensures in
    rw is (omega (arith, e.next_square))
