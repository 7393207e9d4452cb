use Rattle.std.proofs.Common.{◌<◌, ◌^◌, arith}
use Rattle.nb_key.proofs.Levels.{child_is, child_fits}
use Rattle.nb_key.proofs.key.Key.child.Goals as goal

pub overflow_mul-result : goal.overflow_mul-result
overflow_mul-result c =
    let small : c.self.inside.number < 8 ^ 21 = omega (arith, c.self.view_is) in
    omega (arith, child_fits c.self.inside.number 0 c.self.invariant small (omega arith))

pub overflow_add-result : goal.overflow_add-result
overflow_add-result c =
    let small : c.self.inside.number < 8 ^ 21 = omega (arith, c.self.view_is) in
    omega (arith, child_fits c.self.inside.number c.args.octant c.self.invariant small c.requires.octant)

pub invariant_of-result : goal.invariant_of-result
invariant_of-result c =
    let small : c.self.inside.number < 8 ^ 21 = omega (arith, c.self.view_is) in
    rw c.from.ensures (child_is c.self.inside.number c.args.octant c.self.invariant small c.requires.octant)
