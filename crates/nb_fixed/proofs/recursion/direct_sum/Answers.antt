use Rattle.std.proofs.Common.{◌≡◌, ◌*◌, ◌<◌, arith, get_or, false, pos}
use Rattle.std.proofs.Math.Nat.{mul-le-mul_left}
use Rattle.std.proofs.lemmas.List.Sums.{get_or-le-sum_by}
use Rattle.nb_model.specs.declared.body.Body.{Body}
use Rattle.nb_model.specs.Limits.{gm_limit}
use Rattle.nb_model.proofs.Facts.{pull_below, direct_sum-take_below}
use Rattle.nb_fixed.proofs.recursion.direct_sum.Goals as goal

pub plus-total-requires-clause-first : goal.plus-total-requires-clause-first
plus-total-requires-clause-first c =
    rw c.loop-body.invariant (direct_sum-take_below c.args.params.now c.args.from.now c.args.bodies.now c.loop-body.body-index c.requires.gm)

pub plus-total-requires-clause-second : goal.plus-total-requires-clause-second
plus-total-requires-clause-second c =
    let grav = c.args.params.now.grav in
    let none : Body = record { id = 0; mass = 0; out = false; at = record { x = 0; y = 0; z = 0 }; v = record { x = pos 0; y = pos 0; z = pos 0 } } in
    let b = get_or c.args.bodies.now c.loop-body.body-index none in
    let own = get_or-le-sum_by (λ (b : Body). b.mass) c.args.bodies.now c.loop-body.body-index none c.loop-body-test.true in
    let mass : c.from.result ≡ b.mass = c.from.ensures in
    let gm : grav * c.from.result < gm_limit = rw mass (omega (arith, mul-le-mul_left grav own, c.requires.gm)) in
    rw c.pull.ensures (pull_below c.args.params.now c.args.from.now c.from.result b.at gm)
