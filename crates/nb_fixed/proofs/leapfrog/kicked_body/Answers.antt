use Rattle.std.specs.Prelude.{◌*◌}
use Rattle.nb_model.specs.Limits.{kick_limit}
use Rattle.nb_model.specs.Gravity.{force_on}
use Rattle.nb_model.specs.Octree.{total_mass}
use Rattle.nb_model.proofs.Facts.{IsBelow-from_most, force_on_bound}
use Rattle.nb_fixed.proofs.leapfrog.kicked_body.Goals as goal

pub accelerate-requires-clause-kick : goal.accelerate-requires-clause-kick
accelerate-requires-clause-kick c =
    let params = c.args.params.now in
    let inside = c.args.inside.now in
    let p = c.args.body.at in
    rw c.in_ok-force.ensures (IsBelow-from_most (params.grav * total_mass inside) kick_limit (force_on params p 0 inside) c.requires.gm (force_on_bound params p 0 inside))
