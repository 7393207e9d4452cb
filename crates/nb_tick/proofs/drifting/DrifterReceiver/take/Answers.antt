use Rattle.std.proofs.Common.{sym, ap, subst, ◌∙◌}
use Rattle.nb_model.specs.Leapfrog.{drift_body, accelerate}
use Rattle.nb_model.specs.Valid.{IsValidBody}
use Rattle.nb_model.proofs.Facts.{kicked_body, drifted_body, IsValidBody-drifted}
use Rattle.nb_tick.proofs.drifting.DrifterReceiver.take.Goals as goal

pub add-requires-clause-valid : goal.add-requires-clause-valid
add-requires-clause-valid g c =
    let d = c.args.self.now in
    let kicked = kicked_body d.way c.args.body.now c.args.kick.now c.requires.body c.requires.kick in
    let moved = drifted_body d.params.now d.way (accelerate d.way c.args.kick.now c.args.body.now) kicked in
    subst IsValidBody (sym (c.drift_body-drifted.ensures ∙ ap (drift_body d.params.now d.way) c.accelerate.ensures))
    (IsValidBody-drifted (drift_body d.params.now d.way (accelerate d.way c.args.kick.now c.args.body.now)) moved)
