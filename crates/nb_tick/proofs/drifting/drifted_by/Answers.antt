use Rattle.std.proofs.Common.{sym, ap, subst, ◌∙◌}
use Rattle.nb_model.specs.Leapfrog.{drift_body, accelerate}
use Rattle.nb_model.specs.Valid.{IsValidBody}
use Rattle.nb_model.proofs.Facts.{kicked_body, drifted_body, IsValidBody-drifted}
use Rattle.nb_tick.proofs.drifting.drifted_by.Goals as goal

pub returns-clause-valid : goal.returns-clause-valid
returns-clause-valid c =
    let kicked = kicked_body c.args.way c.args.body c.args.kick.now c.requires.valid c.requires.kick in
    let first = accelerate c.args.way c.args.kick.now c.args.body in
    subst IsValidBody (sym (c.drift_body.ensures ∙ ap (drift_body c.args.params.now c.args.way) c.accelerate.ensures))
    (IsValidBody-drifted (drift_body c.args.params.now c.args.way first) (drifted_body c.args.params.now c.args.way first kicked))
