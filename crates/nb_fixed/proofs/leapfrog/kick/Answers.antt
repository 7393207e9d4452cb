use Rattle.std.proofs.Common.{◌≡◌, ◌∙◌, arith, not}
use Rattle.std.proofs.lemmas.List.Elements.{All-same, All-filter}
use Rattle.nb_model.specs.Leapfrog.{unescaped}
use Rattle.nb_model.specs.Valid.{IsValidBody}
use Rattle.nb_model.proofs.Facts.{length-unescaped-le, gm-unescaped}
use Rattle.nb_fixed.proofs.leapfrog.kick.Goals as goal

pub kicked_body-requires-clause-each : goal.kicked_body-requires-clause-each
kicked_body-requires-clause-each c =
    let bodies = c.args.bodies.now in
    All-same IsValidBody c.deref.result.now (unescaped bodies) (c.deref.ensures.value ∙ c.in_ok-inside.ensures) (All-filter (λ b. not b.out) IsValidBody bodies c.requires.valid.each)

pub kicked_body-requires-clause-count : goal.kicked_body-requires-clause-count
kicked_body-requires-clause-count c =
    let e : c.deref.result.now ≡ unescaped c.args.bodies.now = c.deref.ensures.value ∙ c.in_ok-inside.ensures in
    rw e (omega (arith, length-unescaped-le c.args.bodies.now, c.requires.valid.count))

pub kicked_body-requires-clause-gm : goal.kicked_body-requires-clause-gm
kicked_body-requires-clause-gm c =
    let e : c.deref.result.now ≡ unescaped c.args.bodies.now = c.deref.ensures.value ∙ c.in_ok-inside.ensures in
    rw e (gm-unescaped c.args.params.now.grav c.args.bodies.now c.requires.valid.gm)
