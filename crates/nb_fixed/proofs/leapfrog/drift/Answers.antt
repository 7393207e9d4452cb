use Rattle.std.proofs.Common.{◌≡◌, ◌<◌, length, get_or, set, false, pos, ap, ◌∙◌, arith}
use Rattle.std.proofs.lemmas.List.{get_or_default}
use Rattle.std.proofs.lemmas.List.Edits.{map_over_more}
use Rattle.nb_model.specs.declared.body.Body.{Body}
use Rattle.nb_model.specs.Leapfrog.{drift_body}
use Rattle.nb_fixed.proofs.leapfrog.drift.Goals as goal

pub loop-body-preserved : goal.loop-body-preserved
loop-body-preserved c =
    let xs = c.args.bodies.now in
    let ys = c.loop-body.bodies in
    let i = c.loop-body.body-index in
    let none : Body = record { id = 0; mass = 0; out = false; at = record { x = 0; y = 0; z = 0 }; v = record { x = pos 0; y = pos 0; z = pos 0 } } in
    let b = get_or ys i none in
    let short : i < length ys = omega arith in
    let drifted : c.drift_body.result ≡ drift_body c.args.params.now c.args.way b = c.drift_body.ensures in
    ap (set ys i) drifted ∙ map_over_more (drift_body c.args.params.now c.args.way) xs ys i b c.loop-body-test.true c.loop-body.invariant (get_or_default ys i none b short)
