use Rattle.std.proofs.Common.{ap, ◌∙◌, not}
use Rattle.nb_walk.specs.Angle.{by_angle}
use Rattle.nb_walk.proofs.KeyLevels.{criterion_is}
use Rattle.nb_walk.proofs.opening.ByAngleOpening.whole.Goals as goal

pub returns : goal.returns
returns c =
    let params = c.args.params.now in
    let p = c.args.from.now in
    let key = c.key-key.result in
    let level = c.level.result in
    let inside = c.contains-inside.result in
    ap not c.opens.ensures
    ∙ criterion_is params p level key c.centre.result inside c.level.ensures (c.contains-inside.ensures.cell level c.level.ensures)
    ∙ ap (λ k. by_angle params p k c.centre.result) c.key-key.ensures.value
    ∙ ap (λ centre. by_angle params p c.args.cell.now.key centre) c.centre.ensures.value
