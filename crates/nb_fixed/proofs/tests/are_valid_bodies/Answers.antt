use Rattle.std.proofs.Common.{take, sym, arith}
use Rattle.std.proofs.lemmas.List.{take_all}
use Rattle.std.proofs.lemmas.List.Elements.{All-more, All-same}
use Rattle.nb_model.specs.Valid.{IsValidBody}
use Rattle.nb_fixed.proofs.tests.are_valid_bodies.Goals as goal

pub loop-body-preserved : goal.loop-body-preserved
loop-body-preserved c =
    All-more IsValidBody c.args.bodies.now c.loop-body.body-index _ c.loop-body-test.true c.loop-body.invariant (c.is_valid.ensures.0 c.if-not-is_valid.false)

pub returns : goal.returns
returns c = λ _.
    All-same IsValidBody c.args.bodies.now (take c.loop-body.body-index c.args.bodies.now) (sym (take_all c.loop-body.body-index c.args.bodies.now (omega arith))) c.loop-body.invariant
