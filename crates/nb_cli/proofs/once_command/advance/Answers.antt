use Rattle.std.proofs.Common.{◌≡◌, ◌∙◌}
use Rattle.nb_model.specs.Leapfrog.{step}
use Rattle.nb_cli.proofs.Ticks.{steps-next}
use Rattle.nb_cli.proofs.once_command.advance.Goals as goal

pub loop-preserved : goal.loop-preserved
loop-preserved c =
    let kept = c.loop.invariant in
    let params = c.args.params.now in
    let way = c.args.leg.way in
    let ticked : c.plain_tick.new.bodies.items ≡ step params way c.loop.bodies.items = c.in_ok-plain_tick.ensures.tick in
    record {
      valid = c.in_ok-plain_tick.ensures.stays_valid;
      ahead = steps-next params way c.args.leg.ticks c.loop.counter c.loop.bodies.items c.plain_tick.new.bodies.items c.loop-test.true ticked ∙ kept.ahead;
    }
