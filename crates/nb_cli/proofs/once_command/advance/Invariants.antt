use Rattle.std.proofs.Common.{◌≡◌, ◌-◌}
use Rattle.std.specs.Prelude.{replicate}
use Rattle.nb_model.specs.Leapfrog.{steps}
use Rattle.nb_model.specs.Valid.{IsValidBodies}
use Rattle.nb_cli.proofs.once_command.advance.Given as goal

abbrev pub invariant-loop : goal.invariant-loop
invariant-loop l = record {
  valid : IsValidBodies l.params l.bodies.items;
  ahead : steps l.params (replicate (l.leg.ticks - l.counter) l.leg.way) l.bodies.items ≡ steps l.params (replicate l.leg.ticks l.leg.way) l.initial.bodies.items;
}
