use Rattle.std.proofs.Common.{take}
use Rattle.std.specs.Prelude.{All}
use Rattle.nb_model.specs.Valid.{IsValidBody}
use Rattle.nb_fixed.proofs.tests.are_valid_bodies.Given as goal

abbrev pub invariant-loop-body : goal.invariant-loop-body
invariant-loop-body l = All IsValidBody (take l.body-index l.bodies)
