use Rattle.std.proofs.Common.{◌≡◌, ◌++◌, map, take, drop}
use Rattle.nb_model.specs.Leapfrog.{drift_body}
use Rattle.nb_fixed.proofs.leapfrog.drift.Given as goal

abbrev pub invariant-loop-body : goal.invariant-loop-body
invariant-loop-body l =
    l.bodies ≡ map (drift_body l.params l.way) (take l.body-index l.initial.bodies) ++ drop l.body-index l.initial.bodies
