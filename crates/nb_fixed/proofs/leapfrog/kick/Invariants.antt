use Rattle.std.proofs.Common.{◌≡◌, map, take}
use Rattle.nb_model.specs.Leapfrog.{accelerate, half_kick}
use Rattle.nb_fixed.proofs.leapfrog.kick.Given as goal

abbrev pub invariant-loop-body : goal.invariant-loop-body
invariant-loop-body l =
    l.kicked.items ≡ map (λ b. accelerate l.way (half_kick l.params l.bodies b) b) (take l.body-index l.bodies)
