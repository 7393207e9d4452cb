use Rattle.std.proofs.Common.{◌≡◌, ◌+◌, ◌-◌, ◌≤◌, map, take}
use Rattle.nb_model.specs.Limits.{deepest_level}
use Rattle.nb_model.specs.Vector.{vector_sum}
use Rattle.nb_model.specs.Octree.{in_octant}
use Rattle.nb_model.specs.Gravity.{force_on, octants}
use Rattle.nb_fixed.proofs.recursion.+force_on.Given as goal

abbrev pub decreases-force_on : goal.decreases-force_on
decreases-force_on l = deepest_level - l.level

-- the cells on the way down have the same bodies and give the same force
abbrev pub invariant-down : goal.invariant-down
invariant-down l = record {
  below : l.fn.level ≤ l.level;
  within : l.level ≤ deepest_level;
  same : force_on l.params l.from l.level l.bodies ≡ force_on l.params l.from l.fn.level l.bodies;
}

abbrev pub decreases-down : goal.decreases-down
decreases-down l = deepest_level - l.level

abbrev pub invariant-loop-octant : goal.invariant-loop-octant
invariant-loop-octant l =
    l.total ≡ vector_sum (map (λ octant. force_on l.params l.from (l.level + 1) (in_octant l.level l.bodies octant)) (take l.octant octants))
