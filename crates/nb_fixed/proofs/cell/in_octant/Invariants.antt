use Rattle.std.proofs.Common.{◌≡◌, ℕ, map, take}
use Rattle.nb_model.specs.Octree.{octant_at, in_octant}
use Rattle.nb_fixed.proofs.cell.in_octant.Given as goal

abbrev pub invariant-loop-i : goal.invariant-loop-i
invariant-loop-i l =
    (level : ℕ) → l.octants ≡ map (λ b. octant_at level b.at) l.bodies → l.part.items ≡ in_octant level (take l.i l.bodies) l.octant
