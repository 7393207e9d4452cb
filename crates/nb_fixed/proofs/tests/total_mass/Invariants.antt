use Rattle.std.proofs.Common.{◌≡◌, ◌*◌, ◌≤◌, take}
use Rattle.nb_model.specs.Octree.{total_mass}
use Rattle.nb_fixed.proofs.tests.total_mass.Given as goal

abbrev pub invariant-loop-body : goal.invariant-loop-body
invariant-loop-body l = (l.mass ≡ total_mass (take l.body-index l.bodies)) × (l.mass ≤ l.body-index * 4294967295)
