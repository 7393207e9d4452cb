use Rattle.std.proofs.Common.{◌≡◌, ◌*◌, ◌≤◌, take}
use Rattle.std.specs.Prelude.{sum_by}
use Rattle.nb_model.specs.Octree.{total_mass}
use Rattle.nb_fixed.proofs.cell.mass_and_centre.Given as goal

abbrev pub invariant-loop-body : goal.invariant-loop-body
invariant-loop-body l = record {
  mass : l.mass ≡ total_mass (take l.body-index l.bodies);
  x : l.x ≡ sum_by (λ b. b.mass * b.at.x) (take l.body-index l.bodies);
  y : l.y ≡ sum_by (λ b. b.mass * b.at.y) (take l.body-index l.bodies);
  z : l.z ≡ sum_by (λ b. b.mass * b.at.z) (take l.body-index l.bodies);
  some_mass : l.body-index ≤ l.mass;
  most_mass : l.mass ≤ l.body-index * 4294967295;
  most_x : l.x ≤ l.mass * 1099511627775;
  most_y : l.y ≤ l.mass * 1099511627775;
  most_z : l.z ≤ l.mass * 1099511627775;
}
