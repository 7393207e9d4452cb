use Rattle.std.proofs.Common.{◌≡◌, ◌*◌, ◌≤◌, ◌^◌, take}
use Rattle.nb_model.specs.Octree.{total_mass}
use Rattle.nb_cli.proofs.once_command.total_mass.Given as goal

abbrev pub invariant-loop-body : goal.invariant-loop-body
invariant-loop-body l = record { so_far : l.mass ≡ total_mass (take l.body-index l.bodies); small : l.mass ≤ l.body-index * 2 ^ 32 }
