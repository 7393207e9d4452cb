-- The cells of the oct-tree (Barnes and Hut 1986): a cell at a level from 0 to 21 is a cube of side `cell_side level`. One
-- above the deepest level has eight octants, the cells of the next level in it.
use Rattle.std.specs.Prelude.{ℕ, ◌+◌, ◌-◌, ◌*◌, ◌/◌, ◌%◌, ◌^◌, ◌==◌, Bool, ◌&&◌, List, filter, sum_by}
use Rattle.nb_model.specs.declared.body.At.{At}
use Rattle.nb_model.specs.declared.body.Body.{Body}

-- the side of a cell at this level, in box units
abbrev pub cell_side : ℕ → ℕ
cell_side level = 2 ^ (40 - level)

-- in which half of its cell at this level a coordinate lies: 0 or 1. The level is from 0 to 20.
abbrev pub half_at : ℕ → ℕ → ℕ
half_at level x = (x / 2 ^ (39 - level)) % 2

-- the octant of a position within its cell at this level, from 0 to 7. The level is from 0 to 20.
abbrev pub octant_at : ℕ → At → ℕ
octant_at level p = 4 * half_at level p.x + 2 * half_at level p.y + half_at level p.z

-- the bodies of a cell at this level that lie in one of its octants, in their order
abbrev pub in_octant : ℕ → List Body → ℕ → List Body
in_octant level bodies octant = filter (λ b. octant_at level b.at == octant) bodies

-- whether two positions lie in one cell at this level
abbrev pub is_same_cell : ℕ → At → At → Bool
is_same_cell level p r = (p.x / cell_side level == r.x / cell_side level) && (p.y / cell_side level == r.y / cell_side level) && (p.z / cell_side level == r.z / cell_side level)

abbrev pub total_mass : List Body → ℕ
total_mass bodies = sum_by (λ b. b.mass) bodies

-- the centre of mass of a list that isn't empty, rounded down on each axis
abbrev pub centre_of_mass : List Body → At
centre_of_mass bodies = record {
  x = sum_by (λ b. b.mass * b.at.x) bodies / total_mass bodies;
  y = sum_by (λ b. b.mass * b.at.y) bodies / total_mass bodies;
  z = sum_by (λ b. b.mass * b.at.z) bodies / total_mass bodies;
}
