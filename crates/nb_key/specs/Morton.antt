-- Keys of cells (Warren and Salmon 1993). A cell is named by the octants on the way from the box down to it: three bits
-- for each, behind a leading 1, the place bit. So the root's key is 1, a child's is 8 * key + octant, and the keys of one
-- level are ordered as the positions are along the Morton curve.
use Rattle.std.specs.Prelude.{ℕ, zero, suc, ◌+◌, ◌-◌, ◌*◌, ◌^◌, ◌<◌, ◌≤◌, List, [], ◌∷◌, ◌++◌, fold, All}
use Rattle.nb_model.specs.declared.body.At.{At}
use Rattle.nb_model.specs.Limits.{deepest_level}
use Rattle.nb_model.specs.Octree.{octant_at}

-- the position with these coordinates
abbrev pub position : ℕ → ℕ → ℕ → At
position x y z = record { x = x; y = y; z = z }

-- the octants on the way from the box down to the cell at this level that holds a position
unfoldable pub octants_to : ℕ → At → List ℕ
octants_to zero p = []
octants_to (suc level) p = octants_to level p ++ octant_at level p ∷ []

-- the key of a list of octants
abbrev pub key_of : List ℕ → ℕ
key_of octants = fold (λ key octant. 8 * key + octant) 1 octants

abbrev pub AreOctants : List ℕ → Type 0
AreOctants octants = All (λ octant. octant < 8) octants

-- the key of the cell at this level that holds a position. The level is from 0 to 21.
abbrev pub key_at : ℕ → At → ℕ
key_at level p = key_of (octants_to level p)

-- the key of the deepest cell that holds a position
abbrev pub morton_key : At → ℕ
morton_key p = key_at deepest_level p

-- a number that is the key of a cell at this level
pub record IsKeyAt (level key : ℕ) : Type 0 where
  pub deepest : level ≤ deepest_level
  pub least : 8 ^ level ≤ key
  pub below : key < 2 * 8 ^ level

abbrev pub IsKey : ℕ → Type 0
IsKey key = (level : ℕ) × IsKeyAt level key

-- the least and the greatest key at the deepest level under the cell at this level with this key
abbrev pub first_key : ℕ → ℕ → ℕ
first_key level key = key * 8 ^ (deepest_level - level)

abbrev pub last_key : ℕ → ℕ → ℕ
last_key level key = (key + 1) * 8 ^ (deepest_level - level) - 1
