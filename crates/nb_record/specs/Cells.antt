-- The cells of the tree of a list of bodies (Barnes and Hut 1986; a cell's key is Warren and Salmon's, 1993).
use Rattle.std.specs.Prelude.{◌≡◌, ◌≢◌, ◌⊎◌, ℕ, zero, suc, ◌-◌, ◌/◌, ◌^◌, ◌<◌, ◌≤◌, ◌==◌, nat_lt, nat_le, if◌then◌else◌, List, [], ◌∷◌, ◌++◌, length, filter, sum_by, count_by}
use Rattle.std.specs.List.{flat_map, list_all}
use Rattle.nb_model.specs.declared.body.Body.{Body}
use Rattle.nb_model.specs.declared.params.Params.{Params}
use Rattle.nb_model.specs.Limits.{deepest_level}
use Rattle.nb_model.specs.Octree.{in_octant, total_mass, centre_of_mass}
use Rattle.nb_model.specs.Gravity.{octants}
use Rattle.nb_model.specs.Leapfrog.{unescaped}
use Rattle.nb_key.specs.Morton.{key_of, key_at, morton_key, IsKeyAt}
use Rattle.nb_record.specs.declared.cell.Cell.{Cell}

-- The number of a cell's first body in the file of bodies: how many of all unescaped bodies have a Morton key below those
-- of all the cell's bodies.
abbrev pub first_body : List Body → List Body → ℕ
first_body all bodies = count_by (λ b. list_all (λ c. nat_lt (morton_key b.at) (morton_key c.at)) bodies) all

-- a bit for each octant of a cell at this level that isn't empty
abbrev pub kids_of : ℕ → List Body → ℕ
kids_of level bodies = sum_by (λ octant. if nat_lt 0 (length (in_octant level bodies octant)) then 2 ^ octant else 0) octants

-- the cell of these bodies, to which these octants lead, with these kids
abbrev pub cell_for : List Body → List ℕ → List Body → ℕ → Cell
cell_for all path bodies kids = record {
  key = key_of path;
  mass = total_mass bodies;
  centre = centre_of_mass bodies;
  first = first_body all bodies;
  count = length bodies;
  kids = kids;
}

-- The cells of the bodies of a cell with so many levels below it, down which the recursion goes. A cell without bodies
-- is none. One with at most `leaf` bodies, and one at the deepest level, is a leaf, without kids. Any other is followed by
-- the cells of its octants.
unfoldable pub cells_to_depth : Params → List Body → ℕ → List ℕ → List Body → List Cell
cells_to_depth params all depth path [] = []
cells_to_depth params all zero path (b ∷ bs) = cell_for all path (b ∷ bs) 0 ∷ []
cells_to_depth params all (suc depth) path (b ∷ bs) =
    let bodies = b ∷ bs in
    let level = (deepest_level - 1) - depth in
    if nat_le (length bodies) params.leaf then cell_for all path bodies 0 ∷ []
    else cell_for all path bodies (kids_of level bodies)
    ∷ flat_map (λ octant. cells_to_depth params all depth (path ++ octant ∷ []) (in_octant level bodies octant)) octants

-- the cells of the tree of a list of bodies: those of its unescaped bodies, from the root cell down
abbrev pub tree_cells : Params → List Body → List Cell
tree_cells params bodies = cells_to_depth params (unescaped bodies) deepest_level [] (unescaped bodies)

-- the bodies that lie in the cell at this level with this key, in their order
abbrev pub in_cell : ℕ → ℕ → List Body → List Body
in_cell level key bodies = filter (λ b. key_at level b.at == key) bodies

-- A cell of the tree of these bodies, which are in the box: one at this level that isn't empty, and that is the root or
-- an octant of a divided cell. `law_tree_cells` says that the tree has exactly these.
pub record IsTreeCell (params : Params) (all : List Body) (level : ℕ) (cell : Cell) : Type 0 where
  pub key : IsKeyAt level cell.key
  pub some : in_cell level cell.key all ≢ []
  pub parent : level ≢ 0 → params.leaf < length (in_cell (level - 1) (cell.key / 8) all)
  pub mass : cell.mass ≡ total_mass (in_cell level cell.key all)
  pub centre : cell.centre ≡ centre_of_mass (in_cell level cell.key all)
  pub first : cell.first ≡ first_body all (in_cell level cell.key all)
  pub count : cell.count ≡ length (in_cell level cell.key all)
  pub leaf : (length (in_cell level cell.key all) ≤ params.leaf) ⊎ (level ≡ deepest_level) → cell.kids ≡ 0
  pub divided : params.leaf < length (in_cell level cell.key all) → level < deepest_level → cell.kids ≡ kids_of level (in_cell level cell.key all)
