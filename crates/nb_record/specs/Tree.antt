-- A tree in its files.
use Rattle.std.specs.Prelude.{◌≡◌, ℕ, ◌*◌, ◌^◌, ◌≤◌, List, length}
use Rattle.nb_model.specs.declared.body.Body.{Body}
use Rattle.nb_model.specs.declared.params.Params.{Params}
use Rattle.nb_model.specs.Octree.{total_mass}
use Rattle.nb_model.specs.Leapfrog.{unescaped}
use Rattle.nb_record.specs.declared.tree.Tree.{Tree}
use Rattle.nb_record.specs.Order.{by_key, sorted_by, IsSortedByRank, HoldsBodies}
use Rattle.nb_record.specs.Cells.{tree_cells}
use Rattle.nb_record.specs.Table.{IsCellTable}

-- for how many bodies the table has a chain: chains differ in length, and none is bounded by this
abbrev pub bodies_per_chain : ℕ
bodies_per_chain = 64

-- the least number of bits with a chain for each 64 of so many bodies
pub record IsBitsFor (bits count : ℕ) : Type 0 where
  pub enough : count ≤ bodies_per_chain * 2 ^ bits
  pub least : (fewer : ℕ) → count ≤ bodies_per_chain * 2 ^ fewer → bits ≤ fewer

-- The tree is that of these bodies, in files that are told by their numbers: the bodies stand in Morton order in the one,
-- and the cells in a table in the other.
-- Two bodies of one key and one id would have no order: `distinct` says that there are none.
pub record IsTreeOf (tree : Tree) (files : ℕ → List ℕ) (params : Params) (bodies : List Body) : Type 0 where
  pub distinct : IsSortedByRank by_key (sorted_by by_key bodies)
  pub ordered : HoldsBodies (files tree.bodies) (sorted_by by_key bodies)
  pub bits : IsBitsFor tree.bits (length bodies)
  pub table : IsCellTable (files tree.cells) tree.bits tree.pages (tree_cells params bodies)
  pub count : tree.count ≡ length (unescaped bodies)
  pub mass : tree.mass ≡ total_mass (unescaped bodies)
  pub nodes : tree.nodes ≡ length (tree_cells params bodies)
