-- What a build answers.
use Rattle.std.specs.Prelude.{◌≡◌, ℕ, ◌*◌, ◌^◌, ◌<◌, ◌≤◌, List, length}
use Rattle.nb_model.specs.declared.body.Body.{Body}
use Rattle.nb_model.specs.declared.params.Params.{Params}
use Rattle.nb_model.specs.Limits.{gm_limit}
use Rattle.nb_record.specs.declared.sizes.TheConstants.{CELL_SIZE}
use Rattle.nb_record.specs.declared.tree.Tree.{Tree}
use Rattle.nb_record.specs.Order.{by_key, sorted_by, IsSortedByRank, HoldsBodies}
use Rattle.nb_record.specs.Tree.{IsTreeOf}
use Rattle.nb_record.specs.Writing.{IsZeroPaddedFile}

-- What holds of a tree over every host: it names the files that were passed, and its numbers are in the ranges that a walk asks
-- for. The range of the mass is that of a cell's record: no crate asks for it.
pub record IsTreeInRange (params : Params) (bodies cells count : ℕ) (tree : Tree) : Type 0 where
  pub bodies_are : tree.bodies ≡ bodies
  pub cells_are : tree.cells ≡ cells
  pub bits : tree.bits ≤ 18
  pub pages : tree.pages < 2 ^ 48
  pub most : tree.count ≤ count
  pub mass : tree.mass ≤ 2 ^ 56
  pub gm : params.grav * tree.mass < gm_limit

-- Where the file of bodies held these bodies in Morton order, the tree is theirs, and each page of the file of cells has zeros
-- behind its last cell.
pub record IsBuilt (params : Params) (before now : ℕ → List ℕ) (tree : Tree) (bodies : List Body) : Type 0 where
  pub is : IsTreeOf tree now params bodies
  pub padded : IsZeroPaddedFile CELL_SIZE (now tree.cells)

abbrev pub Builds : Params → ℕ → ℕ → (ℕ → List ℕ) → (ℕ → List ℕ) → Tree → Type 0
Builds params bodies count before now tree =
    (list : List Body) → HoldsBodies (before bodies) (sorted_by by_key list) → IsSortedByRank by_key (sorted_by by_key list)
    → length list ≡ count → IsBuilt params before now tree list
