-- What the page of a cell's chain says. This is of the crate's own calls.
use Rattle.std.specs.Prelude.{◌≡◌, ℕ, suc, ⊤, List, Option, Some, None}
use Rattle.nb_model.specs.declared.body.Body.{Body}
use Rattle.nb_model.specs.declared.params.Params.{Params}
use Rattle.nb_model.specs.Leapfrog.{unescaped}
use Rattle.nb_record.specs.declared.cell.Cell.{Cell}
use Rattle.nb_record.specs.declared.tree.Tree.{Tree}
use Rattle.nb_record.specs.Cells.{IsTreeCell}
use Rattle.nb_record.specs.Looking.{index_of_key}
use Rattle.nb_record.specs.Pages.{page_next}
use Rattle.nb_record.specs.Records.{cell_record, cell_of}
use Rattle.nb_record.specs.Tree.{IsTreeOf}
use Rattle.nb_walk.specs.declared.sight.Sight.{Sight}
use Rattle.nb_walk.specs.declared.sight.Sight.TheVariants as sight
use Rattle.nb_walk.specs.Angle.{level_of}
use Rattle.nb_walk.specs.Items.{chain_page}
use Rattle.nb_walk.specs.Left.{pages_to, IsCellItem}
use Rattle.nb_walk.specs.Shown.{Shows}

-- what holds of a cell that is seen
abbrev pub IfCell : Sight → (Cell → Type 0) → Type 0
IfCell (sight.Cell cell) P = P cell
IfCell (sight.Next next) P = ⊤
IfCell (sight.Wants name) P = ⊤
IfCell (sight.Damaged name) P = ⊤

-- what holds of a next page
abbrev pub IfNextPage : Sight → (ℕ → Type 0) → Type 0
IfNextPage (sight.Cell cell) P = ⊤
IfNextPage (sight.Next next) P = P next
IfNextPage (sight.Wants name) P = ⊤
IfNextPage (sight.Damaged name) P = ⊤

-- Over a tree: the cell that is seen is the tree's, and stands on this page; or the page leads to the next one on the way
-- to it.
abbrev pub SeesOver : Params → List Body → Tree → List ℕ → ℕ → ℕ → Sight → Type 0
SeesOver params bodies tree file key page (sight.Cell cell) =
    (cell.key ≡ key) × IsTreeCell params (unescaped bodies) (level_of key) cell
    × (pages_to file tree key (chain_page tree.bits key page) ≡ 1)
SeesOver params bodies tree file key page (sight.Next next) =
    IsCellItem params bodies tree file key next
    × (pages_to file tree key (chain_page tree.bits key page) ≡ suc (pages_to file tree key (chain_page tree.bits key next)))
SeesOver params bodies tree file key page (sight.Wants name) = ⊤
SeesOver params bodies tree file key page (sight.Damaged name) = ⊥

-- the record of the key on the page that is shown, which is the first with that key
pub record HasCell (shown : Option (List ℕ)) (key : ℕ) (cell : Cell) : Type 0 where
  pub bytes : List ℕ
  pub is : shown ≡ Some bytes
  pub at : ℕ
  pub found : index_of_key key bytes ≡ Some at
  pub cell_is : cell_of (cell_record at bytes) ≡ cell

-- the page that is shown lacks the key, and has this next page
pub record HasNextPage (shown : Option (List ℕ)) (key next : ℕ) : Type 0 where
  pub bytes : List ℕ
  pub is : shown ≡ Some bytes
  pub lacks : index_of_key key bytes ≡ None
  pub next_is : page_next bytes ≡ next

abbrev pub SeesPage : Option (List ℕ) → ℕ → Sight → Type 0
SeesPage shown key (sight.Cell cell) = HasCell shown key cell
SeesPage shown key (sight.Next next) = HasNextPage shown key next
SeesPage shown key (sight.Wants name) = ⊤
SeesPage shown key (sight.Damaged name) = ⊤

abbrev pub SeesTree : Tree → (cells bodies : ℕ → Option (List ℕ)) → ℕ → ℕ → Sight → Type 0
SeesTree tree cells_shown bodies_shown key page seen =
    (files : ℕ → List ℕ) (params : Params) (bodies : List Body) → IsTreeOf tree files params bodies → Shows cells_shown bodies_shown tree files
    → IsCellItem params bodies tree (files tree.cells) key page → SeesOver params bodies tree (files tree.cells) key page seen
