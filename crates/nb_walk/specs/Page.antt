-- Pages that walks name.
use Rattle.std.specs.Prelude.{◌≡◌, ◌≢◌, ℕ, ◌^◌, ◌<◌, ◌⊎◌, List, Option, None}
use Rattle.nb_host.specs.declared.page_name.PageName.{PageName}
use Rattle.nb_record.specs.declared.tree.Tree.{Tree}

-- a page of one of the tree's two files, and below the number of pages that a file may have
pub record IsPageOf (tree : Tree) (name : PageName) : Type 0 where
  pub file : (name.file ≡ tree.cells) ⊎ (name.file ≡ tree.bodies)
  pub page : name.page < 2 ^ 48

-- what a lender shows once the page with this name was fetched, of whichever of the tree's files it is
pub record IsShown (cells bodies : ℕ → Option (List ℕ)) (tree : Tree) (name : PageName) : Type 0 where
  pub as_cells : name.file ≡ tree.cells → cells name.page ≢ None
  pub as_bodies : name.file ≡ tree.bodies → bodies name.page ≢ None
