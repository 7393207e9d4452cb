-- What a walk takes of a part of its items, whatever the others are. This is of the crate's own calls.
use Rattle.std.specs.Prelude.{◌≡◌, ℕ, ◌+◌, ◌*◌, ◌≤◌, List, ◌++◌, Option}
use Rattle.nb_model.specs.declared.body.Body.{Body}
use Rattle.nb_model.specs.declared.params.Params.{Params}
use Rattle.nb_model.specs.Valid.{IsInBox}
use Rattle.nb_key.specs.Morton.{morton_key}
use Rattle.nb_record.specs.declared.tree.Tree.{Tree}
use Rattle.nb_record.specs.Tree.{IsTreeOf}
use Rattle.nb_walk.specs.declared.item.Item.{Item}
use Rattle.nb_walk.specs.declared.tally.Tally.{Tally}
use Rattle.nb_walk.specs.declared.term.Term.{Term}
use Rattle.nb_walk.specs.Angle.{by_angle}
use Rattle.nb_walk.specs.Items.{remaining_terms, remaining_mass}
use Rattle.nb_walk.specs.Left.{AreItemsOf, remaining_pages, step_bound}
use Rattle.nb_walk.specs.Shown.{Shows, IsAtMost}
use Rattle.nb_walk.specs.Taking.{Adds}

-- a tally as calls ask for it under these parameters
pub record IsTally (params : Params) (a : Tally) : Type 0 where
  pub target : IsInBox a.target
  pub key : a.key ≡ morton_key a.target
  pub range : IsAtMost (params.grav * a.taken) a.sum

-- a tally went on in range
pub record KeepsTally (params : Params) (most : ℕ) (a b : Tally) : Type 0 where
  pub target : b.target ≡ a.target
  pub key : b.key ≡ a.key
  pub range : IsAtMost (params.grav * b.taken) b.sum
  pub within : a.taken ≤ most → b.taken ≤ most

-- Over a tree, these terms were added, which with those of the new items are those of the old; and so many pages were looked
-- at, or more.
pub record TakesTerms (params : Params) (bodies : List Body) (tree : Tree) (file : List ℕ) (looked : ℕ) (old new : List Item) (a b : Tally) : Type 0 where
  pub terms : List Term
  pub added : Adds params terms a b
  pub items : AreItemsOf params bodies tree file new
  pub along : remaining_terms (λ key mass centre. by_angle params a.target key centre) params.leaf bodies old
      ≡ terms ++ remaining_terms (λ key mass centre. by_angle params a.target key centre) params.leaf bodies new
  pub fewer : remaining_pages file tree params.leaf bodies new + looked ≤ remaining_pages file tree params.leaf bodies old

-- what holds over the files of any tree, where only their pages are shown, of items that are the tree's and weigh no more than
-- is left of it
abbrev pub OnPart : Params → Tree → (cells bodies : ℕ → Option (List ℕ)) → List Item → Tally → (List Body → List ℕ → Type 0) → Type 0
OnPart params tree cells_shown bodies_shown items a Holds =
    (files : ℕ → List ℕ) (bodies : List Body) → IsTreeOf tree files params bodies → Shows cells_shown bodies_shown tree files
    → AreItemsOf params bodies tree (files tree.cells) items → a.taken + remaining_mass bodies items ≤ tree.mass → Holds bodies (files tree.cells)

-- A part of a walk's items gave way to others: so many pages were looked at, or more.
pub record TakesPart (cells bodies_shown : ℕ → Option (List ℕ)) (params : Params) (tree : Tree) (looked : ℕ) (old new : List Item) (a b : Tally) : Type 0 where
  pub kept : KeepsTally params tree.mass a b
  pub bound : step_bound tree new + looked ≤ step_bound tree old
  pub over : OnPart params tree cells bodies_shown old a (λ bodies file. TakesTerms params bodies tree file looked old new a b)
