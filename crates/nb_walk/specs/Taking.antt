-- What a visit takes of the terms that are to come. This is of the crate's own calls.
use Rattle.std.specs.Prelude.{◌≡◌, ℕ, ◌+◌, ◌-◌, ◌<◌, ⊤, List, ◌++◌, take, drop, sum_by, Option}
use Rattle.nb_model.specs.declared.body.Body.{Body}
use Rattle.nb_model.specs.declared.params.Params.{Params}
use Rattle.nb_model.specs.Vector.{plus}
use Rattle.nb_record.specs.declared.tree.Tree.{Tree}
use Rattle.nb_record.specs.Records.{bodies_of}
use Rattle.nb_record.specs.Tree.{IsTreeOf}
use Rattle.nb_walk.specs.declared.item.Item.{Item}
use Rattle.nb_walk.specs.declared.tally.Tally.{Tally}
use Rattle.nb_walk.specs.declared.term.Term.{Term}
use Rattle.nb_walk.specs.declared.visit.Visit.{Visit}
use Rattle.nb_walk.specs.declared.visit.Visit.TheVariants as visit
use Rattle.nb_walk.specs.Angle.{by_angle}
use Rattle.nb_walk.specs.Terms.{body_terms, term_mass, pulls}
use Rattle.nb_walk.specs.Items.{remaining_terms, remaining_mass}
use Rattle.nb_walk.specs.Left.{AreItemsOf, remaining_pages}
use Rattle.nb_walk.specs.Shown.{Shows}

-- these terms were added
pub record Adds (params : Params) (terms : List Term) (old new : Tally) : Type 0 where
  pub target : new.target ≡ old.target
  pub key : new.key ≡ old.key
  pub sum : new.sum ≡ plus old.sum (pulls params old.target terms)
  pub taken : new.taken ≡ old.taken + sum_by term_mass terms

-- the terms of the bodies of a page from an index on, up to another
abbrev pub page_terms : List ℕ → ℕ → ℕ → List Term
page_terms bytes from end = body_terms (take (end - from) (drop from (bodies_of bytes)))

-- Over a tree, the terms that were added and those of the new items are those of the old, and fewer pages are left.
pub record TakesAlong (params : Params) (bodies : List Body) (tree : Tree) (file : List ℕ) (old new : List Item) (from to : Tally) : Type 0 where
  pub terms : List Term
  pub added : Adds params terms from to
  pub items : AreItemsOf params bodies tree file new
  pub along : remaining_terms (λ key mass centre. by_angle params from.target key centre) params.leaf bodies old
      ≡ terms ++ remaining_terms (λ key mass centre. by_angle params from.target key centre) params.leaf bodies new
  pub fewer : remaining_pages file tree params.leaf bodies new < remaining_pages file tree params.leaf bodies old

-- A visit over a tree either goes on, waits, or finds that more would be taken than the tree has.
abbrev pub TakesOver : Params → List Body → Tree → List ℕ → List Item → List Item → Tally → Tally → Visit → Type 0
TakesOver params bodies tree file old new from to visit.Moved = TakesAlong params bodies tree file old new from to
TakesOver params bodies tree file old new from to (visit.Wants name) = ⊤
TakesOver params bodies tree file old new from to visit.Finished = ⊥
TakesOver params bodies tree file old new from to (visit.Damaged name) = tree.mass < from.taken + remaining_mass bodies old

abbrev pub TakesTree : Params → Tree → (cells bodies : ℕ → Option (List ℕ)) → List Item → List Item → Tally → Tally → Visit → Type 0
TakesTree params tree cells_shown bodies_shown old new from to result =
    (files : ℕ → List ℕ) (bodies : List Body) → IsTreeOf tree files params bodies → Shows cells_shown bodies_shown tree files
    → AreItemsOf params bodies tree (files tree.cells) old → TakesOver params bodies tree (files tree.cells) old new from to result
