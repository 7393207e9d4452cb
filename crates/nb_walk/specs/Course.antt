-- What a step of a course does.
use Rattle.std.specs.Prelude.{◌≡◌, ℕ, ◌<◌, ◌≤◌, ⊤, List, [], ◌∷◌, Option}
use Rattle.nb_model.specs.declared.body.At.{At}
use Rattle.nb_model.specs.declared.body.Body.{Body}
use Rattle.nb_model.specs.declared.params.Params.{Params}
use Rattle.nb_model.specs.Valid.{IsInBox, IsValidBody}
use Rattle.nb_record.specs.declared.tree.Tree.{Tree}
use Rattle.nb_record.specs.Tree.{IsTreeOf}
use Rattle.nb_walk.specs.declared.item.Item.{Item}
use Rattle.nb_walk.specs.declared.step.Step.{Step}
use Rattle.nb_walk.specs.declared.step.Step.TheVariants as step
use Rattle.nb_walk.specs.declared.term.Term.{Term}
use Rattle.nb_walk.specs.declared.term.Term.TheVariants as term
use Rattle.nb_walk.specs.Terms.{Acceptance}
use Rattle.nb_walk.specs.Items.{remaining_terms}
use Rattle.nb_walk.specs.Left.{AreItemsOf, remaining_steps}
use Rattle.nb_walk.specs.Shown.{Shows}

-- what a contract sees of a course: its opening, its target, and the items that are left, the next one last
pub record CourseValue (Opening : Type 0) : Type 0 where
  pub opening : Opening
  pub target : At
  pub items : List Item

-- the step handed out a term, or moved on, and lowered what bounds the steps
abbrev pub IsMove : Step → Type 0
IsMove (step.Term term) = ⊤
IsMove step.Moved = ⊤
IsMove (step.Wants name) = ⊥
IsMove step.Finished = ⊥
IsMove (step.Damaged name) = ⊥

-- the step waits, or had nothing to do, and left the course as it was
abbrev pub IsStill : Step → Type 0
IsStill (step.Term term) = ⊥
IsStill step.Moved = ⊥
IsStill (step.Wants name) = ⊤
IsStill step.Finished = ⊤
IsStill (step.Damaged name) = ⊥

-- a term that is handed out has its numbers in their ranges
abbrev pub IsTermInRange : Step → Type 0
IsTermInRange (step.Term (term.Cell mass centre)) = (1 ≤ mass) × IsInBox centre
IsTermInRange (step.Term (term.Body b)) = IsValidBody b
IsTermInRange step.Moved = ⊤
IsTermInRange (step.Wants name) = ⊤
IsTermInRange step.Finished = ⊤
IsTermInRange (step.Damaged name) = ⊤

-- What a step does of the terms that are to come: it hands out the first, or none. Each Term or Moved lowers what is to be
-- done, a finished course has no terms to come, and over a tree no step finds damage.
abbrev pub TakesStep : (List Item → List Term) → (List Item → ℕ) → List Item → List Item → Step → Type 0
TakesStep terms steps old new (step.Term term) = (terms old ≡ term ∷ terms new) × (steps new < steps old)
TakesStep terms steps old new step.Moved = (terms old ≡ terms new) × (steps new < steps old)
TakesStep terms steps old new (step.Wants name) = new ≡ old
TakesStep terms steps old new step.Finished = (terms old ≡ []) × (new ≡ old)
TakesStep terms steps old new (step.Damaged name) = ⊥

-- Over the tree of these bodies, where only pages of its files are shown, a course goes along the interaction list.
pub record StepsAlong (accepts : Acceptance) (params : Params) (tree : Tree) (files : ℕ → List ℕ) (bodies : List Body) (old new : List Item) (result : Step) : Type 0 where
  pub items : AreItemsOf params bodies tree (files tree.cells) new
  pub terms : TakesStep (remaining_terms accepts params.leaf bodies) (remaining_steps (files tree.cells) tree params.leaf bodies) old new result

abbrev pub OverTree : Acceptance → Params → Tree → (cells bodies : ℕ → Option (List ℕ)) → List Item → List Item → Step → Type 0
OverTree accepts params tree cells_shown bodies_shown old new result =
    (files : ℕ → List ℕ) (bodies : List Body) → IsTreeOf tree files params bodies → Shows cells_shown bodies_shown tree files
    → AreItemsOf params bodies tree (files tree.cells) old → StepsAlong accepts params tree files bodies old new result
