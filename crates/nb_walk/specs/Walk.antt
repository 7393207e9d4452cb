-- A walk, and what a visit does.
use Rattle.std.specs.Prelude.{◌≡◌, ◌≢◌, ℕ, ◌+◌, ◌*◌, ◌<◌, ◌≤◌, ⊤, Bool, List, [], Option, Some, None, Result, IsOk}
use Rattle.nb_model.specs.declared.body.At.{At}
use Rattle.nb_model.specs.declared.body.V3.{V3}
use Rattle.nb_model.specs.declared.body.Body.{Body}
use Rattle.nb_model.specs.declared.params.Params.{Params}
use Rattle.nb_model.specs.Vector.{zero_vector, plus}
use Rattle.nb_model.specs.Gravity.{force_on}
use Rattle.nb_model.specs.Leapfrog.{unescaped}
use Rattle.nb_host.specs.declared.page_name.PageName.{PageName}
use Rattle.nb_record.specs.declared.tree.Tree.{Tree}
use Rattle.nb_record.specs.Tree.{IsTreeOf}
use Rattle.nb_walk.specs.declared.item.Item.{Item}
use Rattle.nb_walk.specs.declared.visit.Visit.{Visit}
use Rattle.nb_walk.specs.declared.visit.Visit.TheVariants as visit
use Rattle.nb_walk.specs.Items.{last_item, root_items, remaining_force, remaining_mass}
use Rattle.nb_walk.specs.Left.{AreItemsOf, remaining_pages}
use Rattle.nb_walk.specs.Shown.{Shows, IsAtMost, shown_for}

-- what a contract sees of a walk: its target, the pulls so far, the mass that gave them, and the items that are left
pub record WalkValue : Type 0 where
  pub target : At
  pub sum : V3
  pub taken : ℕ
  pub items : List Item

abbrev pub new_walk : At → WalkValue
new_walk target = record { target = target; sum = zero_vector; taken = 0; items = root_items }

-- The sum can have come from the mass that was taken: a pull is at most the constant of gravity times its mass. A new walk's
-- is in range, and a visit keeps it so for the same parameters.
abbrev pub IsSumInRange : Params → WalkValue → Type 0
IsSumInRange params w = IsAtMost (params.grav * w.taken) w.sum

-- no more mass was taken than this: a visit takes none beyond the tree's
abbrev pub IsWithin : ℕ → WalkValue → Type 0
IsWithin most w = w.taken ≤ most

-- The walk is on its way over the tree of these bodies: its sum and what is left are the force on its target, the mass that
-- was taken and the mass that is left are the tree's, and the items are the tree's.
pub record IsWalkOn (params : Params) (bodies : List Body) (tree : Tree) (file : List ℕ) (w : WalkValue) : Type 0 where
  pub sum : plus w.sum (remaining_force params bodies w.target w.items) ≡ force_on params w.target 0 (unescaped bodies)
  pub mass : w.taken + remaining_mass bodies w.items ≡ tree.mass
  pub items : AreItemsOf params bodies tree file w.items

-- what a visit does of what bounds the visits: it lowers it where it went on
abbrev pub Lowers : Visit → ℕ → ℕ → Type 0
Lowers visit.Moved old new = new < old
Lowers (visit.Wants name) old new = ⊤
Lowers visit.Finished old new = ⊤
Lowers (visit.Damaged name) old new = ⊤

abbrev pub IsUndamaged : Visit → Type 0
IsUndamaged visit.Moved = ⊤
IsUndamaged (visit.Wants name) = ⊤
IsUndamaged visit.Finished = ⊤
IsUndamaged (visit.Damaged name) = ⊥

-- A visit over the tree of these bodies: the walk stays on its way, finds no damage, and where it went on has fewer pages
-- left.
pub record VisitsTree (params : Params) (bodies : List Body) (tree : Tree) (file : List ℕ) (old new : WalkValue) (result : Visit) : Type 0 where
  pub on : IsWalkOn params bodies tree file new
  pub sound : IsUndamaged result
  pub fewer : Lowers result (remaining_pages file tree params.leaf bodies old.items) (remaining_pages file tree params.leaf bodies new.items)

-- ---- visits, one after the other

-- the walk waits at its last item, the page of which isn't shown
pub record IsBlocked (cells bodies : ℕ → Option (List ℕ)) (tree : Tree) (items : List Item) : Type 0 where
  pub item : Item
  pub last : last_item items ≡ Some item
  pub unseen : shown_for cells bodies tree item ≡ None

-- the page of its last item is shown
pub record CanVisit (cells bodies : ℕ → Option (List ℕ)) (tree : Tree) (items : List Item) : Type 0 where
  pub item : Item
  pub last : last_item items ≡ Some item
  pub shown : shown_for cells bodies tree item ≢ None

-- Over the tree of these bodies: the walk stays on its way, without damage, and no more pages are left than before, fewer
-- where it could go on.
pub record RunsTree (cells bodies_shown : ℕ → Option (List ℕ)) (params : Params) (bodies : List Body) (tree : Tree) (file : List ℕ) (old new : WalkValue) (result : Result Bool PageName) : Type 0 where
  pub on : IsWalkOn params bodies tree file new
  pub sound : IsOk result
  pub left : remaining_pages file tree params.leaf bodies new.items ≤ remaining_pages file tree params.leaf bodies old.items
  pub lower : unescaped bodies ≢ [] → CanVisit cells bodies_shown tree old.items
      → remaining_pages file tree params.leaf bodies new.items < remaining_pages file tree params.leaf bodies old.items

-- what holds over the files of any tree, where only their pages are shown, of a walk that is on its way
abbrev pub OnTree : Params → Tree → (cells bodies : ℕ → Option (List ℕ)) → WalkValue → (List Body → List ℕ → Type 0) → Type 0
OnTree params tree cells_shown bodies_shown w Holds =
    (files : ℕ → List ℕ) (bodies : List Body) → IsTreeOf tree files params bodies
    → Shows cells_shown bodies_shown tree files → IsWalkOn params bodies tree (files tree.cells) w → Holds bodies (files tree.cells)
