-- A pool of walks, in the order in which they were begun, and what an advance does. Of a walk's items it is said which they
-- are and not in which order they are taken, and each walk that isn't finished has one that it needs, as the pool chooses.
use Rattle.std.specs.Prelude.{◌≡◌, ◌≢◌, ℕ, ◌<◌, ◌≤◌, ◌↔◌, List, [], ◌∷◌, ◌++◌, map, sum_by, All, Contains, Option, Some, None}
use Rattle.nb_model.specs.declared.body.At.{At}
use Rattle.nb_model.specs.declared.body.V3.{V3}
use Rattle.nb_model.specs.declared.body.Body.{Body}
use Rattle.nb_model.specs.declared.params.Params.{Params}
use Rattle.nb_model.specs.Gravity.{force_on}
use Rattle.nb_model.specs.Leapfrog.{unescaped}
use Rattle.nb_model.specs.Valid.{IsInBox}
use Rattle.nb_host.specs.declared.page_name.PageName.{PageName}
use Rattle.nb_host.specs.Page.{IsRising}
use Rattle.nb_record.specs.declared.tree.Tree.{Tree}
use Rattle.nb_record.specs.Tree.{IsTreeOf}
use Rattle.nb_walk.specs.declared.item.Item.{Item}
use Rattle.nb_walk.specs.Items.{page_for}
use Rattle.nb_walk.specs.Left.{step_bound, remaining_pages}
use Rattle.nb_walk.specs.Shown.{Shows, shown_for}
use Rattle.nb_walk.specs.Page.{IsPageOf}
use Rattle.nb_walk.specs.Walk.{WalkValue, new_walk, IsSumInRange, IsWithin, IsWalkOn}

-- a walk of a pool, and the item at which it waits, as the last advance found it
pub record PooledWalk : Type 0 where
  pub walk : WalkValue
  pub needs : Option Item

-- For how many walks a pool has room, the walks, and the names of the pages that they wait for.
pub record PoolValue : Type 0 where
  pub room : ℕ
  pub walks : List PooledWalk
  pub wants : List PageName

abbrev pub unasked : WalkValue → PooledWalk
unasked walk = record { walk = walk; needs = None }

-- no walk was asked what it waits for since it was begun
abbrev pub all_unasked : List PooledWalk → List PooledWalk
all_unasked walks = map (λ w. unasked w.walk) walks

abbrev pub targets : List PooledWalk → List At
targets walks = map (λ w. w.walk.target) walks

abbrev pub sums : List PooledWalk → List V3
sums walks = map (λ w. w.walk.sum) walks

abbrev pub all_needs : List PooledWalk → List (Option Item)
all_needs walks = map (λ w. w.needs) walks

abbrev pub AreSumsInRange : Params → List PooledWalk → Type 0
AreSumsInRange params walks = All (λ w. IsSumInRange params w.walk) walks

abbrev pub AreWithin : ℕ → List PooledWalk → Type 0
AreWithin most walks = All (λ w. IsWithin most w.walk) walks

abbrev pub AreFinished : List PooledWalk → Type 0
AreFinished walks = All (λ w. w.walk.items ≡ []) walks

-- ---- after an advance

-- a walk waits at one of its items, the page of which isn't shown, or is finished
pub record IsSettled (cells bodies : ℕ → Option (List ℕ)) (tree : Tree) (w : PooledWalk) : Type 0 where
  pub own : (item : Item) → w.needs ≡ Some item → Contains w.walk.items item
  pub unseen : (item : Item) → w.needs ≡ Some item → shown_for cells bodies tree item ≡ None
  pub finished : w.needs ≡ None → w.walk.items ≡ []
  pub waits : w.walk.items ≡ [] → w.needs ≡ None

-- some walk waits
pub record SomeWaits (walks : List PooledWalk) : Type 0 where
  pub item : Item
  pub needed : Contains (all_needs walks) (Some item)

-- the page is that of an item at which a walk waits
pub record IsNeeded (tree : Tree) (walks : List PooledWalk) (name : PageName) : Type 0 where
  pub item : Item
  pub needed : Contains (all_needs walks) (Some item)
  pub page : page_for tree item ≡ name

-- The names are those of the needed pages, rising, each once.
pub record IsWanted (tree : Tree) (walks : List PooledWalk) (wants : List PageName) : Type 0 where
  pub rising : IsRising wants
  pub names : (name : PageName) → Contains wants name ↔ IsNeeded tree walks name
  pub pages : All (IsPageOf tree) wants

-- the page is shown, and is that of an item that some walk has left
pub record BlamesOne (cells bodies : ℕ → Option (List ℕ)) (tree : Tree) (walks : List WalkValue) (name : PageName) : Type 0 where
  pub walk : WalkValue
  pub there : Contains walks walk
  pub item : Item
  pub left : Contains walk.items item
  pub page : page_for tree item ≡ name
  pub shown : shown_for cells bodies tree item ≢ None

-- ---- what bounds the rounds

abbrev pub pool_bound : Tree → List PooledWalk → ℕ
pool_bound tree walks = sum_by (λ w. step_bound tree w.walk.items) walks

abbrev pub pool_pages : List ℕ → Tree → ℕ → List Body → List PooledWalk → ℕ
pool_pages file tree leaf bodies walks = sum_by (λ w. remaining_pages file tree leaf bodies w.walk.items) walks

-- an item at which a walk waits is shown now
pub record CanGoOn (cells bodies : ℕ → Option (List ℕ)) (tree : Tree) (walks : List PooledWalk) : Type 0 where
  pub item : Item
  pub needed : Contains (all_needs walks) (Some item)
  pub shown : shown_for cells bodies tree item ≢ None

-- ---- over a tree

abbrev pub AreOn : Params → List Body → Tree → List ℕ → List PooledWalk → Type 0
AreOn params bodies tree file walks = All (λ w. IsWalkOn params bodies tree file w.walk) walks

-- An advance over the tree of these bodies: each walk stays on its way, and no more pages are left than before, fewer where a
-- walk can go on. A tree without unescaped bodies has no pages.
pub record IsAdvanced (cells_shown bodies_shown : ℕ → Option (List ℕ)) (params : Params) (bodies : List Body) (tree : Tree) (file : List ℕ) (old new : List PooledWalk) : Type 0 where
  pub walks : AreOn params bodies tree file new
  pub left : pool_pages file tree params.leaf bodies new ≤ pool_pages file tree params.leaf bodies old
  pub lower : unescaped bodies ≢ [] → CanGoOn cells_shown bodies_shown tree old → pool_pages file tree params.leaf bodies new < pool_pages file tree params.leaf bodies old

-- what holds over the files of any tree, where only their pages are shown, of walks that are on their way
abbrev pub PoolOnTree : Params → Tree → (cells bodies : ℕ → Option (List ℕ)) → List PooledWalk → (List Body → List ℕ → Type 0) → Type 0
PoolOnTree params tree cells_shown bodies_shown walks Holds =
    (files : ℕ → List ℕ) (bodies : List Body) → IsTreeOf tree files params bodies
    → Shows cells_shown bodies_shown tree files → AreOn params bodies tree (files tree.cells) walks → Holds bodies (files tree.cells)

-- the walks of a pool after a walk more was begun
abbrev pub with_walk : At → List PooledWalk → List PooledWalk
with_walk target walks = all_unasked walks ++ unasked (new_walk target) ∷ []

-- The walks after some calls of `begin` and `advance` over the tree of these bodies, in any order, with any lenders that show
-- only pages of its files.
pub data Called (params : Params) (bodies : List Body) (tree : Tree) (files : ℕ → List ℕ) : List PooledWalk → Type 0 where
  New : Called params bodies tree files []
  Begun : (target : At) (walks : List PooledWalk) → IsInBox target → Called params bodies tree files walks → Called params bodies tree files (with_walk target walks)
  Advanced : (cells_shown bodies_shown : ℕ → Option (List ℕ)) (old new : List PooledWalk) → Shows cells_shown bodies_shown tree files
      → (AreOn params bodies tree (files tree.cells) old → IsAdvanced cells_shown bodies_shown params bodies tree (files tree.cells) old new)
      → Called params bodies tree files old → Called params bodies tree files new

-- the sum of each walk is the force on its target
abbrev pub HaveForces : Params → List Body → List PooledWalk → Type 0
HaveForces params bodies walks = sums walks ≡ map (λ p. force_on params p 0 (unescaped bodies)) (targets walks)
