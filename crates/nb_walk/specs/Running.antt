-- What an advance does of each walk, before it is said of the pool. This is of the crate's own calls.
use Rattle.std.specs.Prelude.{◌≡◌, ℕ, ◌+◌, ◌<◌, ◌≤◌, List, get_or, Option}
use Rattle.nb_model.specs.declared.params.Params.{Params}
use Rattle.nb_record.specs.declared.tree.Tree.{Tree}
use Rattle.nb_walk.specs.Left.{step_bound, remaining_pages}
use Rattle.nb_walk.specs.Walk.{WalkValue, IsSumInRange, IsWithin, IsWalkOn, OnTree}

-- a walk went on in range, whatever pages were shown
pub record KeepsWalk (params : Params) (tree : Tree) (old new : WalkValue) : Type 0 where
  pub target : new.target ≡ old.target
  pub range : IsSumInRange params new
  pub within : IsWithin tree.mass old → IsWithin tree.mass new
  pub bound : step_bound tree new.items ≤ step_bound tree old.items

-- A walk before and after some visits of its items, in any order: so many at least.
pub record HasRun (cells bodies_shown : ℕ → Option (List ℕ)) (params : Params) (tree : Tree) (looked : ℕ) (old new : WalkValue) : Type 0 where
  pub kept : KeepsWalk params tree old new
  pub bound : step_bound tree new.items + looked ≤ step_bound tree old.items
  pub over : OnTree params tree cells bodies_shown old
      (λ bodies file. IsWalkOn params bodies tree file new
      × (remaining_pages file tree params.leaf bodies new.items + looked ≤ remaining_pages file tree params.leaf bodies old.items))

-- this holds of each element of one list and that of its index in another, up to an index
abbrev pub EachAt : {A : Type 0} → (ℕ → A → A → Type 0) → ℕ → List A → List A → Type 0
EachAt {A} R until old new = (i : ℕ) (d : A) → i < until → R i (get_or old i d) (get_or new i d)

abbrev pub Each : {A : Type 0} → (A → A → Type 0) → ℕ → List A → List A → Type 0
Each R until old new = EachAt (λ i. R) until old new
