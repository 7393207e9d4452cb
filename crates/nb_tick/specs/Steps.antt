-- What becomes of the bodies of a slot within a tick. This crate's own.
use Rattle.std.specs.Prelude.{◌≡◌, ℕ, ◌*◌, ◌<◌, Bool, true, IsTrue, if◌then◌else◌, List, ◌∷◌, [], map, length, slice_get, Some, All, Contains}
use Rattle.nb_host.specs.Meaning.{HostModel}
use Rattle.nb_host.specs.declared.page_name.PageName.{PageName}
use Rattle.nb_model.specs.declared.body.Body.{Body}
use Rattle.nb_model.specs.declared.params.Params.{Params}
use Rattle.nb_model.specs.declared.way.Way.{Way}
use Rattle.nb_model.specs.Limits.{gm_limit, kick_limit}
use Rattle.nb_model.specs.Octree.{total_mass}
use Rattle.nb_model.specs.Valid.{IsBelow, IsValidBodies, IsDriftedBody}
use Rattle.nb_model.specs.Vector.{zero_vector}
use Rattle.nb_model.specs.Leapfrog.{accelerate, drift_body, half_kick}
use Rattle.nb_cache.specs.View.{CacheValue, seen}
use Rattle.nb_order.specs.declared.body_file.KickedBody.{KickedBody}
use Rattle.nb_record.specs.declared.tree.Tree.{Tree}
use Rattle.nb_record.specs.declared.sizes.TheConstants.{CELL_SIZE}
use Rattle.nb_record.specs.Order.{by_key, sorted_by, record_of, HaveDifferentIds, HoldsBodies}
use Rattle.nb_record.specs.Records.{kick_of}
use Rattle.nb_record.specs.Tree.{IsTreeOf}
use Rattle.nb_record.specs.Writing.{IsZeroPaddedFile}
use Rattle.nb_tick.specs.Slots.{drifted_file, sorted_file, cell_file}
use Rattle.nb_tick.specs.State.{HoldsState, HoldsKickedState}

abbrev pub without_kicks : List KickedBody → List Body
without_kicks list = map (λ k. k.body) list

-- the file holds these bodies, in this order, each with its kick
pub record HoldsList (file : List ℕ) (list : List KickedBody) : Type 0 where
  pub bodies : HoldsBodies file (without_kicks list)
  pub kicks : (j : ℕ) (k : KickedBody) → slice_get list j ≡ Some k → kick_of (record_of file j) ≡ k.kick

-- a body with the half kick that it gets from a list
abbrev pub half_kicked : Params → List Body → Body → KickedBody
half_kicked params bodies b = record { body = b; kick = half_kick params bodies b }

-- the bodies in Morton order, each with the half kick that it gets from all of them
abbrev pub in_morton_order : Params → List Body → List KickedBody
in_morton_order params bodies = map (half_kicked params bodies) (sorted_by by_key bodies)

-- A body after its half kick and its drift. No kick is kept of it: the next one is found where it is now. One that is out
-- stays as it is, whatever kick its record has.
abbrev pub drifted_one : Params → Way → KickedBody → KickedBody
drifted_one params way k =
    record { body = drift_body params way (if k.body.out then k.body else accelerate way k.kick k.body); kick = zero_vector }

-- a body after its second half kick, which it keeps
abbrev pub kicked_one : Way → KickedBody → KickedBody
kicked_one way k = record { body = accelerate way k.kick k.body; kick = k.kick }

-- a body as it is, without a kick
abbrev pub resting_one : KickedBody → KickedBody
resting_one k = record { body = k.body; kick = zero_vector }

-- ---- the two halves of a tick

-- The drifted bodies of a slot: each in Morton order, after some kick and its drift. The kicks are the half kicks, unless
-- they are said to be known and the slot has others.
pub record IsDrifted (params : Params) (way : Way) (known : Bool) (bodies : List Body) (slot drifted : List ℕ) : Type 0 where
  pub list : List KickedBody
  pub bodies_are : without_kicks list ≡ sorted_by by_key bodies
  pub range : All (λ k. IsBelow kick_limit k.kick) list
  pub holds : HoldsList drifted (map (drifted_one params way) list)
  pub right : (known ≡ true → HoldsKickedState params bodies slot) → list ≡ in_morton_order params bodies

-- The bodies of a slot can't be drifted: the page is one of these files. Over files that are told the slot doesn't hold so
-- many valid bodies in Morton order.
pub record CantDrift {H : Type 0} (m : HostModel H) (params : Params) (files : List ℕ) (from count : ℕ) (cache : CacheValue) (host : H) (name : PageName) : Type 0 where
  pub file : Contains files name.file
  pub cause : IsTrue m.tells → (bodies : List Body) → IsValidBodies params bodies → length bodies ≡ count
      → HoldsState bodies (seen m cache host from) → ⊥

-- The bodies of a tree can't be kicked: the page is one of these files. Over files that are told they aren't the tree's, of
-- whichever so many bodies that a drift may leave.
pub record CantKick {H : Type 0} (m : HostModel H) (params : Params) (files : List ℕ) (tree : Tree) (count : ℕ) (cache : CacheValue) (host : H) (name : PageName) : Type 0 where
  pub file : Contains files name.file
  pub cause : IsTrue m.tells → (bodies : List Body) → IsTreeOf tree (seen m cache host) params bodies → length bodies ≡ count
      → All IsDriftedBody bodies → ⊥

-- Where a file held these drifted bodies, as many, with different ids, the tree is theirs, and each page of its cells has zeros
-- behind its last one.
abbrev pub HasTreeOf : Params → ℕ → List ℕ → (ℕ → List ℕ) → Tree → Type 0
HasTreeOf params count drifted now tree =
    (moved : List Body) → HoldsBodies drifted moved → length moved ≡ count → HaveDifferentIds moved
    → IsTreeOf tree now params moved × IsZeroPaddedFile CELL_SIZE (now tree.cells)

-- The drifted bodies can't be sorted, or have no tree: the page is one of these files. Over files that are told they aren't so
-- many with different ids, or are too heavy.
pub record CantSort {H : Type 0} (m : HostModel H) (params : Params) (count : ℕ) (cache : CacheValue) (host : H) (name : PageName) : Type 0 where
  pub file : Contains (drifted_file ∷ sorted_file ∷ cell_file ∷ []) name.file
  pub cause : IsTrue m.tells → (moved : List Body) → HoldsBodies (seen m cache host drifted_file) moved → length moved ≡ count
      → HaveDifferentIds moved → params.grav * total_mass moved < gm_limit → ⊥
