-- What the force phase does for the bodies of one pool. This crate's own.
use Rattle.std.specs.Prelude.{◌≡◌, ℕ, ◌+◌, ◌-◌, ◌⊎◌, IsTrue, List, ◌++◌, take, drop, slice_get, Some}
use Rattle.nb_host.specs.Meaning.{HostModel}
use Rattle.nb_host.specs.declared.page_name.PageName.{PageName}
use Rattle.nb_model.specs.declared.body.At.{At}
use Rattle.nb_model.specs.declared.body.Body.{Body}
use Rattle.nb_model.specs.declared.body.V3.{V3}
use Rattle.nb_model.specs.declared.params.Params.{Params}
use Rattle.nb_model.specs.Leapfrog.{half_kick}
use Rattle.nb_cache.specs.View.{CacheValue, seen}
use Rattle.nb_record.specs.declared.tree.Tree.{Tree}
use Rattle.nb_record.specs.Tree.{IsTreeOf}
use Rattle.nb_walk.specs.Items.{in_order}
use Rattle.nb_walk.specs.Pool.{PooledWalk, targets, sums, AreSumsInRange, AreWithin, AreOn}
use Rattle.nb_order.specs.declared.body_file.KickedBody.{KickedBody}
use Rattle.nb_force.specs.Receiver.{HandedBody, ReceiverModel}
use Rattle.nb_force.specs.Kicks.{kicked_bodies, indexed_from}

-- those of a list from an index on up to another
abbrev pub range_of : {X : Type 0} → ℕ → ℕ → List X → List X
range_of from end xs = take (end - from) (drop from xs)

-- the unescaped bodies from an index on up to another, in Morton order, each with its half kick
abbrev pub kicked_range : Params → List Body → ℕ → ℕ → List KickedBody
kicked_range params bodies from end = range_of from end (kicked_bodies params bodies)

-- a receiver takes these, and no others
pub record TakesRange {H R : Type 0} (m : HostModel H) (model : ReceiverModel R) (params : Params) (tree : Tree) (from end : ℕ) (old_cache : CacheValue) (old : H) (old_self : R) (new_cache : CacheValue) (new : H) (new_self : R) : Type 0 where
  pub taken : IsTrue m.tells → (bodies : List Body) → IsTreeOf tree (seen m old_cache old) params bodies
      → (list : List HandedBody) → model.has_taken old_self (seen m old_cache old) list
      → model.has_taken new_self (seen m new_cache new) (list ++ indexed_from from (kicked_range params bodies from end))
  pub fits : IsTrue m.tells → (bodies : List Body) → IsTreeOf tree (seen m old_cache old) params bodies
      → (more : List KickedBody) → model.fits old_self (seen m old_cache old) (kicked_range params bodies from end ++ more)
      → model.fits new_self (seen m new_cache new) more

-- it can't take these
pub record IsNoRange {H R : Type 0} (m : HostModel H) (model : ReceiverModel R) (params : Params) (tree : Tree) (from end : ℕ) (cache : CacheValue) (host : H) (self : R) (name : PageName) : Type 0 where
  pub file : (name.file ≡ tree.bodies) ⊎ ((name.file ≡ tree.cells) ⊎ (name.file ≡ model.file self))
  pub cause : IsTrue m.tells → (bodies : List Body) → IsTreeOf tree (seen m cache host) params bodies
      → (more : List KickedBody) → model.fits self (seen m cache host) (kicked_range params bodies from end ++ more) → ⊥

-- the page is one of the tree's two files, and over a host that tells its contents they aren't the tree's
pub record IsBrokenTree {H : Type 0} (m : HostModel H) (params : Params) (tree : Tree) (cache : CacheValue) (host : H) (name : PageName) : Type 0 where
  pub file : (name.file ≡ tree.bodies) ⊎ (name.file ≡ tree.cells)
  pub cause : IsTrue m.tells → (bodies : List Body) → IsTreeOf tree (seen m cache host) params bodies → ⊥

-- ---- the walks of one pool

-- walks as a pool begins them, over whichever tree
pub record AreBegun (walks : List PooledWalk) : Type 0 where
  pub range : (params : Params) → AreSumsInRange params walks
  pub within : (most : ℕ) → AreWithin most walks
  pub on : (params : Params) (bodies : List Body) (tree : Tree) (files : ℕ → List ℕ) → IsTreeOf tree files params bodies
      → AreOn params bodies tree (files tree.cells) walks

-- the walks go to the bodies of a tree from an index on
abbrev pub GoTo : List Body → ℕ → List PooledWalk → Type 0
GoTo bodies from walks = (i : ℕ) (target : At) → slice_get (targets walks) i ≡ Some target
    → (body : Body) → slice_get (in_order bodies) (from + i) ≡ Some body → target ≡ body.at

-- over files that are told, this is the half kick of the body of a tree with this index
abbrev pub IsKickAt : {H : Type 0} → HostModel H → Params → Tree → CacheValue → H → ℕ → V3 → Type 0
IsKickAt m params tree cache host index kick =
    IsTrue m.tells → (bodies : List Body) → IsTreeOf tree (seen m cache host) params bodies
    → (body : Body) → slice_get (in_order bodies) index ≡ Some body → kick ≡ half_kick params bodies body

-- so are the sums of the walks, from an index on
abbrev pub AreKicksFrom : {H : Type 0} → HostModel H → Params → Tree → CacheValue → H → ℕ → List PooledWalk → Type 0
AreKicksFrom m params tree cache host from walks =
    (i : ℕ) (kick : V3) → slice_get (sums walks) i ≡ Some kick → IsKickAt m params tree cache host (from + i) kick
