-- What takes bodies with their half kicks, one after the other.
use Rattle.std.specs.Prelude.{◌≢◌, ℕ, IsTrue, List, [], ◌∷◌, ◌++◌, Result, Err, OnOk}
use Rattle.nb_host.specs.Meaning.{HostModel}
use Rattle.nb_host.specs.declared.page_name.PageName.{PageName}
use Rattle.nb_cache.specs.View.{CacheValue, seen}
use Rattle.nb_order.specs.declared.body_file.KickedBody.{KickedBody}
use Rattle.nb_force.specs.declared.force_error.ForceError.{ForceError}
use Rattle.nb_force.specs.declared.force_error.ForceError.TheVariants.{Damaged}

-- what a receiver takes at a time: a body with its half kick, and its index in Morton order, counted from 0
pub record HandedBody : Type 0 where
  pub index : ℕ
  pub kicked : KickedBody

-- The meaning of a type of receivers, over the files as a cache shows them.
pub record ReceiverModel (R : Type 0) : Type 1 where
  -- it has taken these, in this order
  pub has_taken : R → (ℕ → List ℕ) → List HandedBody → Type 0
  -- the one file of the cache that it writes
  pub file : R → ℕ
  -- what it is set to, which stays as it takes bodies
  pub Setting : Type 0
  pub setting : R → Setting
  -- it can take these bodies, in this order: none of them is refused as damage
  pub fits : R → (ℕ → List ℕ) → List KickedBody → Type 0

-- Over files that are told, a receiver takes one more behind what it had taken.
abbrev pub Takes : {H R : Type 0} → HostModel H → ReceiverModel R → HandedBody → CacheValue → H → R → CacheValue → H → R → Type 0
Takes m model given old_cache old old_self new_cache new new_self =
    IsTrue m.tells → (list : List HandedBody) → model.has_taken old_self (seen m old_cache old) list
    → model.has_taken new_self (seen m new_cache new) (list ++ given ∷ [])

-- Over files that are told, a receiver that can take this body and more takes it, and can take the others.
abbrev pub FitsRest : {H R : Type 0} → HostModel H → ReceiverModel R → KickedBody → CacheValue → H → R → CacheValue → H → R → Result (Unit {0}) ForceError → Type 0
FitsRest m model kicked old_cache old old_self new_cache new new_self result =
    IsTrue m.tells → (more : List KickedBody) → model.fits old_self (seen m old_cache old) (kicked ∷ more)
    → OnOk result (model.fits new_self (seen m new_cache new) more) × ((name : PageName) → result ≢ Err (Damaged name))
