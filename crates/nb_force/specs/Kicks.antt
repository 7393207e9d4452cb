-- What a receiver is handed: the bodies of a tree with their half kicks.
use Rattle.std.specs.Prelude.{◌≡◌, ℕ, suc, ◌⊎◌, IsTrue, List, [], ◌∷◌, ◌++◌, map}
use Rattle.nb_host.specs.Meaning.{HostModel}
use Rattle.nb_host.specs.declared.page_name.PageName.{PageName}
use Rattle.nb_model.specs.declared.body.Body.{Body}
use Rattle.nb_model.specs.declared.params.Params.{Params}
use Rattle.nb_model.specs.Leapfrog.{unescaped, half_kick}
use Rattle.nb_cache.specs.View.{CacheValue, seen}
use Rattle.nb_record.specs.declared.tree.Tree.{Tree}
use Rattle.nb_record.specs.Order.{by_key, sorted_by}
use Rattle.nb_record.specs.Tree.{IsTreeOf}
use Rattle.nb_order.specs.declared.body_file.KickedBody.{KickedBody}
use Rattle.nb_force.specs.Receiver.{HandedBody, ReceiverModel}

-- a body of a list with the half kick that it gets from the list
abbrev pub kicked_of : Params → List Body → Body → KickedBody
kicked_of params bodies b = record { body = b; kick = half_kick params bodies b }

-- the unescaped bodies, in Morton order, each with its half kick
abbrev pub kicked_bodies : Params → List Body → List KickedBody
kicked_bodies params bodies = map (kicked_of params bodies) (sorted_by by_key (unescaped bodies))

-- with their indexes, from this one on
unfoldable pub indexed_from : ℕ → List KickedBody → List HandedBody
indexed_from from [] = []
indexed_from from (k ∷ ks) = record { index = from; kicked = k } ∷ indexed_from (suc from) ks

-- Over files that are told, a receiver takes each unescaped body of a tree, behind what it had taken: each once, in Morton
-- order, by its index from 0, with the half kick that it gets from all of them. Where it could take them and more, it can
-- take the others.
pub record TakesAll {H R : Type 0} (m : HostModel H) (model : ReceiverModel R) (params : Params) (tree : Tree) (old_cache : CacheValue) (old : H) (old_self : R) (new_cache : CacheValue) (new : H) (new_self : R) : Type 0 where
  pub taken : IsTrue m.tells → (bodies : List Body) → IsTreeOf tree (seen m old_cache old) params bodies
      → (list : List HandedBody) → model.has_taken old_self (seen m old_cache old) list
      → model.has_taken new_self (seen m new_cache new) (list ++ indexed_from 0 (kicked_bodies params bodies))
  pub fits : IsTrue m.tells → (bodies : List Body) → IsTreeOf tree (seen m old_cache old) params bodies
      → (more : List KickedBody) → model.fits old_self (seen m old_cache old) (kicked_bodies params bodies ++ more)
      → model.fits new_self (seen m new_cache new) more

-- The kicks can't be handed over: the page is one of the tree's two files, or of the receiver's. Over a host that tells its
-- contents the files aren't the tree's, of whichever bodies, or the receiver can't take these with their half kicks.
pub record IsNoForce {H R : Type 0} (m : HostModel H) (model : ReceiverModel R) (params : Params) (tree : Tree) (cache : CacheValue) (host : H) (self : R) (name : PageName) : Type 0 where
  pub file : (name.file ≡ tree.bodies) ⊎ ((name.file ≡ tree.cells) ⊎ (name.file ≡ model.file self))
  pub cause : IsTrue m.tells → (bodies : List Body) → IsTreeOf tree (seen m cache host) params bodies
      → (more : List KickedBody) → model.fits self (seen m cache host) (kicked_bodies params bodies ++ more) → ⊥
