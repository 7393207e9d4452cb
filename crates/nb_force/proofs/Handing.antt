-- One body of a tree, as it is read and handed over.
use Rattle.std.proofs.Common.{◌≡◌, ℕ, ◌+◌, ◌<◌, ◌≤◌, inl, inr, IsTrue, true, List, [], ◌∷◌, ◌++◌, length, take, Some, sym, ap, subst, ◌∙◌, arith, length-take}
use Rattle.std.specs.Prelude.{slice_get}
use Rattle.nb_host.specs.Meaning.{HostModel}
use Rattle.nb_host.specs.declared.page_name.PageName.{PageName}
use Rattle.nb_model.specs.declared.body.Body.{Body}
use Rattle.nb_model.specs.declared.body.V3.{V3}
use Rattle.nb_model.specs.declared.params.Params.{Params}
use Rattle.nb_model.specs.Leapfrog.{unescaped}
use Rattle.nb_cache.specs.View.{CacheValue, seen}
use Rattle.nb_cache.specs.Writes.{Writes}
use Rattle.nb_record.specs.declared.tree.Tree.{Tree}
use Rattle.nb_record.specs.Order.{by_key, sorted_by, HoldsBodies}
use Rattle.nb_record.specs.Tree.{IsTreeOf}
use Rattle.nb_record.proofs.Callers.{front, length-sorted_by}
use Rattle.nb_order.specs.Files.{page_of_body}
use Rattle.nb_order.specs.Refusals.{IsNoBody}
use Rattle.nb_walk.specs.Items.{in_order}
use Rattle.nb_order.specs.declared.body_file.KickedBody.{KickedBody}
use Rattle.nb_force.specs.Groups.{kicked_range, IsBrokenTree, IsKickAt, TakesRange, IsNoRange}
use Rattle.nb_force.specs.Receiver.{ReceiverModel, Takes}
use Rattle.nb_force.specs.Kicks.{kicked_bodies, kicked_of}
use Rattle.nb_force.proofs.Lists.{range_one, mapped_at}
use Rattle.nb_force.proofs.Takes.{takes_one, takes_after, no_range_after}
use Rattle.nb_force.proofs.Views.{KeepsTree, tree_before, tree_after, reads_keep, at_front, in_order_present}

front_within : (bodies : List Body) → length (unescaped bodies) ≤ length (sorted_by by_key bodies)
front_within bodies =
    let same : length (take (length (unescaped bodies)) (sorted_by by_key bodies)) ≡ length (unescaped bodies) = ap length (front bodies) ∙ length-sorted_by by_key (unescaped bodies) in
    omega (arith, same, length-take (length (unescaped bodies)) (sorted_by by_key bodies))

module _ {H : Type 0} {m : HostModel H} (params : Params) (tree : Tree) {cache : CacheValue} {host : H} (index : ℕ) (below : index < tree.count) where
  -- a body that isn't there is no tree's
  pub no_body_no_tree : {name : PageName} → IsNoBody m cache host tree.bodies index name → IsBrokenTree m params tree cache host name
  no_body_no_tree none = record {
    file = inl (ap (λ (n : PageName). n.file) none.page);
    cause = λ tells bodies of_tree.
        let few = none.listed tells (sorted_by by_key bodies) of_tree.ordered in
        absurd (omega (arith, few, front_within bodies, of_tree.count, below));
  }

  -- nor is one that has left the box
  pub escaped_no_tree : (body : Body) {name : PageName} → name ≡ page_of_body tree.bodies index → body.out ≡ true
      → (IsTrue m.tells → (bodies : List Body) → HoldsBodies (seen m cache host tree.bodies) bodies → slice_get bodies index ≡ Some body)
      → IsBrokenTree m params tree cache host name
  escaped_no_tree body page out listed = record {
    file = inl (ap (λ (n : PageName). n.file) page);
    cause = λ tells bodies of_tree.
        let at = at_front bodies index body (omega (arith, below, of_tree.count)) (listed tells (sorted_by by_key bodies) of_tree.ordered) in
        let present = in_order_present bodies index body at in
        absurd (cc);
  }

  -- one that was read, with its half kick
  pub read_kicked : {new_cache : CacheValue} {new : H} (body : Body) (kick : V3) → Writes m [] cache host new_cache new → IsKickAt m params tree cache host index kick
      → (IsTrue m.tells → (bodies : List Body) → HoldsBodies (seen m cache host tree.bodies) bodies → slice_get bodies index ≡ Some body)
      → IsTrue m.tells → (bodies : List Body) → IsTreeOf tree (seen m new_cache new) params bodies
      → kicked_range params bodies index (index + 1) ≡ record { body = body; kick = kick } ∷ []
  read_kicked body kick writes is_kick listed tells bodies of_tree =
      let before = tree_before (reads_keep tree writes) tells of_tree in
      let at = at_front bodies index body (omega (arith, below, of_tree.count)) (listed tells (sorted_by by_key bodies) before.ordered) in
      range_one index (kicked_bodies params bodies) (kicked_of params bodies body) (mapped_at (kicked_of params bodies) (in_order bodies) index body at)
      ∙ ap (λ k. record { body = body; kick = k } ∷ []) (sym (is_kick tells bodies before body at))

-- a body that was read after calls that wrote nothing
pub read_there : {H : Type 0} {m : HostModel H} (params : Params) (tree : Tree) {old_cache new_cache : CacheValue} {old new : H} (index : ℕ) → index < tree.count
    → (body : Body) → Writes m [] old_cache old new_cache new
    → (IsTrue m.tells → (bodies : List Body) → HoldsBodies (seen m new_cache new tree.bodies) bodies → slice_get bodies index ≡ Some body)
    → IsTrue m.tells → (bodies : List Body) → IsTreeOf tree (seen m old_cache old) params bodies → slice_get (in_order bodies) index ≡ Some body
read_there params tree index below body writes listed tells bodies of_tree =
    at_front bodies index body (omega (arith, below, of_tree.count))
    (listed tells (sorted_by by_key bodies) (tree_after (reads_keep tree writes) tells of_tree).ordered)

-- a half kick, after calls that left the tree's files
pub kick_after : {H : Type 0} {m : HostModel H} (params : Params) (tree : Tree) {old_cache new_cache : CacheValue} {old new : H} (index : ℕ) (kick : V3)
    → KeepsTree m tree old_cache old new_cache new → IsKickAt m params tree old_cache old index kick → IsKickAt m params tree new_cache new index kick
kick_after params tree index kick keeps is tells bodies of_tree = is tells bodies (tree_before keeps tells of_tree)

module _ {H R : Type 0} (m : HostModel H) (model : ReceiverModel R) (params : Params) (tree : Tree) (index : ℕ) (below : index < tree.count) (body : Body) (kick : V3)
    (old_cache middle_cache new_cache : CacheValue) (old middle new : H) (self new_self : R)
    (reads : Writes m [] old_cache old middle_cache middle) (is_kick : IsKickAt m params tree old_cache old index kick)
    (listed : IsTrue m.tells → (bodies : List Body) → HoldsBodies (seen m old_cache old tree.bodies) bodies → slice_get bodies index ≡ Some body) where
  abbrev kicked : KickedBody
  kicked = record { body = body; kick = kick }

  -- it is taken
  pub handed : Takes m model (record { index = index; kicked = record { body = body; kick = kick } }) middle_cache middle self new_cache new new_self
      → (IsTrue m.tells → (more : List KickedBody) → model.fits self (seen m middle_cache middle) (record { body = body; kick = kick } ∷ more) → model.fits new_self (seen m new_cache new) more)
      → TakesRange m model params tree index (index + 1) old_cache old self new_cache new new_self
  handed takes goes =
      takes_after {m = m} {model = model} {params = params} {tree = tree} {old_cache = old_cache} {middle_cache = middle_cache} {old = old} {middle = middle} reads index (index + 1)
      (takes_one {m = m} {model = model} {params = params} {tree = tree} index {kicked = kicked} {old_cache = middle_cache} {new_cache = new_cache} {old = middle} {new = new} {old_self = self} {new_self = new_self}
      (read_kicked params tree index below body kick reads is_kick listed) takes goes)

  -- or refused
  pub refused : (name : PageName) → name.file ≡ model.file self
      → (IsTrue m.tells → (more : List KickedBody) → model.fits self (seen m middle_cache middle) (record { body = body; kick = kick } ∷ more) → ⊥)
      → IsNoRange m model params tree index (index + 1) old_cache old self name
  refused name file never =
      no_range_after {m = m} {model = model} {params = params} {tree = tree} {old_cache = old_cache} {middle_cache = middle_cache} {old = old} {middle = middle} reads index (index + 1) {self = self} {name = name}
      (record {
        file = inr (inr file);
        cause = λ tells bodies of_tree more fits.
            never tells more
            (subst (λ (l : List KickedBody). model.fits self (seen m middle_cache middle) (l ++ more))
            (read_kicked params tree index below body kick reads is_kick listed tells bodies of_tree) fits);
      })
