-- Rounds over a tree's files.
use Rattle.std.proofs.Common.{ℕ, ◌≤◌, inl, inr, IsTrue, IsOk, Bool, List, [], Result, length, sym, subst, ◌∙◌, arith}
use Rattle.std.specs.Prelude.{All, Contains}
use Rattle.std.proofs.lemmas.List.Elements.{All-contains, All-weaker}
use Rattle.nb_host.specs.Image.{Image}
use Rattle.nb_host.specs.Meaning.{HostModel}
use Rattle.nb_host.specs.Page.{HasPage}
use Rattle.nb_host.specs.declared.page_name.PageName.{PageName}
use Rattle.nb_model.specs.declared.body.Body.{Body}
use Rattle.nb_model.specs.declared.params.Params.{Params}
use Rattle.nb_cache.specs.InStep.{IsCachedFile, IsCacheable, IsCoherent}
use Rattle.nb_cache.specs.View.{CacheValue, seen, view_of, IsWhole}
use Rattle.nb_cache.specs.Writes.{Writes}
use Rattle.nb_record.specs.declared.tree.Tree.{Tree}
use Rattle.nb_record.specs.Tree.{IsTreeOf}
use Rattle.nb_walk.specs.Page.{IsPageOf}
use Rattle.nb_walk.specs.Pool.{PoolValue, PooledWalk, AreOn, IsWanted, SomeWaits}
use Rattle.nb_walk.proofs.Callers.{some_wanted, wanted_pages}
use Rattle.nb_force.specs.Groups.{IsBrokenTree}
use Rattle.nb_force.specs.Rounds.{shown_of, KeepsWalks, HasPaused}
use Rattle.nb_force.proofs.Views.{tree_after, reads_keep}

pub pages_cacheable : (tree : Tree) (wants : List PageName) → IsCachedFile tree.bodies → IsCachedFile tree.cells → All (IsPageOf tree) wants → All IsCacheable wants
pages_cacheable tree wants bodies cells pages =
    All-weaker (IsPageOf tree) IsCacheable
    (λ name is. record {
      file = elim is.file [ inl of_cells ↦ subst IsCachedFile (sym of_cells) cells | inr of_bodies ↦ subst IsCachedFile (sym of_bodies) bodies ];
      page = is.page;
    }) wants pages

pub some_wants : (tree : Tree) (walks : List PooledWalk) (wants : List PageName) → SomeWaits walks → IsWanted tree walks wants → 1 ≤ length wants
some_wants tree walks wants some wanted =
    let below = (some_wanted tree walks wants some wanted).1.1 in
    omega (arith, below)

pub keeps_then : {params : Params} {tree : Tree} {old middle new : PoolValue} → KeepsWalks params tree old middle → KeepsWalks params tree middle new → KeepsWalks params tree old new
keeps_then one two = record {
  room = two.room ∙ one.room;
  targets = two.targets ∙ one.targets;
  range = two.range;
  within = λ within. two.within (one.within within);
}

module _ {H : Type 0} {m : HostModel H} (params : Params) (tree : Tree) (old_cache new_cache : CacheValue) (old new : H) (writes : Writes m [] old_cache old new_cache new) where
  -- walks on their way over the files as they were are so over the files as they are
  on_now : (walks : List PooledWalk) (bodies : List Body) → IsTrue m.tells → AreOn params bodies tree (seen m old_cache old tree.cells) walks
      → AreOn params bodies tree (seen m new_cache new tree.cells) walks
  on_now walks bodies tells on = subst (λ (f : List ℕ). AreOn params bodies tree f walks) (sym ((reads_keep tree writes).cells tells)) on

  -- and go on
  pub advance_on : (before after : List PooledWalk) {T E : Type 0} (result : Result T E)
      → ((image : Image) (bodies : List Body) → IsCoherent new_cache image → IsTreeOf tree (view_of new_cache image) params bodies
      → AreOn params bodies tree (view_of new_cache image tree.cells) before → IsOk result × AreOn params bodies tree (view_of new_cache image tree.cells) after)
      → IsTrue m.tells → (bodies : List Body) → IsTreeOf tree (seen m old_cache old) params bodies → AreOn params bodies tree (seen m old_cache old tree.cells) before
      → IsOk result × AreOn params bodies tree (seen m old_cache old tree.cells) after
  advance_on before after result all tells bodies of_tree on =
      let there = all (m.contents new) bodies (writes.in_step tells) (tree_after (reads_keep tree writes) tells of_tree) (on_now before bodies tells on) in
      (there.0, subst (λ (f : List ℕ). AreOn params bodies tree f after) ((reads_keep tree writes).cells tells) there.1)

  -- a wanted page that isn't whole is no tree's
  pub fetch_no_tree : (pool : PoolValue) (done : Bool) (name : PageName) → HasPaused new_cache tree pool done
      → (IsTrue m.tells → (bodies : List Body) → IsTreeOf tree (seen m old_cache old) params bodies → AreOn params bodies tree (seen m old_cache old tree.cells) pool.walks)
      → Contains pool.wants name → (IsTrue m.tells → ¬ IsWhole new_cache (m.contents new) name) → IsBrokenTree m params tree old_cache old name
  fetch_no_tree pool done name paused on named short = record {
    file = elim (All-contains (IsPageOf tree) pool.wants name paused.wants.pages named).file [ inl of_cells ↦ inr of_cells | inr of_bodies ↦ inl of_bodies ];
    cause = λ tells bodies of_tree.
        let view = seen m new_cache new in
        let whole = wanted_pages (shown_of new_cache tree.cells) (shown_of new_cache tree.bodies) params bodies tree view pool.walks pool.wants
        (tree_after (reads_keep tree writes) tells of_tree) (on_now pool.walks bodies tells (on tells bodies of_tree)) paused.settled paused.wants in
        short tells (All-contains (λ (n : PageName). HasPage (view n.file) n.page) pool.wants name whole named);
  }
