-- What a receiver takes of a tree's bodies, range after range.
use Rattle.std.proofs.Common.{◌≡◌, ℕ, ◌+◌, ◌-◌, ◌≤◌, inl, inr, IsTrue, List, [], ◌∷◌, ◌++◌, length, sym, ap, subst, ◌∙◌, arith, append-nil, append_assoc}
use Rattle.nb_host.specs.Meaning.{HostModel}
use Rattle.nb_host.specs.declared.page_name.PageName.{PageName}
use Rattle.nb_model.specs.declared.body.Body.{Body}
use Rattle.nb_model.specs.declared.params.Params.{Params}
use Rattle.nb_cache.specs.View.{CacheValue, seen}
use Rattle.nb_cache.specs.Writes.{Writes}
use Rattle.nb_record.specs.declared.tree.Tree.{Tree}
use Rattle.nb_record.specs.Tree.{IsTreeOf}
use Rattle.nb_order.specs.declared.body_file.KickedBody.{KickedBody}
use Rattle.nb_force.specs.Groups.{kicked_range, TakesRange, IsNoRange, IsBrokenTree}
use Rattle.nb_force.specs.Kicks.{kicked_bodies, indexed_from, TakesAll, IsNoForce}
use Rattle.nb_force.specs.Receiver.{ReceiverModel, Takes}
use Rattle.nb_force.proofs.Lists.{range_none, range_split, range_all, length-range, indexed_append, indexed_one, indexed_none}
use Rattle.nb_force.proofs.Views.{KeepsTree, tree_after, reads_keep, same_seen, length-kicked}

-- behind calls that write nothing
pub no_tree_after : {H : Type 0} {m : HostModel H} {params : Params} {tree : Tree} {old_cache middle_cache : CacheValue} {old middle : H} {name : PageName}
    → Writes m [] old_cache old middle_cache middle → IsBrokenTree m params tree middle_cache middle name → IsBrokenTree m params tree old_cache old name
no_tree_after {tree = tree} writes none = record {
  file = none.file;
  cause = λ tells bodies of_tree. none.cause tells bodies (tree_after (reads_keep tree writes) tells of_tree);
}

module _ {H R : Type 0} {m : HostModel H} {model : ReceiverModel R} {params : Params} {tree : Tree} where
  -- none yet
  pub takes_none : (from : ℕ) {cache : CacheValue} {host : H} {self : R} → TakesRange m model params tree from from cache host self cache host self
  takes_none from {cache = cache} {host = host} {self = self} = record {
    taken = λ tells bodies of_tree list has.
        let none : indexed_from from (kicked_range params bodies from from) ≡ [] = ap (indexed_from from) (range_none from (kicked_bodies params bodies)) ∙ indexed_none from in
        subst (model.has_taken self (seen m cache host)) (sym (ap (λ l. list ++ l) none ∙ append-nil list)) has;
    fits = λ tells bodies of_tree more fits.
        subst (λ l. model.fits self (seen m cache host) (l ++ more)) (range_none from (kicked_bodies params bodies)) fits;
  }

  -- one body
  pub takes_one : (index : ℕ) {kicked : KickedBody} {old_cache new_cache : CacheValue} {old new : H} {old_self new_self : R}
      → (IsTrue m.tells → (bodies : List Body) → IsTreeOf tree (seen m old_cache old) params bodies → kicked_range params bodies index (index + 1) ≡ kicked ∷ [])
      → Takes m model (record { index = index; kicked = kicked }) old_cache old old_self new_cache new new_self
      → (IsTrue m.tells → (more : List KickedBody) → model.fits old_self (seen m old_cache old) (kicked ∷ more) → model.fits new_self (seen m new_cache new) more)
      → TakesRange m model params tree index (index + 1) old_cache old old_self new_cache new new_self
  takes_one index {kicked = kicked} {old_cache = old_cache} {new_cache = new_cache} {old = old} {new = new} {old_self = old_self} {new_self = new_self} is takes goes = record {
    taken = λ tells bodies of_tree list has.
        let one = ap (indexed_from index) (is tells bodies of_tree) ∙ indexed_one index kicked in
        subst (λ l. model.has_taken new_self (seen m new_cache new) (list ++ l)) (sym one) (takes tells list has);
    fits = λ tells bodies of_tree more fits.
        goes tells more (subst (λ l. model.fits old_self (seen m old_cache old) (l ++ more)) (is tells bodies of_tree) fits);
  }

  module _ {old_cache middle_cache new_cache : CacheValue} {old middle new : H} {old_self middle_self new_self : R} where
    -- a range behind another
    pub takes_then : (from mid end : ℕ) → from ≤ mid → mid ≤ end → mid ≤ tree.count
        → TakesRange m model params tree from mid old_cache old old_self middle_cache middle middle_self
        → KeepsTree m tree old_cache old middle_cache middle
        → TakesRange m model params tree mid end middle_cache middle middle_self new_cache new new_self
        → TakesRange m model params tree from end old_cache old old_self new_cache new new_self
    takes_then from mid end low high within one keeps two = record {
      taken = λ tells bodies of_tree list has.
          let all = kicked_bodies params bodies in
          let first = kicked_range params bodies from mid in
          let second = kicked_range params bodies mid end in
          let long : length first ≡ mid - from = length-range from mid all low (omega (arith, within, of_tree.count, length-kicked params bodies)) in
          let next : from + length first ≡ mid = omega (arith, long, low) in
          let both : indexed_from from (kicked_range params bodies from end) ≡ indexed_from from first ++ indexed_from mid second =
          ap (indexed_from from) (range_split from mid end all low high) ∙ indexed_append from first second
          ∙ ap (λ n. indexed_from from first ++ indexed_from n second) next in
          subst (model.has_taken new_self (seen m new_cache new))
          (append_assoc list (indexed_from from first) (indexed_from mid second) ∙ ap (λ l. list ++ l) (sym both))
          (two.taken tells bodies (tree_after keeps tells of_tree) (list ++ indexed_from from first) (one.taken tells bodies of_tree list has));
      fits = λ tells bodies of_tree more fits.
          two.fits tells bodies (tree_after keeps tells of_tree) more
          (one.fits tells bodies of_tree (kicked_range params bodies mid end ++ more) (fits_split from mid end low high bodies more fits));
    } where
      fits_split : (from mid end : ℕ) → from ≤ mid → mid ≤ end → (bodies : List Body) (more : List KickedBody)
          → model.fits old_self (seen m old_cache old) (kicked_range params bodies from end ++ more)
          → model.fits old_self (seen m old_cache old) (kicked_range params bodies from mid ++ (kicked_range params bodies mid end ++ more))
      fits_split from mid end low high bodies more fits =
          subst (model.fits old_self (seen m old_cache old))
          (ap (λ l. l ++ more) (range_split from mid end (kicked_bodies params bodies) low high)
          ∙ append_assoc (kicked_range params bodies from mid) (kicked_range params bodies mid end) more) fits

  module _ {old_cache middle_cache : CacheValue} {old middle : H} {old_self middle_self : R} where
    -- a range that can't be taken behind another
    pub no_range_then : (from mid some end : ℕ) → from ≤ mid → mid ≤ some → some ≤ end → {name : PageName}
        → TakesRange m model params tree from mid old_cache old old_self middle_cache middle middle_self
        → KeepsTree m tree old_cache old middle_cache middle → model.file middle_self ≡ model.file old_self
        → IsNoRange m model params tree mid some middle_cache middle middle_self name
        → IsNoRange m model params tree from end old_cache old old_self name
    no_range_then from mid some end low high last {name = name} one keeps same none = record {
      file = elim none.file [
        | inl of_bodies ↦ inl of_bodies
        | inr other ↦ elim other [
          | inl of_cells ↦ inr (inl of_cells)
          | inr own ↦ inr (inr (own ∙ same))
        ]
      ];
      cause = λ tells bodies of_tree more fits.
          let all = kicked_bodies params bodies in
          let first = kicked_range params bodies from mid in
          let second = kicked_range params bodies mid some in
          let third = kicked_range params bodies some end in
          let split : kicked_range params bodies from end ++ more ≡ first ++ (second ++ (third ++ more)) =
          ap (λ l. l ++ more) (range_split from mid end all low (omega arith)) ∙ append_assoc first (kicked_range params bodies mid end) more
          ∙ ap (λ l. first ++ l) (ap (λ l. l ++ more) (range_split mid some end all high last) ∙ append_assoc second third more) in
          none.cause tells bodies (tree_after keeps tells of_tree) (third ++ more)
          (one.fits tells bodies of_tree (second ++ (third ++ more)) (subst (model.fits old_self (seen m old_cache old)) split fits));
    }

  -- ---- behind calls that write nothing

  module _ {old_cache middle_cache : CacheValue} {old middle : H} (writes : Writes m [] old_cache old middle_cache middle) where
    pub takes_after : (from end : ℕ) {new_cache : CacheValue} {new : H} {self new_self : R}
        → TakesRange m model params tree from end middle_cache middle self new_cache new new_self
        → TakesRange m model params tree from end old_cache old self new_cache new new_self
    takes_after from end {self = self} takes = record {
      taken = λ tells bodies of_tree list has.
          takes.taken tells bodies (tree_after (reads_keep tree writes) tells of_tree) list
          (subst (λ (f : ℕ → List ℕ). model.has_taken self f list) (sym (same_seen writes tells)) has);
      fits = λ tells bodies of_tree more fits.
          takes.fits tells bodies (tree_after (reads_keep tree writes) tells of_tree) more
          (subst (λ (f : ℕ → List ℕ). model.fits self f (kicked_range params bodies from end ++ more)) (sym (same_seen writes tells)) fits);
    }

    pub no_range_after : (from end : ℕ) {self : R} {name : PageName} → IsNoRange m model params tree from end middle_cache middle self name
        → IsNoRange m model params tree from end old_cache old self name
    no_range_after from end {self = self} none = record {
      file = none.file;
      cause = λ tells bodies of_tree more fits.
          none.cause tells bodies (tree_after (reads_keep tree writes) tells of_tree) more
          (subst (λ (f : ℕ → List ℕ). model.fits self f (kicked_range params bodies from end ++ more)) (sym (same_seen writes tells)) fits);
    }

  -- where the files aren't the tree's, no range can be taken
  pub never : (from end : ℕ) {cache : CacheValue} {host : H} {self : R} {name : PageName} → IsBrokenTree m params tree cache host name
      → IsNoRange m model params tree from end cache host self name
  never from end none = record {
    file = elim none.file [ inl of_bodies ↦ inl of_bodies | inr of_cells ↦ inr (inl of_cells) ];
    cause = λ tells bodies of_tree more fits. none.cause tells bodies of_tree;
  }

  -- ---- the whole range

  module _ {old_cache new_cache : CacheValue} {old new : H} {old_self new_self : R} where
    pub takes_all : TakesRange m model params tree 0 tree.count old_cache old old_self new_cache new new_self
        → TakesAll m model params tree old_cache old old_self new_cache new new_self
    takes_all takes = record {
      taken = λ tells bodies of_tree list has.
          subst (λ l. model.has_taken new_self (seen m new_cache new) (list ++ indexed_from 0 l)) (whole params bodies (seen m old_cache old) of_tree)
          (takes.taken tells bodies of_tree list has);
      fits = λ tells bodies of_tree more fits.
          takes.fits tells bodies of_tree more
          (subst (λ l. model.fits old_self (seen m old_cache old) (l ++ more)) (sym (whole params bodies (seen m old_cache old) of_tree)) fits);
    } where
      whole : (params : Params) (bodies : List Body) (files : ℕ → List ℕ) → IsTreeOf tree files params bodies → kicked_range params bodies 0 tree.count ≡ kicked_bodies params bodies
      whole params bodies files of_tree = range_all tree.count (kicked_bodies params bodies) (of_tree.count ∙ sym (length-kicked params bodies))

  module _ {old_cache : CacheValue} {old : H} {old_self : R} where
    pub no_force : (n : ℕ) {name : PageName} → n ≡ tree.count → IsNoRange m model params tree 0 n old_cache old old_self name
        → IsNoForce m model params tree old_cache old old_self name
    no_force n same none = record {
      file = none.file;
      cause = λ tells bodies of_tree more fits.
          let all : kicked_range params bodies 0 n ≡ kicked_bodies params bodies = range_all n (kicked_bodies params bodies) (same ∙ of_tree.count ∙ sym (length-kicked params bodies)) in
          none.cause tells bodies of_tree more (subst (λ l. model.fits old_self (seen m old_cache old) (l ++ more)) (sym all) fits);
    }
