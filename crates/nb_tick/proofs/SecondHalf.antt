-- The second half kick: the bodies of a tree, kicked into an empty file, and behind them those that are out.
use Rattle.std.proofs.Common.{◌≡◌, ◌≢◌, ℕ, zero, suc, ◌≤◌, not, IsTrue, List, [], ◌∷◌, ◌++◌, ◌⊎◌, inl, inr, length, map, sym, ap, subst, ◌∙◌, arith}
use Rattle.std.specs.Prelude.{All, Contains}
use Rattle.std.proofs.lemmas.List.{append-nil, length-map}
use Rattle.std.proofs.lemmas.List.Elements.{All-filter, All-map}
use Rattle.std.proofs.lemmas.List.Sorted.{All-permutation}
use Rattle.nb_host.specs.Meaning.{HostModel}
use Rattle.nb_host.specs.declared.page_name.PageName.{PageName}
use Rattle.nb_model.specs.declared.body.Body.{Body}
use Rattle.nb_model.specs.declared.params.Params.{Params}
use Rattle.nb_model.specs.declared.way.Way.{Way}
use Rattle.nb_model.specs.Limits.{most_bodies}
use Rattle.nb_model.specs.Valid.{IsDriftedBody}
use Rattle.nb_model.specs.Leapfrog.{unescaped}
use Rattle.nb_model.proofs.Facts.{length-unescaped-le}
use Rattle.nb_cache.specs.View.{CacheValue, seen}
use Rattle.nb_cache.specs.Writes.{Writes}
use Rattle.nb_cache.proofs.Callers.{other_file}
use Rattle.nb_record.specs.declared.sizes.TheConstants.{BODY_SIZE}
use Rattle.nb_record.specs.declared.tree.Tree.{Tree}
use Rattle.nb_record.specs.Cells.{tree_cells}
use Rattle.nb_record.specs.Order.{by_key, sorted_by, HoldsBodies}
use Rattle.nb_record.specs.Table.{IsCellTable}
use Rattle.nb_record.specs.Tree.{IsTreeOf}
use Rattle.nb_record.specs.Writing.{IsZeroPaddedFile}
use Rattle.nb_record.proofs.Callers.{permuted, length-sorted_by}
use Rattle.nb_order.specs.declared.body_file.KickedBody.{KickedBody}
use Rattle.nb_force.specs.Kicks.{kicked_bodies, indexed_from}
use Rattle.nb_force.specs.Receiver.{HandedBody}
use Rattle.nb_tick.specs.Steps.{HoldsList, half_kicked, in_morton_order, kicked_one, resting_one, CantKick}
use Rattle.nb_tick.specs.Writer.{WriterValue, HasWritten, CanAdd, HasCopied, CantCopy}
use Rattle.nb_tick.proofs.Kicks.{rests_kicked}
use Rattle.nb_tick.proofs.Phases.{escaped_behind, never_cant}
use Rattle.nb_tick.proofs.Trees.{taken_list}
use Rattle.nb_tick.proofs.Written.{written_none}

-- only the tree's two files make it
tree_there : {tree : Tree} {params : Params} {bodies : List Body} (files other : ℕ → List ℕ)
    → other tree.bodies ≡ files tree.bodies → other tree.cells ≡ files tree.cells
    → IsTreeOf tree files params bodies → IsTreeOf tree other params bodies
tree_there {tree = tree} {params = params} {bodies = bodies} files other same_bodies same_cells of_tree = record {
  distinct = of_tree.distinct;
  ordered = subst (λ (file : List ℕ). HoldsBodies file (sorted_by by_key bodies)) (sym same_bodies) of_tree.ordered;
  bits = of_tree.bits;
  table =
      subst (λ (file : List ℕ). IsCellTable file tree.bits tree.pages (tree_cells params bodies)) (sym same_cells)
      of_tree.table;
  count = of_tree.count;
  mass = of_tree.mass;
  nodes = of_tree.nodes;
}

-- one of two files is one of three
widened : {one other last again : ℕ} (file : ℕ) → again ≡ last → Contains (one ∷ again ∷ []) file
    → Contains (one ∷ other ∷ last ∷ []) file
widened file same (zero, below, is) = (0, omega arith, is)
widened file same (suc zero, below, is) = (2, omega arith, sym same ∙ is)
widened file same (suc (suc k), below, is) = absurd (omega arith)

length-front : (params : Params) (bodies : List Body) → length (kicked_bodies params bodies) ≡ length (unescaped bodies)
length-front params bodies =
    length-map (sorted_by by_key (unescaped bodies)) (half_kicked params bodies) ∙ length-sorted_by by_key (unescaped bodies)

front_slow : (params : Params) (bodies : List Body) → All IsDriftedBody bodies
    → All (λ one. IsDriftedBody one.body) (kicked_bodies params bodies)
front_slow params bodies slow =
    let inside = unescaped bodies in
    All-map (λ (one : KickedBody). IsDriftedBody one.body) (half_kicked params bodies) (sorted_by by_key inside)
    (All-permutation IsDriftedBody inside (sorted_by by_key inside) (permuted by_key inside)
    (All-filter (λ (b : Body). not b.out) IsDriftedBody bodies slow))

-- A file was emptied that isn't one of the tree's, and a writer of it has no body yet.
module _ {H : Type 0} (m : HostModel H) (params : Params) (tree : Tree) (to count : ℕ) (way : Way) (cache empty_cache : CacheValue) (host empty : H) (emptied : Writes m (to ∷ []) cache host empty_cache empty) (is_empty : IsTrue m.tells → seen m empty_cache empty to ≡ []) (apart : (to ≢ tree.bodies) × (to ≢ tree.cells)) (begun : WriterValue) (begun_is : begun ≡ record { file = to; count = 0 }) where
  pub begun_file : begun.file ≡ to
  begun_file = ap (λ (w : WriterValue). w.file) begun_is

  tree_then : IsTrue m.tells → (bodies : List Body) → IsTreeOf tree (seen m cache host) params bodies
      → IsTreeOf tree (seen m empty_cache empty) params bodies
  tree_then tells bodies of_tree =
      tree_there (seen m cache host) (seen m empty_cache empty)
      (emptied.view tells tree.bodies (other_file (λ is. apart.0 (sym is))))
      (emptied.view tells tree.cells (other_file (λ is. apart.1 (sym is)))) of_tree

  none_yet : IsTrue m.tells → HasWritten (seen m empty_cache empty) begun []
  none_yet tells =
      subst (λ (w : WriterValue). HasWritten (seen m empty_cache empty) w []) (sym begun_is)
      (written_none (seen m empty_cache empty) to (is_empty tells))

  -- why the kicks couldn't be handed over
  pub cant_hand_over : {name : PageName} → count ≤ most_bodies
      → (name.file ≡ tree.bodies) ⊎ ((name.file ≡ tree.cells) ⊎ (name.file ≡ begun.file))
      → (IsTrue m.tells → (bodies : List Body) → IsTreeOf tree (seen m empty_cache empty) params bodies → (more : List KickedBody)
      → (CanAdd (seen m empty_cache empty) begun (length (kicked_bodies params bodies ++ more))
      × All (λ one. IsDriftedBody one.body) (kicked_bodies params bodies ++ more)) → ⊥)
      → CantKick m params (tree.bodies ∷ tree.cells ∷ to ∷ []) tree count cache host name
  cant_hand_over few file cause = record {
    file = elim file [
      | inl is ↦ (0, omega arith, sym is)
      | inr other ↦ elim other [ inl is ↦ (1, omega arith, sym is) | inr is ↦ (2, omega arith, sym (is ∙ begun_file)) ]
    ];
    cause = λ tells bodies of_tree long slow.
        let front = kicked_bodies params bodies in
        let none : begun.count ≡ 0 = ap (λ (w : WriterValue). w.count) begun_is in
        cause tells bodies (tree_then tells bodies of_tree) []
        (subst
        (λ (l : List KickedBody). CanAdd (seen m empty_cache empty) begun (length l) × All (λ one. IsDriftedBody one.body) l)
        (sym (append-nil front)) (
          record {
            list = [];
            written = none_yet tells;
            room = omega (arith, none, length-front params bodies, length-unescaped-le bodies, long, few);
          },
          front_slow params bodies slow,
        ));
  }

  -- The bodies in the box were handed over.
  module _ (kicked_cache : CacheValue) (kicked : H) (after : WriterValue) (way_after : Way) (handed : Writes m (begun.file ∷ []) empty_cache empty kicked_cache kicked) (taken : IsTrue m.tells → (bodies : List Body) → IsTreeOf tree (seen m empty_cache empty) params bodies → (list : List HandedBody) → HasWritten (seen m empty_cache empty) begun (map (λ g. kicked_one way g.kicked) list) → HasWritten (seen m kicked_cache kicked) after (map (λ g. kicked_one way_after g.kicked) (list ++ indexed_from 0 (kicked_bodies params bodies)))) (same_file : after.file ≡ begun.file) (same_way : way_after ≡ way) where
    pub after_file : after.file ≡ to
    after_file = same_file ∙ begun_file

    front_written : IsTrue m.tells → (bodies : List Body) → IsTreeOf tree (seen m cache host) params bodies
        → HasWritten (seen m kicked_cache kicked) after
        (map (kicked_one way) (map (half_kicked params bodies) (sorted_by by_key (unescaped bodies))))
    front_written tells bodies of_tree =
        let list = kicked_bodies params bodies in
        subst (λ (w : Way). HasWritten (seen m kicked_cache kicked) after (map (kicked_one w) list)) same_way
        (subst (HasWritten (seen m kicked_cache kicked) after) (taken_list (kicked_one way_after) 0 list)
        (taken tells bodies (tree_then tells bodies of_tree) [] (none_yet tells)))

    ordered_then : IsTrue m.tells → (bodies : List Body) → IsTreeOf tree (seen m cache host) params bodies
        → HoldsBodies (seen m kicked_cache kicked tree.bodies) (sorted_by by_key bodies)
    ordered_then tells bodies of_tree =
        let there = tree_then tells bodies of_tree in
        subst (λ (file : List ℕ). HoldsBodies file (sorted_by by_key bodies))
        (sym (handed.view tells tree.bodies (other_file (λ is. apart.0 (sym (is ∙ begun_file)))))) there.ordered

    -- the others behind them
    pub all_kicked : (last_cache : CacheValue) (last : H) (end : WriterValue) → end.file ≡ after.file
        → HasCopied m resting_one tree.bodies tree.count count kicked_cache kicked after last_cache last end
        → IsTrue m.tells → (bodies : List Body) → IsTreeOf tree (seen m cache host) params bodies → length bodies ≡ count
        → HoldsList (seen m last_cache last to) (map (kicked_one way) (in_morton_order params bodies))
        × IsZeroPaddedFile BODY_SIZE (seen m last_cache last to)
    all_kicked last_cache last end file copied tells bodies of_tree long =
        let has = escaped_behind m params tree.bodies tree.count count kicked_cache kicked after bodies (kicked_one way)
        (rests_kicked params way bodies) long of_tree.count (ordered_then tells bodies of_tree)
        (front_written tells bodies of_tree) last_cache last end copied tells in
        let same : end.file ≡ to = file ∙ after_file in (
          subst (λ (n : ℕ). HoldsList (seen m last_cache last n) (map (kicked_one way) (in_morton_order params bodies))) same
              has.holds,
          subst (λ (n : ℕ). IsZeroPaddedFile BODY_SIZE (seen m last_cache last n)) same has.padded,
        )

    -- why they couldn't be added
    pub cant_add_escaped : {name : PageName} → tree.count ≤ count → count ≤ most_bodies
        → CantCopy m tree.bodies tree.count count kicked_cache kicked after name
        → CantKick m params (tree.bodies ∷ tree.cells ∷ to ∷ []) tree count cache host name
    cant_add_escaped {name = name} less few cant = record {
      file = widened name.file after_file cant.file;
      cause = λ tells bodies of_tree long slow.
          never_cant m params tree.bodies tree.count count kicked_cache kicked after bodies (kicked_one way)
          (rests_kicked params way bodies) long of_tree.count (ordered_then tells bodies of_tree)
          (front_written tells bodies of_tree) less few cant tells;
    }
