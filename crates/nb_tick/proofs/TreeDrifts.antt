-- The drift of the bodies of a slot by the half kicks that a tree gives them.
use Rattle.std.proofs.Common.{◌≡◌, ◌≢◌, ℕ, zero, suc, ◌≤◌, Bool, false, IsTrue, List, [], ◌∷◌, ◌++◌, ◌⊎◌, length, map, refl, sym, ap, subst, ◌∙◌, inl, inr, arith}
use Rattle.std.specs.Prelude.{Contains}
use Rattle.std.proofs.lemmas.List.{append-nil, length-map}
use Rattle.nb_model.specs.declared.body.Body.{Body}
use Rattle.nb_model.specs.declared.params.Params.{Params}
use Rattle.nb_model.specs.declared.way.Way.{Way}
use Rattle.nb_model.specs.Limits.{most_bodies}
use Rattle.nb_model.specs.Valid.{IsValidBodies}
use Rattle.nb_model.specs.Leapfrog.{unescaped}
use Rattle.nb_model.proofs.Facts.{length-unescaped-le}
use Rattle.nb_host.specs.Meaning.{HostModel}
use Rattle.nb_host.specs.declared.page_name.PageName.{PageName}
use Rattle.nb_cache.specs.View.{CacheValue, seen}
use Rattle.nb_cache.specs.Writes.{Writes}
use Rattle.nb_cache.proofs.Callers.{other_file}
use Rattle.nb_record.specs.declared.tree.Tree.{Tree}
use Rattle.nb_record.specs.Order.{by_key, sorted_by}
use Rattle.nb_record.specs.Tree.{IsTreeOf}
use Rattle.nb_record.proofs.Callers.{different_ids, length-sorted_by}
use Rattle.nb_order.specs.declared.body_file.KickedBody.{KickedBody}
use Rattle.nb_tree.specs.Builds.{Builds, IsTreeInRange}
use Rattle.nb_tree.specs.Refusals.{IsNoTree}
use Rattle.nb_force.specs.Kicks.{kicked_of, kicked_bodies, indexed_from}
use Rattle.nb_force.specs.Receiver.{HandedBody}
use Rattle.nb_tick.specs.Slots.{drifted_file, cell_file}
use Rattle.nb_tick.specs.State.{HoldsState}
use Rattle.nb_tick.specs.Steps.{half_kicked, in_morton_order, drifted_one, resting_one, HoldsList, IsDrifted, CantDrift}
use Rattle.nb_tick.specs.Writer.{WriterValue, HasWritten, CanAdd, HasCopied, CantCopy}
use Rattle.nb_tick.proofs.Kicks.{rests_drifted}
use Rattle.nb_tick.proofs.Phases.{drifted_found, escaped_behind, never_cant}
use Rattle.nb_tick.proofs.Trees.{tree_of, never_no_tree, taken_list}
use Rattle.nb_tick.proofs.Written.{written_none}

-- the slot, the file of the drifted bodies, and that of the cells
abbrev pub drift_files : ℕ → List ℕ
drift_files from = from ∷ drifted_file ∷ cell_file ∷ []

widened : {from name : ℕ} → Contains (from ∷ drifted_file ∷ []) name → Contains (drift_files from) name
widened (zero, below, is) = (0, omega arith, is)
widened (suc zero, below, is) = (1, omega arith, is)
widened (suc (suc k), below, is) = absurd (omega arith)

-- one of them by another name
named : (files : List ℕ) {file name : ℕ} → name ≡ file → Contains files file → Contains files name
named files is there = subst (Contains files) (sym is) there

-- ---- the tree of the slot

-- where there is none the slot holds no valid bodies
pub cant_build : {H : Type 0} {m : HostModel H} {params : Params} {from count : ℕ} {cache : CacheValue} {host : H} {name : PageName}
    → IsNoTree m params cache host from cell_file count name
    → CantDrift m params (drift_files from) from count cache host name
cant_build {m = m} {params = params} {from = from} {count = count} {cache = cache} {host = host} {name = name} none = record {
  file = elim none.file [
    | inl at ↦ named (drift_files from) at (0, omega arith, refl)
    | inr at ↦ named (drift_files from) at (2, omega arith, refl)
  ];
  cause = λ tells bodies valid long state.
      never_no_tree m params cache host from cell_file count name bodies none state (different_ids bodies valid.ids) valid.gm long
      tells;
}

-- What is known where the kicks begin: the tree was built over the slot, and the writer has no body in a file that was empty.
pub record IsReady {H : Type 0} (m : HostModel H) (params : Params) (from count : ℕ) (cache : CacheValue) (host : H) (built_cache : CacheValue) (built : H) (tree : Tree) (before : WriterValue) : Type 0 where
  pub apart : (from ≢ drifted_file) × (from ≢ cell_file)
  pub few : count ≤ most_bodies
  pub empty : IsTrue m.tells → seen m cache host drifted_file ≡ []
  pub builds : IsTrue m.tells → Builds params from count (seen m cache host) (seen m built_cache built) tree
  pub range : IsTreeInRange params from cell_file count tree
  pub writes : Writes m (cell_file ∷ []) cache host built_cache built
  pub fresh : before ≡ record { file = drifted_file; count = 0 }

-- and where they end: the writer has them behind what it had, by the parameters that it was set to
pub record AreTaken {H : Type 0} (m : HostModel H) (params : Params) (way : Way) (tree : Tree) (old_cache : CacheValue) (old : H) (before : WriterValue) (new_cache : CacheValue) (new : H) (after : WriterValue) (set : Params × Way) : Type 0 where
  pub setting : set ≡ (params, way)
  pub file : after.file ≡ before.file
  pub taken : IsTrue m.tells → (bodies : List Body) → IsTreeOf tree (seen m old_cache old) params bodies
      → (list : List HandedBody) → HasWritten (seen m old_cache old) before (map (λ g. drifted_one params way g.kicked) list)
      → HasWritten (seen m new_cache new) after
      (map (λ g. drifted_one set.0 set.1 g.kicked) (list ++ indexed_from 0 (kicked_bodies params bodies)))
  pub writes : Writes m (before.file ∷ []) old_cache old new_cache new

-- ---- the kicks

module _ {H : Type 0} {m : HostModel H} {params : Params} {from count : ℕ} {cache built_cache : CacheValue} {host built : H} {tree : Tree} {before : WriterValue} (ready : IsReady m params from count cache host built_cache built tree before) where
  found_tree : IsTrue m.tells → (bodies : List Body) → IsValidBodies params bodies → length bodies ≡ count
      → HoldsState bodies (seen m cache host from) → IsTreeOf tree (seen m built_cache built) params bodies
  found_tree tells bodies valid long state =
      tree_of params from count (seen m cache host) (seen m built_cache built) tree bodies (ready.builds tells) state
      (different_ids bodies valid.ids) long

  to_drifted : before.file ≡ drifted_file
  to_drifted = ap (λ (w : WriterValue). w.file) ready.fresh

  none_written : IsTrue m.tells → HasWritten (seen m built_cache built) before []
  none_written tells =
      let stays = ready.writes.view tells drifted_file (other_file (λ is. absurd (omega (arith, is)))) in
      subst (λ (w : WriterValue). HasWritten (seen m built_cache built) w []) (sym ready.fresh)
      (written_none (seen m built_cache built) drifted_file (stays ∙ ready.empty tells))

  -- there is room for the bodies in the box
  can_take : IsTrue m.tells → (bodies : List Body) → length bodies ≡ count
      → CanAdd (seen m built_cache built) before (length (kicked_bodies params bodies ++ []))
  can_take tells bodies long =
      let inside = sorted_by by_key (unescaped bodies) in
      let all : length (kicked_bodies params bodies ++ []) ≡ length (unescaped bodies) =
      ap length (append-nil (kicked_bodies params bodies)) ∙ length-map inside (kicked_of params bodies)
      ∙ length-sorted_by by_key (unescaped bodies) in
      let none : before.count ≡ 0 = ap (λ (w : WriterValue). w.count) ready.fresh in
      record {
        list = [];
        written = none_written tells;
        room = omega (arith, none, all, length-unescaped-le bodies, long, ready.few);
      }

  -- so the kicks of valid bodies can be handed over
  pub cant_force : {name : PageName} → (name.file ≡ tree.bodies) ⊎ ((name.file ≡ tree.cells) ⊎ (name.file ≡ before.file))
      → (IsTrue m.tells → (bodies : List Body) → IsTreeOf tree (seen m built_cache built) params bodies
      → (more : List KickedBody) → CanAdd (seen m built_cache built) before (length (kicked_bodies params bodies ++ more)) → ⊥)
      → CantDrift m params (drift_files from) from count cache host name
  cant_force {name = name} file cause = record {
    file = elim file [
      | inl bodies ↦ named (drift_files from) (bodies ∙ ready.range.bodies_are) (0, omega arith, refl)
      | inr other ↦ elim other [
        | inl cells ↦ named (drift_files from) (cells ∙ ready.range.cells_are) (2, omega arith, refl)
        | inr written ↦ named (drift_files from) (written ∙ to_drifted) (1, omega arith, refl)
      ]
    ];
    cause = λ tells bodies valid long state.
        cause tells bodies (found_tree tells bodies valid long state) [] (can_take tells bodies long);
  }

  -- ---- the bodies that are out, behind them

  module _ {way : Way} {kicked_cache : CacheValue} {kicked : H} {after : WriterValue} {set : Params × Way} (are : AreTaken m params way tree built_cache built before kicked_cache kicked after set) where
    kicked_written : IsTrue m.tells → (bodies : List Body) → IsTreeOf tree (seen m built_cache built) params bodies
        → HasWritten (seen m kicked_cache kicked) after
        (map (drifted_one params way) (map (half_kicked params bodies) (sorted_by by_key (unescaped bodies))))
    kicked_written tells bodies is =
        let given = indexed_from 0 (kicked_bodies params bodies) in
        subst (HasWritten (seen m kicked_cache kicked) after)
        (ap (λ (s : Params × Way). map (λ (g : HandedBody). drifted_one s.0 s.1 g.kicked) given) are.setting
        ∙ taken_list (drifted_one params way) 0 (kicked_bodies params bodies))
        (are.taken tells bodies is [] (none_written tells))

    slot_holds : IsTrue m.tells → (bodies : List Body) → HoldsState bodies (seen m cache host from)
        → HoldsState bodies (seen m kicked_cache kicked from)
    slot_holds tells bodies state =
        let stays : seen m kicked_cache kicked from ≡ seen m cache host from =
        are.writes.view tells from (other_file (λ is. ready.apart.0 (is ∙ to_drifted)))
        ∙ ready.writes.view tells from (other_file ready.apart.1) in
        subst (λ (l : List ℕ). HoldsState bodies l) (sym stays) state

    pub drifted_by_tree : {new_cache : CacheValue} {new : H} {last : WriterValue} → last.file ≡ after.file
        → HasCopied m resting_one from tree.count count kicked_cache kicked after new_cache new last
        → IsTrue m.tells → (bodies : List Body) → IsValidBodies params bodies → length bodies ≡ count
        → HoldsState bodies (seen m cache host from)
        → IsDrifted params way false bodies (seen m cache host from) (seen m new_cache new drifted_file)
    drifted_by_tree {new_cache = new_cache} {new = new} {last = last} same copied tells bodies valid long state =
        let is = found_tree tells bodies valid long state in
        let made = drifted_one params way in
        let has = escaped_behind m params from tree.count count kicked_cache kicked after bodies made
        (rests_drifted params way bodies) long is.count (slot_holds tells bodies state) (kicked_written tells bodies is)
        new_cache new last copied tells in
        drifted_found params way bodies (seen m cache host from) (seen m new_cache new drifted_file) valid
        (subst (λ (n : ℕ). HoldsList (seen m new_cache new n) (map made (in_morton_order params bodies)))
        (same ∙ are.file ∙ to_drifted) has.holds)

    pub cant_add : {name : PageName} → CantCopy m from tree.count count kicked_cache kicked after name
        → CantDrift m params (drift_files from) from count cache host name
    cant_add {name = name} cant = record {
      file = widened (subst (λ (n : ℕ). Contains (from ∷ n ∷ []) name.file) (are.file ∙ to_drifted) cant.file);
      cause = λ tells bodies valid long state.
          let is = found_tree tells bodies valid long state in
          never_cant m params from tree.count count kicked_cache kicked after bodies (drifted_one params way)
          (rests_drifted params way bodies) long is.count (slot_holds tells bodies state) (kicked_written tells bodies is)
          ready.range.most ready.few cant tells;
    }

-- ---- after the file of the drifted bodies was emptied

module _ {H : Type 0} {m : HostModel H} {from : ℕ} {cache emptied_cache : CacheValue} {host emptied : H} (apart : from ≢ drifted_file) (writes : Writes m (drifted_file ∷ []) cache host emptied_cache emptied) where
  slot_same : IsTrue m.tells → seen m emptied_cache emptied from ≡ seen m cache host from
  slot_same tells = writes.view tells from (other_file apart)

  pub drifts_after : {params : Params} {count : ℕ} {way : Way} {known asked : Bool} (drifted : List ℕ) → known ≡ asked
      → IsTrue m.tells
      → ((bodies : List Body) → IsValidBodies params bodies → length bodies ≡ count
      → HoldsState bodies (seen m emptied_cache emptied from)
      → IsDrifted params way asked bodies (seen m emptied_cache emptied from) drifted)
      → (bodies : List Body) → IsValidBodies params bodies → length bodies ≡ count
      → HoldsState bodies (seen m cache host from) → IsDrifted params way known bodies (seen m cache host from) drifted
  drifts_after {params = params} {way = way} {known = known} drifted is tells does bodies valid long state =
      subst (λ (l : List ℕ). IsDrifted params way known bodies l drifted) (slot_same tells)
      (subst (λ (b : Bool). IsDrifted params way b bodies (seen m emptied_cache emptied from) drifted) (sym is)
      (does bodies valid long (subst (λ (l : List ℕ). HoldsState bodies l) (sym (slot_same tells)) state)))

  pub cant_after : {params : Params} {count : ℕ} {name : PageName}
      → CantDrift m params (drift_files from) from count emptied_cache emptied name
      → CantDrift m params (drift_files from) from count cache host name
  cant_after cant = record {
    file = cant.file;
    cause = λ tells bodies valid long state.
        cant.cause tells bodies valid long (subst (λ (l : List ℕ). HoldsState bodies l) (sym (slot_same tells)) state);
  }

  -- by the kicks of the records
  pub cant_known_after : {params : Params} {count : ℕ} {name : PageName}
      → CantDrift m params (from ∷ drifted_file ∷ []) from count emptied_cache emptied name
      → CantDrift m params (drift_files from) from count cache host name
  cant_known_after cant = cant_after (record { file = widened cant.file; cause = cant.cause })
