-- A tick over a cache and its host: what its last call leaves, and why each call before may refuse.
use Rattle.std.proofs.Common.{◌≡◌, ◌≢◌, ℕ, ◌-◌, Bool, IsTrue, List, [], ◌∷◌, length, map, sym, ap, subst, ◌∙◌, arith}
use Rattle.std.specs.Prelude.{Contains}
use Rattle.nb_host.specs.Meaning.{HostModel}
use Rattle.nb_host.specs.declared.page_name.PageName.{PageName}
use Rattle.nb_model.specs.declared.body.Body.{Body}
use Rattle.nb_model.specs.declared.params.Params.{Params}
use Rattle.nb_model.specs.declared.way.Way.{Way}
use Rattle.nb_model.specs.Valid.{IsValidBodies}
use Rattle.nb_cache.specs.InStep.{IsInStep}
use Rattle.nb_cache.specs.View.{CacheValue, seen}
use Rattle.nb_cache.specs.Writes.{Writes}
use Rattle.nb_cache.proofs.Callers.{other_file}
use Rattle.nb_record.specs.declared.sizes.TheConstants.{BODY_SIZE}
use Rattle.nb_record.specs.declared.tree.Tree.{Tree}
use Rattle.nb_record.specs.Tree.{IsTreeOf}
use Rattle.nb_record.specs.Writing.{IsZeroPaddedFile}
use Rattle.nb_tree.specs.Builds.{IsTreeInRange}
use Rattle.nb_tick.specs.declared.slot.Slot.{Slot}
use Rattle.nb_tick.specs.Slots.{slot_file, other_slot, drifted_file, sorted_file, cell_file, tick_files}
use Rattle.nb_tick.specs.State.{HoldsState, HoldsKickedState}
use Rattle.nb_tick.specs.Steps.{HoldsList, in_morton_order, kicked_one, IsDrifted, CantDrift, CantKick, HasTreeOf, CantSort}
use Rattle.nb_tick.specs.Tick.{IsState, IsStepped, LeavesState, IsNoState}
use Rattle.nb_tick.proofs.AnyKicks.{leaves}
use Rattle.nb_tick.proofs.Ticking.{slot_seen, slot_small, moved, moved_list, moved_long, stepped, page_drift, page_sort, page_kick}

-- the bodies of a slot are drifted
abbrev pub Drifts : {H : Type 0} → HostModel H → Params → Way → Bool → (slot count : ℕ) → CacheValue → H → CacheValue → H → Type 0
Drifts m params way known slot count old_cache old new_cache new =
    IsTrue m.tells → (bodies : List Body) → IsValidBodies params bodies → length bodies ≡ count → HoldsState bodies (seen m old_cache old slot)
    → IsDrifted params way known bodies (seen m old_cache old slot) (seen m new_cache new drifted_file)

module _ {H : Type 0} (m : HostModel H) (params : Params) (way : Way) (known : Bool) (from : Slot) (slot count : ℕ) (slot_is : slot ≡ slot_file from) (c0 : CacheValue) (h0 : H) (unwritten : (file : ℕ) → Contains c0.unwritten file → Contains (tick_files from) file) (in_step : IsInStep m c0 h0) where
  same_slot : IsTrue m.tells → (m.contents h0).file (slot_file from) ≡ seen m c0 h0 slot
  same_slot tells = sym (slot_seen m from c0 h0 unwritten in_step tells) ∙ ap (seen m c0 h0) (sym slot_is)

  state_seen : IsTrue m.tells → (bodies : List Body) → HoldsState bodies ((m.contents h0).file (slot_file from)) → HoldsState bodies (seen m c0 h0 slot)
  state_seen tells bodies holds = subst (HoldsState bodies) (same_slot tells) holds

  pub no_drift : {name : PageName} → CantDrift m params (slot ∷ drifted_file ∷ cell_file ∷ []) slot count c0 h0 name → IsNoState m params from count h0 name
  no_drift {name = name} cant = record {
    file = page_drift from slot name.file slot_is cant.file;
    cause = λ tells bodies valid long holds. cant.cause tells bodies valid long (state_seen tells bodies holds);
  }

  module _ (c1 : CacheValue) (h1 : H) (drifts : Drifts m params way known slot count c0 h0 c1 h1) where
    pub no_sort : {name : PageName} → CantSort m params count c1 h1 name → IsNoState m params from count h0 name
    no_sort {name = name} cant = record {
      file = page_sort from name.file cant.file;
      cause = λ tells bodies valid long holds.
          let slot_bytes = seen m c0 h0 slot in
          let drifted = seen m c1 h1 drifted_file in
          let are = drifts tells bodies valid long (state_seen tells bodies holds) in
          let list = moved_list params way known count bodies valid long slot_bytes drifted are in
          cant.cause tells (moved params way known count bodies valid long slot_bytes drifted are) are.holds.bodies
          (moved_long params way known count bodies valid long slot_bytes drifted are) list.different list.gm;
    }

    module _ (c2 : CacheValue) (h2 : H) (tree : Tree) (has : IsTrue m.tells → HasTreeOf params count (seen m c1 h1 drifted_file) (seen m c2 h2) tree) (range : IsTreeInRange params sorted_file cell_file count tree) (to : ℕ) (to_is : to ≡ slot_file (other_slot from)) where
      pub no_kick : {name : PageName} → CantKick m params (tree.bodies ∷ tree.cells ∷ to ∷ []) tree count c2 h2 name → IsNoState m params from count h0 name
      no_kick {name = name} cant = record {
        file = page_kick from to tree.bodies tree.cells name.file to_is range.bodies_are range.cells_are cant.file;
        cause = λ tells bodies valid long holds.
            let slot_bytes = seen m c0 h0 slot in
            let drifted = seen m c1 h1 drifted_file in
            let are = drifts tells bodies valid long (state_seen tells bodies holds) in
            let list = moved_list params way known count bodies valid long slot_bytes drifted are in
            let many = moved_long params way known count bodies valid long slot_bytes drifted are in
            let all = moved params way known count bodies valid long slot_bytes drifted are in
            cant.cause tells all (has tells all are.holds.bodies many list.different).0 many list.each;
      }

      pub one_tick : (c3 : CacheValue) (h3 h4 : H) (escaped : ℕ) → escaped ≡ count - tree.count
          → (IsTrue m.tells → (bodies : List Body) → IsTreeOf tree (seen m c2 h2) params bodies → length bodies ≡ count
          → HoldsList (seen m c3 h3 to) (map (kicked_one way) (in_morton_order params bodies)) × IsZeroPaddedFile BODY_SIZE (seen m c3 h3 to))
          → Writes m (to ∷ []) c2 h2 c3 h3
          → (IsTrue m.tells → (file : ℕ) → (m.contents h4).file file ≡ seen m c3 h3 file)
          → IsTrue m.tells → (bodies : List Body) → IsState params known count bodies ((m.contents h0).file (slot_file from))
          → IsStepped params way from bodies (m.contents h4) escaped
      one_tick c3 h3 h4 escaped escaped_is kicked writes written tells bodies state =
          let slot_bytes = seen m c0 h0 slot in
          let drifted = seen m c1 h1 drifted_file in
          let are = drifts tells bodies state.valid state.count_is (state_seen tells bodies state.holds) in
          let list = moved_list params way known count bodies state.valid state.count_is slot_bytes drifted are in
          let many = moved_long params way known count bodies state.valid state.count_is slot_bytes drifted are in
          let all = moved params way known count bodies state.valid state.count_is slot_bytes drifted are in
          let of_tree = (has tells all are.holds.bodies many list.different).0 in
          let there = kicked tells all of_tree many in
          let after = map (kicked_one way) (in_morton_order params all) in
          let apart : cell_file ≢ to = λ same. absurd (omega (arith, same, slot_small (other_slot from) to to_is)) in
          stepped params way known count bodies state.valid state.count_is slot_bytes drifted are from (m.contents h4) escaped tree (seen m c2 h2)
          (λ is. subst (HoldsKickedState params bodies) (same_slot tells) (state.kicks is))
          (has tells) range.cells_are
          (subst (λ (n : ℕ). HoldsList ((m.contents h4).file n) after) to_is (subst (λ (l : List ℕ). HoldsList l after) (sym (written tells to)) there.0))
          (subst (λ (n : ℕ). IsZeroPaddedFile BODY_SIZE ((m.contents h4).file n)) to_is (subst (IsZeroPaddedFile BODY_SIZE) (sym (written tells to)) there.1))
          (written tells cell_file ∙ writes.view tells cell_file (other_file apart)) escaped_is

      -- the same, whatever the kicks of the slot were
      pub any_tick : (c3 : CacheValue) (h3 h4 : H) (escaped : ℕ) → escaped ≡ count - tree.count
          → (IsTrue m.tells → (bodies : List Body) → IsTreeOf tree (seen m c2 h2) params bodies → length bodies ≡ count
          → HoldsList (seen m c3 h3 to) (map (kicked_one way) (in_morton_order params bodies)) × IsZeroPaddedFile BODY_SIZE (seen m c3 h3 to))
          → (IsTrue m.tells → (file : ℕ) → (m.contents h4).file file ≡ seen m c3 h3 file)
          → IsTrue m.tells → (bodies : List Body) → IsValidBodies params bodies → length bodies ≡ count
          → HoldsState bodies ((m.contents h0).file (slot_file from))
          → LeavesState params from bodies (m.contents h4) escaped
      any_tick c3 h3 h4 escaped escaped_is kicked written tells bodies valid long holds =
          let slot_bytes = seen m c0 h0 slot in
          let drifted = seen m c1 h1 drifted_file in
          let are = drifts tells bodies valid long (state_seen tells bodies holds) in
          let list = moved_list params way known count bodies valid long slot_bytes drifted are in
          let many = moved_long params way known count bodies valid long slot_bytes drifted are in
          let all = moved params way known count bodies valid long slot_bytes drifted are in
          let of_tree = (has tells all are.holds.bodies many list.different).0 in
          let there = kicked tells all of_tree many in
          let after = map (kicked_one way) (in_morton_order params all) in
          leaves params way bodies are.list valid are.bodies_are are.range from (m.contents h4) count escaped long
          (escaped_is ∙ ap (λ (n : ℕ). count - n) of_tree.count)
          (subst (λ (n : ℕ). HoldsList ((m.contents h4).file n) after) to_is (subst (λ (l : List ℕ). HoldsList l after) (sym (written tells to)) there.0))
