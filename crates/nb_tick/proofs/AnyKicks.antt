-- What a tick leaves, whatever the kicks of its slot were: valid bodies with their own half kicks, none of which came back.
use Rattle.std.proofs.Common.{◌≡◌, ℕ, zero, suc, ◌+◌, ◌-◌, ◌*◌, ◌<◌, ◌≤◌, cond, List, [], ◌∷◌, length, map, refl, sym, ap, subst, ◌∙◌, arith}
use Rattle.std.specs.Prelude.{All, IsPermutation, slice_index}
use Rattle.std.specs.List.Sorted.{IsStrictlyIncreasing}
use Rattle.std.proofs.lemmas.Bool.{cond_both, ltb-true}
use Rattle.std.proofs.lemmas.List.Elements.{All-map, All-weaker}
use Rattle.std.proofs.lemmas.List.Sums.{sum_by-cons}
use Rattle.std.proofs.lemmas.List.Sorted.{sum_by-IsPermutation, All-permutation}
use Rattle.nb_host.specs.Image.{Image}
use Rattle.nb_model.specs.declared.body.Body.{Body}
use Rattle.nb_model.specs.declared.params.Params.{Params}
use Rattle.nb_model.specs.declared.way.Way.{Way}
use Rattle.nb_model.specs.Limits.{gm_limit, kick_limit}
use Rattle.nb_model.specs.Octree.{total_mass}
use Rattle.nb_model.specs.Valid.{IsBelow, IsValidBody, IsDriftedBody, IsValidBodies}
use Rattle.nb_model.specs.Leapfrog.{unescaped, escaped_count, half_kick, accelerate, kick, drift_body}
use Rattle.nb_model.proofs.Facts.{drift_body_cases, length-kick, ids-kick, total_mass-kick, escaped_count-kick, half_kick_below, kicked_again_body}
use Rattle.nb_record.specs.Order.{by_key, by_id, sorted_by, IsSortedByRank, HaveDifferentIds}
use Rattle.nb_record.proofs.Callers.{permuted, sorted, same_mass, length-sorted_by}
use Rattle.nb_order.specs.declared.body_file.KickedBody.{KickedBody}
use Rattle.nb_tick.specs.declared.slot.Slot.{Slot}
use Rattle.nb_tick.specs.Slots.{slot_file, other_slot}
use Rattle.nb_tick.specs.Steps.{without_kicks, HoldsList, in_morton_order, drifted_one, kicked_one}
use Rattle.nb_tick.specs.Tick.{LeavesState}
use Rattle.nb_tick.proofs.Drifts.{first_kicked}
use Rattle.nb_tick.proofs.Ticks.{ids_differ, in_and_out, IsDriftedList, drifted_list, drifted_box, kicked_slot}

-- ---- the order of ids

ids_rise : (bodies : List Body) → IsSortedByRank by_id bodies → IsStrictlyIncreasing (map (λ b. b.id) bodies)
ids_rise [] order k within = absurd (omega arith)
ids_rise (b ∷ []) order k within = absurd (omega arith)
ids_rise (b ∷ c ∷ cs) order zero within = ltb-true b.id c.id order.0
ids_rise (b ∷ c ∷ cs) order (suc k) within =
    let next : suc (k + 1) ≡ suc k + 1 = omega arith in
    subst (λ j. slice_index (map (λ b. b.id) (c ∷ cs)) k < slice_index (map (λ b. b.id) (b ∷ c ∷ cs)) j) next
    (ids_rise (c ∷ cs) order.1 k (omega arith))

-- ---- a kick and a drift bring no body back into the box

-- what a body adds to the count of those that are out
abbrev out_of : Body → ℕ
out_of b = cond b.out 1 0

out_of-first_kicked : (way : Way) (k : KickedBody) → out_of (first_kicked way k) ≡ out_of k.body
out_of-first_kicked way k =
    cond_both k.body.out k.body (accelerate way k.kick k.body) (λ c. out_of c ≡ out_of k.body) (λ _. refl) (λ _. refl)

out_of-drift_body : (params : Params) (way : Way) (b : Body) → out_of b ≤ out_of (drift_body params way b)
out_of-drift_body params way b =
    drift_body_cases params way b (λ d. out_of b ≤ out_of d) (λ _. omega arith) (λ _ _ _. omega arith)
    (λ inside _. rw inside (omega arith))

escaped_count-drifted : (params : Params) (way : Way) (list : List KickedBody)
    → escaped_count (without_kicks list) ≤ escaped_count (without_kicks (map (drifted_one params way) list))
escaped_count-drifted params way [] = omega arith
escaped_count-drifted params way (k ∷ ks) =
    let before = sum_by-cons out_of k.body (without_kicks ks) in
    let behind = sum_by-cons out_of (drifted_one params way k).body (without_kicks (map (drifted_one params way) ks)) in
    let one : out_of k.body ≤ out_of (drifted_one params way k).body =
    omega (arith, out_of-first_kicked way k, out_of-drift_body params way (first_kicked way k)) in
    omega (arith, before, behind, one, escaped_count-drifted params way ks)

-- ---- what is left, in the order of ids

module _ (params : Params) (way : Way) (bodies : List Body) (list : List KickedBody) (valid : IsValidBodies params bodies) (is : without_kicks list ≡ sorted_by by_key bodies) (small : All (λ k. IsBelow kick_limit k.kick) list) where
  abbrev drifted : List Body
  drifted = without_kicks (map (drifted_one params way) list)

  abbrev after : List Body
  after = kick params way drifted

  abbrev ordered : List Body
  ordered = sorted_by by_id after

  moved : IsDriftedList params bodies drifted
  moved = drifted_list params way bodies list valid is small

  order : IsPermutation after ordered
  order = permuted by_id after

  long : length ordered ≡ length bodies
  long = length-sorted_by by_id after ∙ length-kick params way drifted ∙ moved.long

  mass : total_mass drifted ≡ total_mass ordered
  mass = sym (total_mass-kick params way drifted) ∙ same_mass after ordered order

  each : All IsValidBody after
  each =
      All-map IsValidBody (λ b. accelerate way (half_kick params drifted b) b) drifted
      (All-weaker IsDriftedBody (λ b. IsValidBody (accelerate way (half_kick params drifted b) b))
      (λ b one. kicked_again_body way b (half_kick params drifted b) one (half_kick_below params drifted moved.gm b)) drifted moved.each)

  different : HaveDifferentIds after
  different = ids_differ drifted after (ids-kick params way drifted) moved.different

  ordered_valid : IsValidBodies params ordered
  ordered_valid = record {
    each = All-permutation IsValidBody after ordered order each;
    ids = ids_rise ordered (sorted by_id after different);
    count = omega (arith, long, valid.count);
    gm = subst (λ (n : ℕ). params.grav * n < gm_limit) mass moved.gm;
  }

  -- as many of them are out as of the drifted ones, and of these no fewer than there were
  escaped_of : escaped_count ordered ≡ escaped_count drifted
  escaped_of = sum_by-IsPermutation out_of after ordered order ∙ escaped_count-kick params way drifted

  escaped_before : escaped_count bodies ≡ escaped_count (without_kicks list)
  escaped_before =
      sym (sum_by-IsPermutation out_of bodies (sorted_by by_key bodies) (permuted by_key bodies)) ∙ ap escaped_count (sym is)

  pub leaves : (from : Slot) (image : Image) (count escaped : ℕ) → length bodies ≡ count → escaped ≡ count - length (unescaped drifted)
      → HoldsList (image.file (slot_file (other_slot from))) (map (kicked_one way) (in_morton_order params drifted))
      → LeavesState params from bodies image escaped
  leaves from image count escaped many is_less holds =
      let total = in_and_out drifted in
      let out : escaped ≡ escaped_count ordered = omega (arith, many, is_less, total, moved.long, escaped_of) in
      record {
        next = ordered;
        valid = ordered_valid;
        count_is = long;
        slot = kicked_slot params way drifted ordered (drifted_box drifted moved.each) moved.different order
            (image.file (slot_file (other_slot from))) holds;
        escaped_is = out;
        no_fewer = omega (arith, out, escaped_of, escaped_before, escaped_count-drifted params way list);
      }
