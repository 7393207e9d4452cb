-- The second half of a tick: the drifted bodies in Morton order, their tree, and their second half kick.
use Rattle.std.proofs.Common.{◌≡◌, ℕ, zero, suc, ◌+◌, ◌-◌, ◌*◌, ◌<◌, Bool, true, false, cond, not, List, [], ◌∷◌, length, map, get_or, Some, refl, sym, ap, subst, ◌∙◌, arith}
use Rattle.std.specs.Prelude.{All, IsPermutation, slice_get}
use Rattle.std.proofs.lemmas.List.{length-map, get_or-map}
use Rattle.std.proofs.lemmas.List.Elements.{All-map, All-weaker, All-get_or}
use Rattle.std.proofs.lemmas.List.Sums.{sum_by-cons}
use Rattle.std.proofs.lemmas.List.Sorted.{length_permutation, sum_by-IsPermutation, IsPermutation-sym, All-permutation}
use Rattle.std.proofs.lemmas.Option.{slice_get_within, get_or_from_slice_get, same_Some}
use Rattle.std.proofs.lemmas.Simd.{map-map}
use Rattle.nb_model.specs.declared.body.V3.{V3}
use Rattle.nb_model.specs.declared.body.Body.{Body}
use Rattle.nb_model.specs.declared.params.Params.{Params}
use Rattle.nb_model.specs.declared.way.Way.{Way}
use Rattle.nb_model.specs.Limits.{gm_limit, kick_limit}
use Rattle.nb_model.specs.Octree.{total_mass}
use Rattle.nb_model.specs.Valid.{IsBelow, IsInBox, IsValidBody, IsDriftedBody, IsValidBodies}
use Rattle.nb_model.specs.Leapfrog.{unescaped, escaped_count, half_kick, accelerate, kick, drift, step}
use Rattle.nb_model.proofs.Facts.{map_agree, half_kick-accelerated, length-kick, ids-kick, escaped_count-kick}
use Rattle.nb_record.specs.Cells.{tree_cells}
use Rattle.nb_record.specs.Order.{by_key, sorted_by, HaveDifferentIds, HoldsBodies}
use Rattle.nb_record.specs.Table.{IsCellTable}
use Rattle.nb_record.specs.Tree.{IsBitsFor}
use Rattle.nb_record.proofs.Callers.{permuted, different_ids, different_permuted, same_order, same_mass, same_tree, length-sorted_by}
use Rattle.nb_record.proofs.Stepping.{same_half_kick, same_kick, kick_sorted, kicked_tree}
use Rattle.nb_order.specs.declared.body_file.KickedBody.{KickedBody}
use Rattle.nb_tick.specs.State.{HoldsKickedState, IsCellIndexOf}
use Rattle.nb_tick.specs.Steps.{without_kicks, HoldsList, half_kicked, in_morton_order, drifted_one, kicked_one}
use Rattle.nb_tick.proofs.Lists.{length-without_kicks}
use Rattle.nb_tick.proofs.Drifts.{without_kicks-map, drifted_ids, drifted_masses, all_drifted}

-- ---- lists with the ids of another

pub ids_differ : (xs ys : List Body) → map (λ b. b.id) ys ≡ map (λ b. b.id) xs → HaveDifferentIds xs → HaveDifferentIds ys
ids_differ xs ys same different i j d before within =
    let id = λ (b : Body). b.id in
    let long : length ys ≡ length xs = sym (length-map ys id) ∙ ap length same ∙ length-map xs id in
    let at : (k : ℕ) → k < length ys → (get_or ys k d).id ≡ (get_or xs k d).id =
    λ k below. sym (get_or-map id ys k d 0 below) ∙ ap (λ l. get_or l k 0) same ∙ get_or-map id xs k d 0 (omega (arith, long)) in
    λ equal. different i j d before (omega (arith, long)) (sym (at i (omega arith)) ∙ equal ∙ at j within)

pub in_and_out : (bodies : List Body) → length (unescaped bodies) + escaped_count bodies ≡ length bodies
in_and_out [] = refl
in_and_out (b ∷ bs) = omega (arith, sum_by-cons (λ (c : Body). cond c.out 1 0) b bs, in_and_out bs, one b.out) where
  one : (t : Bool) → length (cond (not t) (b ∷ unescaped bs) (unescaped bs)) + cond t 1 0 ≡ length (unescaped bs) + 1
  one true = omega arith
  one false = omega arith

-- ---- the drifted bodies of a slot, whatever their kicks

-- What a drift leaves of so many valid bodies in Morton order: as many, with different ids, light enough, and each slow.
pub record IsDriftedList (params : Params) (bodies drifted : List Body) : Type 0 where
  pub long : length drifted ≡ length bodies
  pub different : HaveDifferentIds drifted
  pub gm : params.grav * total_mass drifted < gm_limit
  pub each : All IsDriftedBody drifted

pub drifted_list : (params : Params) (way : Way) (bodies : List Body) (list : List KickedBody) → IsValidBodies params bodies
    → without_kicks list ≡ sorted_by by_key bodies → All (λ k. IsBelow kick_limit k.kick) list
    → IsDriftedList params bodies (without_kicks (map (drifted_one params way) list))
drifted_list params way bodies list valid is small =
    let order = permuted by_key bodies in
    let after = map (drifted_one params way) list in
    let mass : total_mass (without_kicks after) ≡ total_mass bodies =
    drifted_masses params way list ∙ ap total_mass is ∙ sym (same_mass bodies (sorted_by by_key bodies) order) in
    record {
      long = length-without_kicks after ∙ length-map list (drifted_one params way) ∙ sym (length-without_kicks list) ∙ ap length is ∙ length-sorted_by by_key bodies;
      different = ids_differ (sorted_by by_key bodies) (without_kicks after) (drifted_ids params way list ∙ ap (map (λ (b : Body). b.id)) is)
          (different_permuted bodies (sorted_by by_key bodies) (different_ids bodies valid.ids) order);
      gm = subst (λ (n : ℕ). params.grav * n < gm_limit) (sym mass) valid.gm;
      each = all_drifted params way list
          (subst (All IsValidBody) (sym is) (All-permutation IsValidBody bodies (sorted_by by_key bodies) order valid.each)) small;
    }

pub drifted_box : (drifted : List Body) → All IsDriftedBody drifted → All (λ b. IsInBox b.at) drifted
drifted_box drifted each = All-weaker IsDriftedBody (λ (b : Body). IsInBox b.at) (λ b one. one.at) drifted each

-- ---- the drifted bodies after their second half kick, in any order

at_each : (P : KickedBody → Type 0) (list : List KickedBody) (j : ℕ) (k : KickedBody) → All P list → slice_get list j ≡ Some k → P k
at_each P list j k all is =
    subst P (get_or_from_slice_get list j k k is) (All-get_or P list j k (slice_get_within list j k is) all)

-- the body at an index, with its kick
body_of_list : (list : List KickedBody) (j : ℕ) (b : Body) → slice_get (without_kicks list) j ≡ Some b
    → (k : KickedBody) × (slice_get list j ≡ Some k) × (k.body ≡ b)
body_of_list [] j b is = absurd (cc)
body_of_list (k ∷ ks) zero b is = (k, refl, same_Some k.body b is)
body_of_list (k ∷ ks) (suc j) b is = body_of_list ks j b is

module _ (params : Params) (way : Way) (drifted after : List Body) (box : All (λ b. IsInBox b.at) drifted) (different : HaveDifferentIds drifted) (is : IsPermutation (kick params way drifted) after) where
  abbrev kicked : List KickedBody
  kicked = map (kicked_one way) (in_morton_order params drifted)

  kicked_order : without_kicks kicked ≡ sorted_by by_key after
  kicked_order =
      let sorted_drifted = sorted_by by_key drifted in
      let order = permuted by_key drifted in
      without_kicks-map (kicked_one way) (in_morton_order params drifted)
      ∙ map-map (λ (k : KickedBody). (kicked_one way k).body) (half_kicked params drifted) sorted_drifted
      ∙ map_agree (λ (b : Body). accelerate way (half_kick params drifted b) b) (λ (b : Body). accelerate way (half_kick params sorted_drifted b) b)
      (λ b. ap (λ (k : V3). accelerate way k b) (same_half_kick params drifted sorted_drifted b box order)) sorted_drifted
      ∙ kick_sorted params way drifted box
      ∙ same_order by_key (kick params way drifted) after
      (ids_differ drifted (kick params way drifted) (ids-kick params way drifted) different) is

  -- each kick is the half kick of its body in the list that is left
  own_kicks : All (λ k. k.kick ≡ half_kick params after k.body) kicked
  own_kicks =
      All-map (λ (k : KickedBody). k.kick ≡ half_kick params after k.body) (kicked_one way) (in_morton_order params drifted)
      (All-map (λ (k : KickedBody). k.kick ≡ half_kick params after (kicked_one way k).body) (half_kicked params drifted) (sorted_by by_key drifted)
      (λ j d below. own (get_or (sorted_by by_key drifted) j d))) where
        own : (b : Body) → half_kick params drifted b ≡ half_kick params after (accelerate way (half_kick params drifted b) b)
        own b =
            sym (half_kick-accelerated way (half_kick params drifted) params drifted b)
            ∙ same_half_kick params (kick params way drifted) after b
            (All-map (λ (c : Body). IsInBox c.at) (λ c. accelerate way (half_kick params drifted c) c) drifted box) is

  pub kicked_slot : (file : List ℕ) → HoldsList file kicked → HoldsKickedState params after file
  kicked_slot file holds = record {
    bodies = subst (HoldsBodies file) kicked_order holds.bodies;
    kicks = λ j b at.
        let found = body_of_list kicked j b (subst (λ (l : List Body). slice_get l j ≡ Some b) (sym kicked_order) at) in
        holds.kicks j found.0 found.1
        ∙ at_each (λ (k : KickedBody). k.kick ≡ half_kick params after k.body) kicked j found.0 own_kicks found.1
        ∙ ap (half_kick params after) found.2;
  }

-- ---- the list one step on

module _ (params : Params) (way : Way) (bodies drifted : List Body) (valid : IsValidBodies params bodies) (moved : IsDriftedList params bodies drifted) (is : IsPermutation (drift params way (kick params way bodies)) drifted) where
  abbrev before : List Body
  before = drift params way (kick params way bodies)

  abbrev after : List Body
  after = step params way bodies

  back : IsPermutation drifted before
  back = IsPermutation-sym before drifted is

  pub stepped_slot : (file : List ℕ) → HoldsList file (map (kicked_one way) (in_morton_order params drifted)) → HoldsKickedState params after file
  stepped_slot file holds =
      let box = drifted_box drifted moved.each in
      kicked_slot params way drifted after box moved.different (same_kick params way drifted before box back) file holds

  same_length : length after ≡ length drifted
  same_length = length-kick params way before ∙ sym (length_permutation before drifted is)

  pub stepped_cells : (file : List ℕ) (bits pages : ℕ) → IsBitsFor bits (length drifted) → IsCellTable file bits pages (tree_cells params drifted)
      → IsCellIndexOf params after file
  stepped_cells file bits pages least table = record {
    bits = bits;
    pages = pages;
    least = subst (IsBitsFor bits) (sym same_length) least;
    table = subst (IsCellTable file bits pages) (same_tree params drifted before back ∙ sym (kicked_tree params params way before)) table;
  }

  pub stepped_escaped : (count escaped : ℕ) → length bodies ≡ count → escaped ≡ count - length (unescaped drifted) → escaped ≡ escaped_count after
  stepped_escaped count escaped long is_less =
      let same : escaped_count drifted ≡ escaped_count before =
      sum_by-IsPermutation (λ (b : Body). cond b.out 1 0) before drifted is in
      let total = in_and_out drifted in
      let kept : escaped_count after ≡ escaped_count before = escaped_count-kick params way before in
      let many : length drifted ≡ count = moved.long ∙ long in
      omega (arith, is_less, many, total, same, kept)
