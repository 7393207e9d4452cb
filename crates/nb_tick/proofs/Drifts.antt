-- The bodies of a slot after their first half kick and their drift.
use Rattle.std.proofs.Common.{◌≡◌, Bool, true, cond, List, [], ◌∷◌, map, refl, sym, ap, subst, ◌∙◌, arith}
use Rattle.std.specs.Prelude.{All, IsPermutation, ℤ, pos}
use Rattle.std.proofs.lemmas.Bool.{cond_both, both_ways}
use Rattle.std.proofs.lemmas.Int.{ints}
use Rattle.std.proofs.lemmas.List.Elements.{All-nil, All-cons, All-head, All-tail}
use Rattle.std.proofs.lemmas.List.Sorted.{IsPermutation-map}
use Rattle.std.proofs.lemmas.Simd.{map-map}
use Rattle.nb_model.specs.declared.body.V3.{V3}
use Rattle.nb_model.specs.declared.body.Body.{Body}
use Rattle.nb_model.specs.declared.params.Params.{Params}
use Rattle.nb_model.specs.declared.way.Way.{Way}
use Rattle.nb_model.specs.declared.way.Way.TheVariants.{Forward, Back}
use Rattle.nb_model.specs.Limits.{kick_limit}
use Rattle.nb_model.specs.Valid.{IsBelow, IsValidBody, IsBodyAfterKick, IsDriftedBody}
use Rattle.nb_model.specs.Vector.{zero_vector}
use Rattle.nb_model.specs.Octree.{total_mass}
use Rattle.nb_model.specs.Gravity.{force_on}
use Rattle.nb_model.specs.Leapfrog.{unescaped, half_kick, changed, changed_along, accelerate, kick, drift_body, drift}
use Rattle.nb_model.proofs.Facts.{map_agree, sum_by_agree, sum_by-map, same_vector, drift_body_cases, kicked_body, drifted_body}
use Rattle.nb_record.specs.Order.{by_key, sorted_by}
use Rattle.nb_record.proofs.Callers.{permuted}
use Rattle.nb_order.specs.declared.body_file.KickedBody.{KickedBody}
use Rattle.nb_tick.specs.Steps.{without_kicks, half_kicked, in_morton_order, drifted_one}

-- ---- one body

-- a body after its first half kick: one that is out gets none
abbrev pub first_kicked : Way → KickedBody → Body
first_kicked way k = cond k.body.out k.body (accelerate way k.kick k.body)

pub drifted_id : (params : Params) (way : Way) (k : KickedBody) → (drifted_one params way k).body.id ≡ k.body.id
drifted_id params way k =
    drift_body_cases params way (first_kicked way k) (λ c. c.id ≡ (first_kicked way k).id) (λ _. refl) (λ _ _ _. refl) (λ _ _. refl)
    ∙ cond_both k.body.out k.body (accelerate way k.kick k.body) (λ c. c.id ≡ k.body.id) (λ _. refl) (λ _. refl)

pub drifted_mass : (params : Params) (way : Way) (k : KickedBody) → (drifted_one params way k).body.mass ≡ k.body.mass
drifted_mass params way k =
    drift_body_cases params way (first_kicked way k) (λ c. c.mass ≡ (first_kicked way k).mass) (λ _. refl) (λ _ _ _. refl) (λ _ _. refl)
    ∙ cond_both k.body.out k.body (accelerate way k.kick k.body) (λ c. c.mass ≡ k.body.mass) (λ _. refl) (λ _. refl)

pub first_kicked_valid : (way : Way) (k : KickedBody) → IsValidBody k.body → IsBelow kick_limit k.kick → IsBodyAfterKick (first_kicked way k)
first_kicked_valid way k valid small =
    cond_both k.body.out k.body (accelerate way k.kick k.body) IsBodyAfterKick
    (λ out. record { some_mass = valid.some_mass; mass = valid.mass; at = valid.at; speed = λ inside. absurd (both_ways k.body.out inside out) })
    (λ _. kicked_body way k.body k.kick valid small)

pub drifted_one_valid : (params : Params) (way : Way) (k : KickedBody) → IsValidBody k.body → IsBelow kick_limit k.kick
    → IsDriftedBody (drifted_one params way k).body
drifted_one_valid params way k valid small = drifted_body params way (first_kicked way k) (first_kicked_valid way k valid small)

changed_none : (way : Way) (c : ℤ) → changed_along way c (pos 0) ≡ c
changed_none Forward c = omega (arith, ints)
changed_none Back c = omega (arith, ints)

-- no half kick leaves a body
pub accelerate-zero : (way : Way) (b : Body) → accelerate way zero_vector b ≡ b
accelerate-zero way b =
    let same : changed way b.v zero_vector ≡ b.v =
    same_vector (changed way b.v zero_vector) b.v (changed_none way b.v.x) (changed_none way b.v.y) (changed_none way b.v.z) in
    ap (λ (v : V3). record b { v = v }) same

-- a body that is out gets no half kick
pub half_kick-out : (params : Params) (bodies : List Body) (b : Body) → b.out ≡ true → half_kick params bodies b ≡ zero_vector
half_kick-out params bodies b out = ap (λ (t : Bool). cond t zero_vector (force_on params b.at 0 (unescaped bodies))) out

first_kicked-half : (params : Params) (way : Way) (bodies : List Body) (b : Body)
    → first_kicked way (half_kicked params bodies b) ≡ accelerate way (half_kick params bodies b) b
first_kicked-half params way bodies b =
    cond_both b.out b (accelerate way (half_kick params bodies b) b) (λ c. c ≡ accelerate way (half_kick params bodies b) b)
    (λ out. sym (ap (λ (v : V3). accelerate way v b) (half_kick-out params bodies b out) ∙ accelerate-zero way b)) (λ _. refl)

-- ---- a list of them

pub without_kicks-map : (f : KickedBody → KickedBody) (list : List KickedBody) → without_kicks (map f list) ≡ map (λ k. (f k).body) list
without_kicks-map f list = map-map (λ (k : KickedBody). k.body) f list

pub drifted_ids : (params : Params) (way : Way) (list : List KickedBody)
    → map (λ b. b.id) (without_kicks (map (drifted_one params way) list)) ≡ map (λ b. b.id) (without_kicks list)
drifted_ids params way list =
    let id = λ (b : Body). b.id in
    ap (map id) (without_kicks-map (drifted_one params way) list)
    ∙ map-map id (λ (k : KickedBody). (drifted_one params way k).body) list
    ∙ map_agree (λ (k : KickedBody). (drifted_one params way k).body.id) (λ (k : KickedBody). k.body.id) (drifted_id params way) list
    ∙ sym (map-map id (λ (k : KickedBody). k.body) list)

pub drifted_masses : (params : Params) (way : Way) (list : List KickedBody)
    → total_mass (without_kicks (map (drifted_one params way) list)) ≡ total_mass (without_kicks list)
drifted_masses params way list =
    let mass = λ (b : Body). b.mass in
    sum_by-map mass (λ (k : KickedBody). k.body) (map (drifted_one params way) list)
    ∙ sum_by-map (λ (k : KickedBody). k.body.mass) (drifted_one params way) list
    ∙ sum_by_agree (λ (k : KickedBody). (drifted_one params way k).body.mass) (λ (k : KickedBody). k.body.mass) (drifted_mass params way) list
    ∙ sym (sum_by-map mass (λ (k : KickedBody). k.body) list)

pub all_drifted : (params : Params) (way : Way) (list : List KickedBody) → All IsValidBody (without_kicks list)
    → All (λ k. IsBelow kick_limit k.kick) list → All IsDriftedBody (without_kicks (map (drifted_one params way) list))
all_drifted params way [] valid small = All-nil IsDriftedBody
all_drifted params way (k ∷ ks) valid small =
    All-cons IsDriftedBody (drifted_one params way k).body (without_kicks (map (drifted_one params way) ks))
    (drifted_one_valid params way k (All-head IsValidBody k.body (without_kicks ks) valid) (All-head (λ (one : KickedBody). IsBelow kick_limit one.kick) k ks small))
    (all_drifted params way ks (All-tail IsValidBody k.body (without_kicks ks) valid) (All-tail (λ (one : KickedBody). IsBelow kick_limit one.kick) k ks small))

-- by the half kicks it is the list after a kick and a drift, in another order
pub drifted_permuted : (params : Params) (way : Way) (bodies : List Body)
    → IsPermutation (drift params way (kick params way bodies)) (without_kicks (map (drifted_one params way) (in_morton_order params bodies)))
drifted_permuted params way bodies =
    let sorted = sorted_by by_key bodies in
    let moved = λ (b : Body). drift_body params way (accelerate way (half_kick params bodies b) b) in
    let there : without_kicks (map (drifted_one params way) (in_morton_order params bodies)) ≡ map moved sorted =
    without_kicks-map (drifted_one params way) (in_morton_order params bodies)
    ∙ map-map (λ (k : KickedBody). (drifted_one params way k).body) (half_kicked params bodies) sorted
    ∙ map_agree (λ (b : Body). (drifted_one params way (half_kicked params bodies b)).body) moved
    (λ b. ap (drift_body params way) (first_kicked-half params way bodies b)) sorted in
    let here : drift params way (kick params way bodies) ≡ map moved bodies =
    map-map (drift_body params way) (λ (b : Body). accelerate way (half_kick params bodies b) b) bodies in
    subst (λ (l : List Body). IsPermutation l (without_kicks (map (drifted_one params way) (in_morton_order params bodies)))) (sym here)
    (subst (IsPermutation (map moved bodies)) (sym there) (IsPermutation-map moved bodies sorted (permuted by_key bodies)))
