-- Bodies in Morton order with their half kicks: those in the box, and behind them those that are out.
use Rattle.std.proofs.Common.{◌≡◌, ℕ, zero, suc, Bool, true, cond, List, [], ◌∷◌, ◌++◌, length, map, take, drop, refl, sym, ap, ◌∙◌}
use Rattle.std.specs.Prelude.{All}
use Rattle.std.proofs.lemmas.List.{map-append, take-append-drop}
use Rattle.std.proofs.lemmas.List.Elements.{All-head, All-tail, All-same}
use Rattle.nb_model.specs.declared.body.V3.{V3}
use Rattle.nb_model.specs.declared.body.Body.{Body}
use Rattle.nb_model.specs.declared.params.Params.{Params}
use Rattle.nb_model.specs.declared.way.Way.{Way}
use Rattle.nb_model.specs.Vector.{zero_vector}
use Rattle.nb_model.specs.Leapfrog.{unescaped, half_kick, accelerate, drifted, drift_of, moved_to, drift_body}
use Rattle.nb_record.specs.Order.{by_key, sorted_by}
use Rattle.nb_record.proofs.Callers.{front, escaped}
use Rattle.nb_order.specs.declared.body_file.KickedBody.{KickedBody}
use Rattle.nb_tick.specs.Steps.{without_kicks, half_kicked, in_morton_order, drifted_one, kicked_one, resting_one}
use Rattle.nb_tick.proofs.Drifts.{accelerate-zero, half_kick-out}

-- what becomes of a body that is out: nothing
abbrev pub Rests : Params → List Body → (KickedBody → KickedBody) → Type 0
Rests params bodies made = (b : Body) (kick : V3) → b.out ≡ true
    → resting_one (record { body = b; kick = kick }) ≡ made (half_kicked params bodies b)

pub rests_drifted : (params : Params) (way : Way) (bodies : List Body) → Rests params bodies (drifted_one params way)
rests_drifted params way bodies b kick out =
    let accelerated = accelerate way (half_kick params bodies b) b in
    let first : cond b.out b accelerated ≡ b = ap (λ (t : Bool). cond t b accelerated) out in
    let there = drifted params.edge b.at (drift_of way b.v) in
    let second : drift_body params way b ≡ b = ap (λ (t : Bool). cond t b (moved_to b there)) out in
    ap (λ (c : Body). record { body = c; kick = zero_vector }) (sym (ap (drift_body params way) first ∙ second))

pub rests_kicked : (params : Params) (way : Way) (bodies : List Body) → Rests params bodies (kicked_one way)
rests_kicked params way bodies b kick out =
    let none = half_kick-out params bodies b out in
    let same : accelerate way (half_kick params bodies b) b ≡ b = ap (λ (v : V3). accelerate way v b) none ∙ accelerate-zero way b in
    λ t. record { body = sym same t; kick = sym none t }

drop-without_kicks : (n : ℕ) (list : List KickedBody) → without_kicks (drop n list) ≡ drop n (without_kicks list)
drop-without_kicks zero list = refl
drop-without_kicks (suc n) [] = refl
drop-without_kicks (suc n) (k ∷ ks) = drop-without_kicks n ks

rested : (params : Params) (bodies : List Body) (made : KickedBody → KickedBody) → Rests params bodies made → (list : List KickedBody)
    → All (λ b. b.out ≡ true) (without_kicks list) → map resting_one list ≡ map made (map (half_kicked params bodies) (without_kicks list))
rested params bodies made rests [] out = refl
rested params bodies made rests (k ∷ ks) out =
    let here = rests k.body k.kick (All-head (λ (b : Body). b.out ≡ true) k.body (without_kicks ks) out) in
    let rest = rested params bodies made rests ks (All-tail (λ (b : Body). b.out ≡ true) k.body (without_kicks ks) out) in
    λ t. here t ∷ rest t

-- The front of the order are the bodies in the box, and behind them those that are out stay as they are.
pub front_and_back : (params : Params) (bodies : List Body) (made : KickedBody → KickedBody) → Rests params bodies made → (list : List KickedBody)
    → without_kicks list ≡ sorted_by by_key bodies
    → map made (map (half_kicked params bodies) (sorted_by by_key (unescaped bodies))) ++ map resting_one (drop (length (unescaped bodies)) list)
    ≡ map made (in_morton_order params bodies)
front_and_back params bodies made rests list is =
    let n = length (unescaped bodies) in
    let sorted = sorted_by by_key bodies in
    let each = λ (l : List Body). map made (map (half_kicked params bodies) l) in
    let behind : without_kicks (drop n list) ≡ drop n sorted = drop-without_kicks n list ∙ ap (drop n) is in
    let back : map resting_one (drop n list) ≡ each (drop n sorted) =
    rested params bodies made rests (drop n list) (All-same (λ (b : Body). b.out ≡ true) (without_kicks (drop n list)) (drop n sorted) behind (escaped bodies))
    ∙ ap each behind in
    ap (λ (l : List KickedBody). each (sorted_by by_key (unescaped bodies)) ++ l) back
    ∙ ap (λ (l : List Body). each l ++ each (drop n sorted)) (sym (front bodies))
    ∙ sym (map-append made (map (half_kicked params bodies) (take n sorted)) (map (half_kicked params bodies) (drop n sorted)))
    ∙ ap (map made) (sym (map-append (half_kicked params bodies) (take n sorted) (drop n sorted)))
    ∙ ap each (take-append-drop n sorted)
