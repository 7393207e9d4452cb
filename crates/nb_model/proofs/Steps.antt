-- What a half kick and a drift leave as it was, and that a tick keeps a list valid.
use Rattle.std.proofs.Common.{◌≡◌, ℕ, ◌+◌, ◌*◌, ◌<◌, ◌≤◌, cond, not, List, length, map, ℤ, refl, ◌∙◌, arith}
use Rattle.std.specs.Prelude.{All, unsigned_abs}
use Rattle.std.proofs.lemmas.Bool.{cond_both, both_ways}
use Rattle.std.proofs.lemmas.Int.{ints}
use Rattle.std.proofs.lemmas.List.{length-map}
use Rattle.std.proofs.lemmas.List.Elements.{All-map, All-weaker}
use Rattle.std.proofs.lemmas.Simd.{map-map}
use Rattle.std.proofs.Math.Nat.{mul-le-mul_left}
use Rattle.nb_model.specs.declared.body.V3.{V3}
use Rattle.nb_model.specs.declared.body.Body.{Body}
use Rattle.nb_model.specs.declared.params.Params.{Params}
use Rattle.nb_model.specs.declared.way.Way.{Way}
use Rattle.nb_model.specs.declared.way.Way.TheVariants.{Forward, Back}
use Rattle.nb_model.specs.Limits.{box_side, gm_limit, kick_limit, speed_limit}
use Rattle.nb_model.specs.Vector.{zero_vector}
use Rattle.nb_model.specs.Octree.{total_mass}
use Rattle.nb_model.specs.Gravity.{force_on}
use Rattle.nb_model.specs.Leapfrog.{unescaped, escaped_count, half_kick, changed_along, changed, accelerate, kick, drifted, drift_of, drift_body, drift, step}
use Rattle.nb_model.specs.Valid.{IsBelow, IsValidBody, IsBodyAfterKick, IsDriftedBody, IsValidBodies}
use Rattle.nb_model.specs.Laws.{BodyStaysValid}
use Rattle.nb_model.proofs.Sums.{map_agree, sum_by_agree, sum_by-map, sum_by-filter-le, length-filter-le}
use Rattle.nb_model.proofs.Vectors.{IsAtMost, IsAtMost-zero, IsAtMost-more, IsBelow-from_most}
use Rattle.nb_model.proofs.Drifts.{drift_body_cases, is_drifted, IsBelow-of_drift}
use Rattle.nb_model.proofs.Forces.{force_on_bound}

-- ---- the bodies in the box

pub total_mass-unescaped-le : (bodies : List Body) → total_mass (unescaped bodies) ≤ total_mass bodies
total_mass-unescaped-le bodies = sum_by-filter-le (λ b. b.mass) (λ b. not b.out) bodies

pub length-unescaped-le : (bodies : List Body) → length (unescaped bodies) ≤ length bodies
length-unescaped-le bodies = length-filter-le (λ b. not b.out) bodies

pub gm-unescaped : (grav : ℕ) (bodies : List Body) → grav * total_mass bodies < gm_limit → grav * total_mass (unescaped bodies) < gm_limit
gm-unescaped grav bodies gm = omega (arith, mul-le-mul_left grav (total_mass-unescaped-le bodies))

-- a half kick is at most the constant of gravity times the mass of all bodies
pub half_kick_bound : (params : Params) (bodies : List Body) (b : Body) → IsAtMost (params.grav * total_mass bodies) (half_kick params bodies b)
half_kick_bound params bodies b =
    let most = params.grav * total_mass bodies in
    let inner = params.grav * total_mass (unescaped bodies) in
    let force = force_on params b.at 0 (unescaped bodies) in
    let less : inner ≤ most = mul-le-mul_left params.grav (total_mass-unescaped-le bodies) in
    cond_both b.out zero_vector force (λ v. IsAtMost most v) (λ _. IsAtMost-zero most) (λ _. IsAtMost-more inner most force less (force_on_bound params b.at 0 (unescaped bodies)))

-- ---- what stays

pub total_mass-kick : (params : Params) (way : Way) (bodies : List Body) → total_mass (kick params way bodies) ≡ total_mass bodies
total_mass-kick params way bodies = sum_by-map (λ b. b.mass) (λ b. accelerate way (half_kick params bodies b) b) bodies

pub length-kick : (params : Params) (way : Way) (bodies : List Body) → length (kick params way bodies) ≡ length bodies
length-kick params way bodies = length-map bodies (λ b. accelerate way (half_kick params bodies b) b)

pub ids-kick : (params : Params) (way : Way) (bodies : List Body) → map (λ b. b.id) (kick params way bodies) ≡ map (λ b. b.id) bodies
ids-kick params way bodies = map-map (λ b. b.id) (λ b. accelerate way (half_kick params bodies b) b) bodies

pub escaped_count-kick : (params : Params) (way : Way) (bodies : List Body) → escaped_count (kick params way bodies) ≡ escaped_count bodies
escaped_count-kick params way bodies =
    sum_by-map (λ b. cond b.out 1 0) (λ b. accelerate way (half_kick params bodies b) b) bodies

mass-drift_body : (params : Params) (way : Way) (b : Body) → (drift_body params way b).mass ≡ b.mass
mass-drift_body params way b = drift_body_cases params way b (λ c. c.mass ≡ b.mass) (λ _. refl) (λ _ _ _. refl) (λ _ _. refl)

id-drift_body : (params : Params) (way : Way) (b : Body) → (drift_body params way b).id ≡ b.id
id-drift_body params way b = drift_body_cases params way b (λ c. c.id ≡ b.id) (λ _. refl) (λ _ _ _. refl) (λ _ _. refl)

pub total_mass-drift : (params : Params) (way : Way) (bodies : List Body) → total_mass (drift params way bodies) ≡ total_mass bodies
total_mass-drift params way bodies =
    sum_by-map (λ b. b.mass) (drift_body params way) bodies ∙ sum_by_agree (λ b. (drift_body params way b).mass) (λ b. b.mass) (mass-drift_body params way) bodies

pub length-drift : (params : Params) (way : Way) (bodies : List Body) → length (drift params way bodies) ≡ length bodies
length-drift params way bodies = length-map bodies (drift_body params way)

pub ids-drift : (params : Params) (way : Way) (bodies : List Body) → map (λ b. b.id) (drift params way bodies) ≡ map (λ b. b.id) bodies
ids-drift params way bodies =
    map-map (λ b. b.id) (drift_body params way) bodies ∙ map_agree (λ b. (drift_body params way b).id) (λ b. b.id) (id-drift_body params way) bodies

-- ---- the speeds

changed_along-below : (way : Way) (a b : ℤ) (m n most : ℕ) → m + n ≤ most → unsigned_abs a < m → unsigned_abs b < n → unsigned_abs (changed_along way a b) < most
changed_along-below Forward a b m n most le p q = omega (arith, ints)
changed_along-below Back a b m n most le p q = omega (arith, ints)

IsBelow-changed : (way : Way) (m n most : ℕ) (v k : V3) → m + n ≤ most → IsBelow m v → IsBelow n k → IsBelow most (changed way v k)
IsBelow-changed way m n most v k le p q = record {
  x = changed_along-below way v.x k.x m n most le p.x q.x;
  y = changed_along-below way v.y k.y m n most le p.y q.y;
  z = changed_along-below way v.z k.z m n most le p.z q.z;
}

pub kicked_body : (way : Way) (b : Body) (k : V3) → IsValidBody b → IsBelow kick_limit k → IsBodyAfterKick (accelerate way k b)
kicked_body way b k valid small = record {
  some_mass = valid.some_mass;
  mass = valid.mass;
  at = valid.at;
  speed = λ inside. IsBelow-changed way speed_limit kick_limit (2 * speed_limit) b.v k (omega arith) (valid.speed inside) small;
}

pub kicked_again_body : (way : Way) (b : Body) (k : V3) → IsDriftedBody b → IsBelow kick_limit k → IsValidBody (accelerate way k b)
kicked_again_body way b k drifted small = record {
  some_mass = drifted.some_mass;
  mass = drifted.mass;
  at = drifted.at;
  speed = λ inside. IsBelow-changed way box_side kick_limit speed_limit b.v k (omega arith) (drifted.speed inside) small;
}

pub drifted_body : (params : Params) (way : Way) (b : Body) → IsBodyAfterKick b → IsDriftedBody (drift_body params way b)
drifted_body params way b kicked = drift_body_cases params way b IsDriftedBody
    (λ out. record { some_mass = kicked.some_mass; mass = kicked.mass; at = kicked.at; speed = λ inside. absurd (both_ways b.out inside out) })
    (λ inside r there. let moved = is_drifted params.edge b.at (drift_of way b.v) r kicked.at there in
    record { some_mass = kicked.some_mass; mass = kicked.mass; at = moved.at; speed = λ _. IsBelow-of_drift way box_side b.v moved.short })
    (λ inside leaves. record { some_mass = kicked.some_mass; mass = kicked.mass; at = kicked.at; speed = λ still. absurd (cc) })

pub IsValidBody-drifted : (b : Body) → IsDriftedBody b → IsValidBody b
IsValidBody-drifted b drifted = record {
  some_mass = drifted.some_mass;
  mass = drifted.mass;
  at = drifted.at;
  speed = λ inside. let s = drifted.speed inside in record { x = omega (arith, s.x); y = omega (arith, s.y); z = omega (arith, s.z) };
}

pub body_stays_valid : BodyStaysValid
body_stays_valid = record {
  kicked = λ way k b valid small. kicked_body way b k valid small;
  drifted = drifted_body;
  valid = IsValidBody-drifted;
  kicked_again = λ way k b drifted small. kicked_again_body way b k drifted small;
}

-- ---- the lists of a tick

pub half_kick_below : (params : Params) (bodies : List Body) → params.grav * total_mass bodies < gm_limit → (b : Body) → IsBelow kick_limit (half_kick params bodies b)
half_kick_below params bodies gm b =
    IsBelow-from_most (params.grav * total_mass bodies) kick_limit (half_kick params bodies b) gm (half_kick_bound params bodies b)

pub All-kick : (params : Params) (way : Way) (bodies : List Body) → IsValidBodies params bodies → All IsBodyAfterKick (kick params way bodies)
All-kick params way bodies valid =
    All-map IsBodyAfterKick (λ b. accelerate way (half_kick params bodies b) b) bodies (All-weaker IsValidBody (λ b. IsBodyAfterKick (accelerate way (half_kick params bodies b) b)) (λ b ok. kicked_body way b (half_kick params bodies b) ok (half_kick_below params bodies valid.gm b)) bodies valid.each)

pub All-drift : (params : Params) (way : Way) (bodies : List Body) → All IsBodyAfterKick bodies → All IsDriftedBody (drift params way bodies)
All-drift params way bodies kicked =
    All-map IsDriftedBody (drift_body params way) bodies (All-weaker IsBodyAfterKick (λ b. IsDriftedBody (drift_body params way b)) (drifted_body params way) bodies kicked)

-- the list between the drift and the second half kick is valid
pub drift-kick_valid : (params : Params) (way : Way) (bodies : List Body) → IsValidBodies params bodies → IsValidBodies params (drift params way (kick params way bodies))
drift-kick_valid params way bodies valid =
    let kicked = kick params way bodies in
    record {
      each = All-weaker IsDriftedBody IsValidBody IsValidBody-drifted (drift params way kicked) (All-drift params way kicked (All-kick params way bodies valid));
      ids = rw (ids-drift params way kicked, ids-kick params way bodies) valid.ids;
      count = omega (arith, length-drift params way kicked, length-kick params way bodies, valid.count);
      gm = rw (total_mass-drift params way kicked, total_mass-kick params way bodies) valid.gm;
    }

pub step_valid : (params : Params) (way : Way) (bodies : List Body) → IsValidBodies params bodies → IsValidBodies params (step params way bodies)
step_valid params way bodies valid =
    let drifted = drift params way (kick params way bodies) in
    let between = drift-kick_valid params way bodies valid in
    let each = All-drift params way (kick params way bodies) (All-kick params way bodies valid) in
    record {
      each = All-map IsValidBody (λ b. accelerate way (half_kick params drifted b) b) drifted (All-weaker IsDriftedBody (λ b. IsValidBody (accelerate way (half_kick params drifted b) b)) (λ b ok. kicked_again_body way b (half_kick params drifted b) ok (half_kick_below params drifted between.gm b)) drifted each);
      ids = rw (ids-kick params way drifted) between.ids;
      count = omega (arith, length-kick params way drifted, between.count);
      gm = rw (total_mass-kick params way drifted) between.gm;
    }
