-- Ticks one after the other: each list of a run is valid, and no body comes back into the box.
use Rattle.std.proofs.Common.{◌≡◌, ℕ, zero, suc, ◌≤◌, cond, List, [], ◌∷◌, ◌++◌, length, take, refl, ◌∙◌, arith}
use Rattle.std.proofs.lemmas.List.Sums.{sum_by-cons}
use Rattle.nb_model.specs.declared.body.Body.{Body}
use Rattle.nb_model.specs.declared.params.Params.{Params}
use Rattle.nb_model.specs.declared.way.Way.{Way}
use Rattle.nb_model.specs.Leapfrog.{escaped_count, kick, drift_body, drift, step, steps}
use Rattle.nb_model.specs.Valid.{IsValidBodies}
use Rattle.nb_model.proofs.Facts.{drift_body_cases, escaped_count-kick, step_valid, length-kick, length-drift}

pub steps_append : (params : Params) (ways more : List Way) (bodies : List Body)
    → steps params (ways ++ more) bodies ≡ steps params more (steps params ways bodies)
steps_append params [] more bodies = refl
steps_append params (way ∷ ways) more bodies = steps_append params ways more (step params way bodies)

pub steps_valid : (params : Params) (ways : List Way) (bodies : List Body) → IsValidBodies params bodies
    → IsValidBodies params (steps params ways bodies)
steps_valid params [] bodies valid = valid
steps_valid params (way ∷ ways) bodies valid =
    steps_valid params ways (step params way bodies) (step_valid params way bodies valid)

-- ---- No body comes back into the box.

-- what a body adds to the count of those that are out
abbrev out_of : Body → ℕ
out_of b = cond b.out 1 0

out_of-drift_body : (params : Params) (way : Way) (b : Body) → out_of b ≤ out_of (drift_body params way b)
out_of-drift_body params way b =
    drift_body_cases params way b (λ d. out_of b ≤ out_of d) (λ _. omega arith) (λ _ _ _. omega arith)
    (λ inside _. rw inside (omega arith))

escaped_count-drift : (params : Params) (way : Way) (bodies : List Body)
    → escaped_count bodies ≤ escaped_count (drift params way bodies)
escaped_count-drift params way [] = omega arith
escaped_count-drift params way (b ∷ bs) =
    let before = sum_by-cons out_of b bs in
    let behind = sum_by-cons out_of (drift_body params way b) (drift params way bs) in
    omega (arith, before, behind, out_of-drift_body params way b, escaped_count-drift params way bs)

pub escaped_count-step : (params : Params) (way : Way) (bodies : List Body)
    → escaped_count bodies ≤ escaped_count (step params way bodies)
escaped_count-step params way bodies =
    let kicked = kick params way bodies in
    let first = escaped_count-kick params way bodies in
    let second = escaped_count-kick params way (drift params way kicked) in
    omega (arith, first, second, escaped_count-drift params way kicked)

pub escaped_count-steps : (params : Params) (ways : List Way) (bodies : List Body)
    → escaped_count bodies ≤ escaped_count (steps params ways bodies)
escaped_count-steps params [] bodies = omega arith
escaped_count-steps params (way ∷ ways) bodies =
    let here = escaped_count-step params way bodies in
    omega (arith, here, escaped_count-steps params ways (step params way bodies))

-- after fewer ticks no more bodies are out
pub escaped_count-fewer : (params : Params) (ways : List Way) (i k : ℕ) (bodies : List Body) → i ≤ k
    → escaped_count (steps params (take i ways) bodies) ≤ escaped_count (steps params (take k ways) bodies)
escaped_count-fewer params ways zero k bodies less = escaped_count-steps params (take k ways) bodies
escaped_count-fewer params ways (suc i) zero bodies less = absurd (omega arith)
escaped_count-fewer params [] (suc i) (suc k) bodies less = omega arith
escaped_count-fewer params (way ∷ ways) (suc i) (suc k) bodies less =
    escaped_count-fewer params ways i k (step params way bodies) (omega arith)

-- ---- no body comes or goes

length-step : (params : Params) (way : Way) (bodies : List Body) → length (step params way bodies) ≡ length bodies
length-step params way bodies =
    let kicked = kick params way bodies in
    length-kick params way (drift params way kicked) ∙ length-drift params way kicked ∙ length-kick params way bodies

pub length-steps : (params : Params) (ways : List Way) (bodies : List Body) → length (steps params ways bodies) ≡ length bodies
length-steps params [] bodies = refl
length-steps params (way ∷ ways) bodies = length-steps params ways (step params way bodies) ∙ length-step params way bodies
