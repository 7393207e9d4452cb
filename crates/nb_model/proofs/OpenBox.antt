-- In an open box there are no images.
use Rattle.std.proofs.Common.{◌≡◌, ℕ, ◌+◌, ◌*◌, Bool, cond, true, false, refl, ap, ◌∙◌, arith, None, Some}
use Rattle.std.specs.Prelude.{nat_lt}
use Rattle.std.proofs.lemmas.Int.{ints}
use Rattle.nb_model.specs.declared.body.At.{At}
use Rattle.nb_model.specs.declared.body.V3.{V3}
use Rattle.nb_model.specs.declared.body.Body.{Body}
use Rattle.nb_model.specs.declared.edge.Edge.TheVariants.{Open}
use Rattle.nb_model.specs.declared.params.Params.{Params}
use Rattle.nb_model.specs.declared.way.Way.{Way}
use Rattle.nb_model.specs.declared.way.Way.TheVariants.{Forward, Back}
use Rattle.nb_model.specs.Vector.{plus, norm_squared, nearest_displacement}
use Rattle.nb_model.specs.Octree.{cell_side}
use Rattle.nb_model.specs.Gravity.{pull_along, pull, is_far}
use Rattle.nb_model.specs.Leapfrog.{changed, is_position, vector_of, position_of, drifted, drift_of, moved_to, drift_body}
use Rattle.nb_model.specs.Laws.{IsOpenBox, open_pull, open_is_far, open_drift_body}
use Rattle.nb_model.proofs.Vectors.{same_vector}

-- a pull by the displacement and the softening
pull_by : Params → ℕ → V3 → V3
pull_by params mass d =
    let q = norm_squared d + params.soft * params.soft in
    record {
      x = pull_along (params.grav * mass) q d.x;
      y = pull_along (params.grav * mass) q d.y;
      z = pull_along (params.grav * mass) q d.z;
    }

pulls : (params : Params) → params.edge ≡ Open → (p : At) (mass : ℕ) (c : At) → pull params p mass c ≡ open_pull params p mass c
unfolding pull_by
pulls params is p mass c = ap (λ edge. pull_by params mass (nearest_displacement edge p c)) is

accepts : (params : Params) → params.edge ≡ Open → (p : At) (level : ℕ) (c : At) → is_far params p level c ≡ open_is_far params p level c
accepts params is p level c =
    ap (λ edge. nat_lt (cell_side level * cell_side level * (params.theta_den * params.theta_den)) (norm_squared (nearest_displacement edge p c) * (params.theta_num * params.theta_num))) is

-- ---- drifts

drifted_way : (way : Way) (r v : V3) → plus r (drift_of way v) ≡ changed way r v
drifted_way Forward r v = refl
drifted_way Back r v = same_vector (plus r (drift_of Back v)) (changed Back r v) (omega (arith, ints)) (omega (arith, ints)) (omega (arith, ints))

moved_by : (b : Body) (there : V3) (stays : Bool) → moved_to b (cond stays (Some (position_of there)) None) ≡ cond stays (record b { at = position_of there }) (record b { out = true })
moved_by b there true = refl
moved_by b there false = refl

drifts : (params : Params) → params.edge ≡ Open → (way : Way) (b : Body) → drift_body params way b ≡ open_drift_body way b
drifts params is way b =
    let there = changed way (vector_of b.at) b.v in
    let open_box = ap (λ edge. moved_to b (drifted edge b.at (drift_of way b.v))) is in
    let moves = ap (λ r. moved_to b (cond (is_position r) (Some (position_of r)) None)) (drifted_way way (vector_of b.at) b.v) in
    ap (λ moved. cond b.out b moved) (open_box ∙ moves ∙ moved_by b there (is_position there))

pub open_box : (params : Params) → params.edge ≡ Open → IsOpenBox params
open_box params is = record { pull = pulls params is; is_far = accepts params is; drift = drifts params is }
