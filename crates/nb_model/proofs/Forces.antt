-- How large a force is: at most the constant of gravity times the mass of the bodies, on each axis.
use Rattle.std.proofs.Common.{◌≡◌, ℕ, zero, suc, ◌+◌, ◌-◌, ◌*◌, ◌<◌, ◌≤◌, cond, List, [], ◌∷◌, length, map, take, ap, ◌∙◌, arith}
use Rattle.std.specs.Prelude.{sum_by, nat_le}
use Rattle.std.proofs.lemmas.Bool.{cond_both}
use Rattle.std.proofs.lemmas.List.Sums.{sum_by-take-le}
use Rattle.std.proofs.Math.Nat.{mul-le-mul_left}
use Rattle.nb_model.specs.declared.body.At.{At}
use Rattle.nb_model.specs.declared.body.V3.{V3}
use Rattle.nb_model.specs.declared.body.Body.{Body}
use Rattle.nb_model.specs.declared.params.Params.{Params}
use Rattle.nb_model.specs.Limits.{deepest_level, gm_limit, speed_limit}
use Rattle.nb_model.specs.Valid.{IsBelow}
use Rattle.nb_model.specs.Vector.{vector_sum}
use Rattle.nb_model.specs.Octree.{in_octant, total_mass, centre_of_mass}
use Rattle.nb_model.specs.Gravity.{pull, is_accepted, direct_sum, octants, cell_force, force_to_depth, force_on}
use Rattle.nb_model.proofs.Sums.{sum_by-times}
use Rattle.nb_model.proofs.Vectors.{IsAtMost, IsAtMost-zero, IsAtMost-more, IsBelow-from_most, vector_sum_bound}
use Rattle.nb_model.proofs.Pulls.{pull_bound}
use Rattle.nb_model.proofs.Octants.{total_mass-octants, total_mass-in_octant-le}

pub direct_sum_bound : (params : Params) (p : At) (bodies : List Body) → IsAtMost (params.grav * total_mass bodies) (direct_sum params p bodies)
direct_sum_bound params p bodies =
    let each = vector_sum_bound (λ b. pull params p b.mass b.at) (λ b. params.grav * b.mass) (λ b. pull_bound params p b.mass b.at) bodies in
    IsAtMost-more (sum_by (λ b. params.grav * b.mass) bodies) (params.grav * total_mass bodies) (direct_sum params p bodies) (omega (arith, sum_by-times params.grav (λ b. b.mass) bodies)) each

cell_force_bound : (params : Params) (p : At) (level : ℕ) (bodies : List Body) (opened : V3) → IsAtMost (params.grav * total_mass bodies) opened → IsAtMost (params.grav * total_mass bodies) (cell_force params p level bodies opened)
cell_force_bound params p level [] opened h = IsAtMost-zero (params.grav * total_mass [])
cell_force_bound params p level (b ∷ bs) opened h =
    let most = params.grav * total_mass (b ∷ bs) in
    cond_both (is_accepted params p level (b ∷ bs)) (pull params p (total_mass (b ∷ bs)) (centre_of_mass (b ∷ bs))) opened (λ v. IsAtMost most v) (λ _. pull_bound params p (total_mass (b ∷ bs)) (centre_of_mass (b ∷ bs))) (λ _. h)

pub force_to_depth_bound : (params : Params) (p : At) (below : ℕ) (bodies : List Body) → IsAtMost (params.grav * total_mass bodies) (force_to_depth params p below bodies)
unfolding force_to_depth
force_to_depth_bound params p zero bodies =
    cell_force_bound params p deepest_level bodies (direct_sum params p bodies) (direct_sum_bound params p bodies)
force_to_depth_bound params p (suc below) bodies =
    let level = deepest_level - 1 - below in
    let parts = vector_sum (map (λ octant. force_to_depth params p below (in_octant level bodies octant)) octants) in
    let each = vector_sum_bound (λ octant. force_to_depth params p below (in_octant level bodies octant)) (λ octant. params.grav * total_mass (in_octant level bodies octant)) (λ octant. force_to_depth_bound params p below (in_octant level bodies octant)) octants in
    let whole : sum_by (λ octant. params.grav * total_mass (in_octant level bodies octant)) octants ≡ params.grav * total_mass bodies = sum_by-times params.grav (λ octant. total_mass (in_octant level bodies octant)) octants ∙ ap (λ n. params.grav * n) (total_mass-octants level bodies) in
    let most = params.grav * total_mass bodies in
    let parts_bound = IsAtMost-more (sum_by (λ octant. params.grav * total_mass (in_octant level bodies octant)) octants) most parts (omega (arith, whole)) each in
    cell_force_bound params p level bodies (cond (nat_le (length bodies) params.leaf) (direct_sum params p bodies) parts) (cond_both (nat_le (length bodies) params.leaf) (direct_sum params p bodies) parts (λ v. IsAtMost most v) (λ _. direct_sum_bound params p bodies) (λ _. parts_bound))

pub force_on_bound : (params : Params) (p : At) (level : ℕ) (bodies : List Body) → IsAtMost (params.grav * total_mass bodies) (force_on params p level bodies)
force_on_bound params p level bodies = force_to_depth_bound params p (deepest_level - level) bodies

-- ---- what a body's speed may gain, and each sum on the way to it: two of these fit an i64

pub pull_below : (params : Params) (p : At) (mass : ℕ) (c : At) → params.grav * mass < gm_limit → IsBelow (2 * speed_limit) (pull params p mass c)
pull_below params p mass c gm =
    IsBelow-from_most (params.grav * mass) (2 * speed_limit) (pull params p mass c) (omega arith) (pull_bound params p mass c)

pub direct_sum-take_below : (params : Params) (p : At) (bodies : List Body) (i : ℕ) → params.grav * total_mass bodies < gm_limit → IsBelow (2 * speed_limit) (direct_sum params p (take i bodies))
direct_sum-take_below params p bodies i gm =
    let less : params.grav * total_mass (take i bodies) ≤ params.grav * total_mass bodies = mul-le-mul_left params.grav (sum_by-take-le (λ b. b.mass) bodies i) in
    IsBelow-from_most (params.grav * total_mass (take i bodies)) (2 * speed_limit) (direct_sum params p (take i bodies)) (omega arith) (direct_sum_bound params p (take i bodies))

pub force_on_below : (params : Params) (p : At) (level : ℕ) (bodies : List Body) → params.grav * total_mass bodies < gm_limit → IsBelow (2 * speed_limit) (force_on params p level bodies)
force_on_below params p level bodies gm =
    IsBelow-from_most (params.grav * total_mass bodies) (2 * speed_limit) (force_on params p level bodies) (omega arith) (force_on_bound params p level bodies)

pub gm-in_octant : (grav level : ℕ) (bodies : List Body) (octant : ℕ) → grav * total_mass bodies < gm_limit → grav * total_mass (in_octant level bodies octant) < gm_limit
gm-in_octant grav level bodies octant gm =
    omega (arith, mul-le-mul_left grav (total_mass-in_octant-le level bodies octant))

pub octant_forces-take_below : (params : Params) (p : At) (level : ℕ) (bodies : List Body) (i : ℕ) → params.grav * total_mass bodies < gm_limit → IsBelow (2 * speed_limit) (vector_sum (map (λ octant. force_on params p (level + 1) (in_octant level bodies octant)) (take i octants)))
octant_forces-take_below params p level bodies i gm =
    let force = λ (octant : ℕ). force_on params p (level + 1) (in_octant level bodies octant) in
    let share = λ (octant : ℕ). params.grav * total_mass (in_octant level bodies octant) in
    let each = vector_sum_bound force share (λ octant. force_on_bound params p (level + 1) (in_octant level bodies octant)) (take i octants) in
    let whole = sum_by-times params.grav (λ octant. total_mass (in_octant level bodies octant)) octants in
    let mass = ap (λ n. params.grav * n) (total_mass-octants level bodies) in
    IsBelow-from_most (sum_by share (take i octants)) (2 * speed_limit) (vector_sum (map force (take i octants))) (omega (arith, sum_by-take-le share octants i, whole, mass)) each
