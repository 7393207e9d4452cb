-- Forces depend on the masses, the positions and who is in the box, and not on the velocities.
use Rattle.std.proofs.Common.{◌≡◌, ℕ, zero, suc, ◌-◌, ◌*◌, ◌==◌, Bool, cond, not, ◌&&◌, List, [], ◌∷◌, length, map, refl, ap, ◌∙◌}
use Rattle.std.specs.Prelude.{nat_le}
use Rattle.std.proofs.lemmas.List.{length-map}
use Rattle.std.proofs.lemmas.Simd.{map-map}
use Rattle.nb_model.specs.declared.body.At.{At}
use Rattle.nb_model.specs.declared.body.V3.{V3}
use Rattle.nb_model.specs.declared.body.Body.{Body}
use Rattle.nb_model.specs.declared.params.Params.{Params}
use Rattle.nb_model.specs.declared.way.Way.{Way}
use Rattle.nb_model.specs.Limits.{deepest_level}
use Rattle.nb_model.specs.Vector.{zero_vector, vector_sum}
use Rattle.nb_model.specs.Octree.{octant_at, in_octant, total_mass, centre_of_mass}
use Rattle.nb_model.specs.Gravity.{pull, is_far, cell_holds, is_accepted, direct_sum, octants, cell_force, force_to_depth, force_on}
use Rattle.nb_model.specs.Leapfrog.{unescaped, half_kick, accelerate}
use Rattle.nb_model.proofs.Vectors.{same_position}
use Rattle.nb_model.proofs.Sums.{map_agree, sum_by-map, filter-map}

-- each velocity changed by an amount of its own, as a kick does
abbrev pub accelerated : Way → (Body → V3) → List Body → List Body
accelerated way change bodies = map (λ b. accelerate way (change b) b) bodies

-- ---- the bodies of a cell

unescaped-accelerated : (way : Way) (change : Body → V3) (bodies : List Body) → unescaped (accelerated way change bodies) ≡ accelerated way change (unescaped bodies)
unescaped-accelerated way change bodies =
    filter-map (λ b. not b.out) (λ b. accelerate way (change b) b) bodies

in_octant-accelerated : (way : Way) (change : Body → V3) (level : ℕ) (bodies : List Body) (octant : ℕ) → in_octant level (accelerated way change bodies) octant ≡ accelerated way change (in_octant level bodies octant)
in_octant-accelerated way change level bodies octant =
    filter-map (λ b. octant_at level b.at == octant) (λ b. accelerate way (change b) b) bodies

total_mass-accelerated : (way : Way) (change : Body → V3) (bodies : List Body) → total_mass (accelerated way change bodies) ≡ total_mass bodies
total_mass-accelerated way change bodies = sum_by-map (λ b. b.mass) (λ b. accelerate way (change b) b) bodies

centre_of_mass-accelerated : (way : Way) (change : Body → V3) (bodies : List Body) → centre_of_mass (accelerated way change bodies) ≡ centre_of_mass bodies
centre_of_mass-accelerated way change bodies =
    let mass = total_mass-accelerated way change bodies in
    let x = sum_by-map (λ b. b.mass * b.at.x) (λ b. accelerate way (change b) b) bodies in
    let y = sum_by-map (λ b. b.mass * b.at.y) (λ b. accelerate way (change b) b) bodies in
    let z = sum_by-map (λ b. b.mass * b.at.z) (λ b. accelerate way (change b) b) bodies in
    same_position (centre_of_mass (accelerated way change bodies)) (centre_of_mass bodies) (cc) (cc) (cc)

-- ---- what a cell gives

cell_holds-accelerated : (way : Way) (change : Body → V3) (level : ℕ) (p : At) (bodies : List Body) → cell_holds level p (accelerated way change bodies) ≡ cell_holds level p bodies
cell_holds-accelerated way change level p [] = refl
cell_holds-accelerated way change level p (b ∷ bs) = refl

is_accepted-accelerated : (way : Way) (change : Body → V3) (params : Params) (p : At) (level : ℕ) (bodies : List Body) → is_accepted params p level (accelerated way change bodies) ≡ is_accepted params p level bodies
is_accepted-accelerated way change params p level bodies =
    ap (λ holds. not holds && is_far params p level (centre_of_mass (accelerated way change bodies))) (cell_holds-accelerated way change level p bodies) ∙ ap (λ centre. not (cell_holds level p bodies) && is_far params p level centre) (centre_of_mass-accelerated way change bodies)

direct_sum-accelerated : (way : Way) (change : Body → V3) (params : Params) (p : At) (bodies : List Body) → direct_sum params p (accelerated way change bodies) ≡ direct_sum params p bodies
direct_sum-accelerated way change params p bodies =
    ap vector_sum (map-map (λ b. pull params p b.mass b.at) (λ b. accelerate way (change b) b) bodies)

same_choice : {s t : Bool} {v w x y : V3} → s ≡ t → v ≡ w → x ≡ y → cond s v x ≡ cond t w y
same_choice test first second = cc

cell_force-accelerated : (way : Way) (change : Body → V3) (params : Params) (p : At) (level : ℕ) (bodies : List Body) (v w : V3) → v ≡ w → cell_force params p level (accelerated way change bodies) v ≡ cell_force params p level bodies w
cell_force-accelerated way change params p level [] v w same = refl
cell_force-accelerated way change params p level (b ∷ bs) v w same =
    let mass = total_mass-accelerated way change (b ∷ bs) in
    let centre = centre_of_mass-accelerated way change (b ∷ bs) in
    let one = ap (λ m. pull params p m (centre_of_mass (accelerated way change (b ∷ bs)))) mass ∙ ap (λ c. pull params p (total_mass (b ∷ bs)) c) centre in
    same_choice (is_accepted-accelerated way change params p level (b ∷ bs)) one same

-- ---- forces

force_to_depth-accelerated : (way : Way) (change : Body → V3) (params : Params) (p : At) (depth : ℕ) (bodies : List Body) → force_to_depth params p depth (accelerated way change bodies) ≡ force_to_depth params p depth bodies
unfolding force_to_depth
force_to_depth-accelerated way change params p zero bodies =
    cell_force-accelerated way change params p deepest_level bodies (direct_sum params p (accelerated way change bodies)) (direct_sum params p bodies) (direct_sum-accelerated way change params p bodies)
force_to_depth-accelerated way change params p (suc depth) bodies =
    let level = deepest_level - 1 - depth in
    let moved = accelerated way change bodies in
    let of_octant = λ (cell : List Body) (octant : ℕ). force_to_depth params p depth (in_octant level cell octant) in
    let each = λ (octant : ℕ). ap (force_to_depth params p depth) (in_octant-accelerated way change level bodies octant) ∙ force_to_depth-accelerated way change params p depth (in_octant level bodies octant) in
    let few = ap (λ n. nat_le n params.leaf) (length-map bodies (λ b. accelerate way (change b) b)) in
    let parts = ap vector_sum (map_agree (of_octant moved) (of_octant bodies) each octants) in
    cell_force-accelerated way change params p level bodies (cond (nat_le (length moved) params.leaf) (direct_sum params p moved) (vector_sum (map (of_octant moved) octants))) (cond (nat_le (length bodies) params.leaf) (direct_sum params p bodies) (vector_sum (map (of_octant bodies) octants))) (same_choice few (direct_sum-accelerated way change params p bodies) parts)

pub half_kick-accelerated : (way : Way) (change : Body → V3) (params : Params) (bodies : List Body) (b : Body) → half_kick params (accelerated way change bodies) b ≡ half_kick params bodies b
half_kick-accelerated way change params bodies b =
    let inside = ap (λ cell. force_on params b.at 0 cell) (unescaped-accelerated way change bodies) in
    let force = inside ∙ force_to_depth-accelerated way change params b.at deepest_level (unescaped bodies) in
    ap (λ k. cond b.out zero_vector k) force
