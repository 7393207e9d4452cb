-- The force of a list of bodies on a position, by Barnes and Hut's opening rule (1986). A force is given as the half kick
-- that it makes in half a tick, since the constant of gravity already holds half the squared time step.
use Rattle.std.specs.Prelude.{ℕ, zero, suc, ◌+◌, ◌-◌, ◌*◌, Bool, false, ◌&&◌, not, nat_lt, nat_le, if◌then◌else◌, List, [], ◌∷◌, length, map, pos, ◌*ℤ◌, ℤ, int_div}
use Rattle.nb_model.specs.declared.body.At.{At}
use Rattle.nb_model.specs.declared.body.V3.{V3}
use Rattle.nb_model.specs.declared.body.Body.{Body}
use Rattle.nb_model.specs.declared.params.Params.{Params}
use Rattle.nb_model.specs.Limits.{deepest_level}
use Rattle.nb_model.specs.Vector.{zero_vector, vector_sum, nearest_displacement, norm_squared}
use Rattle.nb_model.specs.Root.{integer_root}
use Rattle.nb_model.specs.Octree.{cell_side, in_octant, is_same_cell, total_mass, centre_of_mass}

-- the squared distance with Plummer's softening
abbrev pub softened_square : Params → At → At → ℕ
softened_square params p c = norm_squared (nearest_displacement params.edge p c) + params.soft * params.soft

-- One axis of a half kick: gm * d / (q * root of q), rounded toward zero, where gm is the constant of gravity
-- times the mass that pulls, and q the softened square.
abbrev pub pull_along : ℕ → ℕ → ℤ → ℤ
pull_along gm q d = int_div (pos gm *ℤ d) (pos (q * integer_root q))

-- the half kick that a mass at c, or in a box that wraps its nearest image, gives to a body at p: a softened monopole
abbrev pub pull : Params → At → ℕ → At → V3
pull params p mass c =
    let d = nearest_displacement params.edge p c in
    let q = softened_square params p c in
    record {
      x = pull_along (params.grav * mass) q d.x;
      y = pull_along (params.grav * mass) q d.y;
      z = pull_along (params.grav * mass) q d.z;
    }

-- The inequality of the opening criterion, side / distance < theta, in whole numbers: the distance is from p to the
-- centre c of a cell at this level, or to its nearest image, without softening.
abbrev pub is_far : Params → At → ℕ → At → Bool
is_far params p level c =
    nat_lt (cell_side level * cell_side level * (params.theta_den * params.theta_den))
    (norm_squared (nearest_displacement params.edge p c) * (params.theta_num * params.theta_num))

-- whether the cell of these bodies, at this level, holds the position p: all of them lie in one cell, so the first tells
abbrev pub cell_holds : ℕ → At → List Body → Bool
cell_holds level p [] = false
cell_holds level p (b ∷ _) = is_same_cell level p b.at

-- The opening criterion: whether a cell acts on p as one mass at its centre of mass. A cell that holds p never does.
abbrev pub is_accepted : Params → At → ℕ → List Body → Bool
is_accepted params p level bodies = not (cell_holds level p bodies) && is_far params p level (centre_of_mass bodies)

-- what bodies give one by one. A body gives nothing to itself, since each difference is 0.
abbrev pub direct_sum : Params → At → List Body → V3
direct_sum params p bodies = vector_sum (map (λ b. pull params p b.mass b.at) bodies)

abbrev pub octants : List ℕ
octants = 0 ∷ 1 ∷ 2 ∷ 3 ∷ 4 ∷ 5 ∷ 6 ∷ 7 ∷ []

-- What the cell of these bodies gives: nothing where it is empty, one pull where it is accepted, and what its bodies or
-- its octants give, here `if_opened`, where it isn't.
abbrev pub cell_force : Params → At → ℕ → List Body → V3 → V3
cell_force params p level [] if_opened = zero_vector
cell_force params p level (b ∷ bs) if_opened =
    if is_accepted params p level (b ∷ bs) then pull params p (total_mass (b ∷ bs)) (centre_of_mass (b ∷ bs)) else if_opened

-- The force on p of the bodies of a cell with so many levels below it, down which the recursion goes. An opened cell with
-- at most `leaf` bodies, and one at the deepest level, is a leaf, whose bodies pull one by one. Any other opened cell
-- gives what its octants give.
unfoldable pub force_to_depth : Params → At → ℕ → List Body → V3
force_to_depth params p zero bodies = cell_force params p deepest_level bodies (direct_sum params p bodies)
force_to_depth params p (suc depth) bodies =
    let level = (deepest_level - 1) - depth in
    cell_force params p level bodies
    (if nat_le (length bodies) params.leaf then direct_sum params p bodies
    else vector_sum (map (λ octant. force_to_depth params p depth (in_octant level bodies octant)) octants))

-- the force on p of the bodies of a cell at this level, 0 to 21. `law_force_on` states it case by case.
abbrev pub force_on : Params → At → ℕ → List Body → V3
force_on params p level bodies = force_to_depth params p (deepest_level - level) bodies
