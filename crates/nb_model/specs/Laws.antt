-- What the laws say of the definitions.
use Rattle.std.specs.Prelude.{◌≡◌, ◌≢◌, ℕ, ◌+◌, ◌*◌, ◌<◌, ◌≤◌, Bool, true, false, nat_lt, if◌then◌else◌, ◌⊎◌, Option, None, Some, List, [], length, map, All, ℤ, pos, ◌+ℤ◌, ◌*ℤ◌, ◌≤ℤ◌, ◌<ℤ◌, neg_ℤ}
use Rattle.nb_model.specs.declared.body.At.{At}
use Rattle.nb_model.specs.declared.body.V3.{V3}
use Rattle.nb_model.specs.declared.body.Body.{Body}
use Rattle.nb_model.specs.declared.edge.Edge.TheVariants.{Open, Wrap}
use Rattle.nb_model.specs.declared.params.Params.{Params}
use Rattle.nb_model.specs.declared.way.Way.{Way}
use Rattle.nb_model.specs.declared.way.Way.TheVariants.{Forward, Back}
use Rattle.nb_model.specs.Limits.{deepest_level, box_side, half_box, kick_limit}
use Rattle.nb_model.specs.Vector.{zero_vector, vector_sum, displacement, norm_squared, nearest_along}
use Rattle.nb_model.specs.Octree.{cell_side, in_octant, total_mass, centre_of_mass}
use Rattle.nb_model.specs.Gravity.{pull_along, pull, is_far, is_accepted, direct_sum, octants, force_on}
use Rattle.nb_model.specs.Leapfrog.{half_kick, changed, accelerate, is_position, vector_of, position_of, drifted, drift_body, step, escaped_count}
use Rattle.nb_model.specs.Valid.{IsInBox, IsBelow, IsValidBody, IsBodyAfterKick, IsDriftedBody, IsValidBodies}

-- The force of the bodies of a cell, by cases, the first that applies: no body gives nothing; an accepted cell gives one
-- pull; a leaf, which has at most `leaf` bodies or is at the deepest level, gives what its bodies give one by one; and
-- any other cell gives what its octants give.
pub record IsForceByCases (params : Params) (p : At) (level : ℕ) (bodies : List Body) : Type 0 where
  pub empty : bodies ≡ [] → force_on params p level bodies ≡ zero_vector
  pub accepted : bodies ≢ [] → is_accepted params p level bodies ≡ true → force_on params p level bodies ≡ pull params p (total_mass bodies) (centre_of_mass bodies)
  pub leaf : bodies ≢ [] → is_accepted params p level bodies ≡ false → (length bodies ≤ params.leaf) ⊎ (level ≡ deepest_level) → force_on params p level bodies ≡ direct_sum params p bodies
  pub divided : bodies ≢ [] → is_accepted params p level bodies ≡ false → params.leaf < length bodies → level < deepest_level → force_on params p level bodies ≡ vector_sum (map (λ octant. force_on params p (level + 1) (in_octant level bodies octant)) octants)

-- at every level from the root's to the deepest
abbrev pub ForceIsByCases : Type 0
ForceIsByCases = (params : Params) (p : At) (level : ℕ) (bodies : List Body) → level ≤ deepest_level → IsForceByCases params p level bodies

-- each half kick is below its limit
abbrev pub HalfKickIsBelow : Type 0
HalfKickIsBelow = (params : Params) (bodies : List Body) (b : Body) → IsValidBodies params bodies → IsBelow kick_limit (half_kick params bodies b)

-- What a tick makes of a body, step by step. The drift leaves an unescaped body slower than the side of the box, with
-- either edge, so it is valid, and stays so by the second half kick.
pub record BodyStaysValid : Type 0 where
  pub kicked : (way : Way) (k : V3) (b : Body) → IsValidBody b → IsBelow kick_limit k → IsBodyAfterKick (accelerate way k b)
  pub drifted : (params : Params) (way : Way) (b : Body) → IsBodyAfterKick b → IsDriftedBody (drift_body params way b)
  pub valid : (b : Body) → IsDriftedBody b → IsValidBody b
  pub kicked_again : (way : Way) (k : V3) (b : Body) → IsDriftedBody b → IsBelow kick_limit k → IsValidBody (accelerate way k b)

-- one tick, forward or back, makes a valid list of a valid list
abbrev pub StepIsValid : Type 0
StepIsValid = (params : Params) (way : Way) (bodies : List Body) → IsValidBodies params bodies → IsValidBodies params (step params way bodies)

abbrev pub opposite : Way → Way
opposite Forward = Back
opposite Back = Forward

-- A tick in which no body becomes out is undone by a tick the other way.
abbrev pub StepIsUndone : Type 0
StepIsUndone = (params : Params) (way : Way) (bodies : List Body) → All IsValidBody bodies → escaped_count (step params way bodies) ≡ escaped_count bodies → step params (opposite way) (step params way bodies) ≡ bodies

-- ---- the edges of the box

-- The two differ by whole sides of the box.
abbrev pub IsImageOf : ℤ → ℤ → Type 0
IsImageOf c n = (sides : ℤ) × (n ≡ c +ℤ sides *ℤ pos box_side)

-- In a box that wraps the nearest difference differs from d by whole sides, and is from minus half a box to below half a
-- box. The three fields fix it.
pub record IsNearest (d n : ℤ) : Type 0 where
  pub low : neg_ℤ (pos half_box) ≤ℤ n
  pub high : n <ℤ pos half_box
  pub image : IsImageOf d n

abbrev pub WrapIsNearest : Type 0
WrapIsNearest = (d : ℤ) → IsNearest d (nearest_along Wrap d)

-- In a box that wraps a drift leads nowhere exactly where it is as long as the side, or longer, on some axis, and else to
-- a position of the box that differs from the sum by whole sides on each axis, of which there is one.
pub record IsWrappedDrift (p : At) (u : V3) (there : Option At) : Type 0 where
  pub long : (IsBelow box_side u → ⊥) → there ≡ None
  pub short : IsBelow box_side u → (r : At) × (there ≡ Some r) × IsInBox r
      × IsImageOf (pos p.x +ℤ u.x) (pos r.x) × IsImageOf (pos p.y +ℤ u.y) (pos r.y) × IsImageOf (pos p.z +ℤ u.z) (pos r.z)

abbrev pub WrapDriftsToImage : Type 0
WrapDriftsToImage = (p : At) (u : V3) → IsWrappedDrift p u (drifted Wrap p u)

-- In an open box the three definitions that ask for the edge, and so all that stand on them, are those of an isolated box,
-- which are these.
abbrev pub open_pull : Params → At → ℕ → At → V3
open_pull params p mass c =
    let d = displacement p c in
    let q = norm_squared d + params.soft * params.soft in
    record {
      x = pull_along (params.grav * mass) q d.x;
      y = pull_along (params.grav * mass) q d.y;
      z = pull_along (params.grav * mass) q d.z;
    }

abbrev pub open_is_far : Params → At → ℕ → At → Bool
open_is_far params p level c =
    nat_lt (cell_side level * cell_side level * (params.theta_den * params.theta_den))
    (norm_squared (displacement p c) * (params.theta_num * params.theta_num))

abbrev pub open_drift_body : Way → Body → Body
open_drift_body way b =
    let there = changed way (vector_of b.at) b.v in
    if b.out then b
    else (if is_position there then record b { at = position_of there } else record b { out = true })

pub record IsOpenBox (params : Params) : Type 0 where
  pub pull : (p : At) (mass : ℕ) (c : At) → pull params p mass c ≡ open_pull params p mass c
  pub is_far : (p : At) (level : ℕ) (c : At) → is_far params p level c ≡ open_is_far params p level c
  pub drift : (way : Way) (b : Body) → drift_body params way b ≡ open_drift_body way b

abbrev pub OpenBoxHasNoImages : Type 0
OpenBoxHasNoImages = (params : Params) → params.edge ≡ Open → IsOpenBox params
