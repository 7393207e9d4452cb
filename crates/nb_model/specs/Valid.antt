-- What the parameters, a body and a list of bodies have to be.
use Rattle.std.specs.Prelude.{◌≡◌, ℕ, ◌*◌, ◌<◌, ◌≤◌, false, List, length, map, All, unsigned_abs}
use Rattle.std.specs.List.Sorted.{IsStrictlyIncreasing}
use Rattle.nb_model.specs.declared.body.At.{At}
use Rattle.nb_model.specs.declared.body.V3.{V3}
use Rattle.nb_model.specs.declared.body.Body.{Body}
use Rattle.nb_model.specs.declared.params.Params.{Params}
use Rattle.nb_model.specs.Limits.{box_side, mass_limit, gm_limit, speed_limit, most_bodies, most_ticks}
use Rattle.nb_model.specs.Octree.{total_mass}

-- the range of each parameter
pub record AreInRange (params : Params) : Type 0 where
  pub grav : params.grav < gm_limit
  pub theta_num : params.theta_num ≤ 32768
  pub some_theta_den : 1 ≤ params.theta_den
  pub theta_den : params.theta_den ≤ 32768
  pub some_soft : 1 ≤ params.soft
  pub soft : params.soft < box_side
  pub some_leaf : 1 ≤ params.leaf
  pub leaf : params.leaf ≤ 32
  pub some_every : 1 ≤ params.every
  pub every : params.every ≤ most_ticks

pub record IsInBox (p : At) : Type 0 where
  pub x : p.x < box_side
  pub y : p.y < box_side
  pub z : p.z < box_side

-- each axis is, in size, below the limit
pub record IsBelow (limit : ℕ) (v : V3) : Type 0 where
  pub x : unsigned_abs v.x < limit
  pub y : unsigned_abs v.y < limit
  pub z : unsigned_abs v.z < limit

-- A body that is out may have any velocity.
pub record IsValidBody (b : Body) : Type 0 where
  pub some_mass : 1 ≤ b.mass
  pub mass : b.mass < mass_limit
  pub at : IsInBox b.at
  pub speed : b.out ≡ false → IsBelow speed_limit b.v

-- what a half kick leaves of a valid body, which a drift then moves
pub record IsBodyAfterKick (b : Body) : Type 0 where
  pub some_mass : 1 ≤ b.mass
  pub mass : b.mass < mass_limit
  pub at : IsInBox b.at
  pub speed : b.out ≡ false → IsBelow (2 * speed_limit) b.v

-- What a drift leaves of such a body: one that isn't out has a speed below the side of the box. It is valid, and a half
-- kick leaves it so.
pub record IsDriftedBody (b : Body) : Type 0 where
  pub some_mass : 1 ≤ b.mass
  pub mass : b.mass < mass_limit
  pub at : IsInBox b.at
  pub speed : b.out ≡ false → IsBelow box_side b.v

pub record IsValidBodies (params : Params) (bodies : List Body) : Type 0 where
  pub each : All IsValidBody bodies
  pub ids : IsStrictlyIncreasing (map (λ b. b.id) bodies)
  pub count : length bodies ≤ most_bodies
  pub gm : params.grav * total_mass bodies < gm_limit
