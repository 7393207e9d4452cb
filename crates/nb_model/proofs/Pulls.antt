-- How large a pull is.
use Rattle.std.proofs.Common.{◌≡◌, ℕ, ◌*◌, ◌<◌, ◌≤◌, arith}
use Rattle.nb_model.specs.declared.body.At.{At}
use Rattle.nb_model.specs.declared.params.Params.{Params}
use Rattle.nb_model.specs.Vector.{zero_vector, nearest_displacement, square}
use Rattle.nb_model.specs.Gravity.{softened_square, pull}
use Rattle.nb_model.proofs.Quotients.{pull_along_bound, pull_along_too_far}
use Rattle.nb_model.proofs.Vectors.{IsAtMost, same_vector}

-- the square of an axis is part of the softened square
pub square_x-le : (params : Params) (p c : At) → square (nearest_displacement params.edge p c).x ≤ softened_square params p c
square_x-le params p c = omega arith

pub square_y-le : (params : Params) (p c : At) → square (nearest_displacement params.edge p c).y ≤ softened_square params p c
square_y-le params p c = omega arith

pub square_z-le : (params : Params) (p c : At) → square (nearest_displacement params.edge p c).z ≤ softened_square params p c
square_z-le params p c = omega arith

-- a pull is at most the gm, in size, on each axis
pub pull_bound : (params : Params) (p : At) (mass : ℕ) (c : At) → IsAtMost (params.grav * mass) (pull params p mass c)
pull_bound params p mass c =
    let q = softened_square params p c in
    let d = nearest_displacement params.edge p c in
    record {
      x = pull_along_bound (params.grav * mass) q d.x (square_x-le params p c);
      y = pull_along_bound (params.grav * mass) q d.y (square_y-le params p c);
      z = pull_along_bound (params.grav * mass) q d.z (square_z-le params p c);
    }

-- and none where the softened square is above the gm
pub pull_too_far : (params : Params) (p : At) (mass : ℕ) (c : At) → params.grav * mass < softened_square params p c → pull params p mass c ≡ zero_vector
pull_too_far params p mass c far =
    let q = softened_square params p c in
    let d = nearest_displacement params.edge p c in
    same_vector (pull params p mass c) zero_vector
    (pull_along_too_far (params.grav * mass) q d.x (square_x-le params p c) far)
    (pull_along_too_far (params.grav * mass) q d.y (square_y-le params p c) far)
    (pull_along_too_far (params.grav * mass) q d.z (square_z-le params p c) far)
