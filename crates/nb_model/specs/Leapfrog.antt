-- One tick, forward in time or back: a half kick, a whole drift, a half kick. Forward, velocities gain their half kicks and
-- positions gain their velocities. Back, they lose them, in the reverse order, which is again a kick, a drift and a kick.
use Rattle.std.specs.Prelude.{ℕ, Bool, true, ◌&&◌, not, if◌then◌else◌, Option, None, Some, List, [], ◌∷◌, filter, count_by, map, pos, ◌+ℤ◌, ◌-ℤ◌, ℤ, int_le, int_lt, unsigned_abs}
use Rattle.std.specs.Int.{int_rem_euclid}
use Rattle.nb_model.specs.declared.body.At.{At}
use Rattle.nb_model.specs.declared.body.V3.{V3}
use Rattle.nb_model.specs.declared.body.Body.{Body}
use Rattle.nb_model.specs.declared.edge.Edge.{Edge}
use Rattle.nb_model.specs.declared.edge.Edge.TheVariants.{Open, Wrap}
use Rattle.nb_model.specs.declared.params.Params.{Params}
use Rattle.nb_model.specs.declared.way.Way.{Way}
use Rattle.nb_model.specs.declared.way.Way.TheVariants.{Forward, Back}
use Rattle.nb_model.specs.Limits.{box_side}
use Rattle.nb_model.specs.Vector.{zero_vector, plus, negated, is_below}
use Rattle.nb_model.specs.Gravity.{force_on}

-- the bodies that aren't out, in their order
abbrev pub unescaped : List Body → List Body
unescaped bodies = filter (λ b. not b.out) bodies

-- how many bodies are out
abbrev pub escaped_count : List Body → ℕ
escaped_count bodies = count_by (λ b. b.out) bodies

-- The half kick of a body of the list: the force of the unescaped bodies on it, from the root cell down. A body that
-- is out gets none.
abbrev pub half_kick : Params → List Body → Body → V3
half_kick params bodies b = if b.out then zero_vector else force_on params b.at 0 (unescaped bodies)

-- what becomes of one axis by a change: forward it gains it, and back it loses it
abbrev pub changed_along : Way → ℤ → ℤ → ℤ
changed_along Forward c change = c +ℤ change
changed_along Back c change = c -ℤ change

abbrev pub changed : Way → V3 → V3 → V3
changed way v change =
    record { x = changed_along way v.x change.x; y = changed_along way v.y change.y; z = changed_along way v.z change.z }

abbrev pub accelerate : Way → V3 → Body → Body
accelerate way k b = record b { v = changed way b.v k }

-- each velocity gains its half kick, or loses it
abbrev pub kick : Params → Way → List Body → List Body
kick params way bodies = map (λ b. accelerate way (half_kick params bodies b) b) bodies

-- whether a coordinate is one of the box
abbrev pub is_coordinate : ℤ → Bool
is_coordinate c = int_le (pos 0) c && int_lt c (pos box_side)

abbrev pub is_position : V3 → Bool
is_position r = is_coordinate r.x && is_coordinate r.y && is_coordinate r.z

abbrev pub vector_of : At → V3
vector_of p = record { x = pos p.x; y = pos p.y; z = pos p.z }

-- the position with these coordinates, none of which is negative
abbrev pub position_of : V3 → At
position_of r = record { x = unsigned_abs r.x; y = unsigned_abs r.y; z = unsigned_abs r.z }

-- the position that these coordinates have in a box that wraps: each modulo the side, and never negative
abbrev pub wrapped : V3 → V3
wrapped r = record {
  x = int_rem_euclid r.x (pos box_side);
  y = int_rem_euclid r.y (pos box_side);
  z = int_rem_euclid r.z (pos box_side);
}

-- Where a drift by u brings a position. None where it would leave an open box, or, in a box that wraps, where u is as long
-- as the side, or longer, on some axis.
abbrev pub drifted : Edge → At → V3 → Option At
drifted Open p u = let r = plus (vector_of p) u in if is_position r then Some (position_of r) else None
drifted Wrap p u = if is_below box_side u then Some (position_of (wrapped (plus (vector_of p) u))) else None

-- by how much a tick's drift moves a body: by its velocity forward, and by minus its velocity back
abbrev pub drift_of : Way → V3 → V3
drift_of Forward v = v
drift_of Back v = negated v

abbrev pub moved_to : Body → Option At → Body
moved_to b (Some p) = record b { at = p }
moved_to b None = record b { out = true }

-- A body that isn't out moves by its velocity, or back by minus its velocity. Where that leads nowhere in the box it
-- becomes out: it keeps its position, and its velocity.
abbrev pub drift_body : Params → Way → Body → Body
drift_body params way b = if b.out then b else moved_to b (drifted params.edge b.at (drift_of way b.v))

abbrev pub drift : Params → Way → List Body → List Body
drift params way bodies = map (drift_body params way) bodies

-- one tick
abbrev pub step : Params → Way → List Body → List Body
step params way bodies = kick params way (drift params way (kick params way bodies))

-- one tick forward: velocities gain their half kicks, positions their velocities, and velocities their half kicks
abbrev pub forward_step : Params → List Body → List Body
forward_step params bodies = step params Forward bodies

-- one tick back: velocities lose their half kicks, positions their velocities, and velocities their half kicks
abbrev pub backward_step : Params → List Body → List Body
backward_step params bodies = step params Back bodies

-- a tick in each of these directions, one after the other
abbrev pub steps : Params → List Way → List Body → List Body
steps params [] bodies = bodies
steps params (way ∷ ways) bodies = steps params ways (step params way bodies)
