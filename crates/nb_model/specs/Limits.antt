-- The numbers that bound a run.
use Rattle.std.specs.Prelude.{ℕ, ◌^◌}

-- The box is the cube of the positions whose three coordinates are below this, in box units.
abbrev pub box_side : ℕ
box_side = 2 ^ 40

-- half of that
abbrev pub half_box : ℕ
half_box = 2 ^ 39

-- The root cell, at level 0, is the box. A cell's eight octants are one level deeper, and a cell at this level is
-- never divided: its side is 2 ^ 19 box units. The sides come from that of the box, so `cell_side 0` is `box_side`.
abbrev pub deepest_level : ℕ
deepest_level = 21

-- The mass of a body is below this.
abbrev pub mass_limit : ℕ
mass_limit = 2 ^ 32

-- The constant of gravity times the mass of all bodies is below this. So is the constant.
abbrev pub gm_limit : ℕ
gm_limit = 2 ^ 60

-- A half kick is below this on each axis, in box units a tick.
abbrev pub kick_limit : ℕ
kick_limit = 2 ^ 60

-- The speed of an unescaped body is below this on each axis before and after each tick, in box units a tick.
abbrev pub speed_limit : ℕ
speed_limit = 2 ^ 61

-- A list has at most so many bodies.
abbrev pub most_bodies : ℕ
most_bodies = 2 ^ 24

-- A run has at most so many ticks.
abbrev pub most_ticks : ℕ
most_ticks = 2 ^ 40
