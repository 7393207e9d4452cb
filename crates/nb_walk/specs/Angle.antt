-- The opening criterion by angle, of a cell that is told by its key.
use Rattle.std.specs.Prelude.{ℕ, zero, suc, ◌/◌, ◌==◌, nat_lt, Bool, ◌&&◌, not, if◌then◌else◌}
use Rattle.nb_model.specs.declared.body.At.{At}
use Rattle.nb_model.specs.declared.params.Params.{Params}
use Rattle.nb_model.specs.Limits.{deepest_level}
use Rattle.nb_model.specs.Gravity.{is_far}
use Rattle.nb_key.specs.Morton.{key_at}

-- how often a number can be divided by 8 before it is below 8, counted up to n
unfoldable pub level_from : ℕ → ℕ → ℕ
level_from zero key = 0
level_from (suc n) key = if nat_lt key 8 then 0 else suc (level_from n (key / 8))

-- the level of the cell with this key, 0 to 21
abbrev pub level_of : ℕ → ℕ
level_of key = level_from deepest_level key

-- Whether the cell with this key and this centre of mass acts on p as one mass at its centre (Barnes and Hut 1986): it
-- doesn't hold p, and it is far enough. A cell that holds p is opened under every angle.
abbrev pub by_angle : Params → At → ℕ → At → Bool
by_angle params p key centre = not (key_at (level_of key) p == key) && is_far params p (level_of key) centre
