-- The octant in which a body lies, read from the key of its deepest cell.
use Rattle.std.proofs.Common.{◌≡◌, ℕ, suc, ◌+◌, ◌-◌, ◌*◌, ◌/◌, ◌%◌, ◌^◌, ◌≤◌, ap, sym, ◌∙◌, arith}
use Rattle.std.specs.Prelude.{◌≢◌}
use Rattle.nb_model.specs.declared.body.At.{At}
use Rattle.nb_model.proofs.Facts.{octant_at-lt}
use Rattle.nb_key.specs.Morton.{key_at, morton_key}
use Rattle.nb_key.proofs.Paths.{key_above, key_step}
use Rattle.nb_key.proofs.Spreads.{eight_pow}

-- the key of the cell with so many levels below it that holds a position
above : (depth m : ℕ) (p : At) → m ≡ morton_key p → depth ≤ 20 → key_at (21 - depth) p ≡ m / 2 ^ (3 * depth)
above depth m p is few =
    key_above depth (21 - depth) p (omega arith) ∙ ap (λ n. n / 8 ^ depth) (sym is) ∙ ap (λ n. m / n) (eight_pow depth)

parent : (depth m : ℕ) (p : At) → m ≡ morton_key p → depth ≤ 20 → key_at (20 - depth) p ≡ m / 2 ^ (3 * depth) / 8
parent depth m p is few =
    let next : suc (20 - depth) ≡ 21 - depth = omega arith in
    let step = key_step (20 - depth) p in
    let small = octant_at-lt (20 - depth) p in
    let at : key_at (suc (20 - depth)) p ≡ m / 2 ^ (3 * depth) = ap (λ l. key_at l p) next ∙ above depth m p is few in
    omega (arith, step, small, at)

pub in_octant_ahead : (depth key m : ℕ) (p : At) → m ≡ morton_key p → depth ≤ 20 → m / 2 ^ (3 * depth) / 8 ≡ key
    → key_at (21 - depth) p ≡ 8 * key + m / 2 ^ (3 * depth) % 8
in_octant_ahead depth key m p is few here = omega (arith, above depth m p is few, here)

pub not_ahead : (depth key m : ℕ) (p : At) → m ≡ morton_key p → depth ≤ 20 → m / 2 ^ (3 * depth) / 8 ≢ key
    → key_at (20 - depth) p ≢ key
not_ahead depth key m p is few other same = other (sym (parent depth m p is few) ∙ same)

-- the cell of an octant that holds a position is held by the cell
pub octant_within : (level key octant : ℕ) (p : At) → key_at (suc level) p ≡ 8 * key + octant → octant ≤ 7 → key_at level p ≡ key
octant_within level key octant p is small = omega (arith, key_step level p, octant_at-lt level p, is)
