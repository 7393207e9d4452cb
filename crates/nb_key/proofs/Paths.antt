-- The key of the cell that holds a position, from the bits of its coordinates.
use Rattle.std.proofs.Common.{◌≡◌, ℕ, zero, suc, ◌+◌, ◌-◌, ◌*◌, ◌/◌, ◌%◌, ◌^◌, ◌<◌, ◌≤◌, sym, ap, ◌∙◌, refl, subst, arith, length}
use Rattle.std.proofs.Math.Nat.{pow-suc, div-div-eq-div-mul}
use Rattle.std.proofs.lemmas.Nat.{shr-shr}
use Rattle.std.proofs.lemmas.List.{length_push}
use Rattle.std.proofs.lemmas.List.Elements.{All-nil, All-push}
use Rattle.std.proofs.lemmas.List.Sums.{fold_push}
use Rattle.nb_model.specs.declared.body.At.{At}
use Rattle.nb_model.specs.Octree.{half_at, octant_at}
use Rattle.nb_model.proofs.Facts.{octant_at-lt}
use Rattle.nb_key.specs.Spread.{spread_of}
use Rattle.nb_key.specs.Morton.{octants_to, key_at, morton_key, AreOctants, IsKeyAt}
use Rattle.nb_key.proofs.Spreads.{spread_bound}

-- ---- one axis

-- a coordinate's bits down to a level, by those down to the level above
pub halves : (level x : ℕ) → level < 21 → (x / 2 ^ (40 - suc level) / 2 ≡ x / 2 ^ (40 - level)) × (x / 2 ^ (40 - suc level) % 2 ≡ half_at level x)
halves level x above =
    let one : 40 - suc level + 1 ≡ 40 - level = omega arith in
    let same : 40 - suc level ≡ 39 - level = omega arith in
    (shr-shr x (40 - suc level) 1 ∙ ap (λ e. x / 2 ^ e) one, ap (λ e. x / 2 ^ e % 2) same)

axis : (level x : ℕ) → level < 21 → spread_of (suc level) (x / 2 ^ (40 - suc level)) ≡ 8 * spread_of level (x / 2 ^ (40 - level)) + half_at level x
unfolding spread_of
axis level x above =
    let split = halves level x above in
    ap (λ h. 8 * spread_of level h + x / 2 ^ (40 - suc level) % 2) split.0 ∙ ap (λ b. 8 * spread_of level (x / 2 ^ (40 - level)) + b) split.1

-- ---- the three together

pub key_step : (level : ℕ) (p : At) → key_at (suc level) p ≡ 8 * key_at level p + octant_at level p
unfolding octants_to
key_step level p = fold_push (λ key octant. 8 * key + octant) 1 (octants_to level p) (octant_at level p)

key_of_none : (p : At) → key_at 0 p ≡ 1
unfolding octants_to
key_of_none p = refl

spread_of_none : (x : ℕ) → spread_of 0 x ≡ 0
unfolding spread_of
spread_of_none x = refl

pub key_sum : (level : ℕ) (p : At) → level ≤ 21 → key_at level p ≡ 8 ^ level + 4 * spread_of level (p.x / 2 ^ (40 - level)) + 2 * spread_of level (p.y / 2 ^ (40 - level)) + spread_of level (p.z / 2 ^ (40 - level))
key_sum zero p within = key_of_none p ∙ omega (arith, spread_of_none (p.x / 2 ^ (40 - 0)), spread_of_none (p.y / 2 ^ (40 - 0)), spread_of_none (p.z / 2 ^ (40 - 0)))
key_sum (suc level) p within =
    omega (arith, key_step level p, key_sum level p (omega arith), axis level p.x (omega arith), axis level p.y (omega arith), axis level p.z (omega arith), pow-suc 8 level)

pub key_is : (level : ℕ) (p : At) → level ≤ 21 → IsKeyAt level (key_at level p)
key_is level p within =
    let sum = key_sum level p within in
    let x = spread_bound level (p.x / 2 ^ (40 - level)) in
    let y = spread_bound level (p.y / 2 ^ (40 - level)) in
    let z = spread_bound level (p.z / 2 ^ (40 - level)) in
    record { deepest = within; least = omega (arith, sum); below = omega (arith, sum, x, y, z) }

-- the key at the deepest level, from the spreads of the coordinates
pub deepest_is : (p : At) (x y z : ℕ) → x ≡ spread_of 21 (p.x / 2 ^ 19) → y ≡ spread_of 21 (p.y / 2 ^ 19) → z ≡ spread_of 21 (p.z / 2 ^ 19) → IsKeyAt 21 (2 ^ 63 + 4 * x + 2 * y + z)
deepest_is p x y z of_x of_y of_z =
    let sum : morton_key p ≡ 2 ^ 63 + 4 * x + 2 * y + z = omega (arith, key_sum 21 p (omega arith)) in
    subst (λ n. IsKeyAt 21 n) sum (key_is 21 p (omega arith))

-- ---- the cells above

-- the key of a cell some levels above, from the key below
key_above_by : (below level : ℕ) (p : At) → key_at level p ≡ key_at (level + below) p / 8 ^ below
key_above_by zero level p =
    let same : level ≡ level + 0 = omega arith in
    ap (λ l. key_at l p) same ∙ omega arith
key_above_by (suc below) level p =
    let up : key_at level p ≡ key_at (suc level) p / 8 = omega (arith, key_step level p, octant_at-lt level p) in
    let same : suc level + below ≡ level + suc below = omega arith in
    up ∙ ap (λ k. k / 8) (key_above_by below (suc level) p) ∙ div-div-eq-div-mul (key_at (suc level + below) p) (8 ^ below) 8
    ∙ ap (λ m. key_at (suc level + below) p / m) (sym (pow-suc 8 below)) ∙ ap (λ l. key_at l p / 8 ^ suc below) same

pub key_above : (below level : ℕ) (p : At) → level + below ≡ 21 → key_at level p ≡ morton_key p / 8 ^ below
key_above below level p whole = key_above_by below level p ∙ ap (λ l. key_at l p / 8 ^ below) whole

-- ---- the octants to a position

pub octants_to-are : (level : ℕ) (p : At) → AreOctants (octants_to level p)
unfolding octants_to
octants_to-are zero p = All-nil (λ octant. octant < 8)
octants_to-are (suc level) p = All-push (λ octant. octant < 8) (octants_to level p) (octant_at level p) (octants_to-are level p) (octant_at-lt level p)

pub length-octants_to : (level : ℕ) (p : At) → length (octants_to level p) ≡ level
unfolding octants_to
length-octants_to zero p = refl
length-octants_to (suc level) p = omega (arith, length_push (octants_to level p) (octant_at level p), length-octants_to level p)
