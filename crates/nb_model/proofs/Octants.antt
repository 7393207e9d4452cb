-- The octants of a cell share out its bodies.
use Rattle.std.proofs.Common.{◌≡◌, ℕ, zero, suc, ◌+◌, ◌-◌, ◌/◌, ◌^◌, ◌<◌, ◌≤◌, ◌==◌, cond, List, [], ◌∷◌, length, arith}
use Rattle.std.specs.Prelude.{sum_by}
use Rattle.std.proofs.lemmas.Nat.{mod_below}
use Rattle.std.proofs.lemmas.List.Sums.{sum_by-cons}
use Rattle.nb_model.specs.declared.body.At.{At}
use Rattle.nb_model.specs.declared.body.Body.{Body}
use Rattle.nb_model.specs.Octree.{half_at, octant_at, in_octant, total_mass}
use Rattle.nb_model.specs.Gravity.{octants}
use Rattle.nb_model.proofs.Sums.{sum_by_agree, sum_by-plus, sum_by-filter-cons, sum_by-filter-le, length-filter-le}

pub half_at-lt : (level x : ℕ) → half_at level x < 2
half_at-lt level x = mod_below (x / 2 ^ (39 - level)) 2 (omega arith)

pub octant_at-lt : (level : ℕ) (p : At) → octant_at level p < 8
octant_at-lt level p = omega (arith, half_at-lt level p.x, half_at-lt level p.y, half_at-lt level p.z)

-- of the octants from 0 to 7 one is that of a position
one_octant : (k n : ℕ) → k < 8 → sum_by (λ octant. cond (k == octant) n 0) octants ≡ n
one_octant zero n _ = omega arith
one_octant (suc zero) n _ = omega arith
one_octant (suc (suc zero)) n _ = omega arith
one_octant (suc (suc (suc zero))) n _ = omega arith
one_octant (suc (suc (suc (suc zero)))) n _ = omega arith
one_octant (suc (suc (suc (suc (suc zero))))) n _ = omega arith
one_octant (suc (suc (suc (suc (suc (suc zero)))))) n _ = omega arith
one_octant (suc (suc (suc (suc (suc (suc (suc zero))))))) n _ = omega arith
one_octant (suc (suc (suc (suc (suc (suc (suc (suc k)))))))) n below = absurd (omega arith)

-- a sum over a cell is the sum over its octants
pub sum_by-octants : (f : Body → ℕ) (level : ℕ) (bodies : List Body) → sum_by (λ octant. sum_by f (in_octant level bodies octant)) octants ≡ sum_by f bodies
sum_by-octants f level [] = omega arith
sum_by-octants f level (b ∷ bs) =
    let k = octant_at level b.at in
    let one = λ (octant : ℕ). cond (k == octant) (f b) 0 in
    let rest = λ (octant : ℕ). sum_by f (in_octant level bs octant) in
    let split = sum_by_agree (λ octant. sum_by f (in_octant level (b ∷ bs) octant)) (λ octant. one octant + rest octant) (λ octant. sum_by-filter-cons f (λ c. octant_at level c.at == octant) b bs) octants in
    omega (arith, split, sum_by-plus one rest octants, one_octant k (f b) (octant_at-lt level b.at), sum_by-cons f b bs, sum_by-octants f level bs)

pub total_mass-octants : (level : ℕ) (bodies : List Body) → sum_by (λ octant. total_mass (in_octant level bodies octant)) octants ≡ total_mass bodies
total_mass-octants = sum_by-octants (λ b. b.mass)

pub total_mass-in_octant-le : (level : ℕ) (bodies : List Body) (octant : ℕ) → total_mass (in_octant level bodies octant) ≤ total_mass bodies
total_mass-in_octant-le level bodies octant =
    sum_by-filter-le (λ b. b.mass) (λ b. octant_at level b.at == octant) bodies

pub length-in_octant-le : (level : ℕ) (bodies : List Body) (octant : ℕ) → length (in_octant level bodies octant) ≤ length bodies
length-in_octant-le level bodies octant = length-filter-le (λ b. octant_at level b.at == octant) bodies
