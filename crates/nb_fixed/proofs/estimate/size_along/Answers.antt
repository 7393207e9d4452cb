use Rattle.std.proofs.Common.{ℕ, ◌+◌, ◌*◌, ◌/◌, ◌^◌, ◌<◌, ◌≤◌, arith}
use Rattle.std.proofs.lemmas.Nat.{mul-le, pow_pos}
use Rattle.nb_model.proofs.Facts.{le-integer_root, integer_root-lt}
use Rattle.nb_fixed.specs.declared.estimate.Ratio.{Ratio}
use Rattle.nb_fixed.proofs.Ratios.{below_next, quotient_settled}
use Rattle.nb_fixed.proofs.estimate.size_along.Goals as goal

near : (r : Ratio) (d : ℕ) → d * d ≤ r.square → d ≤ r.root
near r d part = rw r.root_of_square (le-integer_root d r.square part)

root_limit : (r : Ratio) → r.root < 2 ^ 30
root_limit r = rw r.root_of_square (integer_root-lt r.square (2 ^ 30) (omega (arith, r.square_limit)))

product_limit : (r : Ratio) (d : ℕ) → d * d ≤ r.square → d * r.floor ≤ 2 ^ 30 * 2 ^ 20
product_limit r d part =
    let first = near r d part in
    let second = root_limit r in
    mul-le d r.floor (2 ^ 30) (2 ^ 20) (omega arith) (omega (arith, r.limit))

pub overflow_mul-ratio : goal.overflow_mul-ratio
overflow_mul-ratio c =
    let root = root_limit c.args.ratio.now in
    omega arith

pub overflow_add-low : goal.overflow_add-low
overflow_add-low c =
    let root = root_limit c.args.ratio.now in
    let product = product_limit c.args.ratio.now c.args.distance c.requires in
    omega arith

pub returns-then-low-ratio-clause-value : goal.returns-then-low-ratio-clause-value
returns-then-low-ratio-clause-value c =
    let r = c.args.ratio.now in
    let d = c.args.distance in
    let p = 2 ^ r.shift in
    let k = d * r.floor / p in
    let some : 0 < p = pow_pos r.shift in
    quotient_settled r.gm (r.square * r.root) r.floor p 8 k d r.root some r.low r.next (near r d c.requires) (omega arith) (below_next (d * r.floor + 8 * r.root) k p some c.if-low-ratio.true)
