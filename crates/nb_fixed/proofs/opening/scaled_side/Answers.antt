use Rattle.std.proofs.Common.{ℕ, ◌-◌, ◌*◌, ◌^◌, ◌<◌, ◌≤◌, ◌∙◌, arith}
use Rattle.std.proofs.Math.Nat.{pow-le-pow_right, mod-eq_of_lt, mul_comm}
use Rattle.std.proofs.lemmas.Nat.{mul-le}
use Rattle.nb_fixed.proofs.opening.scaled_side.Goals as goal

product : (factor level : ℕ) → factor ≤ 2 ^ 15 → factor * 2 ^ (40 - level) ≤ 2 ^ 15 * 2 ^ 40
product factor level bound =
    let some : 0 < 2 = omega arith in
    let less : 40 - level ≤ 40 = omega arith in
    mul-le factor (2 ^ (40 - level)) (2 ^ 15) (2 ^ 40) bound (pow-le-pow_right {n = 2} some {i = 40 - level} {j = 40} less)

pub returns-clause-value : goal.returns-clause-value
returns-clause-value c =
    mod-eq_of_lt (omega (arith, product c.args.factor c.args.level (omega arith))) ∙ mul_comm c.args.factor (2 ^ (40 - c.args.level))

pub returns-clause-bound : goal.returns-clause-bound
returns-clause-bound c =
    let small = product c.args.factor c.args.level (omega arith) in
    omega (arith, small, mod-eq_of_lt {n = c.args.factor * 2 ^ (40 - c.args.level)} {m = 2 ^ 64} (omega (arith, small)))
