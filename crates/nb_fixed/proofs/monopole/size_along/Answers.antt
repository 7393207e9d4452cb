use Rattle.std.proofs.Common.{◌≡◌, ◌+◌, ◌-◌, ◌*◌, ◌/◌, ◌%◌, ◌<◌, ◌≤◌, sym, ap, ◌∙◌, arith}
use Rattle.nb_model.specs.Limits.{gm_limit}
use Rattle.nb_model.proofs.Facts.{le-integer_root}
use Rattle.nb_model.proofs.Facts.{pull_size-floor, pull_size-next, quotient_bound}
use Rattle.nb_fixed.proofs.monopole.size_along.Goals.{Then-missing-made_up, Else-missing-made_up}
use Rattle.nb_fixed.proofs.monopole.size_along.Goals as goal

pub overflow_sub-missing : goal.overflow_sub-missing
overflow_sub-missing c =
    let s = c.args.scale.now in
    let one : 1 ≤ s.root = rw s.root_of_square (le-integer_root 1 s.square s.some_square) in
    omega arith

next : (c : Then-missing-made_up) → c.over_root-floor.result.floor + 1 ≡ (c.args.scale.now.whole * c.args.scale.now.square + c.args.scale.now.rest) * c.args.distance / (c.args.scale.now.square * c.args.scale.now.root)
next c =
    let s = c.args.scale.now in
    let d = c.args.distance in
    let over : c.over_root-floor.result.over ≡ s.whole * d % s.root = c.over_root-floor.ensures.over in
    let made_up : (s.root - s.whole * d % s.root) * s.square ≤ s.rest * d = rw (← over) c.if-missing-made_up.true in
    ap (λ n. n + 1) c.over_root-floor.ensures.floor ∙ sym (pull_size-next s.square s.root d s.whole s.rest s.some_square s.root_of_square s.part c.requires made_up)

floor : (c : Else-missing-made_up) → c.over_root-floor.result.floor ≡ (c.args.scale.now.whole * c.args.scale.now.square + c.args.scale.now.rest) * c.args.distance / (c.args.scale.now.square * c.args.scale.now.root)
floor c =
    let s = c.args.scale.now in
    let d = c.args.distance in
    let over : c.over_root-floor.result.over ≡ s.whole * d % s.root = c.over_root-floor.ensures.over in
    let short : s.rest * d < (s.root - s.whole * d % s.root) * s.square = rw (← over) c.if-missing-made_up.false in
    c.over_root-floor.ensures.floor ∙ sym (pull_size-floor s.square s.root d s.whole s.rest s.some_square s.root_of_square short)

next_bound : (c : Then-missing-made_up) → c.over_root-floor.result.floor + 1 < gm_limit
next_bound c =
    let s = c.args.scale.now in
    let value = next c in
    let bound : (s.whole * s.square + s.rest) * c.args.distance / (s.square * s.root) ≤ s.whole * s.square + s.rest = rw s.root_of_square (quotient_bound (s.whole * s.square + s.rest) s.square c.args.distance c.requires) in
    omega (arith, s.gm)

pub overflow_add-result : goal.overflow_add-result
overflow_add-result c = omega (arith, next_bound c)

pub returns-then-missing-made_up-clause-value : goal.returns-then-missing-made_up-clause-value
returns-then-missing-made_up-clause-value c = next c

pub returns-then-missing-made_up-clause-bound : goal.returns-then-missing-made_up-clause-bound
returns-then-missing-made_up-clause-bound c = next_bound c

pub returns-else-missing-made_up-clause-value : goal.returns-else-missing-made_up-clause-value
returns-else-missing-made_up-clause-value c = floor c

pub returns-else-missing-made_up-clause-bound : goal.returns-else-missing-made_up-clause-bound
returns-else-missing-made_up-clause-bound c =
    let s = c.args.scale.now in
    let value = floor c in
    let bound : (s.whole * s.square + s.rest) * c.args.distance / (s.square * s.root) ≤ s.whole * s.square + s.rest = rw s.root_of_square (quotient_bound (s.whole * s.square + s.rest) s.square c.args.distance c.requires) in
    omega (arith, s.gm)
