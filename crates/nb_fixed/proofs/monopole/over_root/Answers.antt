use Rattle.std.proofs.Common.{ℕ, ◌*◌, ◌/◌, ◌^◌, ◌<◌, arith}
use Rattle.nb_model.proofs.Facts.{le-integer_root}
use Rattle.nb_fixed.proofs.Inverses.{IsAlmostQuotient, almost_quotient, quotient_reached, quotient_one_more}
use Rattle.nb_fixed.specs.declared.monopole.Scale.{Scale}
use Rattle.nb_fixed.proofs.monopole.over_root.Goals as goal

almost : (s : Scale) (n : ℕ) → n < 2 ^ 60 → IsAlmostQuotient n s.root (n * s.inverse / 2 ^ 63)
almost s n small =
    let some : 0 < s.root = rw s.root_of_square (le-integer_root 1 s.square s.some_square) in
    rw s.inverse_of_root (almost_quotient (2 ^ 63) n s.root (omega arith) some (omega arith))

pub overflow_sub-over : goal.overflow_sub-over
overflow_sub-over c = (almost c.args.scale.now c.args.n c.requires).low

pub returns-then-over-scale-clause-floor : goal.returns-then-over-scale-clause-floor
returns-then-over-scale-clause-floor c =
    (quotient_reached c.args.n c.args.scale.now.root _ (almost c.args.scale.now c.args.n c.requires).low c.if-over-scale.true).0

pub returns-then-over-scale-clause-over : goal.returns-then-over-scale-clause-over
returns-then-over-scale-clause-over c =
    (quotient_reached c.args.n c.args.scale.now.root _ (almost c.args.scale.now c.args.n c.requires).low c.if-over-scale.true).1

pub returns-clause-floor : goal.returns-clause-floor
returns-clause-floor c =
    (quotient_one_more c.args.n c.args.scale.now.root _ (almost c.args.scale.now c.args.n c.requires) c.if-over-scale.false).0

pub returns-clause-over : goal.returns-clause-over
returns-clause-over c =
    (quotient_one_more c.args.n c.args.scale.now.root _ (almost c.args.scale.now c.args.n c.requires) c.if-over-scale.false).1
