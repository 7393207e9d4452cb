use Rattle.std.proofs.Common.{◌≡◌, ◌*◌, ◌/◌, ◌%◌, ◌^◌, ◌≤◌, arith}
use Rattle.std.proofs.lemmas.Nat.{leading_le}
use lib.Count.{count_leading_zeros}
use Rattle.nb_model.specs.Root.{integer_root}
use Rattle.nb_model.proofs.Facts.{integer_root_bounds}
use Rattle.nb_fixed.proofs.Shifts.{shifted}
use Rattle.nb_fixed.proofs.Ratios.{IsDivisor, is_divisor}
use Rattle.nb_fixed.proofs.estimate.divisor_of.Goals.{In_ok-root}
use Rattle.nb_fixed.proofs.estimate.divisor_of.Goals as goal

divisor : (c : In_ok-root) → IsDivisor c.args.square c.in_ok-root.root (count_leading_zeros 64 c.args.square / 2) (c.args.square * 2 ^ (2 * (count_leading_zeros 64 c.args.square / 2)) % 2 ^ 64)
divisor c =
    let up = shifted 64 c.args.square (omega arith) (omega arith) (omega arith) in
    let is : c.in_ok-root.root ≡ integer_root c.args.square = c.in_ok-root.ensures in
    let root : c.in_ok-root.root * c.in_ok-root.root ≤ c.args.square = rw is (integer_root_bounds c.args.square).0 in
    is_divisor c.args.square c.in_ok-root.root _ _ root up.is up.high

pub inverse_root-inverse-requires : goal.inverse_root-inverse-requires
inverse_root-inverse-requires c = (shifted 64 c.args.square (omega arith) (omega arith) (omega arith)).low

pub overflow_mul-high : goal.overflow_mul-high
overflow_mul-high c = let d = divisor c in rw d.whole (omega (arith, d.fits))

pub invariant_of-result : goal.invariant_of-result
invariant_of-result c =
    let d = divisor c in
    let up = shifted 64 c.args.square (omega arith) (omega arith) (omega arith) in
    record {
      root_of_square = c.in_ok-root.ensures;
      low = rw d.whole d.low;
      next = rw d.whole d.next;
      limit = rw d.whole (omega (arith, d.fits));
      half = omega (arith, leading_le 64 c.args.square);
    }
