use Rattle.std.proofs.Common.{◌≡◌, ◌+◌, ◌-◌, ◌*◌, ◌%◌, ◌^◌, ◌<◌, ◌≤◌, arith}
use Rattle.nb_fixed.proofs.Ratios.{settled_low, settled_next}
use Rattle.nb_fixed.proofs.estimate.ratio_of.Goals as goal

pub invariant_of-result : goal.invariant_of-result
invariant_of-result c =
    let d = c.in_ok-divisor.divisor in
    let v = c.dividend_of-dividend.result in
    let t = c.estimated_floor-floor.result in
    let f = (49 + v.shift + (2 ^ 32 - 3 * d.half_shift)) % 2 ^ 32 in
    let square : d.square ≡ c.args.square = c.in_ok-divisor.ensures in
    let gm : v.gm ≡ c.args.gm = c.dividend_of-dividend.ensures in
    let sum : f + 3 * d.half_shift ≡ 49 + v.shift = omega (arith, d.half, v.some) in
    let low : t * (d.square * d.root) ≤ v.gm * 2 ^ f = settled_low v.gm (d.square * d.root) t d.high v.high v.shift (3 * d.half_shift) f sum (omega (arith, v.limit)) d.next v.low in
    let next : v.gm * 2 ^ f < (t + 8) * (d.square * d.root) = settled_next v.gm (d.square * d.root) t d.high v.high v.shift (3 * d.half_shift) f sum (omega (arith, v.limit)) d.low v.next in
    record {
      root_of_square = rw (← square) d.root_of_square;
      low = rw (← square, ← gm) low;
      next = rw (← square, ← gm) next;
      bits = omega arith;
      limit = omega arith;
      square_limit = c.requires.square;
    }
