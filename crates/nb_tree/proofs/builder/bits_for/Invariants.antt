use Rattle.std.proofs.Common.{ℕ, ◌-◌, ◌*◌, ◌^◌, ◌≤◌}
use Rattle.nb_tree.proofs.builder.bits_for.Given as goal

abbrev pub invariant-loop-bits : goal.invariant-loop-bits
invariant-loop-bits l = record {
  most : l.bits ≤ 18;
  least : (fewer : ℕ) → l.count ≤ 64 * 2 ^ fewer → l.bits ≤ fewer;
}

abbrev pub decreases-loop-bits : goal.decreases-loop-bits
decreases-loop-bits l = 18 - l.bits
