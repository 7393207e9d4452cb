use Rattle.std.proofs.Common.{◌≡◌, ℕ, ◌<◌, ◌≤◌, false, get_or}
use Rattle.nb_walk.specs.declared.shared.SharedItem.{SharedItem}
use Rattle.nb_walk.specs.Shared.{is_left_to}
use Rattle.nb_walk.proofs.needs.find_left.Given as goal

abbrev pub invariant-loop-j : goal.invariant-loop-j
invariant-loop-j l = (k : ℕ) (d : SharedItem) → l.from ≤ k → k < l.j → is_left_to l.i (get_or l.waits k d) ≡ false
