use Rattle.nb_walk.proofs.Waits.{WaitsTo}
use Rattle.nb_walk.proofs.needs.wait_for_shared.Given as goal

abbrev pub invariant-loop-i : goal.invariant-loop-i
invariant-loop-i l = WaitsTo l.waits l.fn.owns l.owns l.i
