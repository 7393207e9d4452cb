use Rattle.nb_walk.proofs.Blocks.{SharedOut}
use Rattle.nb_walk.proofs.alone.share_out.Given as goal

abbrev pub invariant-loop-i : goal.invariant-loop-i
invariant-loop-i l = SharedOut l.entry l.fn.owns l.owns l.i l.others
