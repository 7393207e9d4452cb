use Rattle.nb_walk.proofs.Endings.{AreEmpty}
use Rattle.nb_walk.proofs.group.Group.finish.Given as goal

abbrev pub invariant-loop-own : goal.invariant-loop-own
invariant-loop-own l = AreEmpty l.own-items l.own-index
