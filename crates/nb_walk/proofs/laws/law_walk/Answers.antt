use Rattle.nb_walk.proofs.OnTheirWay.{walk_begun, walk_finished}
use Rattle.nb_walk.proofs.laws.law_walk.Goals as goal

pub returns : goal.returns
returns c = record { begun = walk_begun; finished = walk_finished }
