use Rattle.nb_format.proofs.Snapshots.{one_snapshot}
use Rattle.nb_format.proofs.laws.law_one_snapshot.Goals as goal

pub returns : goal.returns
returns c = λ bytes a b s t first second. one_snapshot first second
