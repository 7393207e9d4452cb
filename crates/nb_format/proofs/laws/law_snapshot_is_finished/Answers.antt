use Rattle.nb_format.proofs.Snapshots.{snapshot_finished}
use Rattle.nb_format.proofs.laws.law_snapshot_is_finished.Goals as goal

pub returns : goal.returns
returns c = λ bytes bodies time is. snapshot_finished is
