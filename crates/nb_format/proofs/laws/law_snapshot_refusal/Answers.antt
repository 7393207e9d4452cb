use Rattle.nb_format.proofs.SnapshotRefusals.{snapshot_none, snapshot_accepted, no_snapshot, snapshot_by}
use Rattle.nb_format.proofs.laws.law_snapshot_refusal.Goals as goal

pub returns-clause-snapshot : goal.returns-clause-snapshot
returns-clause-snapshot c = snapshot_none

pub returns-clause-none : goal.returns-clause-none
returns-clause-none c = snapshot_accepted

pub returns-clause-some : goal.returns-clause-some
returns-clause-some c = λ bytes e refused. (no_snapshot bytes e refused, snapshot_by bytes e refused)
