use Rattle.nb_engine.proofs.Straight.{same_state}
use Rattle.nb_engine.proofs.SameSnapshots.{same_snapshots, same_as_initial}
use Rattle.nb_engine.proofs.laws.law_times.Goals as goal

pub returns-clause-states : goal.returns-clause-states
returns-clause-states c = same_state c.law_back.ensures

pub returns-clause-snapshots : goal.returns-clause-snapshots
returns-clause-snapshots c = same_snapshots c.law_back.ensures

pub returns-clause-back : goal.returns-clause-back
returns-clause-back c = same_as_initial c.law_back.ensures
