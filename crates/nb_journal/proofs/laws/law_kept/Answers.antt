use Rattle.nb_host.proofs.Callers.{left_stays}
use Rattle.nb_journal.proofs.laws.law_kept.Goals as goal

pub returns-clause-fresh : goal.returns-clause-fresh
returns-clause-fresh g c = λ old new leads left. left_stays g.H.Host.meaning leads left

pub returns-clause-prepared : goal.returns-clause-prepared
returns-clause-prepared g c = λ log old new leads left. left_stays g.H.Host.meaning leads left

pub returns-clause-ready : goal.returns-clause-ready
returns-clause-ready g c = λ log old new leads left. left_stays g.H.Host.meaning leads left
