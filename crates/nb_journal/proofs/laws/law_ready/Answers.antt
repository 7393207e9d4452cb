use Rattle.nb_journal.proofs.Callers.{ready_then}
use Rattle.nb_journal.proofs.Starting.{prepared_then}
use Rattle.nb_journal.proofs.laws.law_ready.Goals as goal

pub returns-clause-prepared : goal.returns-clause-prepared
returns-clause-prepared g c = λ log old new run laid. prepared_then g.H.Host.meaning log run laid

pub returns-clause-ready : goal.returns-clause-ready
returns-clause-ready g c = λ log host journal durable. ready_then g.H.Host.meaning journal durable
