use Rattle.nb_host.proofs.Callers.{stays_left, others_spare, sync_spares, say_spares}
use Rattle.nb_host.proofs.laws.law_file_stays.Goals as goal

pub returns-clause-stays : goal.returns-clause-stays
returns-clause-stays g c = λ file old new leads. stays_left g.H.Host.meaning leads

pub returns-clause-others : goal.returns-clause-others
returns-clause-others g c = λ files file old new apart leads. others_spare apart leads

pub returns-clause-synced : goal.returns-clause-synced
returns-clause-synced g c = λ file old new leads. sync_spares leads

pub returns-clause-said : goal.returns-clause-said
returns-clause-said g c = λ channel bytes file old new leads. say_spares leads
