use Rattle.nb_host.proofs.Callers.{durable_each, durable_file_stays, durable_file_holds, durable_file_spared, durable_file_reads, said_spares}
use Rattle.nb_host.proofs.laws.law_durable_file.Goals as goal

pub returns-clause-each : goal.returns-clause-each
returns-clause-each g c = λ file host durable. durable_each g.H.Host.meaning file durable

pub returns-clause-stays : goal.returns-clause-stays
returns-clause-stays g c = λ files file old new spared durable run.
    durable_file_stays g.H.Host.meaning spared durable run

pub returns-clause-holds : goal.returns-clause-holds
returns-clause-holds g c = λ files file old new spared durable run honest.
    durable_file_holds g.H.Host.meaning spared durable run honest

pub returns-clause-said : goal.returns-clause-said
returns-clause-said g c = λ channel bytes file old new durable run. (
  durable_file_spared g.H.Host.meaning durable (said_spares run),
  λ honest. durable_file_reads g.H.Host.meaning durable (said_spares run) honest,
)
