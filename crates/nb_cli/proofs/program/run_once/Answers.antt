use Rattle.std.proofs.Common.{rules, ◌≡◌, ◌+◌, inr, Ok, Err, ◌∙◌, IsTrue, IsOk}
use Rattle.nb_host.proofs.Callers.{stays_contents, syncing_then}
use Rattle.nb_engine.specs.Refusal.{of_host}
use Rattle.nb_cli.specs.declared.words.Job.TheVariants as job
use Rattle.nb_cli.specs.Answer.{once_syncs}
use Rattle.nb_cli.proofs.Causes.{IsCause, cause_still, never_spoilt}
use Rattle.nb_cli.proofs.Runs.{unsynced_run, begun_run, to_say, leads_synced, leads_file, leads_from, leads_line, counts_unsynced, counts_refused, counts_said, said_answer}
use Rattle.nb_cli.proofs.program.run_once.Goals as goal

pub returns-in_err-done-clause-cause : goal.returns-in_err-done-clause-cause
returns-in_err-done-clause-cause g c =
    let why = c.in_err-done.field-0.0 in
    let handed_on : c.from_residual-in_err-done.result ≡ Err why = search rules in
    let cause : IsTrue g.H.Host.meaning.tells → IsCause (g.H.Host.meaning.contents c.args.host.now).file (job.Once c.args.target) why = λ told.
    cause_still (job.Once c.args.target) (stays_contents c.sync.ensures.ran.leads)
    (never_spoilt (g.H.Host.meaning.contents c.sync.new.self).file (job.Once c.args.target) (c.in_err-done.ensures.cause told)) in
    rw handed_on cause

-- What it leaves at each moment.

pub returns-in_err-sync-clause-run : goal.returns-in_err-sync-clause-run
returns-in_err-sync-clause-run g c =
    let handed_on : c.from_residual.result ≡ Err (of_host c.in_err-sync.field-0.0) = search rules in
    rw handed_on (unsynced_run g.H.Host.meaning (job.Once c.args.target) c.in_err-sync.field-0.0 c.in_err-sync.ensures.ran.leads)

pub returns-in_err-done-clause-run : goal.returns-in_err-done-clause-run
returns-in_err-done-clause-run g c =
    let why = c.in_err-done.field-0.0 in
    let handed_on : c.from_residual-in_err-done.result ≡ Err why = search rules in
    rw handed_on
    (begun_run g.H.Host.meaning (job.Once c.args.target) why (record {
      synced = c.sync.new.self;
      before = c.in_ok-sync.ensures.ran.leads;
      durable = c.in_ok-sync.ensures.durable;
      since = leads_file (leads_from (stays_contents c.in_ok-sync.ensures.ran.leads) c.in_err-done.ensures.ran.leads);
    }))

pub returns-in_err-say-clause-run : goal.returns-in_err-say-clause-run
returns-in_err-say-clause-run g c =
    let why = of_host c.in_err-say.field-0.0 in
    let handed_on : c.from_residual-in_err-say.result ≡ Err why = search rules in
    rw handed_on
    (begun_run g.H.Host.meaning (job.Once c.args.target) why (record {
      synced = c.sync.new.self;
      before = c.in_ok-sync.ensures.ran.leads;
      durable = c.in_ok-sync.ensures.durable;
      since = leads_line c.bytes.result.now
          (leads_from (stays_contents c.in_ok-sync.ensures.ran.leads) c.in_ok-done.ensures.ran.leads)
          c.in_ok-done.ensures.durable
          (λ tells. to_say c.bytes.result.now (stays_contents c.in_ok-sync.ensures.ran.leads) (c.in_ok-done.ensures.done tells)
          (c.bytes.ensures.value ∙ c.once_line-line.ensures))
          c.in_err-say.ensures.spoke.leads;
    }))

pub returns-clause-begun : goal.returns-clause-begun
returns-clause-begun g c = record {
  synced = c.sync.new.self;
  before = c.in_ok-sync.ensures.ran.leads;
  durable = c.in_ok-sync.ensures.durable;
  since = leads_line c.bytes.result.now
      (leads_from (stays_contents c.in_ok-sync.ensures.ran.leads) c.in_ok-done.ensures.ran.leads)
      c.in_ok-done.ensures.durable
      (λ tells. to_say c.bytes.result.now (stays_contents c.in_ok-sync.ensures.ran.leads) (c.in_ok-done.ensures.done tells)
      (c.bytes.ensures.value ∙ c.once_line-line.ensures))
      c.in_ok-say.ensures.spoke.leads;
}

-- What it owes to the counts.

pub returns-in_err-sync-clause-counts : goal.returns-in_err-sync-clause-counts
returns-in_err-sync-clause-counts g c =
    let handed_on : c.from_residual.result ≡ Err (of_host c.in_err-sync.field-0.0) = search rules in
    rw handed_on (counts_unsynced once_syncs c.sync.ensures.ran c.in_err-sync.was)

pub returns-in_err-done-clause-counts : goal.returns-in_err-done-clause-counts
returns-in_err-done-clause-counts g c =
    let why = c.in_err-done.field-0.0 in
    let handed_on : c.from_residual-in_err-done.result ≡ Err why = search rules in
    let fine : IsOk c.sync.result = search rules in
    rw handed_on
    (counts_refused once_syncs fine c.sync.ensures.ran c.once.ensures.ran c.in_err-done.was c.in_err-done.ensures.unsynced)

pub returns-in_err-say-clause-counts : goal.returns-in_err-say-clause-counts
returns-in_err-say-clause-counts g c =
    let fine : IsOk c.sync.result = search rules in
    let done : IsOk c.once.result = search rules in
    let handed_on : c.from_residual-in_err-say.result ≡ said_answer c.say.result = search rules in
    rw handed_on
    (counts_said (once_syncs + 1)
    (syncing_then fine c.sync.ensures.ran c.once.ensures.ran
    (leads_synced c.sync.ensures.ran.leads
    (leads_from (stays_contents c.sync.ensures.ran.leads) c.once.ensures.ran.leads)))
    done c.say.ensures.spoke)

pub returns-clause-counts : goal.returns-clause-counts
returns-clause-counts g c =
    let fine : IsOk c.sync.result = search rules in
    let done : IsOk c.once.result = search rules in
    let handed_on : c.say.result ≡ Ok tt = search rules in
    rw handed_on at
    (counts_said (once_syncs + 1)
    (syncing_then fine c.sync.ensures.ran c.once.ensures.ran
    (leads_synced c.sync.ensures.ran.leads
    (leads_from (stays_contents c.sync.ensures.ran.leads) c.once.ensures.ran.leads)))
    done c.say.ensures.spoke)
