use Rattle.std.proofs.Common.{rules, ◌≡◌, inr, Ok, Err, ◌∙◌, IsTrue, IsOk, subst}
use Rattle.nb_host.specs.declared.host.Channel.TheVariants as channels
use Rattle.nb_host.specs.Image.{Image}
use Rattle.nb_host.proofs.Callers.{stays_contents}
use Rattle.nb_engine.specs.Refusal.{of_host}
use Rattle.nb_engine.specs.Start.{StartLeads}
use Rattle.nb_engine.proofs.Callers.{durable_said}
use Rattle.nb_cli.specs.declared.words.Job.TheVariants as job
use Rattle.nb_cli.specs.Telling.{IsStartDone}
use Rattle.nb_cli.specs.Answer.{of_begin, IsJobDone}
use Rattle.nb_cli.proofs.Causes.{IsCause, cause_still, given_by_start, never_spoilt}
use Rattle.nb_cli.proofs.Runs.{unsynced_run, begun_run, said_answer}
use Rattle.nb_cli.proofs.Sessions.{started_told, session_done, start_touches, start_told, syncs_host_begin, syncs_line_begin, counts_first, counts_session, counts_line, syncs_start}
use Rattle.nb_cli.proofs.program.run_start.Goals as goal

-- ---- why it is refused

pub returns-in_err-begun-clause-cause : goal.returns-in_err-begun-clause-cause
returns-in_err-begun-clause-cause g c =
    let why = c.in_err-begun.field-0.0 in
    let handed_on : c.from_residual-in_err-begun.result ≡ Err why = search rules in
    let cause : IsTrue g.H.Host.meaning.tells → IsCause (g.H.Host.meaning.contents c.args.host.now).file (job.Start c.args.pages) why = λ told.
    cause_still (job.Start c.args.pages) (stays_contents c.sync.ensures.ran.leads)
    (never_spoilt (g.H.Host.meaning.contents c.sync.new.self).file (job.Start c.args.pages) (c.in_err-begun.ensures.cause told)) in
    rw handed_on cause

pub returns-in_err-begun-clause-given : goal.returns-in_err-begun-clause-given
returns-in_err-begun-clause-given g c =
    let why = c.in_err-begun.field-0.0 in
    let handed_on : c.from_residual-in_err-begun.result ≡ Err why = search rules in
    rw handed_on (given_by_start why c.in_err-begun.ensures.refusals)

-- ---- what it leaves at each moment

pub returns-in_err-sync-clause-run : goal.returns-in_err-sync-clause-run
returns-in_err-sync-clause-run g c =
    let handed_on : c.from_residual.result ≡ Err (of_host c.in_err-sync.field-0.0) = search rules in
    rw handed_on (unsynced_run g.H.Host.meaning (job.Start c.args.pages) c.in_err-sync.field-0.0 c.in_err-sync.ensures.ran.leads)

pub returns-in_err-begun-clause-run : goal.returns-in_err-begun-clause-run
returns-in_err-begun-clause-run g c =
    let why = c.in_err-begun.field-0.0 in
    let handed_on : c.from_residual-in_err-begun.result ≡ Err why = search rules in
    rw handed_on
    (begun_run g.H.Host.meaning (job.Start c.args.pages) why (record {
      synced = c.sync.new.self;
      before = c.in_ok-sync.ensures.ran.leads;
      durable = c.in_ok-sync.ensures.durable;
      since = start_touches g.H.Host.meaning (g.H.Host.meaning.contents c.args.host.now).file c.args.pages c.in_err-begun.ensures.ran.leads;
    }))

pub returns-in_err-say-clause-run : goal.returns-in_err-say-clause-run
returns-in_err-say-clause-run g c =
    let why = of_host c.in_err-say.field-0.0 in
    let handed_on : c.from_residual-in_err-say.result ≡ Err why = search rules in
    rw handed_on
    (begun_run g.H.Host.meaning (job.Start c.args.pages) why (record {
      synced = c.sync.new.self;
      before = c.in_ok-sync.ensures.ran.leads;
      durable = c.in_ok-sync.ensures.durable;
      since = start_told g.H.Host.meaning (g.H.Host.meaning.contents c.args.host.now).file c.args.pages c.bytes.result.now
          c.in_ok-sync.ensures.durable c.in_ok-begun.ensures.ran.leads c.in_ok-begun.ensures.durable
          (λ tells. record {
            start = (c.in_ok-begun.ensures.begun tells).0;
            ready = (c.in_ok-begun.ensures.begun tells).1;
            begun = (c.in_ok-begun.ensures.begun tells).3;
            line_is = started_told c.bytes.result.now (c.bytes.ensures.value ∙ c.started_line-line.ensures) (c.in_ok-begun.ensures.begun tells).2;
          })
          c.in_err-say.ensures.spoke.leads;
    }))

pub returns-clause-begun : goal.returns-clause-begun
returns-clause-begun g c = record {
  synced = c.sync.new.self;
  before = c.in_ok-sync.ensures.ran.leads;
  durable = c.in_ok-sync.ensures.durable;
  since = start_told g.H.Host.meaning (g.H.Host.meaning.contents c.args.host.now).file c.args.pages c.bytes.result.now
      c.in_ok-sync.ensures.durable c.in_ok-begun.ensures.ran.leads c.in_ok-begun.ensures.durable
      (λ tells. record {
        start = (c.in_ok-begun.ensures.begun tells).0;
        ready = (c.in_ok-begun.ensures.begun tells).1;
        begun = (c.in_ok-begun.ensures.begun tells).3;
        line_is = started_told c.bytes.result.now (c.bytes.ensures.value ∙ c.started_line-line.ensures) (c.in_ok-begun.ensures.begun tells).2;
      })
      c.in_ok-say.ensures.spoke.leads;
}

pub returns-clause-done : goal.returns-clause-done
returns-clause-done g c tells =
    let m = g.H.Host.meaning in
    subst (λ (i : Image). IsJobDone m.crashes.is_honest (job.Start c.args.pages) i (m.contents c.say.new.self))
    (stays_contents c.in_ok-sync.ensures.ran.leads)
    (session_done (StartLeads g.H.Host.meaning.crashes.is_honest) IsStartDone c.bytes.result.now (c.in_ok-begun.ensures.ran.leads.contents tells)
    (record {
      start = (c.in_ok-begun.ensures.begun tells).0;
      ready = (c.in_ok-begun.ensures.begun tells).1;
      begun = (c.in_ok-begun.ensures.begun tells).3;
      line_is = started_told c.bytes.result.now (c.bytes.ensures.value ∙ c.started_line-line.ensures) (c.in_ok-begun.ensures.begun tells).2;
    })
    (c.in_ok-say.ensures.spoke.said tells))

pub returns-clause-durable : goal.returns-clause-durable
returns-clause-durable g c =
    durable_said g.H.Host.meaning channels.Out c.bytes.result.now c.in_ok-begun.ensures.durable c.in_ok-say.ensures.spoke.leads

-- ---- what it owes to the counts

pub returns-in_err-sync-clause-counts : goal.returns-in_err-sync-clause-counts
returns-in_err-sync-clause-counts g c =
    let handed_on : c.from_residual.result ≡ Err (of_host c.in_err-sync.field-0.0) = search rules in
    rw handed_on (counts_first of_begin (syncs_host_begin c.in_err-sync.field-0.0) c.sync.ensures.ran c.in_err-sync.was)

pub returns-in_err-begun-clause-counts : goal.returns-in_err-begun-clause-counts
returns-in_err-begun-clause-counts g c =
    let why = c.in_err-begun.field-0.0 in
    let handed_on : c.from_residual-in_err-begun.result ≡ Err why = search rules in
    let fine : IsOk c.sync.result = search rules in
    let m = g.H.Host.meaning in
    rw handed_on
    (counts_session of_begin fine c.sync.ensures.ran c.start.ensures.ran c.in_err-begun.was
    (λ told one. syncs_start why (m.tally c.args.host.now) (m.tally c.sync.new.self) (m.tally c.start.new.host) one (c.in_err-begun.ensures.unsynced told)))

pub returns-in_err-say-clause-counts : goal.returns-in_err-say-clause-counts
returns-in_err-say-clause-counts g c =
    let fine : IsOk c.sync.result = search rules in
    let done : IsOk c.start.result = search rules in
    let handed_on : c.from_residual-in_err-say.result ≡ said_answer c.say.result = search rules in
    rw handed_on (counts_line of_begin (syncs_line_begin c.say.result) fine c.sync.ensures.ran c.start.ensures.ran done c.say.ensures.spoke)

pub returns-clause-counts : goal.returns-clause-counts
returns-clause-counts g c =
    let fine : IsOk c.sync.result = search rules in
    let done : IsOk c.start.result = search rules in
    let handed_on : c.say.result ≡ Ok tt = search rules in
    rw handed_on at (counts_line of_begin (syncs_line_begin c.say.result) fine c.sync.ensures.ran c.start.ensures.ran done c.say.ensures.spoke)
