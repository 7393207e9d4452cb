use Rattle.std.proofs.Common.{rules, ◌≡◌, ◌+◌, inr, Ok, Err, ◌∙◌, IsTrue, IsOk, subst}
use Rattle.nb_host.specs.declared.host.Channel.TheVariants as channels
use Rattle.nb_host.specs.Image.{Image}
use Rattle.nb_host.proofs.Callers.{stays_contents, syncing_then}
use Rattle.nb_engine.specs.Refusal.{of_host}
use Rattle.nb_engine.proofs.Callers.{durable_said}
use Rattle.nb_cli.specs.declared.words.Job.TheVariants as job
use Rattle.nb_cli.specs.Answer.{IsJobDone}
use Rattle.nb_cli.specs.Make.{make_syncs}
use Rattle.nb_cli.proofs.Causes.{IsCause, cause_still, never_spoilt, given_by_make}
use Rattle.nb_cli.proofs.MakeLines.{leads_files, leads_line, made_told, made_synced}
use Rattle.nb_cli.proofs.Runs.{unsynced_run, begun_run, counts_unsynced, counts_refused, counts_said, said_answer}
use Rattle.nb_cli.proofs.program.run_make.Goals as goal

-- ---- why it is refused

pub returns-in_err-make-clause-cause : goal.returns-in_err-make-clause-cause
returns-in_err-make-clause-cause g c =
    let why = c.in_err-make.field-0.0 in
    let handed_on : c.from_residual-in_err-make.result ≡ Err why = search rules in
    let cause : IsTrue g.H.Host.meaning.tells → IsCause (g.H.Host.meaning.contents c.args.host.now).file (job.Make c.args.seed c.args.count) why = λ told.
    cause_still (job.Make c.args.seed c.args.count) (stays_contents c.sync.ensures.ran.leads)
    (never_spoilt (g.H.Host.meaning.contents c.sync.new.self).file (job.Make c.args.seed c.args.count) (c.in_err-make.ensures.cause told)) in
    rw handed_on cause

pub returns-in_err-make-clause-given : goal.returns-in_err-make-clause-given
returns-in_err-make-clause-given g c =
    let why = c.in_err-make.field-0.0 in
    let handed_on : c.from_residual-in_err-make.result ≡ Err why = search rules in
    rw handed_on (given_by_make why c.in_err-make.ensures.refusals)

-- ---- what it leaves at each moment

pub returns-in_err-sync-clause-run : goal.returns-in_err-sync-clause-run
returns-in_err-sync-clause-run g c =
    let handed_on : c.from_residual.result ≡ Err (of_host c.in_err-sync.field-0.0) = search rules in
    rw handed_on (unsynced_run g.H.Host.meaning (job.Make c.args.seed c.args.count) c.in_err-sync.field-0.0 c.in_err-sync.ensures.ran.leads)

pub returns-in_err-make-clause-run : goal.returns-in_err-make-clause-run
returns-in_err-make-clause-run g c =
    let why = c.in_err-make.field-0.0 in
    let handed_on : c.from_residual-in_err-make.result ≡ Err why = search rules in
    rw handed_on
    (begun_run g.H.Host.meaning (job.Make c.args.seed c.args.count) why (record {
      synced = c.sync.new.self;
      before = c.in_ok-sync.ensures.ran.leads;
      durable = c.in_ok-sync.ensures.durable;
      since = leads_files c.in_err-make.ensures.ran.leads;
    }))

pub returns-in_err-say-clause-run : goal.returns-in_err-say-clause-run
returns-in_err-say-clause-run g c =
    let why = of_host c.in_err-say.field-0.0 in
    let handed_on : c.from_residual-in_err-say.result ≡ Err why = search rules in
    rw handed_on
    (begun_run g.H.Host.meaning (job.Make c.args.seed c.args.count) why (record {
      synced = c.sync.new.self;
      before = c.in_ok-sync.ensures.ran.leads;
      durable = c.in_ok-sync.ensures.durable;
      since = leads_line c.bytes.result.now (c.bytes.ensures.value ∙ c.made_line-line.ensures) c.in_ok-sync.ensures.durable
          c.in_ok-make.ensures.ran.leads c.in_ok-make.ensures.durable c.in_ok-make.ensures.done c.in_err-say.ensures.spoke.leads;
    }))

pub returns-clause-begun : goal.returns-clause-begun
returns-clause-begun g c = record {
  synced = c.sync.new.self;
  before = c.in_ok-sync.ensures.ran.leads;
  durable = c.in_ok-sync.ensures.durable;
  since = leads_line c.bytes.result.now (c.bytes.ensures.value ∙ c.made_line-line.ensures) c.in_ok-sync.ensures.durable
      c.in_ok-make.ensures.ran.leads c.in_ok-make.ensures.durable c.in_ok-make.ensures.done c.in_ok-say.ensures.spoke.leads;
}

pub returns-clause-done : goal.returns-clause-done
returns-clause-done g c tells =
    let m = g.H.Host.meaning in
    subst (λ (i : Image). IsJobDone m.crashes.is_honest (job.Make c.args.seed c.args.count) i (m.contents c.say.new.self))
    (stays_contents c.in_ok-sync.ensures.ran.leads)
    (made_told c.bytes.result.now (c.bytes.ensures.value ∙ c.made_line-line.ensures) (c.in_ok-make.ensures.done tells)
    (c.in_ok-say.ensures.spoke.said tells))

pub returns-clause-durable : goal.returns-clause-durable
returns-clause-durable g c =
    durable_said g.H.Host.meaning channels.Out c.bytes.result.now c.in_ok-make.ensures.durable c.in_ok-say.ensures.spoke.leads

-- ---- what it owes to the counts

pub returns-in_err-sync-clause-counts : goal.returns-in_err-sync-clause-counts
returns-in_err-sync-clause-counts g c =
    let handed_on : c.from_residual.result ≡ Err (of_host c.in_err-sync.field-0.0) = search rules in
    rw handed_on (counts_unsynced make_syncs c.sync.ensures.ran c.in_err-sync.was)

pub returns-in_err-make-clause-counts : goal.returns-in_err-make-clause-counts
returns-in_err-make-clause-counts g c =
    let why = c.in_err-make.field-0.0 in
    let handed_on : c.from_residual-in_err-make.result ≡ Err why = search rules in
    let fine : IsOk c.sync.result = search rules in
    rw handed_on
    (counts_refused make_syncs fine c.sync.ensures.ran c.make.ensures.ran c.in_err-make.was c.in_err-make.ensures.unsynced)

pub returns-in_err-say-clause-counts : goal.returns-in_err-say-clause-counts
returns-in_err-say-clause-counts g c =
    let fine : IsOk c.sync.result = search rules in
    let done : IsOk c.make.result = search rules in
    let handed_on : c.from_residual-in_err-say.result ≡ said_answer c.say.result = search rules in
    rw handed_on
    (counts_said (make_syncs + 1)
    (syncing_then fine c.sync.ensures.ran c.make.ensures.ran (made_synced c.sync.ensures.ran.leads c.make.ensures.ran.leads))
    done c.say.ensures.spoke)

pub returns-clause-counts : goal.returns-clause-counts
returns-clause-counts g c =
    let fine : IsOk c.sync.result = search rules in
    let done : IsOk c.make.result = search rules in
    let handed_on : c.say.result ≡ Ok tt = search rules in
    rw handed_on at
    (counts_said (make_syncs + 1)
    (syncing_then fine c.sync.ensures.ran c.make.ensures.ran (made_synced c.sync.ensures.ran.leads c.make.ensures.ran.leads))
    done c.say.ensures.spoke)
