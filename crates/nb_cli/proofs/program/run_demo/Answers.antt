use Rattle.std.proofs.Common.{rules, ◌≡◌, inr, Ok, Err, IsTrue, IsOk, subst}
use Rattle.nb_host.specs.Image.{Image}
use Rattle.nb_host.proofs.Callers.{stays_contents, leads_more}
use Rattle.nb_engine.specs.Refusal.{of_host}
use Rattle.nb_cli.specs.declared.words.Job.TheVariants as job
use Rattle.nb_cli.specs.Answer.{of_begin, IsJobDone}
use Rattle.nb_cli.proofs.Causes.{IsCause, cause_still, given_by_demo, never_spoilt}
use Rattle.nb_cli.proofs.Runs.{unsynced_run, begun_run}
use Rattle.nb_cli.proofs.Sessions.{syncs_host_begin, counts_first, counts_session, counts_whole, syncs_start}
use Rattle.nb_cli.proofs.program.run_demo.Goals as goal

-- ---- why it is refused

pub returns-in_err-demo-clause-cause : goal.returns-in_err-demo-clause-cause
returns-in_err-demo-clause-cause g c =
    let why = c.in_err-demo.field-0.0 in
    let one = job.Demo c.args.seed c.args.count c.args.target c.args.pace in
    let handed_on : c.from_residual-in_err-demo.result ≡ Err why = search rules in
    let cause : IsTrue g.H.Host.meaning.tells → IsCause (g.H.Host.meaning.contents c.args.host.now).file one why = λ told.
    cause_still one (stays_contents c.sync.ensures.ran.leads)
    (never_spoilt (g.H.Host.meaning.contents c.sync.new.self).file one (c.in_err-demo.ensures.cause told)) in
    rw handed_on cause

pub returns-in_err-demo-clause-given : goal.returns-in_err-demo-clause-given
returns-in_err-demo-clause-given g c =
    let why = c.in_err-demo.field-0.0 in
    let handed_on : c.from_residual-in_err-demo.result ≡ Err why = search rules in
    rw handed_on (given_by_demo why c.in_err-demo.ensures.refusals)

-- ---- what it leaves at each moment

pub returns-in_err-sync-clause-run : goal.returns-in_err-sync-clause-run
returns-in_err-sync-clause-run g c =
    let handed_on : c.from_residual.result ≡ Err (of_host c.in_err-sync.field-0.0) = search rules in
    rw handed_on (unsynced_run g.H.Host.meaning (job.Demo c.args.seed c.args.count c.args.target c.args.pace) c.in_err-sync.field-0.0 c.in_err-sync.ensures.ran.leads)

pub returns-in_err-demo-clause-run : goal.returns-in_err-demo-clause-run
returns-in_err-demo-clause-run g c =
    let why = c.in_err-demo.field-0.0 in
    let handed_on : c.from_residual-in_err-demo.result ≡ Err why = search rules in
    rw handed_on
    (begun_run g.H.Host.meaning (job.Demo c.args.seed c.args.count c.args.target c.args.pace) why (record {
      synced = c.sync.new.self;
      before = c.in_ok-sync.ensures.ran.leads;
      durable = c.in_ok-sync.ensures.durable;
      since = leads_more c.in_err-demo.ensures.ran.leads (λ start image step. record { touches = step.leads; err = step.err });
    }))

pub returns-clause-begun : goal.returns-clause-begun
returns-clause-begun g c = record {
  synced = c.sync.new.self;
  before = c.in_ok-sync.ensures.ran.leads;
  durable = c.in_ok-sync.ensures.durable;
  since = leads_more c.in_ok-demo.ensures.ran.leads (λ start image step. record { touches = step.leads; err = step.err });
}

pub returns-clause-done : goal.returns-clause-done
returns-clause-done g c tells =
    let m = g.H.Host.meaning in
    let one = job.Demo c.args.seed c.args.count c.args.target c.args.pace in
    subst (λ (i : Image). IsJobDone m.crashes.is_honest one i (m.contents c.demo.new.host))
    (stays_contents c.in_ok-sync.ensures.ran.leads) (c.in_ok-demo.ensures.done tells)

-- ---- what it owes to the counts

pub returns-in_err-sync-clause-counts : goal.returns-in_err-sync-clause-counts
returns-in_err-sync-clause-counts g c =
    let handed_on : c.from_residual.result ≡ Err (of_host c.in_err-sync.field-0.0) = search rules in
    rw handed_on (counts_first of_begin (syncs_host_begin c.in_err-sync.field-0.0) c.sync.ensures.ran c.in_err-sync.was)

pub returns-in_err-demo-clause-counts : goal.returns-in_err-demo-clause-counts
returns-in_err-demo-clause-counts g c =
    let why = c.in_err-demo.field-0.0 in
    let handed_on : c.from_residual-in_err-demo.result ≡ Err why = search rules in
    let fine : IsOk c.sync.result = search rules in
    let m = g.H.Host.meaning in
    rw handed_on
    (counts_session of_begin fine c.sync.ensures.ran c.demo.ensures.ran c.in_err-demo.was
    (λ told one. syncs_start why (m.tally c.args.host.now) (m.tally c.sync.new.self) (m.tally c.demo.new.host) one (c.in_err-demo.ensures.unsynced told)))

pub returns-clause-counts : goal.returns-clause-counts
returns-clause-counts g c =
    let fine : IsOk c.sync.result = search rules in
    let done : IsOk c.demo.result = search rules in
    counts_whole fine c.sync.ensures.ran c.demo.ensures.ran done
