use Rattle.std.proofs.Common.{rules, ◌≡◌, inr, Ok, Err, ◌∙◌, IsTrue, IsOk, arith, subst}
use Rattle.nb_host.specs.declared.host.Channel.TheVariants as channels
use Rattle.nb_host.specs.Image.{Image}
use Rattle.nb_host.proofs.Callers.{stays_contents}
use Rattle.nb_engine.specs.Refusal.{of_host}
use Rattle.nb_engine.specs.Sessions.{ResumeLeads}
use Rattle.nb_engine.proofs.Callers.{durable_said}
use Rattle.nb_cli.specs.declared.words.Job.TheVariants as job
use Rattle.nb_cli.specs.Telling.{IsResumeDone}
use Rattle.nb_cli.specs.Answer.{of_run, IsJobDone}
use Rattle.nb_cli.proofs.Causes.{IsCause, cause_still, given_by_resume}
use Rattle.nb_cli.proofs.Runs.{unsynced_run, begun_run, said_answer}
use Rattle.nb_cli.proofs.Sessions.{session_done, resume_touches, resume_told, syncs_host_run, syncs_line_run, counts_first, counts_session, counts_line, syncs_behind, syncs_resume}
use Rattle.nb_cli.proofs.program.run_resume.Goals as goal

-- ---- why it is refused

pub returns-in_err-done-clause-cause : goal.returns-in_err-done-clause-cause
returns-in_err-done-clause-cause g c =
    let why = c.in_err-done.field-0.0 in
    let handed_on : c.from_residual-in_err-done.result ≡ Err why = search rules in
    let cause : IsTrue g.H.Host.meaning.tells → IsCause (g.H.Host.meaning.contents c.args.host.now).file (job.Resume c.args.pace) why = λ told.
    cause_still (job.Resume c.args.pace) (stays_contents c.sync.ensures.ran.leads)
    ((c.in_err-done.ensures.cause told)) in
    rw handed_on cause

pub returns-in_err-done-clause-given : goal.returns-in_err-done-clause-given
returns-in_err-done-clause-given g c =
    let why = c.in_err-done.field-0.0 in
    let handed_on : c.from_residual-in_err-done.result ≡ Err why = search rules in
    rw handed_on (given_by_resume why c.in_err-done.ensures.refusals)

-- ---- what it leaves at each moment

pub returns-in_err-sync-clause-run : goal.returns-in_err-sync-clause-run
returns-in_err-sync-clause-run g c =
    let handed_on : c.from_residual.result ≡ Err (of_host c.in_err-sync.field-0.0) = search rules in
    rw handed_on (unsynced_run g.H.Host.meaning (job.Resume c.args.pace) c.in_err-sync.field-0.0 c.in_err-sync.ensures.ran.leads)

pub returns-in_err-done-clause-run : goal.returns-in_err-done-clause-run
returns-in_err-done-clause-run g c =
    let why = c.in_err-done.field-0.0 in
    let handed_on : c.from_residual-in_err-done.result ≡ Err why = search rules in
    rw handed_on
    (begun_run g.H.Host.meaning (job.Resume c.args.pace) why (record {
      synced = c.sync.new.self;
      before = c.in_ok-sync.ensures.ran.leads;
      durable = c.in_ok-sync.ensures.durable;
      since = resume_touches g.H.Host.meaning (g.H.Host.meaning.contents c.args.host.now).file c.args.pace c.in_err-done.ensures.ran.leads;
    }))

pub returns-in_err-say-clause-run : goal.returns-in_err-say-clause-run
returns-in_err-say-clause-run g c =
    let why = of_host c.in_err-say.field-0.0 in
    let handed_on : c.from_residual-in_err-say.result ≡ Err why = search rules in
    rw handed_on
    (begun_run g.H.Host.meaning (job.Resume c.args.pace) why (record {
      synced = c.sync.new.self;
      before = c.in_ok-sync.ensures.ran.leads;
      durable = c.in_ok-sync.ensures.durable;
      since = resume_told g.H.Host.meaning (g.H.Host.meaning.contents c.args.host.now).file c.args.pace c.bytes.result.now
          c.in_ok-sync.ensures.durable c.in_ok-done.ensures.ran.leads c.in_ok-done.ensures.durable
          (λ tells. record {
            done = c.in_ok-done.done;
            fits = record { time = omega arith; ticks = omega arith; gone = omega arith };
            there = c.in_ok-done.ensures.there tells;
            could = c.in_ok-done.ensures.ready tells;
            led = c.in_ok-done.ensures.done tells;
            line_is = c.bytes.ensures.value ∙ c.done_line-line.ensures;
          })
          c.in_err-say.ensures.spoke.leads;
    }))

pub returns-clause-begun : goal.returns-clause-begun
returns-clause-begun g c = record {
  synced = c.sync.new.self;
  before = c.in_ok-sync.ensures.ran.leads;
  durable = c.in_ok-sync.ensures.durable;
  since = resume_told g.H.Host.meaning (g.H.Host.meaning.contents c.args.host.now).file c.args.pace c.bytes.result.now
      c.in_ok-sync.ensures.durable c.in_ok-done.ensures.ran.leads c.in_ok-done.ensures.durable
      (λ tells. record {
        done = c.in_ok-done.done;
        fits = record { time = omega arith; ticks = omega arith; gone = omega arith };
        there = c.in_ok-done.ensures.there tells;
        could = c.in_ok-done.ensures.ready tells;
        led = c.in_ok-done.ensures.done tells;
        line_is = c.bytes.ensures.value ∙ c.done_line-line.ensures;
      })
      c.in_ok-say.ensures.spoke.leads;
}

pub returns-clause-done : goal.returns-clause-done
returns-clause-done g c tells =
    let m = g.H.Host.meaning in
    subst (λ (i : Image). IsJobDone m.crashes.is_honest (job.Resume c.args.pace) i (m.contents c.say.new.self))
    (stays_contents c.in_ok-sync.ensures.ran.leads)
    (session_done (ResumeLeads g.H.Host.meaning.crashes.is_honest) IsResumeDone c.bytes.result.now (c.in_ok-done.ensures.ran.leads.contents tells)
    (record {
      done = c.in_ok-done.done;
      fits = record { time = omega arith; ticks = omega arith; gone = omega arith };
      there = c.in_ok-done.ensures.there tells;
      could = c.in_ok-done.ensures.ready tells;
      led = c.in_ok-done.ensures.done tells;
      line_is = c.bytes.ensures.value ∙ c.done_line-line.ensures;
    })
    (c.in_ok-say.ensures.spoke.said tells))

pub returns-clause-durable : goal.returns-clause-durable
returns-clause-durable g c =
    durable_said g.H.Host.meaning channels.Out c.bytes.result.now c.in_ok-done.ensures.durable c.in_ok-say.ensures.spoke.leads

-- ---- what it owes to the counts

pub returns-in_err-sync-clause-counts : goal.returns-in_err-sync-clause-counts
returns-in_err-sync-clause-counts g c =
    let handed_on : c.from_residual.result ≡ Err (of_host c.in_err-sync.field-0.0) = search rules in
    rw handed_on (counts_first of_run (syncs_host_run c.in_err-sync.field-0.0) c.sync.ensures.ran c.in_err-sync.was)

pub returns-in_err-done-clause-counts : goal.returns-in_err-done-clause-counts
returns-in_err-done-clause-counts g c =
    let why = c.in_err-done.field-0.0 in
    let handed_on : c.from_residual-in_err-done.result ≡ Err why = search rules in
    let fine : IsOk c.sync.result = search rules in
    let m = g.H.Host.meaning in
    rw handed_on
    (counts_session of_run fine c.sync.ensures.ran c.resume.ensures.ran c.in_err-done.was
    (λ told one. syncs_behind why (m.tally c.args.host.now).syncs (m.tally c.sync.new.self).syncs _ one
    (syncs_resume (m.contents c.sync.new.self).file why (m.tally c.sync.new.self) (m.tally c.resume.new.host)
    (c.in_err-done.ensures.cause told) (c.in_err-done.ensures.unsynced told))))

pub returns-in_err-say-clause-counts : goal.returns-in_err-say-clause-counts
returns-in_err-say-clause-counts g c =
    let fine : IsOk c.sync.result = search rules in
    let done : IsOk c.resume.result = search rules in
    let handed_on : c.from_residual-in_err-say.result ≡ said_answer c.say.result = search rules in
    rw handed_on (counts_line of_run (syncs_line_run c.say.result) fine c.sync.ensures.ran c.resume.ensures.ran done c.say.ensures.spoke)

pub returns-clause-counts : goal.returns-clause-counts
returns-clause-counts g c =
    let fine : IsOk c.sync.result = search rules in
    let done : IsOk c.resume.result = search rules in
    let handed_on : c.say.result ≡ Ok tt = search rules in
    rw handed_on at (counts_line of_run (syncs_line_run c.say.result) fine c.sync.ensures.ran c.resume.ensures.ran done c.say.ensures.spoke)
