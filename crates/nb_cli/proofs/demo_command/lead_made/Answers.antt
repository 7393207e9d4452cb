use Rattle.std.proofs.Common.{◌≡◌, IsOk, Err, refl, sym, ap, subst, ◌∙◌, arith, rules}
use Rattle.nb_host.specs.declared.host.Channel.TheVariants as channels
use Rattle.nb_model.specs.Leapfrog.{escaped_count}
use Rattle.nb_host.proofs.Callers.{ok_is_no_error}
use Rattle.nb_engine.specs.Refusal.{NeedsNoCause, of_host}
use Rattle.nb_engine.specs.Start.{started}
use Rattle.nb_engine.specs.Sessions.{GoLeads}
use Rattle.nb_engine.proofs.Callers.{durable_said}
use Rattle.nb_cli.specs.Telling.{IsGoDone}
use Rattle.nb_cli.specs.Demo.{IsOfDemo, go_after_start}
use Rattle.nb_cli.proofs.Sessions.{session_done}
use Rattle.nb_cli.proofs.DemoCalls.{session_by, session_refused, session_then, session_unsaid, session_said}
use Rattle.nb_cli.proofs.MadeStarts.{go_device}
use Rattle.nb_cli.proofs.DemoSessions.{go_unsaid, go_said, started_goes, go_of_demo}
use Rattle.nb_cli.proofs.DemoTexts.{led_state}
use Rattle.nb_cli.proofs.demo_command.lead_made.Goals as goal

-- ---- where `go` refuses

pub returns-in-Err-clause-cause : goal.returns-in-Err-clause-cause
returns-in-Err-clause-cause g c = λ told start is stands few.
    subst NeedsNoCause (sym c.go_after_start.ensures)
    (started_goes c.args.target start (g.H.Host.meaning.contents c.args.host.now) c.in-Err.why is stands few (c.in-Err.ensures.cause told))

pub returns-in-Err-clause-refusals : goal.returns-in-Err-clause-refusals
returns-in-Err-clause-refusals g c =
    subst IsOfDemo (sym c.go_after_start.ensures) (go_of_demo c.in-Err.why c.in-Err.ensures.refusals)

pub returns-in-Err-clause-ran : goal.returns-in-Err-clause-ran
returns-in-Err-clause-ran g c =
    let m = g.H.Host.meaning in
    session_refused (session_by c.go.ensures.ran (go_unsaid m c.args.target c.go.ensures.ran.leads)) c.in-Err.is refl
    (λ device. go_device c.in-Err.why (sym c.go_after_start.ensures ∙ device))
    (λ device. c.go_after_start.ensures ∙ ap go_after_start device)

-- ---- where its line isn't said

pub returns-in_err-say-clause-ran : goal.returns-in_err-say-clause-ran
returns-in_err-say-clause-ran g c =
    let m = g.H.Host.meaning in
    let error = c.in_err-say.field-0.0 in
    let fine : IsOk c.go.result = search rules in
    let handed_on : c.from_residual.result ≡ Err (of_host error) = search rules in
    session_then fine c.go.ensures.ran (session_unsaid error c.say.ensures.spoke c.in_err-say.was handed_on)
    (go_said m c.args.target c.bytes.result.now c.requires.durable c.in-Ok.ensures.ran.leads c.in-Ok.ensures.durable
    (λ tells. record {
      done = c.in-Ok.done;
      fits = record { time = omega arith; ticks = omega arith; gone = omega arith };
      there = c.in-Ok.ensures.there;
      could = c.in-Ok.ensures.ready tells;
      led = c.in-Ok.ensures.done tells;
      line_is = c.bytes.ensures.value ∙ c.done_line-line.ensures;
    })
    c.in_err-say.ensures.spoke.leads)

-- ---- where it is

pub returns-clause-done : goal.returns-clause-done
returns-clause-done g c tells =
    let m = g.H.Host.meaning in
    session_done (GoLeads m.crashes.is_honest c.args.target) (IsGoDone c.args.target) c.bytes.result.now (c.in-Ok.ensures.ran.leads.contents tells)
    (record {
      done = c.in-Ok.done;
      fits = record { time = omega arith; ticks = omega arith; gone = omega arith };
      there = c.in-Ok.ensures.there;
      could = c.in-Ok.ensures.ready tells;
      led = c.in-Ok.ensures.done tells;
      line_is = c.bytes.ensures.value ∙ c.done_line-line.ensures;
    })
    (c.in_ok-say.ensures.spoke.said tells)

pub returns-clause-gone : goal.returns-clause-gone
returns-clause-gone g c = λ tells start is stands.
    (c.in-Ok.ensures.done tells (started start) is stands).gone_is ∙ ap escaped_count (led_state c.args.target start)

pub returns-clause-durable : goal.returns-clause-durable
returns-clause-durable g c =
    durable_said g.H.Host.meaning channels.Out c.bytes.result.now c.in-Ok.ensures.durable c.in_ok-say.ensures.spoke.leads

pub returns-clause-ran : goal.returns-clause-ran
returns-clause-ran g c =
    let m = g.H.Host.meaning in
    let fine : IsOk c.go.result = search rules in
    let said : IsOk c.say.result = search rules in
    session_then fine c.go.ensures.ran
    (session_said c.say.ensures.spoke (λ faulted. absurd (cc)) (λ faulted. absurd (ok_is_no_error said faulted)) (λ _. said))
    (go_said m c.args.target c.bytes.result.now c.requires.durable c.in-Ok.ensures.ran.leads c.in-Ok.ensures.durable
    (λ tells. record {
      done = c.in-Ok.done;
      fits = record { time = omega arith; ticks = omega arith; gone = omega arith };
      there = c.in-Ok.ensures.there;
      could = c.in-Ok.ensures.ready tells;
      led = c.in-Ok.ensures.done tells;
      line_is = c.bytes.ensures.value ∙ c.done_line-line.ensures;
    })
    c.in_ok-say.ensures.spoke.leads)
