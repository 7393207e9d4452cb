use Rattle.std.proofs.Common.{◌≡◌, IsOk, Err, length, refl, sym, ap, subst, ◌∙◌, rules}
use Rattle.nb_host.specs.declared.host.Channel.TheVariants as channels
use Rattle.nb_host.proofs.Callers.{ok_is_no_error}
use Rattle.nb_engine.specs.Refusal.{NeedsNoCause, of_host}
use Rattle.nb_engine.specs.Start.{Start, StartLeads}
use Rattle.nb_engine.proofs.Callers.{durable_said}
use Rattle.nb_cli.specs.Telling.{IsStartDone}
use Rattle.nb_cli.specs.Demo.{IsOfDemo, start_after_make}
use Rattle.nb_cli.proofs.Sessions.{started_told, session_done}
use Rattle.nb_cli.proofs.DemoCalls.{session_by, session_refused, session_doubted, session_then, session_unsaid, session_said}
use Rattle.nb_cli.proofs.MadeStarts.{length-made, made_only, made_starts, start_device, start_of_demo}
use Rattle.nb_cli.proofs.DemoSessions.{start_unsaid, start_said}
use Rattle.nb_cli.proofs.demo_command.start_made.Goals as goal
use Rattle.nb_cli.proofs.demo_command.start_made.Goals.{then-begun-count-via-then-begun-count, then-begun-count-via-else-begun-count+then-begun-ne-MADE_TIME}

-- ---- where `start` refuses

pub returns-in-Err-clause-cause : goal.returns-in-Err-clause-cause
returns-in-Err-clause-cause g c = λ told seed made fresh.
    subst NeedsNoCause (sym c.start_after_make.ensures)
    (made_starts seed c.args.count (g.H.Host.meaning.contents c.args.host.now).file c.in-Err.why made fresh (c.in-Err.ensures.cause told))

pub returns-in-Err-clause-refusals : goal.returns-in-Err-clause-refusals
returns-in-Err-clause-refusals g c =
    subst IsOfDemo (sym c.start_after_make.ensures) (start_of_demo c.in-Err.why c.in-Err.ensures.refusals)

pub returns-in-Err-clause-ran : goal.returns-in-Err-clause-ran
returns-in-Err-clause-ran g c =
    let m = g.H.Host.meaning in
    session_refused (session_by c.start.ensures.ran (start_unsaid m c.start.ensures.ran.leads)) c.in-Err.is refl
    (λ device. start_device c.in-Err.why (sym c.start_after_make.ensures ∙ device))
    (λ device. c.start_after_make.ensures ∙ ap start_after_make device)

-- ---- where its line isn't said

pub returns-in_err-say-clause-ran : goal.returns-in_err-say-clause-ran
returns-in_err-say-clause-ran g c =
    let m = g.H.Host.meaning in
    let error = c.in_err-say.field-0.0 in
    let fine : IsOk c.start.result = search rules in
    let handed_on : c.from_residual.result ≡ Err (of_host error) = search rules in
    session_then fine c.start.ensures.ran (session_unsaid error c.say.ensures.spoke c.in_err-say.was handed_on)
    (start_said m c.bytes.result.now c.requires.durable c.in-Ok.ensures.ran.leads c.in-Ok.ensures.durable
    (λ tells. record {
      start = (c.in-Ok.ensures.begun tells).0;
      ready = (c.in-Ok.ensures.begun tells).1;
      begun = (c.in-Ok.ensures.begun tells).3;
      line_is = started_told c.bytes.result.now (c.bytes.ensures.value ∙ c.started_line-line.ensures) (c.in-Ok.ensures.begun tells).2;
    })
    c.in_err-say.ensures.spoke.leads)

-- ---- where it is

pub returns-clause-done : goal.returns-clause-done
returns-clause-done g c tells =
    let m = g.H.Host.meaning in
    session_done (StartLeads m.crashes.is_honest) IsStartDone c.bytes.result.now (c.in-Ok.ensures.ran.leads.contents tells)
    (record {
      start = (c.in-Ok.ensures.begun tells).0;
      ready = (c.in-Ok.ensures.begun tells).1;
      begun = (c.in-Ok.ensures.begun tells).3;
      line_is = started_told c.bytes.result.now (c.bytes.ensures.value ∙ c.started_line-line.ensures) (c.in-Ok.ensures.begun tells).2;
    })
    (c.in_ok-say.ensures.spoke.said tells)

pub returns-clause-durable : goal.returns-clause-durable
returns-clause-durable g c =
    durable_said g.H.Host.meaning channels.Out c.bytes.result.now c.in-Ok.ensures.durable c.in_ok-say.ensures.spoke.leads

pub returns-clause-ran : goal.returns-clause-ran
returns-clause-ran g c =
    let m = g.H.Host.meaning in
    let fine : IsOk c.start.result = search rules in
    let said : IsOk c.say.result = search rules in
    session_then fine c.start.ensures.ran
    (session_said c.say.ensures.spoke (λ faulted. absurd (cc)) (λ faulted. absurd (ok_is_no_error said faulted)) (λ _. said))
    (start_said m c.bytes.result.now c.requires.durable c.in-Ok.ensures.ran.leads c.in-Ok.ensures.durable
    (λ tells. record {
      start = (c.in-Ok.ensures.begun tells).0;
      ready = (c.in-Ok.ensures.begun tells).1;
      begun = (c.in-Ok.ensures.begun tells).3;
      line_is = started_told c.bytes.result.now (c.bytes.ensures.value ∙ c.started_line-line.ensures) (c.in-Ok.ensures.begun tells).2;
    })
    c.in_ok-say.ensures.spoke.leads)

-- ---- where what was started isn't what was made

pub returns-then-begun-count-clause-cause : goal.returns-then-begun-count-clause-cause
returns-then-begun-count-clause-cause g c = λ told seed made fresh.
    let begun = c.in-Ok.ensures.begun told in
    let same = made_only seed c.args.count made begun.1 in
    let count : c.in-Ok.begun.count ≡ c.args.count =
    begun.2.count ∙ ap (λ (s : Start). length s.bodies) same ∙ length-made seed c.args.count in
    let time : c.in-Ok.begun.time ≡ 0 = begun.2.time ∙ ap (λ (s : Start). s.time) same in
    elim c.then-begun-count.branch [
      | then-begun-count-via-then-begun-count w ↦ absurd (w.if-begun-count.true count)
      | then-begun-count-via-else-begun-count+then-begun-ne-MADE_TIME w ↦ absurd (w.if-begun-ne-MADE_TIME.true time)
    ]

pub returns-then-begun-count-clause-ran : goal.returns-then-begun-count-clause-ran
returns-then-begun-count-clause-ran g c =
    let fine : IsOk c.start.result = search rules in
    let refused = c.damaged.ensures in
    session_doubted (session_by c.start.ensures.ran (start_unsaid g.H.Host.meaning c.start.ensures.ran.leads)) fine refl
    (λ same. absurd (cc))
