use Rattle.std.proofs.Common.{◌≡◌, ◌⊎◌, inl, inr, IsTrue, Err, refl, ap, ◌∙◌, rules}
use Rattle.nb_engine.specs.declared.run_start.StartPlan.{StartPlan}
use Rattle.nb_engine.specs.Refusal.{NeedsNoCause, of_host}
use Rattle.nb_engine.specs.Start.{IsStartRefused}
use Rattle.nb_engine.proofs.Frames.{session_syncing, session_cached, session_then, free_by_host}
use Rattle.nb_engine.proofs.Starting.{made_of, made_leads, laid_of, laid_leads, never_broken, gate_follows, gate_journal, gate_leads, gate_opened, session_planned, session_well, session_well_cached, host_is_fault}
use Rattle.nb_engine.proofs.run_start.start.Goals as goal

-- Where the journal isn't laid down.

pub returns-in_err-ready-clause-ran : goal.returns-in_err-ready-clause-ran
returns-in_err-ready-clause-ran g c =
    let planned = c.plan_run.ensures.ran in
    let made = made_of c.requires.durable c.in_ok-plan.ensures.ready planned.leads c.prepare.ensures.ran.leads
    c.prepare.ensures.images in
    let error = c.in_err-ready.field-0.0 in
    let handed_on : c.from_residual-in_err-ready.result ≡ Err (of_host error) = search rules in
    session_then (search rules) (session_planned planned)
    (session_syncing c.prepare.ensures.ran (λ faulted. c.in_err-ready.was ∙ ap Err (host_is_fault error (cc)))
    (λ fault. search rules) (λ ok. search rules)) (made_leads made)

pub returns-in_err-ready-clause-unsynced : goal.returns-in_err-ready-clause-unsynced
returns-in_err-ready-clause-unsynced g c =
    let m = g.H.Host.meaning in
    let error = c.in_err-ready.field-0.0 in
    let handed_on : c.from_residual-in_err-ready.result ≡ Err (of_host error) = search rules in
    let unsynced : IsTrue m.tells → (NeedsNoCause (of_host error) → ⊥) → m.tally c.prepare.new.host ≡ m.tally c.args.host.now =
    λ told caused. absurd (caused (free_by_host error)) in
    rw handed_on unsynced

-- Where the bodies aren't.

pub returns-in_err-lay_bodies-clause-cause : goal.returns-in_err-lay_bodies-clause-cause
returns-in_err-lay_bodies-clause-cause g c =
    let m = g.H.Host.meaning in
    let files = (m.contents c.args.host.now).file in
    let made = made_of c.requires.durable c.in_ok-plan.ensures.ready c.plan_run.ensures.ran.leads c.prepare.ensures.ran.leads
    c.prepare.ensures.images in
    let why = c.in_err-lay_bodies.field-0.0 in
    let handed_on : c.from_residual-in_err-lay_bodies.result ≡ Err why = search rules in
    let cause : IsTrue m.tells → NeedsNoCause why ⊎ IsStartRefused files why = λ told.
    elim c.in_err-lay_bodies.ensures.cause [
      | inl needless ↦ inl needless
      | inr broken ↦ absurd (never_broken made broken told)
    ] in
    rw handed_on cause

pub returns-in_err-lay_bodies-clause-unsynced : goal.returns-in_err-lay_bodies-clause-unsynced
returns-in_err-lay_bodies-clause-unsynced g c =
    let m = g.H.Host.meaning in
    let made = made_of c.requires.durable c.in_ok-plan.ensures.ready c.plan_run.ensures.ran.leads c.prepare.ensures.ran.leads
    c.prepare.ensures.images in
    let why = c.in_err-lay_bodies.field-0.0 in
    let handed_on : c.from_residual-in_err-lay_bodies.result ≡ Err why = search rules in
    let unsynced : IsTrue m.tells → (NeedsNoCause why → ⊥) → m.tally c.lay_bodies.new.host ≡ m.tally c.args.host.now =
    λ told caused.
    elim c.in_err-lay_bodies.ensures.cause [
      | inl needless ↦ absurd (caused needless)
      | inr broken ↦ absurd (never_broken made broken told)
    ] in
    rw handed_on unsynced

pub returns-in_err-lay_bodies-clause-ran : goal.returns-in_err-lay_bodies-clause-ran
returns-in_err-lay_bodies-clause-ran g c =
    let planned = c.plan_run.ensures.ran in
    let written = c.lay_bodies.ensures.ran in
    let made = made_of c.requires.durable c.in_ok-plan.ensures.ready planned.leads c.prepare.ensures.ran.leads
    c.prepare.ensures.images in
    let laid = laid_of made c.in_ok-cache.ensures.written written.writes in
    let prepared = session_well (search rules) (session_planned planned) c.prepare.ensures.ran (search rules) (made_leads made) in
    session_then refl prepared (session_cached written laid.leads (λ faulted. search rules) (λ fault. search rules))
    (laid_leads laid)

-- Where the gate isn't opened, or perhaps isn't.

pub returns-in_err-start_gate-clause-ran : goal.returns-in_err-start_gate-clause-ran
returns-in_err-start_gate-clause-ran g c =
    let planned = c.plan_run.ensures.ran in
    let written = c.lay_bodies.ensures.ran in
    let gate = c.start_gate.ensures.ran in
    let made = made_of c.requires.durable c.in_ok-plan.ensures.ready planned.leads c.prepare.ensures.ran.leads
    c.prepare.ensures.images in
    let laid = laid_of made c.in_ok-cache.ensures.written written.writes in
    let images = gate_follows laid c.in_ok-ready.ensures.laid c.in_ok-ready.ensures.ready c.start_gate.ensures.images in
    let prepared = session_well (search rules) (session_planned planned) c.prepare.ensures.ran (search rules) (made_leads made) in
    let stands = session_well_cached refl prepared written (search rules) (laid_leads laid) in
    let error = c.in_err-start_gate.field-0.0 in
    let handed_on : c.from_residual-in_err-start_gate.result ≡ Err (of_host error) = search rules in
    session_then refl stands
    (session_syncing gate (λ faulted. c.in_err-start_gate.was ∙ ap Err (host_is_fault error (cc))) (λ fault. search rules)
    (λ ok. search rules))
    (gate_leads laid c.in_ok-lay_bodies.ensures.laid gate.leads images)

pub returns-in_err-start_gate-clause-unsynced : goal.returns-in_err-start_gate-clause-unsynced
returns-in_err-start_gate-clause-unsynced g c =
    let m = g.H.Host.meaning in
    let error = c.in_err-start_gate.field-0.0 in
    let handed_on : c.from_residual-in_err-start_gate.result ≡ Err (of_host error) = search rules in
    let unsynced : IsTrue m.tells → (NeedsNoCause (of_host error) → ⊥)
    → m.tally c.start_gate.new.host ≡ m.tally c.args.host.now = λ told caused. absurd (caused (free_by_host error)) in
    rw handed_on unsynced

-- Where it is.

pub returns-clause-begun : goal.returns-clause-begun
returns-clause-begun g c = λ told.
    let made = made_of c.requires.durable c.in_ok-plan.ensures.ready c.plan_run.ensures.ran.leads c.prepare.ensures.ran.leads
    c.prepare.ensures.images in
    let laid = laid_of made c.in_ok-cache.ensures.written c.lay_bodies.ensures.ran.writes in
    let journal = gate_journal laid c.in_ok-ready.ensures.laid c.in_ok-ready.ensures.ready c.in_ok-start_gate.ensures.started in
    let opened = gate_opened laid c.in_ok-lay_bodies.ensures.laid c.start_gate.ensures.ran.leads journal told in (
      opened.0,
      opened.1,
      record {
        count = ap (λ (p : StartPlan). p.census.count) opened.2;
        time = ap (λ (p : StartPlan). p.time) opened.2;
      },
      opened.3,
    )

pub returns-clause-ran : goal.returns-clause-ran
returns-clause-ran g c =
    let planned = c.plan_run.ensures.ran in
    let written = c.lay_bodies.ensures.ran in
    let gate = c.start_gate.ensures.ran in
    let made = made_of c.requires.durable c.in_ok-plan.ensures.ready planned.leads c.prepare.ensures.ran.leads
    c.prepare.ensures.images in
    let laid = laid_of made c.in_ok-cache.ensures.written written.writes in
    let images = gate_follows laid c.in_ok-ready.ensures.laid c.in_ok-ready.ensures.ready c.start_gate.ensures.images in
    let prepared = session_well (search rules) (session_planned planned) c.prepare.ensures.ran (search rules) (made_leads made) in
    let stands = session_well_cached refl prepared written (search rules) (laid_leads laid) in
    session_then refl stands (session_syncing gate (λ faulted. absurd (cc)) (λ fault. search rules) (λ ok. search rules))
    (gate_leads laid c.in_ok-lay_bodies.ensures.laid gate.leads images)
