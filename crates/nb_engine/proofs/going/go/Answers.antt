use Rattle.std.proofs.Common.{rules, ◌≡◌, ◌⊎◌, inl, inr, Err, IsTrue, IsOk, refl, sym, ap, subst, ◌∙◌}
use Rattle.nb_journal.specs.Counters.{Counters}
use Rattle.nb_engine.specs.Refusal.{NeedsNoCause, of_host}
use Rattle.nb_engine.specs.Sessions.{IsNoLeg, IsGoRefused, IsOfLeg, IsBroughtUp, IsSlotDamaged}
use Rattle.nb_engine.proofs.Departures.{can_go, led_there, appended, spoilt_leg, went_on, led_on, no_leg_steady, shown_no_leg, free_no_leg, run_no_leg, settled_journal}
use Rattle.nb_engine.proofs.Frames.{inside, ok_isnt, free_by_host, session_synced, session_then, session_by, session_handed, session_ended, session_host}
use Rattle.nb_engine.proofs.GoingOn.{go_opened, next_leg}
use Rattle.nb_engine.proofs.going.go.Goals as goal

-- ---- the session was begun, and no more

pub returns-in_err-journal-clause-ran : goal.returns-in_err-journal-clause-ran
returns-in_err-journal-clause-ran g c =
    let why = c.in_err-journal.field-0.0 in
    let handed_on : c.from_residual.result ≡ Err why = search rules in
    let leads = go_opened g.H.Host.meaning c.args.target c.requires.durable c.in_err-journal.ensures.ran.leads c.in_err-journal.ensures.images in
    rw handed_on (session_handed (session_by c.open.ensures.ran leads) c.in_err-journal.was)

pub returns-in-Some-clause-cause : goal.returns-in-Some-clause-cause
returns-in-Some-clause-cause g c tells =
    let there = c.in_ok-journal.ensures.found tells in
    inr (inl (inr (
      there.log,
      there.journal,
      subst (λ (k : Counters). IsNoLeg c.args.target k.progress c.in-Some.why) there.answers c.in-Some.ensures.some.0,
    )))

pub returns-in-Some-clause-ran : goal.returns-in-Some-clause-ran
returns-in-Some-clause-ran g c =
    let ok : IsOk c.open.result = search rules in
    let leads = go_opened g.H.Host.meaning c.args.target c.requires.durable c.in_ok-journal.ensures.ran.leads c.in_ok-journal.ensures.images in
    session_ended (session_by c.open.ensures.ran leads) ok
    (λ is. no_leg_steady c.args.target c.in_ok-journal.field-0.journal {why = c.in-Some.why} c.in-Some.ensures.some.0 (inside is))

-- ---- the run is at the target

pub returns-then-target-time-clause-done : goal.returns-then-target-time-clause-done
returns-then-target-time-clause-done g c tells h is represents =
    led_there g.H.Host.meaning c.args.target c.in_ok-journal.field-0.journal c.requires.durable c.in_ok-journal.ensures.found
    c.in_ok-journal.ensures.ran.leads c.in_ok-journal.ensures.images c.in_ok-journal.ensures.opened
    (c.no_leg.ensures.none (search rules)) c.law_times.ensures.back (c.if-target-time.true ∙ c.time.ensures) c.done_of.ensures.time
    c.done_of.ensures.ticks c.done_of.ensures.gone tells h is represents

pub returns-then-target-time-clause-ready : goal.returns-then-target-time-clause-ready
returns-then-target-time-clause-ready g c tells =
    can_go g.H.Host.meaning c.args.target c.in_ok-journal.field-0.journal c.requires.durable c.in_ok-journal.ensures.found
    c.in_ok-journal.ensures.ran.leads c.in_ok-journal.ensures.images c.in_ok-journal.ensures.opened
    (c.no_leg.ensures.none (search rules)) tells

pub returns-then-target-time-clause-ran : goal.returns-then-target-time-clause-ran
returns-then-target-time-clause-ran g c =
    let ok : IsOk c.open.result = search rules in
    let leads = go_opened g.H.Host.meaning c.args.target c.requires.durable c.in_ok-journal.ensures.ran.leads c.in_ok-journal.ensures.images in
    session_ended (session_by c.open.ensures.ran leads) ok ok_isnt

-- ---- a leg is added

pub append-requires : goal.append-requires
append-requires g c = record {
  next = next_leg c.args.target c.in_ok-journal.field-0.journal c.ranges.target.fits
      (λ same. c.if-target-time.false (same ∙ sym c.time.ensures)) (c.no_leg.ensures.none (search rules));
}

pub returns-in_err-journal-2-clause-cause : goal.returns-in_err-journal-2-clause-cause
returns-in_err-journal-2-clause-cause g c =
    let error = c.in_err-journal-2.field-0.0 in
    let handed_on : c.from_residual-in_err-journal-2.result ≡ Err (of_host error) = search rules in
    let free : IsTrue g.H.Host.meaning.tells → NeedsNoCause (of_host error)
    ⊎ IsGoRefused c.args.target (g.H.Host.meaning.contents c.args.host.now).file (of_host error)
    ⊎ IsSlotDamaged (g.H.Host.meaning.contents c.args.host.now).file (of_host error) = λ tells. inl (free_by_host error) in
    rw handed_on free

pub returns-in_err-journal-2-clause-ran : goal.returns-in_err-journal-2-clause-ran
returns-in_err-journal-2-clause-ran g c =
    let error = c.in_err-journal-2.field-0.0 in
    let handed_on : c.from_residual-in_err-journal-2.result ≡ Err (of_host error) = search rules in
    let ok : IsOk c.open.result = search rules in
    let next = next_leg c.args.target c.in_ok-journal.field-0.journal c.ranges.target.fits
    (λ same. c.if-target-time.false (same ∙ sym c.time.ensures)) (c.no_leg.ensures.none (search rules)) in
    let leads = appended g.H.Host.meaning c.args.target c.in_ok-journal.field-0.journal c.requires.durable c.in_ok-journal.ensures.found
    c.in_ok-journal.ensures.ran.leads c.in_ok-journal.ensures.images c.in_ok-journal.ensures.opened
    (c.no_leg.ensures.none (search rules)) next c.in_err-journal-2.ensures.ran.leads c.in_err-journal-2.ensures.images in
    rw handed_on (session_then ok c.open.ensures.ran (session_host c.append.ensures.ran c.in_err-journal-2.was) leads)

-- ---- and run

pub run_leg-requires : goal.run_leg-requires
run_leg-requires g c = settled_journal c.in_ok-journal-2.ensures.ran.leads c.in_ok-journal.ensures.settled

pub returns-in_err-journal-3-clause-cause : goal.returns-in_err-journal-3-clause-cause
returns-in_err-journal-3-clause-cause g c =
    let why = c.in_err-journal-3.field-0.0 in
    let handed_on : c.from_residual-in_err-journal-3.result ≡ Err why = search rules in
    let next = next_leg c.args.target c.in_ok-journal.field-0.journal c.ranges.target.fits
    (λ same. c.if-target-time.false (same ∙ sym c.time.ensures)) (c.no_leg.ensures.none (search rules)) in
    let cause : IsTrue g.H.Host.meaning.tells → NeedsNoCause why
    ⊎ IsGoRefused c.args.target (g.H.Host.meaning.contents c.args.host.now).file why
    ⊎ IsSlotDamaged (g.H.Host.meaning.contents c.args.host.now).file why = λ tells. elim c.in_err-journal-3.ensures.cause [
      | inl free ↦ inl free
      | inr spoilt ↦ inr (inr (spoilt_leg g.H.Host.meaning c.args.target c.in_ok-journal.field-0.journal c.requires.durable
          c.in_ok-journal.ensures.found c.in_ok-journal.ensures.ran.leads c.in_ok-journal.ensures.images
          c.in_ok-journal.ensures.opened (c.no_leg.ensures.none (search rules)) next c.in_ok-journal-2.ensures.ran.leads
          c.in_ok-journal-2.ensures.images c.in_ok-journal-2.ensures.counters tells spoilt))
    ] in
    rw handed_on cause

pub returns-in_err-journal-3-clause-ran : goal.returns-in_err-journal-3-clause-ran
returns-in_err-journal-3-clause-ran g c =
    let why = c.in_err-journal-3.field-0.0 in
    let handed_on : c.from_residual-in_err-journal-3.result ≡ Err why = search rules in
    let ok : IsOk c.open.result = search rules in
    let added : IsOk c.append.result = search rules in
    let next = next_leg c.args.target c.in_ok-journal.field-0.journal c.ranges.target.fits
    (λ same. c.if-target-time.false (same ∙ sym c.time.ensures)) (c.no_leg.ensures.none (search rules)) in
    let before = appended g.H.Host.meaning c.args.target c.in_ok-journal.field-0.journal c.requires.durable c.in_ok-journal.ensures.found
    c.in_ok-journal.ensures.ran.leads c.in_ok-journal.ensures.images c.in_ok-journal.ensures.opened
    (c.no_leg.ensures.none (search rules)) next c.in_ok-journal-2.ensures.ran.leads c.in_ok-journal-2.ensures.images in
    let leads = went_on g.H.Host.meaning c.args.target c.in_ok-journal.field-0.journal c.requires.durable c.in_ok-journal.ensures.found
    c.in_ok-journal.ensures.ran.leads c.in_ok-journal.ensures.images c.in_ok-journal.ensures.opened
    (c.no_leg.ensures.none (search rules)) next c.in_ok-journal-2.ensures.ran.leads c.in_ok-journal-2.ensures.images
    c.in_ok-journal-2.ensures.counters c.in_ok-journal-2.ensures.durable c.in_ok-journal-2.ensures.added
    c.in_err-journal-3.ensures.ran.leads c.in_err-journal-3.ensures.images in
    let first = session_then ok c.open.ensures.ran (session_synced c.append.ensures.ran added) before in
    rw handed_on (session_handed (session_then refl first c.run_leg.ensures.ran leads) c.in_err-journal-3.was)

pub returns-clause-ready : goal.returns-clause-ready
returns-clause-ready g c tells =
    can_go g.H.Host.meaning c.args.target c.in_ok-journal.field-0.journal c.requires.durable c.in_ok-journal.ensures.found
    c.in_ok-journal.ensures.ran.leads c.in_ok-journal.ensures.images c.in_ok-journal.ensures.opened
    (c.no_leg.ensures.none (search rules)) tells

pub returns-clause-durable : goal.returns-clause-durable
returns-clause-durable g c = c.in_ok-journal-3.ensures.durable c.in_ok-journal-2.ensures.durable

pub returns-clause-done : goal.returns-clause-done
returns-clause-done g c tells h is represents =
    let next = next_leg c.args.target c.in_ok-journal.field-0.journal c.ranges.target.fits
    (λ same. c.if-target-time.false (same ∙ sym c.time.ensures)) (c.no_leg.ensures.none (search rules)) in
    led_on g.H.Host.meaning c.args.target c.in_ok-journal.field-0.journal c.requires.durable c.in_ok-journal.ensures.found
    c.in_ok-journal.ensures.ran.leads c.in_ok-journal.ensures.images c.in_ok-journal.ensures.opened
    (c.no_leg.ensures.none (search rules)) next c.in_ok-journal-2.ensures.ran.leads c.in_ok-journal-2.ensures.images
    c.in_ok-journal-2.ensures.counters c.in_ok-journal-2.ensures.durable c.in_ok-journal-2.ensures.added
    c.law_times.ensures.back (λ same. c.if-target-time.false (same ∙ sym c.time.ensures)) c.in_ok-journal-3.ensures.run
    c.in_ok-journal-3.ensures.ended c.done_of-2.ensures.time c.done_of-2.ensures.ticks c.done_of-2.ensures.gone tells h is represents

pub returns-clause-ran : goal.returns-clause-ran
returns-clause-ran g c =
    let ok : IsOk c.open.result = search rules in
    let added : IsOk c.append.result = search rules in
    let run : IsOk c.run_leg.result = search rules in
    let next = next_leg c.args.target c.in_ok-journal.field-0.journal c.ranges.target.fits
    (λ same. c.if-target-time.false (same ∙ sym c.time.ensures)) (c.no_leg.ensures.none (search rules)) in
    let before = appended g.H.Host.meaning c.args.target c.in_ok-journal.field-0.journal c.requires.durable c.in_ok-journal.ensures.found
    c.in_ok-journal.ensures.ran.leads c.in_ok-journal.ensures.images c.in_ok-journal.ensures.opened
    (c.no_leg.ensures.none (search rules)) next c.in_ok-journal-2.ensures.ran.leads c.in_ok-journal-2.ensures.images in
    let leads = went_on g.H.Host.meaning c.args.target c.in_ok-journal.field-0.journal c.requires.durable c.in_ok-journal.ensures.found
    c.in_ok-journal.ensures.ran.leads c.in_ok-journal.ensures.images c.in_ok-journal.ensures.opened
    (c.no_leg.ensures.none (search rules)) next c.in_ok-journal-2.ensures.ran.leads c.in_ok-journal-2.ensures.images
    c.in_ok-journal-2.ensures.counters c.in_ok-journal-2.ensures.durable c.in_ok-journal-2.ensures.added
    c.in_ok-journal-3.ensures.ran.leads c.in_ok-journal-3.ensures.images in
    let first = session_then ok c.open.ensures.ran (session_synced c.append.ensures.ran added) before in
    session_ended (session_then refl first c.run_leg.ensures.ran leads) run ok_isnt

-- ---- it is at the target then

pub returns-then-target-time-clause-there : goal.returns-then-target-time-clause-there
returns-then-target-time-clause-there g c = c.done_of.ensures.time ∙ sym (c.if-target-time.true ∙ c.time.ensures)

pub returns-clause-there : goal.returns-clause-there
returns-clause-there g c =
    c.done_of-2.ensures.time ∙ c.in_ok-journal-3.ensures.ended ∙ c.in_ok-journal-3.ensures.target
    ∙ ap (λ (k : Counters). k.progress.target) c.in_ok-journal-2.ensures.counters

-- ---- where the leg is refused, and no other cause refuses one

pub returns-in-Some-clause-refused : goal.returns-in-Some-clause-refused
returns-in-Some-clause-refused g c of_leg =
    let ok : IsOk c.open.result = search rules in
    record {
      durable = c.in_ok-journal.ensures.durable;
      stands = λ tells h is represents.
          let has = c.in_ok-journal.ensures.opened tells h is represents in (has.0.at.represents, has.1);
      synced = λ tells. c.open.ensures.ran.synced tells ok;
    }

pub returns-in_err-journal-clause-refused : goal.returns-in_err-journal-clause-refused
returns-in_err-journal-clause-refused g c =
    let why = c.in_err-journal.field-0.0 in
    let handed_on : c.from_residual.result ≡ Err why = search rules in
    let never : IsOfLeg why → IsBroughtUp g.H.Host.meaning c.args.host.now c.open.new.host = λ of_leg.
    absurd (shown_no_leg why c.in_err-journal.ensures.refusals of_leg) in
    rw handed_on never

pub returns-in_err-journal-2-clause-refused : goal.returns-in_err-journal-2-clause-refused
returns-in_err-journal-2-clause-refused g c =
    let error = c.in_err-journal-2.field-0.0 in
    let handed_on : c.from_residual-in_err-journal-2.result ≡ Err (of_host error) = search rules in
    let never : IsOfLeg (of_host error) → IsBroughtUp g.H.Host.meaning c.args.host.now c.append.new.host = λ of_leg.
    absurd (free_no_leg (of_host error) (free_by_host error) of_leg) in
    rw handed_on never

pub returns-in_err-journal-3-clause-refused : goal.returns-in_err-journal-3-clause-refused
returns-in_err-journal-3-clause-refused g c =
    let why = c.in_err-journal-3.field-0.0 in
    let handed_on : c.from_residual-in_err-journal-3.result ≡ Err why = search rules in
    let never : IsOfLeg why → IsBroughtUp g.H.Host.meaning c.args.host.now c.run_leg.new.host = λ of_leg.
    absurd (run_no_leg why c.in_err-journal-3.ensures.cause of_leg) in
    rw handed_on never

-- ---- where there is no journal, none is found

pub returns-in_err-journal-clause-unsynced : goal.returns-in_err-journal-clause-unsynced
returns-in_err-journal-clause-unsynced g c = c.in_err-journal.ensures.unsynced

pub returns-in-Some-clause-unsynced : goal.returns-in-Some-clause-unsynced
returns-in-Some-clause-unsynced g c tells none =
    let there = c.in_ok-journal.ensures.found tells in absurd (none there.log there.journal)

pub returns-then-target-time-clause-unsynced : goal.returns-then-target-time-clause-unsynced
returns-then-target-time-clause-unsynced g c tells none =
    let there = c.in_ok-journal.ensures.found tells in absurd (none there.log there.journal)

pub returns-in_err-journal-2-clause-unsynced : goal.returns-in_err-journal-2-clause-unsynced
returns-in_err-journal-2-clause-unsynced g c tells none =
    let there = c.in_ok-journal.ensures.found tells in absurd (none there.log there.journal)

pub returns-in_err-journal-3-clause-unsynced : goal.returns-in_err-journal-3-clause-unsynced
returns-in_err-journal-3-clause-unsynced g c tells none =
    let there = c.in_ok-journal.ensures.found tells in absurd (none there.log there.journal)

pub returns-clause-unsynced : goal.returns-clause-unsynced
returns-clause-unsynced g c tells none =
    let there = c.in_ok-journal.ensures.found tells in absurd (none there.log there.journal)
