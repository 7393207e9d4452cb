use Rattle.std.proofs.Common.{rules, ◌≡◌, ◌⊎◌, inl, inr, Err, IsTrue, IsOk, ap, ◌∙◌}
use Rattle.nb_journal.specs.Counters.{Counters}
use Rattle.nb_journal.specs.Offsets.{journal_file}
use Rattle.nb_journal.proofs.Callers.{found_answers}
use Rattle.nb_engine.specs.Refusal.{NeedsNoCause}
use Rattle.nb_engine.specs.Sessions.{IsSlotDamaged}
use Rattle.nb_engine.specs.Shown.{IsShowRefused}
use Rattle.nb_engine.proofs.Frames.{ok_isnt, session_then, session_by, session_handed, session_ended}
use Rattle.nb_engine.proofs.GoingOn.{resume_opened}
use Rattle.nb_engine.proofs.Resuming.{resumed, led_to_end, spoilt_open}
use Rattle.nb_engine.proofs.going.resume.Goals as goal

pub returns-in_err-journal-clause-ran : goal.returns-in_err-journal-clause-ran
returns-in_err-journal-clause-ran g c =
    let why = c.in_err-journal.field-0.0 in
    let handed_on : c.from_residual.result ≡ Err why = search rules in
    let leads = resume_opened g.H.Host.meaning 0 c.requires.durable c.in_err-journal.ensures.ran.leads c.in_err-journal.ensures.images in
    rw handed_on (session_handed (session_by c.open.ensures.ran leads) c.in_err-journal.was)

pub returns-in_err-journal-2-clause-cause : goal.returns-in_err-journal-2-clause-cause
returns-in_err-journal-2-clause-cause g c =
    let why = c.in_err-journal-2.field-0.0 in
    let handed_on : c.from_residual-in_err-journal-2.result ≡ Err why = search rules in
    let cause : IsTrue g.H.Host.meaning.tells → NeedsNoCause why
    ⊎ IsShowRefused ((g.H.Host.meaning.contents c.args.host.now).file journal_file) why
    ⊎ IsSlotDamaged (g.H.Host.meaning.contents c.args.host.now).file why = λ tells. elim c.in_err-journal-2.ensures.cause [
      | inl free ↦ inl free
      | inr spoilt ↦ inr (inr (spoilt_open g.H.Host.meaning c.in_ok-journal.field-0.journal c.in_ok-journal.ensures.found
          c.in_ok-journal.ensures.ran.leads tells spoilt))
    ] in
    rw handed_on cause

pub returns-in_err-journal-2-clause-ran : goal.returns-in_err-journal-2-clause-ran
returns-in_err-journal-2-clause-ran g c =
    let why = c.in_err-journal-2.field-0.0 in
    let handed_on : c.from_residual-in_err-journal-2.result ≡ Err why = search rules in
    let ok : IsOk c.open.result = search rules in
    let leads = resumed g.H.Host.meaning c.in_ok-journal.field-0.journal c.requires.durable c.in_ok-journal.ensures.found
    c.in_ok-journal.ensures.ran.leads c.in_ok-journal.ensures.images c.in_ok-journal.ensures.opened
    c.in_err-journal-2.ensures.ran.leads c.in_err-journal-2.ensures.still c.in_err-journal-2.ensures.images in
    rw handed_on (session_handed (session_then ok c.open.ensures.ran c.run_leg.ensures.ran leads) c.in_err-journal-2.was)

pub returns-clause-done : goal.returns-clause-done
returns-clause-done g c tells h is represents =
    led_to_end g.H.Host.meaning c.in_ok-journal.field-0.journal c.law_times.ensures.back c.in_ok-journal.ensures.opened
    c.in_ok-journal-2.ensures.run
    c.in_ok-journal-2.ensures.ended c.done_of.ensures.time c.done_of.ensures.ticks c.done_of.ensures.gone tells h is represents

pub returns-clause-there : goal.returns-clause-there
returns-clause-there g c tells log is =
    let file = (g.H.Host.meaning.contents c.args.host.now).file journal_file in
    c.done_of.ensures.time ∙ c.in_ok-journal-2.ensures.ended ∙ c.in_ok-journal-2.ensures.target
    ∙ ap (λ (k : Counters). k.progress.target) (found_answers log file is (c.in_ok-journal.ensures.found tells))

pub returns-clause-ready : goal.returns-clause-ready
returns-clause-ready g c tells = let there = c.in_ok-journal.ensures.found tells in (there.log, there.journal)

pub returns-clause-durable : goal.returns-clause-durable
returns-clause-durable g c = c.in_ok-journal-2.ensures.durable c.in_ok-journal.ensures.durable

pub returns-clause-ran : goal.returns-clause-ran
returns-clause-ran g c =
    let ok : IsOk c.open.result = search rules in
    let run : IsOk c.run_leg.result = search rules in
    let leads = resumed g.H.Host.meaning c.in_ok-journal.field-0.journal c.requires.durable c.in_ok-journal.ensures.found
    c.in_ok-journal.ensures.ran.leads c.in_ok-journal.ensures.images c.in_ok-journal.ensures.opened
    c.in_ok-journal-2.ensures.ran.leads c.in_ok-journal-2.ensures.still c.in_ok-journal-2.ensures.images in
    session_ended (session_then ok c.open.ensures.ran c.run_leg.ensures.ran leads) run ok_isnt

-- ---- where there is no journal, none is found

pub returns-in_err-journal-clause-unsynced : goal.returns-in_err-journal-clause-unsynced
returns-in_err-journal-clause-unsynced g c = c.in_err-journal.ensures.unsynced

pub returns-in_err-journal-2-clause-unsynced : goal.returns-in_err-journal-2-clause-unsynced
returns-in_err-journal-2-clause-unsynced g c tells none =
    let there = c.in_ok-journal.ensures.found tells in absurd (none there.log there.journal)

pub returns-clause-unsynced : goal.returns-clause-unsynced
returns-clause-unsynced g c tells none =
    let there = c.in_ok-journal.ensures.found tells in absurd (none there.log there.journal)
