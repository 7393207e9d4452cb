use Rattle.std.proofs.Common.{rules, ◌≡◌, Err, IsOk}
use Rattle.nb_host.proofs.Callers.{stays_both}
use Rattle.nb_engine.proofs.EachImages.{durable_stays}
use Rattle.nb_engine.proofs.Frames.{ok_isnt, session_ran, session_then, session_handed, session_ended}
use Rattle.nb_engine.proofs.Openings.{open_stays, open_leads, open_each, opened, idle_each}
use Rattle.nb_engine.proofs.opening.open.Goals as goal

-- ---- where nothing was changed yet

pub returns-in_err-journal-clause-images : goal.returns-in_err-journal-clause-images
returns-in_err-journal-clause-images g c h is represents =
    idle_each c.requires.durable c.in_err-journal.ensures.ran.leads h is represents

pub returns-in_err-due-clause-images : goal.returns-in_err-due-clause-images
returns-in_err-due-clause-images g c h is represents =
    idle_each c.requires.durable (stays_both c.in_ok-journal.ensures.ran.leads c.in_err-due.ensures.ran.leads) h is represents

-- ---- where the snapshot was begun

pub returns-in_err-finish-clause-images : goal.returns-in_err-finish-clause-images
returns-in_err-finish-clause-images g c h is represents =
    open_each g.H.Host.meaning c.in_ok-journal.journal c.requires.durable c.in_ok-journal.ensures.found
    c.in_ok-journal.ensures.ran.leads c.in_ok-due.ensures.ran.leads c.in_ok-due.due c.in_ok-due.ensures.due
    c.in_err-finish.ensures.images h is represents

pub returns-clause-images : goal.returns-clause-images
returns-clause-images g c h is represents =
    open_each g.H.Host.meaning c.in_ok-journal.journal c.requires.durable c.in_ok-journal.ensures.found
    c.in_ok-journal.ensures.ran.leads c.in_ok-due.ensures.ran.leads c.in_ok-due.due c.in_ok-due.ensures.due
    c.in_ok-finish.ensures.images h is represents

pub returns-clause-opened : goal.returns-clause-opened
returns-clause-opened g c tells h is represents =
    opened g.H.Host.meaning c.in_ok-journal.journal c.requires.durable c.in_ok-journal.ensures.found
    c.in_ok-journal.ensures.ran.leads c.in_ok-due.ensures.ran.leads c.in_ok-due.due c.in_ok-due.ensures.due
    c.in_ok-finish.ensures.finished tells h is represents

pub returns-clause-durable : goal.returns-clause-durable
returns-clause-durable g c =
    let m = g.H.Host.meaning in
    c.in_ok-finish.ensures.durable
    (durable_stays m (durable_stays m c.requires.durable c.in_ok-journal.ensures.ran.leads) c.in_ok-due.ensures.ran.leads)

-- ---- what it owes to the counts

pub returns-in_err-due-clause-ran : goal.returns-in_err-due-clause-ran
returns-in_err-due-clause-ran g c =
    let why = c.in_err-due.field-0.0 in
    let handed_on : c.from_residual-in_err-due.result ≡ Err why = search rules in
    let ok : IsOk c.find_journal.result = search rules in
    let stays = open_stays (stays_both c.in_ok-journal.ensures.ran.leads c.in_err-due.ensures.ran.leads) in
    let ran = session_then ok (session_ran c.find_journal.ensures.ran (λ is. is) (λ is. is))
    (session_ran c.is_last_due.ensures.ran (λ is. is) (λ is. is)) stays in
    rw handed_on (session_handed ran c.in_err-due.was)

pub returns-in_err-finish-clause-ran : goal.returns-in_err-finish-clause-ran
returns-in_err-finish-clause-ran g c =
    let why = c.in_err-finish.field-0.0 in
    let handed_on : c.from_residual-in_err-finish.result ≡ Err why = search rules in
    let ok : IsOk c.find_journal.result = search rules in
    let due : IsOk c.is_last_due.result = search rules in
    let stays = open_stays (stays_both c.in_ok-journal.ensures.ran.leads c.in_ok-due.ensures.ran.leads) in
    let before = session_then ok (session_ran c.find_journal.ensures.ran (λ is. is) (λ is. is))
    (session_ran c.is_last_due.ensures.ran (λ is. is) (λ is. is)) stays in
    let leads = open_leads g.H.Host.meaning c.in_ok-journal.journal c.requires.durable c.in_ok-journal.ensures.found
    c.in_ok-journal.ensures.ran.leads c.in_ok-due.ensures.ran.leads c.in_ok-due.due c.in_ok-due.ensures.due
    c.in_err-finish.ensures.ran.leads c.in_err-finish.ensures.spared in
    rw handed_on (session_handed (session_then due before c.finish.ensures.ran leads) c.in_err-finish.was)

pub returns-clause-ran : goal.returns-clause-ran
returns-clause-ran g c =
    let ok : IsOk c.find_journal.result = search rules in
    let due : IsOk c.is_last_due.result = search rules in
    let finished : IsOk c.finish.result = search rules in
    let stays = open_stays (stays_both c.in_ok-journal.ensures.ran.leads c.in_ok-due.ensures.ran.leads) in
    let before = session_then ok (session_ran c.find_journal.ensures.ran (λ is. is) (λ is. is))
    (session_ran c.is_last_due.ensures.ran (λ is. is) (λ is. is)) stays in
    let leads = open_leads g.H.Host.meaning c.in_ok-journal.journal c.requires.durable c.in_ok-journal.ensures.found
    c.in_ok-journal.ensures.ran.leads c.in_ok-due.ensures.ran.leads c.in_ok-due.due c.in_ok-due.ensures.due
    c.in_ok-finish.ensures.ran.leads c.in_ok-finish.ensures.spared in
    session_ended (session_then due before c.finish.ensures.ran leads) finished ok_isnt

-- ---- where there is no journal, none is found

pub returns-in_err-journal-clause-unsynced : goal.returns-in_err-journal-clause-unsynced
returns-in_err-journal-clause-unsynced g c tells none = c.in_err-journal.ensures.ran.tally

pub returns-in_err-work-clause-unsynced : goal.returns-in_err-work-clause-unsynced
returns-in_err-work-clause-unsynced g c tells none =
    let there = c.in_ok-journal.ensures.found tells in absurd (none there.log there.journal)

pub returns-in_err-due-clause-unsynced : goal.returns-in_err-due-clause-unsynced
returns-in_err-due-clause-unsynced g c tells none =
    let there = c.in_ok-journal.ensures.found tells in absurd (none there.log there.journal)

pub returns-in_err-finish-clause-unsynced : goal.returns-in_err-finish-clause-unsynced
returns-in_err-finish-clause-unsynced g c tells none =
    let there = c.in_ok-journal.ensures.found tells in absurd (none there.log there.journal)

pub returns-clause-unsynced : goal.returns-clause-unsynced
returns-clause-unsynced g c tells none =
    let there = c.in_ok-journal.ensures.found tells in absurd (none there.log there.journal)
