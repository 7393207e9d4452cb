use Rattle.std.proofs.Common.{◌-◌, Some, sym, ap, ◌∙◌, arith}
use Rattle.std.proofs.lemmas.Bool.{false≢true}
use Rattle.nb_engine.proofs.DueNow.{tells_by, tells_leg, tells_tick}
use Rattle.nb_engine.proofs.due.is_last_due.Goals as goal

pub returns-then-is_due-clause-due : goal.returns-then-is_due-clause-due
returns-then-is_due-clause-due g c = λ tells h answers journal.
    tells_by h journal.lawful answers (c.is_due.ensures.0 c.if-is_due.true)

pub returns-in-Leg-clause-due : goal.returns-in-Leg-clause-due
returns-in-Leg-clause-due g c = λ tells h answers journal.
    tells_leg h (c.entries-entries.result - 1) c.in-Leg.field-0 journal.lawful answers
    (λ none. c.if-ticks-eq0.false (c.ticks.ensures ∙ none)) (omega arith)
    (c.in_ok-entry.ensures.entry tells h.log answers journal ∙ ap Some c.in-Leg.is)

pub returns-in-Tick-clause-due : goal.returns-in-Tick-clause-due
returns-in-Tick-clause-due g c = λ tells h answers journal.
    tells_tick h (c.entries-entries.result - 1) c.in-Tick.field-0 c.in-Tick.field-1 journal.lawful answers
    (λ by. false≢true (sym c.if-is_due.false ∙ c.is_due.ensures.1 by)) (omega arith)
    (c.in_ok-entry.ensures.entry tells h.log answers journal ∙ ap Some c.in-Tick.is)
