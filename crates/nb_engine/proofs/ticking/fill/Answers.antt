use Rattle.std.proofs.Common.{◌≡◌, ◌⊎◌, inl, inr, Err, refl, ap, ◌∙◌, arith, rules}
use Rattle.nb_tick.specs.Slots.{slot_of}
use Rattle.nb_engine.specs.Refusal.{NeedsNoCause, of_host, of_tick}
use Rattle.nb_engine.specs.Steps.{IsStateDamaged}
use Rattle.nb_engine.proofs.Filling.{LeadsBy, unwritten_among, tick_handed, host_handed, ok_handed, host_cause, some_ticks, tick_cause, tick_ran, fill_ran, settled_then, next_left, filled}
use Rattle.nb_engine.proofs.ticking.fill.Goals as goal
use Rattle.nb_engine.proofs.ticking.fill.Goals.{then-time-target, else-time-target}

pub tick-requires-clause-unwritten : goal.tick-requires-clause-unwritten
tick-requires-clause-unwritten g c = λ file has. unwritten_among c.of.result file (c.requires.settled.unwritten file has)

pub returns-in_err-gone-clause-cause : goal.returns-in_err-gone-clause-cause
returns-in_err-gone-clause-cause g c =
    let m = g.H.Host.meaning in
    let journal = c.args.journal.now in
    let error = c.in_err-gone.field-0.0 in
    let handed_on : c.from_residual.result ≡ Err (of_tick error) = search rules in
    let why : NeedsNoCause (of_tick error) ⊎ IsStateDamaged m journal c.args.host.now (of_tick error) =
    tick_cause m journal c.params-params.result c.params-params.ensures.value c.count.result c.count.ensures c.of.result
    (c.of.ensures ∙ ap slot_of c.ticks-ticks.ensures) c.args.host.now error
    (λ page is. c.tick.ensures.damaged page (c.in_err-gone.was ∙ ap Err is)) in
    rw handed_on why

pub returns-in_err-gone-clause-ran : goal.returns-in_err-gone-clause-ran
returns-in_err-gone-clause-ran g c =
    let error = c.in_err-gone.field-0.0 in
    let handed_on : c.from_residual.result ≡ Err (of_tick error) = search rules in
    tick_ran g.H.Host.meaning c.args.journal.now c.params-params.result c.params-params.ensures.value c.count.result c.count.ensures
    c.of.result (c.of.ensures ∙ ap slot_of c.ticks-ticks.ensures) c.args.host.now c.args.work.now.cache.unwritten
    c.requires.settled.unwritten refl c.tick.ensures.ran (tick_handed error c.in_err-gone.was handed_on)

pub returns-in_err-clear-clause-cause : goal.returns-in_err-clear-clause-cause
returns-in_err-clear-clause-cause g c =
    let error = c.in_err-clear.field-0.0 in
    let handed_on : c.from_residual-in_err-clear.result ≡ Err (of_host error) = search rules in
    let why : NeedsNoCause (of_host error) ⊎ IsStateDamaged g.H.Host.meaning c.args.journal.now c.args.host.now (of_host error) =
    inl (host_cause error) in
    rw handed_on why

pub returns-in_err-clear-clause-ran : goal.returns-in_err-clear-clause-ran
returns-in_err-clear-clause-ran g c =
    let error = c.in_err-clear.field-0.0 in
    let handed_on : c.from_residual-in_err-clear.result ≡ Err (of_host error) = search rules in
    fill_ran g.H.Host.meaning c.args.journal.now c.params-params.result c.params-params.ensures.value c.count.result c.count.ensures
    c.of.result (c.of.ensures ∙ ap slot_of c.ticks-ticks.ensures) c.args.host.now c.args.work.now.cache.unwritten
    c.requires.settled.unwritten c.snapshot_file.result (omega (arith, c.snapshot_file.ensures.number, c.ticks-ticks.ensures))
    refl c.tick.ensures.ran (search rules) c.clear.ensures.ran (host_handed error c.in_err-clear.was handed_on)

pub returns-clause-settled : goal.returns-clause-settled
returns-clause-settled g c =
    settled_then g.H.Host.meaning c.args.journal.now c.params-params.result c.params-params.ensures.value c.count.result c.count.ensures
    c.of.result (c.of.ensures ∙ ap slot_of c.ticks-ticks.ensures) c.args.host.now c.tick.new.host c.clear.new.host
    c.in_ok-gone.gone c.snapshot_file.result (omega (arith, c.snapshot_file.ensures.number, c.ticks-ticks.ensures))
    c.clear.ensures.ran.leads c.tick.new.cache c.in_ok-gone.ensures.flushed c.tick.ensures.ran.writes.in_step

pub returns-clause-next : goal.returns-clause-next
returns-clause-next g c =
    next_left g.H.Host.meaning c.args.journal.now c.params-params.result c.params-params.ensures.value c.count.result c.count.ensures
    c.of.result (c.of.ensures ∙ ap slot_of c.ticks-ticks.ensures) c.args.host.now c.tick.new.host c.clear.new.host
    c.in_ok-gone.gone c.snapshot_file.result (omega (arith, c.snapshot_file.ensures.number, c.ticks-ticks.ensures))
    c.clear.ensures.ran.leads c.in_ok-gone.ensures.valid

pub returns-clause-filled : goal.returns-clause-filled
returns-clause-filled g c =
    let time = c.args.journal.now.progress.time in
    let target = c.args.journal.now.progress.target in
    let leads : LeadsBy time target c.if-time-target.way' = elim c.if-time-target.branch [
      | then-time-target w ↦ inl (omega (arith, w.if-time-target.true, c.time.ensures, c.target.ensures), w.way'-is)
      | else-time-target w ↦ inr (omega (arith, w.if-time-target.false, c.time.ensures, c.target.ensures), w.way'-is)
    ] in
    filled g.H.Host.meaning c.args.journal.now c.params-params.result c.params-params.ensures.value c.count.result c.count.ensures
    c.of.result (c.of.ensures ∙ ap slot_of c.ticks-ticks.ensures) c.args.host.now c.tick.new.host c.clear.new.host
    c.in_ok-gone.gone c.snapshot_file.result (omega (arith, c.snapshot_file.ensures.number, c.ticks-ticks.ensures))
    c.clear.ensures.ran.leads c.if-time-target.way' _ c.requires.leg leads
    (some_ticks c.ticks-ticks.result c.args.journal.now.progress.ticks c.ticks-ticks.ensures) c.in_ok-gone.ensures.stepped
    c.in_ok-clear.ensures.cleared

pub returns-clause-ran : goal.returns-clause-ran
returns-clause-ran g c =
    fill_ran g.H.Host.meaning c.args.journal.now c.params-params.result c.params-params.ensures.value c.count.result c.count.ensures
    c.of.result (c.of.ensures ∙ ap slot_of c.ticks-ticks.ensures) c.args.host.now c.args.work.now.cache.unwritten
    c.requires.settled.unwritten c.snapshot_file.result (omega (arith, c.snapshot_file.ensures.number, c.ticks-ticks.ensures))
    refl c.tick.ensures.ran (search rules) c.clear.ensures.ran (ok_handed (search rules) (search rules))
