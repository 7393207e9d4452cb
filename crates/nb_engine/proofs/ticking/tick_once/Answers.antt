use Rattle.std.proofs.Common.{◌≡◌, ◌⊎◌, ◌+◌, inl, suc, Err, Ok, Result, refl, ap, ◌∙◌, arith, rules}
use Rattle.nb_journal.specs.declared.entry.Entry.TheVariants.{Tick}
use Rattle.nb_journal.specs.Counters.{counters_after}
use Rattle.nb_engine.specs.Frame.{KeepsOutsideRun, RanSession}
use Rattle.nb_engine.specs.declared.refusal.Refusal.{Refusal}
use Rattle.nb_engine.specs.Refusal.{NeedsNoCause, of_host}
use Rattle.nb_engine.specs.Steps.{IsStateDamaged}
use Rattle.nb_host.specs.declared.host.Channel.TheVariants as channels
use Rattle.nb_engine.proofs.EachImages.{durable_said}
use Rattle.nb_engine.proofs.Filling.{host_handed, ok_handed, host_cause}
use Rattle.nb_engine.proofs.TickImages.{filled_images, entry_images, line_images, played_one, state_after, fewer_spoilt, settled_entry, settled_line, fill_frame, same_frame, entry_frame, line_frame, fewer_frame}
use Rattle.nb_engine.proofs.ticking.tick_once.Goals as goal

pub append-requires : goal.append-requires
append-requires g c = record {
  next = record {
    leg = c.requires.leg;
    next = omega (arith, c.ticks-ticks.ensures);
    no_fewer = c.in_ok-keep_gone.ensures.kept;
    no_more = c.in_ok-gone.ensures.most;
  };
}

-- Where nothing was filled.

pub returns-in_err-gone-clause-images : goal.returns-in_err-gone-clause-images
returns-in_err-gone-clause-images g c = λ h at up.
    filled_images g.H.Host.meaning c.args.journal c.args.host.now c.fill.new.host c.in_err-gone.ensures.ran.leads h at

pub returns-in_err-gone-clause-ran : goal.returns-in_err-gone-clause-ran
returns-in_err-gone-clause-ran g c =
    same_frame c.in_err-gone.field-0.0 c.in_err-gone.was (search rules)
    (fill_frame c.args.journal.progress.ticks c.fill.ensures.ran)

-- Where fewer bodies are out than the journal tells.

pub returns-in_err-keep_gone-clause-images : goal.returns-in_err-keep_gone-clause-images
returns-in_err-keep_gone-clause-images g c = λ h at up.
    filled_images g.H.Host.meaning c.args.journal c.args.host.now c.fill.new.host c.fill.ensures.ran.leads h at

pub returns-in_err-keep_gone-clause-cause : goal.returns-in_err-keep_gone-clause-cause
returns-in_err-keep_gone-clause-cause g c =
    let error = c.in_err-keep_gone.field-0.0 in
    let handed_on : c.from_residual-in_err-keep_gone.result ≡ Err error = search rules in
    let why : NeedsNoCause error ⊎ IsStateDamaged g.H.Host.meaning c.args.journal c.args.host.now error =
    fewer_spoilt g.H.Host.meaning c.args.journal c.args.host.now c.fill.new.host c.in_ok-gone.gone error
    c.in_err-keep_gone.ensures.fewer c.in_ok-gone.ensures.next in
    rw handed_on why

pub returns-in_err-keep_gone-clause-ran : goal.returns-in_err-keep_gone-clause-ran
returns-in_err-keep_gone-clause-ran g c =
    let error = c.in_err-keep_gone.field-0.0 in
    let handed_on : c.from_residual-in_err-keep_gone.result ≡ Err error = search rules in
    fewer_frame c.args.journal.progress.ticks _ c.fill.ensures.ran (search rules)
    (handed_on ∙ ap Err c.in_err-keep_gone.ensures.fewer.1)

-- Where the entry was refused.

pub returns-in_err-next-clause-images : goal.returns-in_err-next-clause-images
returns-in_err-next-clause-images g c = λ h at up.
    entry_images g.H.Host.meaning c.args.journal c.args.host.now c.fill.new.host c.fill.ensures.ran.leads h at up
    c.in_ok-gone.gone c.ticks-ticks.result c.ticks-ticks.ensures c.in_ok-gone.ensures.filled c.append.new.host c.append.ensures.images

pub returns-in_err-next-clause-cause : goal.returns-in_err-next-clause-cause
returns-in_err-next-clause-cause g c =
    let error = c.in_err-next.field-0.0 in
    let handed_on : c.from_residual-in_err-next.result ≡ Err (of_host error) = search rules in
    let why : NeedsNoCause (of_host error) ⊎ IsStateDamaged g.H.Host.meaning c.args.journal c.args.host.now (of_host error) =
    inl (host_cause error) in
    rw handed_on why

pub returns-in_err-next-clause-ran : goal.returns-in_err-next-clause-ran
returns-in_err-next-clause-ran g c =
    let error = c.in_err-next.field-0.0 in
    let handed_on : c.from_residual-in_err-next.result ≡ Err (of_host error) = search rules in
    entry_frame c.args.journal.progress.ticks (search rules) c.fill.ensures.ran c.append.ensures.ran
    (host_handed error c.in_err-next.was handed_on) (λ ok. search rules)

-- Where the line was refused.

pub returns-in_err-say-clause-images : goal.returns-in_err-say-clause-images
returns-in_err-say-clause-images g c = λ h at up.
    line_images g.H.Host.meaning c.args.journal c.args.host.now c.fill.new.host c.fill.ensures.ran.leads h at up
    c.in_ok-gone.gone c.ticks-ticks.result c.ticks-ticks.ensures c.in_ok-gone.ensures.filled
    c.append.new.host c.append.ensures.images c.in_ok-next.ensures.added c.in_ok-next.ensures.durable c.append.ensures.ran.leads
    c.in_ok-next.next c.in_ok-next.ensures.counters
    c.time.result c.time.ensures c.bytes.result.now
    (c.bytes.ensures.value ∙ c.tick_line-line.ensures)
    c.say.new.self c.say.ensures.spoke.leads

pub returns-in_err-say-clause-cause : goal.returns-in_err-say-clause-cause
returns-in_err-say-clause-cause g c =
    let error = c.in_err-say.field-0.0 in
    let handed_on : c.from_residual-in_err-say.result ≡ Err (of_host error) = search rules in
    let why : NeedsNoCause (of_host error) ⊎ IsStateDamaged g.H.Host.meaning c.args.journal c.args.host.now (of_host error) =
    inl (host_cause error) in
    rw handed_on why

pub returns-in_err-say-clause-ran : goal.returns-in_err-say-clause-ran
returns-in_err-say-clause-ran g c =
    let error = c.in_err-say.field-0.0 in
    let handed_on : c.from_residual-in_err-say.result ≡ Err (of_host error) = search rules in
    let fine : Result (Unit {0}) Refusal = Ok tt in
    let before : RanSession g.H.Host.meaning KeepsOutsideRun c.args.host.now c.append.new.host fine =
    entry_frame c.args.journal.progress.ticks (search rules) c.fill.ensures.ran c.append.ensures.ran (ok_handed (search rules) refl)
    (λ _. search rules) in
    line_frame refl before c.say.ensures.spoke (host_handed error c.in_err-say.was handed_on) (λ ok. search rules)

-- Where the tick is done.

pub returns-clause-settled : goal.returns-clause-settled
returns-clause-settled g c =
    settled_line c.fill.new.work.cache c.say.ensures.spoke.leads
    (settled_entry c.fill.new.work.cache c.append.ensures.ran.leads c.in_ok-gone.ensures.settled)

pub returns-clause-counters : goal.returns-clause-counters
returns-clause-counters g c =
    let same : c.ticks-ticks.result + 1 ≡ suc c.args.journal.progress.ticks = omega (arith, c.ticks-ticks.ensures) in (
      c.in_ok-gone.gone,
      c.in_ok-next.ensures.counters ∙ ap (λ n. counters_after (Tick n c.in_ok-gone.gone) c.args.journal) same,
    )

pub returns-clause-ticked : goal.returns-clause-ticked
returns-clause-ticked g c = λ h at up.
    played_one g.H.Host.meaning c.args.journal c.args.host.now c.fill.new.host c.fill.ensures.ran.leads h at up
    c.in_ok-gone.gone c.ticks-ticks.result c.ticks-ticks.ensures c.in_ok-gone.ensures.filled
    c.append.new.host c.append.ensures.images c.in_ok-next.ensures.added c.in_ok-next.ensures.durable c.append.ensures.ran.leads
    c.in_ok-next.next c.in_ok-next.ensures.counters
    c.time.result c.time.ensures c.bytes.result.now
    (c.bytes.ensures.value ∙ c.tick_line-line.ensures)
    c.say.new.self c.say.ensures.spoke.leads c.in_ok-say.ensures.spoke.said

pub returns-clause-next : goal.returns-clause-next
returns-clause-next g c = λ tells bodies has.
    state_after c.args.journal c.in_ok-next.next c.in_ok-gone.gone c.ticks-ticks.result
    (g.H.Host.meaning.contents c.fill.new.host).file (g.H.Host.meaning.contents c.say.new.self).file c.ticks-ticks.ensures
    c.in_ok-next.ensures.counters
    (λ number apart.
    ap (λ f. f number) (c.say.ensures.spoke.leads.contents tells).2.files
    ∙ (c.append.ensures.ran.leads.contents tells).others number apart)
    (c.in_ok-gone.ensures.next tells bodies has)

pub returns-clause-images : goal.returns-clause-images
returns-clause-images g c = λ h at up.
    line_images g.H.Host.meaning c.args.journal c.args.host.now c.fill.new.host c.fill.ensures.ran.leads h at up
    c.in_ok-gone.gone c.ticks-ticks.result c.ticks-ticks.ensures c.in_ok-gone.ensures.filled
    c.append.new.host c.append.ensures.images c.in_ok-next.ensures.added c.in_ok-next.ensures.durable c.append.ensures.ran.leads
    c.in_ok-next.next c.in_ok-next.ensures.counters
    c.time.result c.time.ensures c.bytes.result.now
    (c.bytes.ensures.value ∙ c.tick_line-line.ensures)
    c.say.new.self c.say.ensures.spoke.leads

pub returns-clause-ran : goal.returns-clause-ran
returns-clause-ran g c =
    let fine : Result (Unit {0}) Refusal = Ok tt in
    let before : RanSession g.H.Host.meaning KeepsOutsideRun c.args.host.now c.append.new.host fine =
    entry_frame c.args.journal.progress.ticks (search rules) c.fill.ensures.ran c.append.ensures.ran (ok_handed (search rules) refl)
    (λ _. search rules) in
    line_frame refl before c.say.ensures.spoke (ok_handed (search rules) (search rules)) (λ ok. search rules)

pub returns-clause-durable : goal.returns-clause-durable
returns-clause-durable g c =
    durable_said g.H.Host.meaning channels.Out c.bytes.result.now c.in_ok-next.ensures.durable c.say.ensures.spoke.leads
