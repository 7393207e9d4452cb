use Rattle.std.proofs.Common.{◌≡◌, ℕ, ◌+◌, ◌<◌, IsOk, Err, sym, subst, ◌∙◌, arith, rules}
use Rattle.nb_engine.specs.Frame.{KeepsOutsideRun, RanSession}
use Rattle.nb_engine.specs.Sessions.{ticks_left}
use Rattle.nb_engine.specs.Steps.{played, HasPlayed, HoldsDueSnapshots}
use Rattle.nb_engine.proofs.Running.{run_none, run_then, run_images, run_more, images_within, left_none}
use Rattle.nb_engine.proofs.ticking.run_leg.Goals as goal

pub loop-init : goal.loop-init
loop-init g c = run_none g.H.Host.meaning c.args.journal c.args.work.now.cache c.args.host.now c.requires

pub returns-in_err-journal-clause-images : goal.returns-in_err-journal-clause-images
returns-in_err-journal-clause-images g c = λ h at up.
    images_within g.H.Host.meaning (c.loop.counter + 1) (ticks_left c.args.journal.progress) h
    (run_images c.loop.counter c.loop.invariant c.in_err-journal.ensures.images h at up) (omega arith)

pub returns-in_err-journal-clause-ran : goal.returns-in_err-journal-clause-ran
returns-in_err-journal-clause-ran g c =
    let handed_on : c.from_residual.result ≡ Err c.in_err-journal.field-0.0 = search rules in
    subst (λ r. RanSession g.H.Host.meaning KeepsOutsideRun c.args.host.now c.step.new.host r)
    (c.in_err-journal.was ∙ sym handed_on) (run_then c.loop.invariant c.step.ensures.ran)

pub loop-preserved : goal.loop-preserved
loop-preserved g c =
    let some : c.loop.counter < ticks_left c.args.journal.progress = omega arith in
    let ok : IsOk c.step.result = search rules in
    let does = c.in_ok-journal.ensures in
    run_more c.loop.counter c.loop.invariant some ok does.settled
    (record { lasts = does.durable; counters = does.counters; one = does.ticked; next_state = does.next }) does.images c.step.ensures.ran

pub returns-clause-target : goal.returns-clause-target
returns-clause-target g c = c.loop.invariant.target

pub returns-in_err-journal-clause-still : goal.returns-in_err-journal-clause-still
returns-in_err-journal-clause-still g c = λ ended.
    let none = left_none c.args.journal ended in
    let some : c.loop.counter < ticks_left c.args.journal.progress = omega arith in
    absurd (omega (arith, none, some))

pub returns-clause-still : goal.returns-clause-still
returns-clause-still g c = λ ended.
    let none = left_none c.args.journal ended in
    let all : c.loop.counter ≡ ticks_left c.args.journal.progress = omega arith in
    c.loop.invariant.still (all ∙ none)

pub returns-clause-run : goal.returns-clause-run
returns-clause-run g c = λ h at up.
    let m = g.H.Host.meaning in
    let all : c.loop.counter ≡ ticks_left c.args.journal.progress = omega arith in
    subst (λ (n : ℕ). HasPlayed m n h (m.contents c.args.host.now) c.loop.journal c.loop.host × HoldsDueSnapshots m (played n h) c.loop.host)
    all (c.loop.invariant.plays h at up)

pub returns-clause-images : goal.returns-clause-images
returns-clause-images g c = λ h at up.
    images_within g.H.Host.meaning c.loop.counter (ticks_left c.args.journal.progress) h (c.loop.invariant.images h at up)
    (omega arith)
