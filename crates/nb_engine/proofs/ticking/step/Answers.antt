use Rattle.std.proofs.Common.{◌≡◌, ◌⊎◌, Err, rules}
use Rattle.nb_engine.specs.Refusal.{NeedsNoCause}
use Rattle.nb_engine.specs.Steps.{IsStateDamaged}
use Rattle.nb_engine.proofs.Frames.{session_as}
use Rattle.nb_engine.proofs.Stepping.{step_frame, state_kept, still_spoilt, step_images, step_done}
use Rattle.nb_engine.proofs.TickImages.{same_frame}
use Rattle.nb_engine.proofs.ticking.step.Goals as goal

pub returns-in_err-next-clause-ran : goal.returns-in_err-next-clause-ran
returns-in_err-next-clause-ran g c =
    same_frame c.in_err-next.field-0.0 c.in_err-next.was (search rules) c.tick_once.ensures.ran

pub returns-in_err-finish-clause-images : goal.returns-in_err-finish-clause-images
returns-in_err-finish-clause-images g c = λ h at up.
    step_images g.H.Host.meaning c.args.journal c.in_ok-next.next c.args.host.now c.tick_once.new.host c.finish.new.host
    c.is_due-due.result c.is_due-due.ensures h at up c.in_ok-next.ensures.ticked (c.tick_once.ensures.images h at up)
    c.finish.ensures.images

pub returns-in_err-finish-clause-cause : goal.returns-in_err-finish-clause-cause
returns-in_err-finish-clause-cause g c =
    let error = c.in_err-finish.field-0.0 in
    let handed_on : c.from_residual-in_err-finish.result ≡ Err error = search rules in
    let why : NeedsNoCause error ⊎ IsStateDamaged g.H.Host.meaning c.args.journal c.args.host.now error =
    still_spoilt g.H.Host.meaning c.args.journal c.in_ok-next.next c.args.host.now c.tick_once.new.host c.finish.new.host
    error c.in_ok-next.ensures.next c.in_err-finish.ensures.cause in
    rw handed_on why

pub returns-in_err-finish-clause-ran : goal.returns-in_err-finish-clause-ran
returns-in_err-finish-clause-ran g c =
    same_frame c.in_err-finish.field-0.0 c.in_err-finish.was (search rules)
    (step_frame c.in_ok-next.next.progress.ticks (search rules) c.tick_once.ensures.ran c.finish.ensures.ran)

pub returns-clause-ticked : goal.returns-clause-ticked
returns-clause-ticked g c = λ h at up.
    step_done g.H.Host.meaning c.args.journal c.in_ok-next.next c.args.host.now c.tick_once.new.host c.finish.new.host
    c.is_due-due.result c.is_due-due.ensures h at up c.in_ok-next.ensures.ticked c.finish.ensures.ran.leads
    c.in_ok-finish.ensures.finished

pub returns-clause-next : goal.returns-clause-next
returns-clause-next g c =
    state_kept g.H.Host.meaning c.args.journal c.in_ok-next.next c.args.host.now c.tick_once.new.host c.finish.new.host
    c.finish.ensures.ran.leads c.in_ok-next.ensures.next

pub returns-clause-images : goal.returns-clause-images
returns-clause-images g c = λ h at up.
    step_images g.H.Host.meaning c.args.journal c.in_ok-next.next c.args.host.now c.tick_once.new.host c.finish.new.host
    c.is_due-due.result c.is_due-due.ensures h at up c.in_ok-next.ensures.ticked (c.tick_once.ensures.images h at up)
    c.finish.ensures.images

pub returns-clause-ran : goal.returns-clause-ran
returns-clause-ran g c =
    session_as (step_frame c.in_ok-next.next.progress.ticks (search rules) c.tick_once.ensures.ran c.finish.ensures.ran)
    (λ faulted. absurd (cc)) (λ faulted. search rules) (λ fine. search rules)
