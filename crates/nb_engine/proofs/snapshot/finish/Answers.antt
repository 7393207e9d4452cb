use Rattle.std.proofs.Common.{◌≡◌, ◌⊎◌, inl, inr, Err, refl, sym, ap, ◌∙◌, rules}
use Rattle.std.proofs.lemmas.Bool.{false≢true}
use Rattle.std.proofs.lemmas.Result.{on_ok_weaker, IfErr-weaker}
use Rattle.nb_host.proofs.Callers.{leads_none}
use Rattle.nb_engine.specs.Refusal.{NeedsNoCause, of_host}
use Rattle.nb_engine.specs.Represents.{snap_of}
use Rattle.nb_engine.specs.Snapshots.{snapshot_files, IsSnapshotPage, IsPageDamaged}
use Rattle.nb_engine.specs.Steps.{IsStateDamaged}
use Rattle.nb_engine.proofs.Frames.{session_ran, session_by}
use Rattle.nb_engine.proofs.SnapshotSteps.{host_rose, host_fell, stays_agrees, well_ran, well_then, is_ok, finished_at, SlotHolds}
use Rattle.nb_engine.proofs.Finishing.{played_none, images_none, complete_undue, complete_found, images_written, played_written, spoilt, on_ok_both}
use Rattle.nb_engine.proofs.snapshot.finish.Goals as goal

-- where no snapshot is due

pub returns-then-not-due-clause-finished : goal.returns-then-not-due-clause-finished
returns-then-not-due-clause-finished g c = λ h tells at.
    (played_none at (leads_none g.H.Host.meaning c.args.host.now (λ image. refl)), complete_undue c.if-not-due.true tells at)

pub returns-then-not-due-clause-images : goal.returns-then-not-due-clause-images
returns-then-not-due-clause-images g c = λ h tells at.
    images_none at (leads_none g.H.Host.meaning c.args.host.now (λ image. refl))

pub returns-then-not-due-clause-spared : goal.returns-then-not-due-clause-spared
returns-then-not-due-clause-spared g c = λ tells spared. leads_none g.H.Host.meaning c.args.host.now (λ image. refl)

-- where it can't be looked at

pub returns-in_err-snap_finished-clause-images : goal.returns-in_err-snap_finished-clause-images
returns-in_err-snap_finished-clause-images g c = λ h tells at. images_none at c.snap_finished.ensures.ran.leads

pub returns-in_err-snap_finished-clause-spared : goal.returns-in_err-snap_finished-clause-spared
returns-in_err-snap_finished-clause-spared g c = λ tells spared. c.snap_finished.ensures.ran.leads

pub returns-in_err-snap_finished-clause-ran : goal.returns-in_err-snap_finished-clause-ran
returns-in_err-snap_finished-clause-ran g c =
    let error = c.in_err-snap_finished.field-0.0 in
    let handed_on : c.from_residual.result ≡ Err (of_host error) = search rules in
    session_by
    (session_ran c.snap_finished.ensures.ran (host_rose error c.in_err-snap_finished.was handed_on)
    (host_fell error c.in_err-snap_finished.was handed_on))
    (stays_agrees (snapshot_files c.args.journal.now.progress.ticks) c.snap_finished.ensures.ran.leads)

-- where it is finished already

pub returns-then-branch-clause-finished : goal.returns-then-branch-clause-finished
returns-then-branch-clause-finished g c = λ h tells at. (
  played_none at c.snap_finished.ensures.ran.leads,
  complete_found at c.snap_finished.ensures.ran.leads (c.snapshot_file-file.ensures.number ∙ ap snap_of c.ticks.ensures)
      c.count.ensures (λ told. (c.in_ok-snap_finished.ensures.finished told).0 c.if-branch.true),
)

pub returns-then-branch-clause-images : goal.returns-then-branch-clause-images
returns-then-branch-clause-images g c = λ h tells at. images_none at c.snap_finished.ensures.ran.leads

pub returns-then-branch-clause-spared : goal.returns-then-branch-clause-spared
returns-then-branch-clause-spared g c = λ tells spared. c.snap_finished.ensures.ran.leads

pub returns-then-branch-clause-ran : goal.returns-then-branch-clause-ran
returns-then-branch-clause-ran g c =
    well_ran c.snap_finished.ensures.ran (search rules)
    (stays_agrees (snapshot_files c.args.journal.now.progress.ticks) c.snap_finished.ensures.ran.leads)

-- where it is written

pub returns-clause-finished : goal.returns-clause-finished
returns-clause-finished g c =
    on_ok_weaker c.write_snapshot.result
    (λ both h tells at.
    played_written c.if-not-due.false tells at c.snap_finished.ensures.ran.leads
    (c.snapshot_file-file.ensures.number ∙ ap snap_of c.ticks.ensures) c.count.ensures
    (λ told finished.
    absurd (false≢true (sym c.if-branch.false ∙ (c.in_ok-snap_finished.ensures.finished told).1 finished)))
    both.0 both.1 c.write_snapshot.ensures.ran.leads)
    (on_ok_both _ _ c.write_snapshot.result c.write_snapshot.ensures.written c.write_snapshot.ensures.durable)

pub returns-clause-images : goal.returns-clause-images
returns-clause-images g c = λ h tells at.
    images_written c.if-not-due.false tells at c.snap_finished.ensures.ran.leads
    (c.snapshot_file-file.ensures.number ∙ ap snap_of c.ticks.ensures) c.count.ensures
    (λ told finished.
    absurd (false≢true (sym c.if-branch.false ∙ (c.in_ok-snap_finished.ensures.finished told).1 finished)))
    c.write_snapshot.ensures.images

pub returns-clause-spared : goal.returns-clause-spared
returns-clause-spared g c = λ tells spared.
    let file = (g.H.Host.meaning.contents c.args.host.now).file in
    let number = c.snapshot_file-file.ensures.number ∙ ap snap_of c.ticks.ensures in
    elim spared [
      | inl undue ↦ absurd (undue c.if-not-due.false)
      | inr finished ↦ absurd (false≢true (sym c.if-branch.false ∙ (c.in_ok-snap_finished.ensures.finished tells).1
          (finished_at file number c.count.ensures finished)))
    ]

pub returns-clause-cause : goal.returns-clause-cause
returns-clause-cause g c =
    let m = g.H.Host.meaning in
    let journal = c.args.journal.now in
    IfErr-weaker c.write_snapshot.result
    (λ why. NeedsNoCause why ⊎ IsPageDamaged m (IsSnapshotPage journal.progress.ticks) (SlotHolds m journal c.snap_finished.new.host) why)
    (λ why. NeedsNoCause why ⊎ IsStateDamaged m journal c.args.host.now why)
    (spoilt c.snap_finished.ensures.ran.leads) c.write_snapshot.ensures.cause

pub returns-clause-ran : goal.returns-clause-ran
returns-clause-ran g c =
    let files = snapshot_files c.args.journal.now.progress.ticks in
    well_then
    (well_ran c.snap_finished.ensures.ran (search rules) (stays_agrees files c.snap_finished.ensures.ran.leads)) is_ok
    c.write_snapshot.ensures.ran
