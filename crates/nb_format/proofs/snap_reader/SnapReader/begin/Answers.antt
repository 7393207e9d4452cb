use Rattle.std.proofs.Common.{ℕ, List, take, sym, ap, subst, ◌∙◌, arith}
use Rattle.std.proofs.lemmas.Result.{err_from_is_err_and, IfErr-weaker}
use Rattle.nb_host.specs.Image.{Image}
use Rattle.nb_host.proofs.Callers.{stays_contents}
use Rattle.nb_format.specs.Snapshot.{IsHeader}
use Rattle.nb_format.specs.SnapshotRefusal.{header_field_refusal}
use Rattle.nb_format.proofs.HeaderRefusals.{short_is, field_is, length_is, header_none}
use Rattle.nb_format.proofs.SnapshotRefusals.{header_refused}
use Rattle.nb_format.proofs.snap_reader.SnapReader.begin.Goals as goal

pub returns-then-length-clause-refusal : goal.returns-then-length-clause-refusal
returns-then-length-clause-refusal g c = λ tells _. short_is _ (omega (arith, c.if-length.true, c.in_ok-length.ensures.length tells))

pub returns-then-length-clause-first : goal.returns-then-length-clause-first
returns-then-length-clause-first g c = λ tells by. header_refused _ _ (returns-then-length-clause-refusal g c tells by)

pub returns-in_err-count-clause-refusal : goal.returns-in_err-count-clause-refusal
returns-in_err-count-clause-refusal g c =
    let p = err_from_is_err_and c.from_residual-in_err-count.result c.from_residual-in_err-count.ensures.1 in
    rw (p.1, p.2)
    (λ tells _.
    let bytes = c.in_ok-read_whole.ensures.read tells ∙ ap (λ (image : Image). take 32 (image.file c.args.file)) (stays_contents c.in_ok-length.ensures.ran.leads) in
    field_is _ _ (omega (arith, c.if-length.false, c.in_ok-length.ensures.length tells)) (ap header_field_refusal (sym bytes) ∙ c.in_err-count.ensures.refusal))

pub returns-in_err-count-clause-first : goal.returns-in_err-count-clause-first
returns-in_err-count-clause-first g c =
    IfErr-weaker c.from_residual-in_err-count.result _ _ (λ e is tells by. header_refused _ e (is tells by)) (returns-in_err-count-clause-refusal g c)

pub returns-then-length-snapshot_length-clause-refusal : goal.returns-then-length-snapshot_length-clause-refusal
returns-then-length-snapshot_length-clause-refusal g c = λ tells _.
    let bytes = c.in_ok-read_whole.ensures.read tells ∙ ap (λ (image : Image). take 32 (image.file c.args.file)) (stays_contents c.in_ok-length.ensures.ran.leads) in
    let long = c.in_ok-length.ensures.length tells in
    length_is _ c.in_ok-count.field-0.count c.in_ok-count.field-0.time
    (subst (λ (w : List ℕ). IsHeader w c.in_ok-count.field-0.count c.in_ok-count.field-0.time) bytes c.in_ok-count.ensures.header)
    (λ same. c.if-length-snapshot_length.true (long ∙ same ∙ sym c.snapshot_length.ensures))

pub returns-then-length-snapshot_length-clause-first : goal.returns-then-length-snapshot_length-clause-first
returns-then-length-snapshot_length-clause-first g c = λ tells by. header_refused _ _ (returns-then-length-snapshot_length-clause-refusal g c tells by)

pub returns-clause-accepted : goal.returns-clause-accepted
returns-clause-accepted g c = λ tells.
    let bytes = c.in_ok-read_whole.ensures.read tells ∙ ap (λ (image : Image). take 32 (image.file c.args.file)) (stays_contents c.in_ok-length.ensures.ran.leads) in
    let header = subst (λ (w : List ℕ). IsHeader w c.in_ok-count.field-0.count c.in_ok-count.field-0.time) bytes c.in_ok-count.ensures.header in
    header_none _ c.in_ok-count.field-0.count c.in_ok-count.field-0.time header.spelled header.few
    (sym (c.in_ok-length.ensures.length tells) ∙ c.if-length-snapshot_length.false ∙ c.snapshot_length.ensures)
