use Rattle.std.proofs.Common.{◌≡◌, ◌⊎◌, inl, inr, IsTrue, Err, subst, rules}
use Rattle.nb_host.specs.Image.{Image}
use Rattle.nb_host.proofs.Callers.{stays_contents}
use Rattle.nb_journal.specs.Form.{IsFresh}
use Rattle.nb_journal.specs.Offsets.{journal_file}
use Rattle.nb_engine.specs.Refusal.{NeedsNoCause}
use Rattle.nb_cli.specs.Make.{IsMakeRefused}
use Rattle.nb_cli.specs.Demo.{IsDemoRefused}
use Rattle.nb_cli.proofs.demo_command.find_nothing.Goals as goal

pub returns-in_err-find_neither-clause-cause : goal.returns-in_err-find_neither-clause-cause
returns-in_err-find_neither-clause-cause g c =
    let m = g.H.Host.meaning in
    let files = (m.contents c.args.host.now).file in
    let why = c.in_err-find_neither.field-0.0 in
    let handed_on : c.from_residual-in_err-find_neither.result ≡ Err why = search rules in
    let fresh : IsTrue m.tells → IsFresh (files journal_file) = search rules in
    let cause : IsTrue m.tells → NeedsNoCause why ⊎ IsDemoRefused files c.args.target why = λ told.
    elim (c.in_err-find_neither.ensures.cause told) [
      | inl needless ↦ inl needless
      | inr there ↦
          inr (inr (inr (inl (fresh told, subst (λ (i : Image). IsMakeRefused i.file why) (stays_contents c.find.ensures.ran.leads) there))))
    ] in
    rw handed_on cause
