use Rattle.std.proofs.Common.{◌≡◌, ◌⊎◌, inl, inr, IsTrue, IsOk, Ok, Err, sym, subst, ap, ◌∙◌, arith, rules}
use Rattle.std.proofs.lemmas.Bool.Decides.{nat_tests}
use Rattle.std.proofs.lemmas.Result.{on_ok_weaker}
use Rattle.nb_host.specs.Image.{Image}
use Rattle.nb_host.proofs.Callers.{stays_contents}
use Rattle.nb_format.specs.Snapshot.{IsSnapshot}
use Rattle.nb_engine.specs.declared.refusal.Refusal.TheVariants as refusal
use Rattle.nb_engine.specs.Files.{init_file}
use Rattle.nb_engine.specs.Refusal.{NeedsNoCause}
use Rattle.nb_cli.specs.Make.{made_bodies, made_params}
use Rattle.nb_cli.specs.Demo.{IsOfDemo, start_after_make}
use Rattle.nb_cli.proofs.DemoCalls.{reads_as, reads_then}
use Rattle.nb_cli.proofs.MadeStarts.{made_has_start, start_device, start_needless, parameters_of_demo}
use Rattle.nb_cli.proofs.demo_command.find_made.Goals as goal

pub returns-in-Err-clause-cause : goal.returns-in-Err-clause-cause
returns-in-Err-clause-cause g c = λ told made.
    let has = made_has_start c.args.seed c.args.count (g.H.Host.meaning.contents c.args.host.now).file made in
    subst NeedsNoCause (sym c.start_after_make.ensures)
    (elim (c.in-Err.ensures.cause told) [
      | inl needless ↦ start_needless c.in-Err.why needless
      | inr none ↦ let p = has.parameters in let q = none.1.refused in absurd (cc)
    ])

pub returns-in-Err-clause-refusals : goal.returns-in-Err-clause-refusals
returns-in-Err-clause-refusals g c =
    subst IsOfDemo (sym c.start_after_make.ensures) (parameters_of_demo c.in-Err.why c.in-Err.ensures.refusals)

pub returns-in-Err-clause-ran : goal.returns-in-Err-clause-ran
returns-in-Err-clause-ran g c =
    reads_as c.parameters.ensures.ran
    (λ faulted.
    let device : start_after_make c.in-Err.why ≡ refusal.Device = (cc) in
    c.in-Err.is ∙ ap Err (start_device c.in-Err.why device))
    (λ faulted.
    let same : c.in-Err.why ≡ refusal.Device = (cc) in
    ap Err (c.start_after_make.ensures ∙ ap start_after_make same))

pub returns-then-ne-clause-cause : goal.returns-then-ne-clause-cause
returns-then-ne-clause-cause g c = λ told made.
    let has = made_has_start c.args.seed c.args.count (g.H.Host.meaning.contents c.args.host.now).file made in
    let p = has.parameters in
    let q = c.in-Ok.ensures.spelled told in
    let same : c.in-Ok.params ≡ made_params c.args.count = cc in
    let first = rw same at c.if-ne.ensures in
    let second = rw c.made_params.ensures.value at first in
    absurd (grind (arith, nat_tests))

pub returns-clause-ran : goal.returns-clause-ran
returns-clause-ran g c =
    let fine : IsOk c.parameters.result = search rules in reads_then fine c.parameters.ensures.ran c.find_bodies.ensures.ran

-- Where both are as they were made.

pub returns-clause-found : goal.returns-clause-found
returns-clause-found g c =
    let same : c.in-Ok.params ≡ c.made_params.result = search rules in
    on_ok_weaker c.find_bodies.result
    (λ found told. record {
      parameters = c.in-Ok.ensures.spelled told ∙ ap Ok (same ∙ c.made_params.ensures.value);
      snapshot =
          subst (λ (i : Image). IsSnapshot (i.file init_file) (made_bodies c.args.seed c.args.count) 0)
          (stays_contents c.parameters.ensures.ran.leads) (found told);
    })
    c.find_bodies.ensures.found
