use Rattle.std.proofs.Common.{◌≡◌, length, refl, sym, ap, ◌∙◌, arith, rules}
use Rattle.nb_host.proofs.Callers.{leads_none, becomes_itself}
use Rattle.nb_format.specs.ParamsText.{canonical_line}
use Rattle.nb_engine.specs.Files.{params_file}
use Rattle.nb_cli.specs.OnceAnswer.{BecomesAny}
use Rattle.nb_cli.proofs.Making.{joined, joined-none, joined-six, text_more, length_more, params_then}
use Rattle.nb_cli.proofs.make_command.write_params.Goals as goal

pub loop-which-init : goal.loop-which-init
loop-which-init g c = let line = canonical_line c.args.params.now in record {
  ends = sym (ap length (joined-none line));
  small = omega arith;
  text = λ tells none. none ∙ sym (joined-none line);
  leads = leads_none g.H.Host.meaning c.args.host.now (λ image. becomes_itself params_file BecomesAny image tt);
  faults = refl;
  tally = refl;
}

pub loop-which-preserved : goal.loop-which-preserved
loop-which-preserved g c =
    let kept = c.loop-which.invariant in
    let line = canonical_line c.args.params.now in
    let which = c.loop-which.which in
    record {
      ends = length_more line which kept.ends (c.bytes-in-loop-which.ensures.value ∙ c.param_line-line.ensures);
      small = omega (arith, kept.small, c.bytes-in-loop-which.ensures.short);
      text = λ tells none.
          text_more line which kept.ends (c.bytes.ensures.value ∙ c.param_line-line.ensures) (kept.text tells none)
          (c.in_ok-write_at.ensures.written tells);
      leads = params_then kept.leads c.write_at.ensures.ran.leads;
      faults = c.write_at.ensures.ran.spared (search rules) ∙ kept.faults;
      tally = c.write_at.ensures.ran.tally ∙ kept.tally;
    }

pub returns-clause-written : goal.returns-clause-written
returns-clause-written g c = λ tells none.
    let line = canonical_line c.args.params.now in
    let all : c.loop-which.which ≡ 6 = omega arith in
    c.loop-which.invariant.text tells none ∙ ap (joined line) all ∙ joined-six line
