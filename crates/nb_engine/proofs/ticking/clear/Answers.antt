use Rattle.std.proofs.Common.{sym, ap, ◌∙◌, rules}
use Rattle.std.proofs.lemmas.Result.{on_ok_weaker}
use Rattle.nb_host.specs.Image.{Image}
use Rattle.nb_host.proofs.Callers.{stays_contents}
use Rattle.nb_engine.proofs.Filling.{no_bytes, asked_leads, cut_leads}
use Rattle.nb_engine.proofs.ticking.clear.Goals as goal

pub returns-in_err-len-clause-ran : goal.returns-in_err-len-clause-ran
returns-in_err-len-clause-ran g c = record {
  leads = asked_leads c.in_err-len.ensures.ran.leads;
  count = search rules;
  rose = search rules;
  spared = search rules;
  tally = search rules;
}

pub returns-then-branch-eq0-clause-cleared : goal.returns-then-branch-eq0-clause-cleared
returns-then-branch-eq0-clause-cleared g c = λ tells.
    ap (λ (i : Image). i.file c.args.file) (stays_contents c.in_ok-len.ensures.ran.leads)
    ∙ no_bytes ((g.H.Host.meaning.contents c.args.host.now).file c.args.file)
    (sym (c.in_ok-len.ensures.length tells) ∙ c.if-branch-eq0.true)

pub returns-then-branch-eq0-clause-ran : goal.returns-then-branch-eq0-clause-ran
returns-then-branch-eq0-clause-ran g c = record {
  leads = asked_leads c.in_ok-len.ensures.ran.leads;
  count = search rules;
  rose = search rules;
  spared = search rules;
  tally = search rules;
}

pub returns-clause-cleared : goal.returns-clause-cleared
returns-clause-cleared g c = on_ok_weaker c.cut.result (λ cut tells. (cut tells).file) c.cut.ensures.cut

pub returns-clause-ran : goal.returns-clause-ran
returns-clause-ran g c = record {
  leads = cut_leads c.in_ok-len.ensures.ran.leads c.cut.ensures.ran.leads;
  count = search rules;
  rose = search rules;
  spared = search rules;
  tally = search rules;
}
