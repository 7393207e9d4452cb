use Rattle.std.proofs.Common.{◌≡◌, length, ap, subst, sym, ◌∙◌, rules}
use Rattle.nb_host.proofs.Callers.{leads_more, leads_before, becomes_itself, becomes_same, torn_by_nothing, stays_contents}
use Rattle.nb_host.specs.Image.{Image, FileBecomes, IsTorn}
use Rattle.nb_journal.specs.Form.{Log, IsLawful}
use Rattle.nb_journal.proofs.Starting.{start_syncs, start_opens, written_start}
use Rattle.nb_journal.proofs.ready.start_gate.Goals as goal

gate_itself : (image : Image) → FileBecomes 2 (IsTorn 0 1) image image
gate_itself image = becomes_itself 2 (IsTorn 0 1) image (torn_by_nothing 0 1 (image.file 2))

pub returns-in_err-sync-clause-images : goal.returns-in_err-sync-clause-images
returns-in_err-sync-clause-images g c = λ ready. start_syncs ready c.in_err-sync.ensures.ran.leads.images

pub returns-in_err-sync-clause-ran : goal.returns-in_err-sync-clause-ran
returns-in_err-sync-clause-ran g c = record {
  leads = leads_more c.in_err-sync.ensures.ran.leads
      (λ start image same. becomes_same 2 (IsTorn 0 1) same (torn_by_nothing 0 1 (start.file 2)));
  count = search rules;
  rose = search rules;
  spared = search rules;
  refused = search rules;
  synced = search rules;
  at_most = search rules;
}

pub returns-in_err-open_gate-clause-images : goal.returns-in_err-open_gate-clause-images
returns-in_err-open_gate-clause-images g c = λ ready.
    let lawful : IsLawful c.args.ready = subst (λ (l : Log). IsLawful l) c.ready.view_is c.ready.invariant in
    let none : length c.args.ready.entries ≡ 0 = ap (λ (l : Log). length l.entries) (sym c.ready.view_is) in
    start_opens g.H.Host.meaning c.args.ready lawful none ready c.in_ok-sync.ensures.ran.leads c.in_ok-sync.ensures.durable
    c.in_err-open_gate.ensures.ran.leads.images

pub returns-in_err-open_gate-clause-ran : goal.returns-in_err-open_gate-clause-ran
returns-in_err-open_gate-clause-ran g c = record {
  leads = leads_before (λ image. gate_itself image) c.in_ok-sync.ensures.ran.leads c.in_err-open_gate.ensures.ran.leads;
  count = search rules;
  rose = search rules;
  spared = search rules;
  refused = search rules;
  synced = search rules;
  at_most = search rules;
}

pub returns-clause-started : goal.returns-clause-started
returns-clause-started g c = λ tells laid.
    let lawful : IsLawful c.args.ready = subst (λ (l : Log). IsLawful l) c.ready.view_is c.ready.invariant in
    let none : length c.args.ready.entries ≡ 0 = ap (λ (l : Log). length l.entries) (sym c.ready.view_is) in
    let same = stays_contents c.in_ok-sync.ensures.ran.leads in
    written_start c.args.ready lawful none (ap (λ (i : Image). i.file 2) same ∙ laid) (c.in_ok-open_gate.ensures.opened tells).file

pub returns-clause-images : goal.returns-clause-images
returns-clause-images g c = λ ready.
    let lawful : IsLawful c.args.ready = subst (λ (l : Log). IsLawful l) c.ready.view_is c.ready.invariant in
    let none : length c.args.ready.entries ≡ 0 = ap (λ (l : Log). length l.entries) (sym c.ready.view_is) in
    start_opens g.H.Host.meaning c.args.ready lawful none ready c.in_ok-sync.ensures.ran.leads c.in_ok-sync.ensures.durable
    c.in_ok-open_gate.ensures.ran.leads.images

pub returns-clause-ran : goal.returns-clause-ran
returns-clause-ran g c = record {
  leads = leads_before (λ image. gate_itself image) c.in_ok-sync.ensures.ran.leads c.in_ok-open_gate.ensures.ran.leads;
  count = search rules;
  rose = search rules;
  spared = search rules;
  refused = search rules;
  synced = search rules;
  at_most = search rules;
}
