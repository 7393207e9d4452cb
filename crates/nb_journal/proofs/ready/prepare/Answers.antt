use Rattle.std.proofs.Common.{length, ap, ◌∙◌, rules}
use Rattle.nb_host.proofs.Callers.{leads_more, leads_after, leads_again, becomes_agrees, stays_after, stays_contents}
use Rattle.nb_journal.specs.Counters.{new_log}
use Rattle.nb_journal.proofs.Texts.{length-header}
use Rattle.nb_journal.proofs.Starting.{shorten_fresh, header_fresh, page_fresh, shut_after, laid_after}
use Rattle.nb_journal.proofs.Steps.{agrees_then}
use Rattle.nb_journal.proofs.ready.prepare.Goals as goal

pub returns-in_err-shorten-clause-images : goal.returns-in_err-shorten-clause-images
returns-in_err-shorten-clause-images g c = λ now. shorten_fresh now c.in_err-shorten.ensures.ran.leads.images

pub returns-in_err-shorten-clause-ran : goal.returns-in_err-shorten-clause-ran
returns-in_err-shorten-clause-ran g c = record {
  leads = leads_more c.in_err-shorten.ensures.ran.leads (λ start image step. becomes_agrees step);
  count = search rules;
  rose = search rules;
  spared = search rules;
  refused = search rules;
  synced = search rules;
  at_most = search rules;
}

pub returns-in_err-write_at-clause-images : goal.returns-in_err-write_at-clause-images
returns-in_err-write_at-clause-images g c = λ now.
    header_fresh g.H.Host.meaning (ap length c.page.ensures ∙ length-header 0 (new_log c.args.params.now c.args.count c.args.time c.args.gone))
    (shorten_fresh now c.in_ok-shorten.ensures.ran.leads.images) (c.in_ok-shorten.ensures.durable now.images) c.in_ok-shorten.ensures.short
    c.in_err-write_at.ensures.ran.leads.images

pub returns-in_err-write_at-clause-ran : goal.returns-in_err-write_at-clause-ran
returns-in_err-write_at-clause-ran g c = record {
  leads = leads_again (λ start between image one two. agrees_then one two)
      (leads_more c.in_ok-shorten.ensures.ran.leads (λ start image step. becomes_agrees step))
      (leads_more c.in_err-write_at.ensures.ran.leads (λ start image step. becomes_agrees step));
  count = search rules;
  rose = search rules;
  spared = search rules;
  refused = search rules;
  synced = search rules;
  at_most = search rules;
}

pub returns-in_err-sync-clause-images : goal.returns-in_err-sync-clause-images
returns-in_err-sync-clause-images g c = λ now.
    stays_after
    (header_fresh g.H.Host.meaning (ap length c.page.ensures ∙ length-header 0 (new_log c.args.params.now c.args.count c.args.time c.args.gone))
    (shorten_fresh now c.in_ok-shorten.ensures.ran.leads.images) (c.in_ok-shorten.ensures.durable now.images) c.in_ok-shorten.ensures.short
    c.in_ok-write_at.ensures.ran.leads.images)
    c.in_err-sync.ensures.ran.leads.images

pub returns-in_err-sync-clause-ran : goal.returns-in_err-sync-clause-ran
returns-in_err-sync-clause-ran g c = record {
  leads = leads_after (leads_again (λ start between image one two. agrees_then one two)
      (leads_more c.in_ok-shorten.ensures.ran.leads (λ start image step. becomes_agrees step))
      (leads_more c.in_ok-write_at.ensures.ran.leads (λ start image step. becomes_agrees step)))
      c.in_err-sync.ensures.ran.leads;
  count = search rules;
  rose = search rules;
  spared = search rules;
  refused = search rules;
  synced = search rules;
  at_most = search rules;
}

pub returns-in_err-write_at-2-clause-images : goal.returns-in_err-write_at-2-clause-images
returns-in_err-write_at-2-clause-images g c = λ now.
    page_fresh g.H.Host.meaning
    (stays_after
    (header_fresh g.H.Host.meaning (ap length c.page.ensures ∙ length-header 0 (new_log c.args.params.now c.args.count c.args.time c.args.gone))
    (shorten_fresh now c.in_ok-shorten.ensures.ran.leads.images) (c.in_ok-shorten.ensures.durable now.images) c.in_ok-shorten.ensures.short
    c.in_ok-write_at.ensures.ran.leads.images)
    c.in_ok-sync.ensures.ran.leads.images)
    c.in_ok-sync.ensures.durable
    (λ tells. shut_after g.H.Host.meaning (new_log c.args.params.now c.args.count c.args.time c.args.gone) c.page.ensures (c.in_ok-write_at.ensures.written tells) (stays_contents c.in_ok-sync.ensures.ran.leads))
    c.in_err-write_at-2.ensures.ran.leads.images

pub returns-in_err-write_at-2-clause-ran : goal.returns-in_err-write_at-2-clause-ran
returns-in_err-write_at-2-clause-ran g c = record {
  leads = leads_again (λ start between image one two. agrees_then one two)
      (leads_after (leads_again (λ start between image one two. agrees_then one two)
      (leads_more c.in_ok-shorten.ensures.ran.leads (λ start image step. becomes_agrees step))
      (leads_more c.in_ok-write_at.ensures.ran.leads (λ start image step. becomes_agrees step)))
      c.in_ok-sync.ensures.ran.leads)
      (leads_more c.in_err-write_at-2.ensures.ran.leads (λ start image step. becomes_agrees step));
  count = search rules;
  rose = search rules;
  spared = search rules;
  refused = search rules;
  synced = search rules;
  at_most = search rules;
}

pub returns-clause-laid : goal.returns-clause-laid
returns-clause-laid g c = λ tells.
    laid_after g.H.Host.meaning (new_log c.args.params.now c.args.count c.args.time c.args.gone) c.page.ensures (c.in_ok-shorten.ensures.short tells) (c.in_ok-write_at.ensures.written tells)
    (stays_contents c.in_ok-sync.ensures.ran.leads) (c.in_ok-write_at-2.ensures.written tells)

pub returns-clause-images : goal.returns-clause-images
returns-clause-images g c = λ now.
    page_fresh g.H.Host.meaning
    (stays_after
    (header_fresh g.H.Host.meaning (ap length c.page.ensures ∙ length-header 0 (new_log c.args.params.now c.args.count c.args.time c.args.gone))
    (shorten_fresh now c.in_ok-shorten.ensures.ran.leads.images) (c.in_ok-shorten.ensures.durable now.images) c.in_ok-shorten.ensures.short
    c.in_ok-write_at.ensures.ran.leads.images)
    c.in_ok-sync.ensures.ran.leads.images)
    c.in_ok-sync.ensures.durable
    (λ tells. shut_after g.H.Host.meaning (new_log c.args.params.now c.args.count c.args.time c.args.gone) c.page.ensures (c.in_ok-write_at.ensures.written tells) (stays_contents c.in_ok-sync.ensures.ran.leads))
    c.in_ok-write_at-2.ensures.ran.leads.images

pub returns-clause-ran : goal.returns-clause-ran
returns-clause-ran g c = record {
  leads = leads_again (λ start between image one two. agrees_then one two)
      (leads_after (leads_again (λ start between image one two. agrees_then one two)
      (leads_more c.in_ok-shorten.ensures.ran.leads (λ start image step. becomes_agrees step))
      (leads_more c.in_ok-write_at.ensures.ran.leads (λ start image step. becomes_agrees step)))
      c.in_ok-sync.ensures.ran.leads)
      (leads_more c.in_ok-write_at-2.ensures.ran.leads (λ start image step. becomes_agrees step));
  count = search rules;
  rose = search rules;
  spared = search rules;
  refused = search rules;
  synced = search rules;
  at_most = search rules;
}
