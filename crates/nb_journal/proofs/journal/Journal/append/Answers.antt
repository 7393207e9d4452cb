use Rattle.std.proofs.Common.{◌≡◌, length, ap, subst, arith, rules}
use Rattle.nb_host.proofs.Callers.{leads_after, stays_after}
use Rattle.nb_journal.specs.Counters.{Counters}
use Rattle.nb_journal.specs.Entries.{IsNextEntry}
use Rattle.nb_journal.proofs.Appending.{append_lays, append_opens, append_adds, append_leads, laying_leads}
use Rattle.nb_journal.proofs.journal.Journal.append.Goals as goal

pub returns-in_err-lay-clause-images : goal.returns-in_err-lay-clause-images
returns-in_err-lay-clause-images g c = λ log answers ready.
    let count : c.self.inside.entries ≡ length log.entries =
    omega (arith, ap (λ (k : Counters). k.entries) answers, ap (λ (k : Counters). k.entries) c.self.view_is) in
    append_lays log count ready c.in_err-lay.ensures.ran.leads.images

pub returns-in_err-lay-clause-ran : goal.returns-in_err-lay-clause-ran
returns-in_err-lay-clause-ran g c = record {
  leads = laying_leads c.self.inside.entries _ (ap (λ (k : Counters). k.entries) c.self.view_is) c.in_err-lay.ensures.ran.leads;
  count = search rules;
  rose = search rules;
  spared = search rules;
  refused = search rules;
  synced = search rules;
  at_most = search rules;
}

pub returns-in_err-sync-clause-images : goal.returns-in_err-sync-clause-images
returns-in_err-sync-clause-images g c = λ log answers ready.
    let count : c.self.inside.entries ≡ length log.entries =
    omega (arith, ap (λ (k : Counters). k.entries) answers, ap (λ (k : Counters). k.entries) c.self.view_is) in
    append_lays log count ready
    (stays_after c.in_ok-lay.ensures.ran.leads.images c.in_err-sync.ensures.ran.leads.images)

pub returns-in_err-sync-clause-ran : goal.returns-in_err-sync-clause-ran
returns-in_err-sync-clause-ran g c = record {
  leads = laying_leads c.self.inside.entries _ (ap (λ (k : Counters). k.entries) c.self.view_is)
      (leads_after c.in_ok-lay.ensures.ran.leads c.in_err-sync.ensures.ran.leads);
  count = search rules;
  rose = search rules;
  spared = search rules;
  refused = search rules;
  synced = search rules;
  at_most = search rules;
}

pub returns-in_err-open_gate-clause-images : goal.returns-in_err-open_gate-clause-images
returns-in_err-open_gate-clause-images g c = λ log answers ready.
    let count : c.self.inside.entries ≡ length log.entries =
    omega (arith, ap (λ (k : Counters). k.entries) answers, ap (λ (k : Counters). k.entries) c.self.view_is) in
    append_opens g.H.Host.meaning log c.args.entry count c.offset_of.ensures
    (subst (λ (k : Counters). IsNextEntry k.count k.progress c.args.entry) answers c.requires.next) ready
    c.in_ok-lay.ensures.ran.leads c.in_ok-sync.ensures.ran.leads c.in_ok-sync.ensures.durable c.in_ok-lay.ensures.laid
    c.in_err-open_gate.ensures.ran.leads.images

pub returns-in_err-open_gate-clause-ran : goal.returns-in_err-open_gate-clause-ran
returns-in_err-open_gate-clause-ran g c = record {
  leads = append_leads c.self.inside.entries _ (ap (λ (k : Counters). k.entries) c.self.view_is) c.offset_of.ensures
      c.in_ok-lay.ensures.ran.leads c.in_ok-sync.ensures.ran.leads c.in_err-open_gate.ensures.ran.leads;
  count = search rules;
  rose = search rules;
  spared = search rules;
  refused = search rules;
  synced = search rules;
  at_most = search rules;
}

pub returns-clause-added : goal.returns-clause-added
returns-clause-added g c = λ log answers tells clean.
    let count : c.self.inside.entries ≡ length log.entries =
    omega (arith, ap (λ (k : Counters). k.entries) answers, ap (λ (k : Counters). k.entries) c.self.view_is) in
    append_adds g.H.Host.meaning log c.args.entry count c.offset_of.ensures
    (subst (λ (k : Counters). IsNextEntry k.count k.progress c.args.entry) answers c.requires.next) tells clean
    c.in_ok-lay.ensures.ran.leads c.in_ok-sync.ensures.ran.leads c.in_ok-lay.ensures.laid
    (c.in_ok-open_gate.ensures.opened tells)

pub returns-clause-images : goal.returns-clause-images
returns-clause-images g c = λ log answers ready.
    let count : c.self.inside.entries ≡ length log.entries =
    omega (arith, ap (λ (k : Counters). k.entries) answers, ap (λ (k : Counters). k.entries) c.self.view_is) in
    append_opens g.H.Host.meaning log c.args.entry count c.offset_of.ensures
    (subst (λ (k : Counters). IsNextEntry k.count k.progress c.args.entry) answers c.requires.next) ready
    c.in_ok-lay.ensures.ran.leads c.in_ok-sync.ensures.ran.leads c.in_ok-sync.ensures.durable c.in_ok-lay.ensures.laid
    c.in_ok-open_gate.ensures.ran.leads.images

pub returns-clause-ran : goal.returns-clause-ran
returns-clause-ran g c = record {
  leads = append_leads c.self.inside.entries _ (ap (λ (k : Counters). k.entries) c.self.view_is) c.offset_of.ensures
      c.in_ok-lay.ensures.ran.leads c.in_ok-sync.ensures.ran.leads c.in_ok-open_gate.ensures.ran.leads;
  count = search rules;
  rose = search rules;
  spared = search rules;
  refused = search rules;
  synced = search rules;
  at_most = search rules;
}
