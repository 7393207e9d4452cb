use Rattle.std.proofs.Common.{◌<◌, ℕ, List, length, get_or, false, pos, rules, subst, refl, sym, ap, ◌∙◌, Option}
use Rattle.std.specs.Prelude.{IfSome}
use Rattle.std.proofs.lemmas.List.{take_more}
use Rattle.nb_model.specs.declared.body.Body.{Body}
use Rattle.nb_cli.proofs.Ids.{last_of-take}
use Rattle.nb_host.specs.Meaning.{CallTally}
use Rattle.nb_host.proofs.Callers.{leads_after, syncing_none}
use Rattle.nb_format.specs.Writer.{SnapshotPlan}
use Rattle.nb_cli.proofs.Writing.{HasTaken, HasTaken-none, HasTaken-more, becomes_any, any_then}
use Rattle.nb_cli.proofs.once_command.write_bodies.Goals as goal

pub add-requires-clause-rises : goal.add-requires-clause-rises
add-requires-clause-rises g c id is =
    let above = last_of-take c.args.bodies.now c.loop-body.body-index _ c.loop-body-test.true c.requires.ids in
    let P : Option ℕ → Type 0 = λ o. IfSome o (λ last. last < (get_or c.args.bodies.now c.loop-body.body-index (record { id = 0; mass = 0; out = false; at = record { x = 0; y = 0; z = 0 }; v = record { x = pos 0; y = pos 0; z = pos 0 } })).id) in
    subst P (sym c.loop-body.invariant.taken.last ∙ is) above

pub loop-body-preserved : goal.loop-body-preserved
loop-body-preserved g c =
    let kept = c.loop-body.invariant in
    let more = HasTaken-more kept.taken c.in_ok-filling-2.ensures.added (λ told. c.in_ok-filling-2.ensures.filled _ told) in
    record {
      taken =
          let P : List Body → Type 0 = λ bodies. HasTaken g.H.Host.meaning.tells (g.H.Host.meaning.contents c.add.new.host) (length c.args.bodies.now) c.args.time c.in_ok-filling-2.filling bodies in
          subst P (sym (take_more c.args.bodies.now c.loop-body.body-index _ c.loop-body-test.true)) more;
      leads = any_then (ap (λ (p : SnapshotPlan). p.file) kept.taken.plan) kept.leads c.add.ensures.ran.leads;
      faults = c.add.ensures.ran.spared (search rules) ∙ kept.faults;
      refused = ap (λ (t : CallTally). t.refused_says) c.add.ensures.ran.tally ∙ kept.refused;
      synced = λ told. ap (λ (t : CallTally). t.syncs) c.add.ensures.ran.tally ∙ kept.synced told;
    }

pub returns-in_err-filling-clause-ran : goal.returns-in_err-filling-clause-ran
returns-in_err-filling-clause-ran g c = record {
  leads = any_then (ap (λ (p : SnapshotPlan). p.file) c.new.ensures)
      (leads_after (becomes_any refl c.in_ok-cut.ensures.ran.leads) c.in_ok-sync.ensures.ran.leads)
      c.in_err-filling.ensures.ran.leads;
  count = search rules;
  rose = search rules;
  spared = search rules;
  refused = search rules;
  synced = search rules;
  at_most = search rules;
}

pub loop-body-init : goal.loop-body-init
loop-body-init g c = record {
  taken = HasTaken-none c.new.ensures c.in_ok-filling.ensures.empty (λ told. c.in_ok-filling.ensures.begun told);
  leads = any_then (ap (λ (p : SnapshotPlan). p.file) c.new.ensures)
      (leads_after (becomes_any refl c.in_ok-cut.ensures.ran.leads) c.in_ok-sync.ensures.ran.leads)
      c.in_ok-filling.ensures.ran.leads;
  faults = search rules;
  refused = search rules;
  synced = search rules;
}

pub returns-in_err-filling-2-clause-ran : goal.returns-in_err-filling-2-clause-ran
returns-in_err-filling-2-clause-ran g c =
    let kept = c.loop-body.invariant in
    let added = syncing_none c.in_err-filling-2.ensures.ran in record {
      leads = any_then (ap (λ (p : SnapshotPlan). p.file) kept.taken.plan) kept.leads added.leads;
      count = search rules;
      rose = search rules;
      spared = search rules;
      refused = search rules;
      synced = search rules;
      at_most = search rules;
    }

pub returns-in_err-close-clause-ran : goal.returns-in_err-close-clause-ran
returns-in_err-close-clause-ran g c = let kept = c.loop-body.invariant in record {
  leads = any_then (ap (λ (p : SnapshotPlan). p.file) kept.taken.plan) kept.leads c.in_err-close.ensures.ran.leads;
  count = search rules;
  rose = search rules;
  spared = search rules;
  refused = search rules;
  synced = search rules;
  at_most = search rules;
}

pub returns-clause-ran : goal.returns-clause-ran
returns-clause-ran g c = let kept = c.loop-body.invariant in record {
  leads = any_then (ap (λ (p : SnapshotPlan). p.file) kept.taken.plan) kept.leads c.in_ok-close.ensures.ran.leads;
  count = search rules;
  rose = search rules;
  spared = search rules;
  refused = search rules;
  synced = search rules;
  at_most = search rules;
}
