use Rattle.std.proofs.Common.{◌≡◌, List, [], sym, subst, ap, ◌∙◌, arith, rules}
use Rattle.nb_model.specs.declared.body.Body.{Body}
use Rattle.nb_host.specs.Meaning.{CallTally}
use Rattle.nb_host.proofs.Callers.{syncing_none}
use Rattle.nb_format.specs.Images.{IsBeingWritten, AddsBody}
use Rattle.nb_format.specs.Writer.{SnapshotPlan}
use Rattle.nb_format.proofs.Callers.{being_added, add_leads}
use Rattle.nb_cli.specs.Make.{made_bodies}
use Rattle.nb_cli.proofs.Making.{made_plan, length-made, made-next, leads_not_added, leads_closed, finished_since}
use Rattle.nb_cli.proofs.make_command.write_bodies.Goals as goal

pub add-requires-clause-room : goal.add-requires-clause-room
add-requires-clause-room g c =
    let being = c.loop.invariant.being in
    omega (arith, being.filled.added, length-made c.args.seed c.loop.counter, ap (λ (p : SnapshotPlan). p.count) being.planned, c.loop-test.true)

pub returns-in_err-filling-2-clause-ran : goal.returns-in_err-filling-2-clause-ran
returns-in_err-filling-2-clause-ran g c =
    let kept = c.loop.invariant in
    let added = syncing_none c.in_err-filling-2.ensures.ran in
    record {
      leads = leads_not_added (made_bodies c.args.seed c.args.count) (add_leads kept.being added.leads);
      count = search rules;
      rose = search rules;
      spared = search rules;
      refused = search rules;
      synced = search rules;
      at_most = search rules;
    }

pub loop-preserved : goal.loop-preserved
loop-preserved g c =
    let kept = c.loop.invariant in
    let m = g.H.Host.meaning in
    let filling = c.in_ok-filling-2.filling in
    let made = c.next_body.ensures.body c.args.seed c.loop.counter kept.generated in
    let P : List Body → Type 0 = λ bodies. IsBeingWritten m [] (made_plan c.args.count) filling bodies c.args.host.now c.add.new.host in
    let adds : AddsBody m c.next_body.result c.loop.filling filling c.loop.host c.add.new.host = record {
      added = c.in_ok-filling-2.ensures.added;
      filled = λ bodies tells holds. c.in_ok-filling-2.ensures.filled bodies tells holds;
      leads = c.add.ensures.ran.leads;
    } in
    record {
      being = subst P (made-next c.args.seed c.loop.counter made) (being_added c.next_body.result kept.being adds);
      generated = c.next_body.ensures.moved c.args.seed c.loop.counter kept.generated;
      last = λ id is.
          let said = sym c.in_ok-filling-2.ensures.added.last ∙ is in
          let same : id ≡ c.next_body.result.id = cc in
          omega (arith, same, c.next_body.ensures.id, kept.generated.count_is);
      faults = c.add.ensures.ran.spared (search rules) ∙ kept.faults;
      refused = ap (λ (t : CallTally). t.refused_says) c.add.ensures.ran.tally ∙ kept.refused;
      synced = λ told. ap (λ (t : CallTally). t.syncs) c.add.ensures.ran.tally ∙ kept.synced told;
    }

pub close-requires : goal.close-requires
close-requires g c =
    let being = c.loop.invariant.being in
    let all : c.loop.counter ≡ c.args.count = omega arith in
    omega (arith, being.filled.added, length-made c.args.seed c.loop.counter, ap (λ (p : SnapshotPlan). p.count) being.planned, all)

pub returns-in_err-close-clause-ran : goal.returns-in_err-close-clause-ran
returns-in_err-close-clause-ran g c =
    let kept = c.loop.invariant in
    let all : c.loop.counter ≡ c.args.count = omega arith in
    record {
      leads = leads_closed c.args.seed c.loop.counter c.args.count all kept.being c.in_err-close.ensures.ran.leads;
      count = search rules;
      rose = search rules;
      spared = search rules;
      refused = search rules;
      synced = search rules;
      at_most = search rules;
    }

pub returns-clause-written : goal.returns-clause-written
returns-clause-written g c = λ tells.
    let kept = c.loop.invariant in
    let all : c.loop.counter ≡ c.args.count = omega arith in
    finished_since c.args.seed c.loop.counter c.args.count all kept.being tells
    (c.in_ok-close.ensures.finished (made_bodies c.args.seed c.loop.counter) tells (kept.being.filled.left.reads tells))

pub returns-clause-ran : goal.returns-clause-ran
returns-clause-ran g c =
    let kept = c.loop.invariant in
    let all : c.loop.counter ≡ c.args.count = omega arith in
    record {
      leads = leads_closed c.args.seed c.loop.counter c.args.count all kept.being c.in_ok-close.ensures.ran.leads;
      count = search rules;
      rose = search rules;
      spared = search rules;
      refused = search rules;
      synced = search rules;
      at_most = search rules;
    }
