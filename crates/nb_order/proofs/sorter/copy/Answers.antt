use Rattle.std.proofs.Common.{◌≡◌, ◌<◌, [], ◌∷◌, ◌++◌, Err, length, refl, sym, ap, subst, ◌∙◌, arith, rules}
use Rattle.std.specs.Prelude.{All}
use Rattle.std.specs.BTreeMap.{values}
use Rattle.std.proofs.lemmas.List.Elements.{All-tail}
use Rattle.std.proofs.lemmas.Map.Entries.{length-values_of}
use Rattle.nb_model.specs.Limits.{most_bodies}
use Rattle.nb_host.proofs.Callers.{stopped_after}
use Rattle.nb_cache.specs.View.{seen}
use Rattle.nb_cache.proofs.Callers.{other_file, writes_begins, writes_again}
use Rattle.nb_order.specs.Indexes.{HasFirst, AreIndexesOf, IsCopyOf}
use Rattle.nb_order.specs.declared.order_error.OrderError.TheVariants.{Fault, Damaged}
use Rattle.nb_order.proofs.Copying.{IsCopied, copied_none, copied_next, copied_more, copied_all}
use Rattle.nb_order.proofs.sorter.copy.Goals as goal

pub loop-index-init : goal.loop-index-init
loop-index-init g c =
    let start : c.into_iter-index-iterator.result ≡ values c.args.indexes.now = search rules in
    record {
      writes = writes_begins g.H.Host.meaning (c.args.to ∷ []) c.args.cache.now c.args.host.now c.requires.in_step;
      spared = refl;
      numbers = subst (All (λ number. number < most_bodies)) (sym start) c.requires.numbers;
      few = omega (arith, ap length start, length-values_of c.args.indexes.now.entries, c.requires.few);
      copied = λ tells bodies list first numbered.
          copied_none (seen g.H.Host.meaning c.args.cache.now c.args.host.now c.args.from) bodies list c.into_iter-index-iterator.result _ (c.requires.empty tells)
          (subst (λ l. AreIndexesOf bodies l list) (sym start) numbered);
    }

pub loop-index-preserved : goal.loop-index-preserved
loop-index-preserved g c =
    let so_far = c.loop-index.invariant in
    let more : c.loop-index.index-iterator ≡ c.in-Some.field-0.now ∷ c.next.new.self = search rules in
    record {
      writes = writes_again so_far.writes c.copy_body.ensures.ran.writes;
      spared = c.copy_body.ensures.ran.spared (search rules) ∙ so_far.spared;
      numbers = All-tail (λ number. number < most_bodies) c.in-Some.field-0.now c.next.new.self
          (subst (All (λ number. number < most_bodies)) more so_far.numbers);
      few = omega (arith, ap length more, so_far.few);
      copied = λ tells bodies list first numbered.
          let from = seen g.H.Host.meaning c.args.cache.now c.args.host.now c.args.from in
          let same = so_far.writes.view tells c.args.from (other_file c.requires.differ) in
          let next = copied_next from bodies list c.loop-index.count c.in-Some.field-0.now c.loop-index.index-iterator c.next.new.self _ more
          (so_far.copied tells bodies list first numbered) in
          copied_more from bodies list c.loop-index.count c.in-Some.field-0.now c.next.new.self _ _ next
          (subst (λ file. IsCopyOf file bodies (seen g.H.Host.meaning c.copy_body.new.cache c.copy_body.new.host c.args.to) (next.copied ++ next.body ∷ [])) same
          (c.in_ok-copy_body.ensures.copied tells bodies next.copied next.body
          (subst (λ file. HasFirst file bodies) (sym same) first)
          (subst (λ file. IsCopyOf file bodies (seen g.H.Host.meaning c.loop-index.cache c.loop-index.host c.args.to) next.copied) (sym same) next.copy)
          next.many next.there));
    }

pub returns-in_err-copy_body-clause-damaged : goal.returns-in_err-copy_body-clause-damaged
returns-in_err-copy_body-clause-damaged g c = λ name is tells bodies list first numbered.
    let so_far = c.loop-index.invariant in
    let error : c.copy_body.result ≡ Err (Damaged name) = search rules in
    let more : c.loop-index.index-iterator ≡ c.in-Some.field-0.now ∷ c.next.new.self = search rules in
    let from = seen g.H.Host.meaning c.args.cache.now c.args.host.now c.args.from in
    let same = so_far.writes.view tells c.args.from (other_file c.requires.differ) in
    let next = copied_next from bodies list c.loop-index.count c.in-Some.field-0.now c.loop-index.index-iterator c.next.new.self _ more
    (so_far.copied tells bodies list first numbered) in
    c.copy_body.ensures.damaged name error tells bodies next.copied next.body
    (subst (λ file. HasFirst file bodies) (sym same) first)
    (subst (λ file. IsCopyOf file bodies (seen g.H.Host.meaning c.loop-index.cache c.loop-index.host c.args.to) next.copied) (sym same) next.copy)
    next.many next.there

pub returns-in_err-copy_body-clause-ran : goal.returns-in_err-copy_body-clause-ran
returns-in_err-copy_body-clause-ran g c = record {
  writes = writes_again c.loop-index.invariant.writes c.copy_body.ensures.ran.writes;
  rose = λ faulted.
      let error : c.copy_body.result ≡ Err Fault = search rules in
      stopped_after c.loop-index.invariant.spared (c.copy_body.ensures.ran.rose error);
  spared = λ never.
      c.copy_body.ensures.ran.spared (λ error. never (search rules)) ∙ c.loop-index.invariant.spared;
}

pub returns-clause-ran : goal.returns-clause-ran
returns-clause-ran g c = record { writes = c.loop-index.invariant.writes; rose = λ faulted. absurd (cc); spared = λ _. c.loop-index.invariant.spared }

pub returns-clause-copied : goal.returns-clause-copied
returns-clause-copied g c = λ tells bodies list first numbered.
    let from = seen g.H.Host.meaning c.args.cache.now c.args.host.now c.args.from in
    let to = seen g.H.Host.meaning c.loop-index.cache c.loop-index.host c.args.to in
    let none : c.loop-index.index-iterator ≡ [] = search rules in
    copied_all from bodies list c.loop-index.count to
    (subst (λ numbers. IsCopied from bodies list c.loop-index.count numbers to) none (c.loop-index.invariant.copied tells bodies list first numbered))
