use Rattle.std.proofs.Common.{◌≡◌, ◌+◌, ◌-◌, [], ◌∷◌, Err, refl, subst, ◌∙◌, arith, rules}
use Rattle.std.proofs.lemmas.List.Elements.{All-contains}
use Rattle.nb_model.specs.Limits.{kick_limit}
use Rattle.nb_model.specs.Valid.{IsBelow}
use Rattle.nb_walk.specs.Pool.{sums}
use Rattle.nb_force.specs.Groups.{TakesRange, IsKickAt}
use Rattle.nb_force.specs.declared.force_error.ForceError.TheVariants.{Damaged}
use Rattle.nb_force.proofs.Calls.{goes_none, goes_on, goes_ends, goes_done, ran_in}
use Rattle.nb_force.proofs.Handing.{kick_after}
use Rattle.nb_force.proofs.Lists.{at_contained}
use Rattle.nb_force.proofs.Takes.{takes_none, takes_then, no_range_then}
use Rattle.nb_force.proofs.Views.{keeps_tree}
use Rattle.nb_force.proofs.groups.hand_over.Goals as goal

pub loop-index-init : goal.loop-index-init
loop-index-init g c = record {
  goes = goes_none g.H.Host.meaning (g.R.Receiver.model.file c.args.receiver.now ∷ []) c.args.cache.now c.args.host.now c.requires.in_step;
  file = refl;
  setting = refl;
  takes = λ params are. takes_none c.args.from;
}

pub hand_one-requires-clause-in_step : goal.hand_one-requires-clause-in_step
hand_one-requires-clause-in_step g c = c.loop-index.invariant.goes.writes.in_step

pub hand_one-requires-clause-kick : goal.hand_one-requires-clause-kick
hand_one-requires-clause-kick g c =
    All-contains (IsBelow kick_limit) (sums c.args.pool.now.walks) c.sum-kick.result c.requires.kicks
    (at_contained (sums c.args.pool.now.walks) _ c.sum-kick.result c.sum-kick.ensures)

pub loop-index-preserved : goal.loop-index-preserved
loop-index-preserved g c =
    let so_far = c.loop-index.invariant in
    let keeps = keeps_tree c.args.tree.now c.requires.apart.0 c.requires.apart.1 so_far.goes.writes in
    let m = g.H.Host.meaning in
    let there : c.args.from + (c.loop-index.index - c.args.from) ≡ c.loop-index.index = omega (arith, c.loop-index.auto.index) in
    record {
      goes = goes_on so_far.goes (ran_in so_far.file c.hand_one.ensures.ran) (search rules);
      file = c.in_ok-hand_one.ensures.file ∙ so_far.file;
      setting = c.in_ok-hand_one.ensures.setting ∙ so_far.setting;
      takes = λ params are.
          let kick = kick_after params c.args.tree.now c.loop-index.index c.sum-kick.result keeps
          (subst (λ i. IsKickAt m params c.args.tree.now c.args.cache.now c.args.host.now i c.sum-kick.result) there
          (are (c.loop-index.index - c.args.from) c.sum-kick.result c.sum-kick.ensures)) in
          takes_then c.args.from c.loop-index.index (c.loop-index.index + 1) c.loop-index.auto.index (omega arith)
          (omega (arith, c.loop-index-test.true, c.requires.range.1)) (so_far.takes params are) keeps (c.in_ok-hand_one.ensures.takes params kick);
    }

pub returns-in_err-hand_one-clause-damaged : goal.returns-in_err-hand_one-clause-damaged
returns-in_err-hand_one-clause-damaged g c = λ name is params are.
    let error : c.hand_one.result ≡ Err (Damaged name) = search rules in
    let so_far = c.loop-index.invariant in
    let keeps = keeps_tree c.args.tree.now c.requires.apart.0 c.requires.apart.1 so_far.goes.writes in
    let m = g.H.Host.meaning in
    let there : c.args.from + (c.loop-index.index - c.args.from) ≡ c.loop-index.index = omega (arith, c.loop-index.auto.index) in
    let kick = kick_after params c.args.tree.now c.loop-index.index c.sum-kick.result keeps
    (subst (λ i. IsKickAt m params c.args.tree.now c.args.cache.now c.args.host.now i c.sum-kick.result) there
    (are (c.loop-index.index - c.args.from) c.sum-kick.result c.sum-kick.ensures)) in
    no_range_then c.args.from c.loop-index.index (c.loop-index.index + 1) c.args.end c.loop-index.auto.index (omega arith) (omega (arith, c.loop-index-test.true))
    (so_far.takes params are) keeps so_far.file (c.hand_one.ensures.damaged name error params kick)

pub returns-in_err-hand_one-clause-ran : goal.returns-in_err-hand_one-clause-ran
returns-in_err-hand_one-clause-ran g c =
    goes_ends c.loop-index.invariant.goes (ran_in c.loop-index.invariant.file c.hand_one.ensures.ran) (λ faulted. search rules) (λ error. search rules)

pub returns-clause-takes : goal.returns-clause-takes
returns-clause-takes g c = λ params are.
    let last : c.loop-index.index ≡ c.args.end = omega (arith, c.loop-index-test.false, c.loop-index.auto.index-end c.requires.range.0) in
    subst (λ i. TakesRange g.H.Host.meaning g.R.Receiver.model params c.args.tree.now c.args.from i c.args.cache.now c.args.host.now c.args.receiver.now
    c.loop-index.cache c.loop-index.host c.loop-index.receiver) last (c.loop-index.invariant.takes params are)

pub returns-clause-ran : goal.returns-clause-ran
returns-clause-ran g c = goes_done c.loop-index.invariant.goes (λ is. absurd (cc))
