use Rattle.std.proofs.Common.{◌≡◌, [], ◌∷◌, Err, refl, sym, subst, ◌∙◌, arith, rules}
use Rattle.nb_force.specs.Groups.{TakesRange}
use Rattle.nb_force.specs.declared.force_error.ForceError.TheVariants.{Damaged}
use Rattle.nb_force.proofs.Calls.{goes_none, goes_on, goes_ends, goes_done, ran_in}
use Rattle.nb_force.proofs.Takes.{takes_none, takes_then, takes_all, no_range_then, no_force}
use Rattle.nb_force.proofs.Views.{keeps_tree}
use Rattle.nb_force.proofs.groups.kicks.Goals as goal

pub loop-from-init : goal.loop-from-init
loop-from-init g c = record {
  within = omega arith;
  goes = goes_none g.H.Host.meaning (g.R.Receiver.model.file c.args.receiver.now ∷ []) c.args.cache.now c.args.host.now c.requires.in_step;
  file = refl;
  setting = refl;
  room = refl;
  takes = takes_none 0;
}

pub group-requires-clause-apart : goal.group-requires-clause-apart
group-requires-clause-apart g c =
    let same = c.loop-from.invariant.file in
    (λ is. c.requires.apart.0 (sym same ∙ is), λ is. c.requires.apart.1 (sym same ∙ is))

pub group-requires-clause-in_step : goal.group-requires-clause-in_step
group-requires-clause-in_step g c = c.loop-from.invariant.goes.writes.in_step

pub loop-from-preserved : goal.loop-from-preserved
loop-from-preserved g c =
    let so_far = c.loop-from.invariant in
    let keeps = keeps_tree c.args.tree.now c.requires.apart.0 c.requires.apart.1 so_far.goes.writes in
    let end = c.min-end.ensures in
    let some = c.walks.ensures.least in
    let below = c.loop-from-test.true in
    record {
      within = omega (arith, end);
      goes = goes_on so_far.goes (ran_in so_far.file c.group.ensures.ran) (search rules);
      file = c.in_ok-group.ensures.file ∙ so_far.file;
      setting = c.in_ok-group.ensures.setting ∙ so_far.setting;
      room = c.group.ensures.room ∙ so_far.room;
      takes = takes_then 0 c.loop-from.from c.min-end.result (omega arith) (omega (arith, end, some, below)) so_far.within so_far.takes keeps c.in_ok-group.ensures.takes;
    }

pub returns-in_err-group-clause-damaged : goal.returns-in_err-group-clause-damaged
returns-in_err-group-clause-damaged g c = λ name is.
    let error : c.group.result ≡ Err (Damaged name) = search rules in
    let so_far = c.loop-from.invariant in
    let keeps = keeps_tree c.args.tree.now c.requires.apart.0 c.requires.apart.1 so_far.goes.writes in
    let end = c.min-end.ensures in
    let some = c.walks.ensures.least in
    let below = c.loop-from-test.true in
    no_force c.args.tree.now.count refl
    (no_range_then 0 c.loop-from.from c.min-end.result c.args.tree.now.count (omega arith) (omega (arith, end, some, below)) (omega (arith, end))
    so_far.takes keeps so_far.file (c.group.ensures.damaged name error))

pub returns-in_err-group-clause-ran : goal.returns-in_err-group-clause-ran
returns-in_err-group-clause-ran g c =
    goes_ends c.loop-from.invariant.goes (ran_in c.loop-from.invariant.file c.group.ensures.ran) (λ faulted. search rules) (λ error. search rules)

pub returns-clause-takes : goal.returns-clause-takes
returns-clause-takes g c =
    let so_far = c.loop-from.invariant in
    let last : c.loop-from.from ≡ c.args.tree.now.count = omega (arith, so_far.within, c.loop-from-test.false) in
    takes_all
    (subst (λ i. TakesRange g.H.Host.meaning g.R.Receiver.model c.args.params.now c.args.tree.now 0 i c.args.cache.now c.args.host.now c.args.receiver.now
    c.loop-from.cache c.loop-from.host c.loop-from.receiver) last so_far.takes)

pub returns-clause-ran : goal.returns-clause-ran
returns-clause-ran g c = goes_done c.loop-from.invariant.goes (λ is. absurd (cc))
