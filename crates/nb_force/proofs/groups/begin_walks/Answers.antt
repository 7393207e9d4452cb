use Rattle.std.proofs.Common.{◌≡◌, ◌<◌, Err, length, sym, ap, subst, ◌∙◌, arith, rules}
use Rattle.nb_order.specs.declared.order_error.OrderError.TheVariants as order
use Rattle.nb_walk.specs.Pool.{PoolValue, with_walk}
use Rattle.nb_walk.proofs.Callers.{length_begun}
use Rattle.nb_force.specs.Errors.{of_order}
use Rattle.nb_force.specs.Groups.{AreBegun, GoTo}
use Rattle.nb_force.proofs.Calls.{goes_on, goes_ends}
use Rattle.nb_force.proofs.Handing.{no_body_no_tree, read_there}
use Rattle.nb_force.proofs.Refusing.{order_damaged, order_ran}
use Rattle.nb_force.proofs.Takes.{no_tree_after}
use Rattle.nb_force.proofs.Walks.{begun_more, go_to_more}
use Rattle.nb_force.proofs.groups.begin_walks.Goals as goal

pub returns-in_err-body-clause-damaged : goal.returns-in_err-body-clause-damaged
returns-in_err-body-clause-damaged g c = λ name is params.
    let error = c.in_err-body.field-0.0 in
    let handed_on : c.from_residual.result ≡ Err (of_order error) = search rules in
    let damaged : error ≡ order.Damaged name = order_damaged error name (cc) in
    let below : c.loop-index.index < c.args.tree.now.count = omega (arith, c.loop-index-test.true, c.requires.range.1) in
    no_tree_after c.loop-index.invariant.goes.writes
    (no_body_no_tree params c.args.tree.now c.loop-index.index below (c.body_at.ensures.damaged name (c.in_err-body.was ∙ ap Err damaged)))

pub returns-in_err-body-clause-ran : goal.returns-in_err-body-clause-ran
returns-in_err-body-clause-ran g c =
    let error = c.in_err-body.field-0.0 in
    let handed_on : c.from_residual.result ≡ Err (of_order error) = search rules in
    goes_ends c.loop-index.invariant.goes (order_ran error c.in_err-body.was handed_on c.body_at.ensures.ran) (λ faulted. faulted) (λ faulted. faulted)

pub loop-index-preserved : goal.loop-index-preserved
loop-index-preserved g c =
    let so_far = c.loop-index.invariant in
    let body = c.in_ok-body.body in
    let old = c.loop-index.pool.walks in
    let walks : c.begin.new.self.walks ≡ with_walk body.at old = ap (λ (p : PoolValue). p.walks) c.begin.ensures in
    let below : c.loop-index.index < c.args.tree.now.count = omega (arith, c.loop-index-test.true, c.requires.range.1) in
    record {
      goes = goes_on so_far.goes c.body_at.ensures.ran (search rules);
      room = ap (λ (p : PoolValue). p.room) c.begin.ensures ∙ so_far.room;
      begun = subst AreBegun (sym walks) (begun_more body.at old so_far.begun);
      many = omega (arith, ap length walks, length_begun body.at old, so_far.many);
      targets = λ tells params bodies of_tree.
          subst (GoTo bodies c.args.from) (sym walks)
          (go_to_more bodies c.args.from c.loop-index.index old body (so_far.targets tells params bodies of_tree) so_far.many
          (read_there params c.args.tree.now c.loop-index.index below body so_far.goes.writes c.in_ok-body.ensures.listed tells bodies of_tree));
    }
