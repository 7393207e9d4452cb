use Rattle.std.proofs.Common.{◌≡◌, ◌+◌, [], ◌∷◌, Err, sym, ap, ◌∙◌, rules}
use Rattle.nb_cache.proofs.Callers.{no_file, ran_more, ran_as, ran_then}
use Rattle.nb_order.specs.declared.order_error.OrderError.TheVariants as order
use Rattle.nb_force.specs.Errors.{of_order}
use Rattle.nb_force.specs.declared.force_error.ForceError.TheVariants.{Damaged}
use Rattle.nb_force.proofs.Calls.{ran_read}
use Rattle.nb_force.proofs.Handing.{no_body_no_tree, escaped_no_tree, handed, refused}
use Rattle.nb_force.proofs.Refusing.{order_damaged, order_ran}
use Rattle.nb_force.proofs.Takes.{never}
use Rattle.nb_force.proofs.groups.hand_one.Goals as goal

pub returns-in_err-body-clause-damaged : goal.returns-in_err-body-clause-damaged
returns-in_err-body-clause-damaged g c = λ name is params is_kick.
    let error = c.in_err-body.field-0.0 in
    let handed_on : c.from_residual.result ≡ Err (of_order error) = search rules in
    let damaged : error ≡ order.Damaged name = order_damaged error name (cc) in
    never c.args.index (c.args.index + 1)
    (no_body_no_tree params c.args.tree.now c.args.index c.requires.index (c.body_at.ensures.damaged name (c.in_err-body.was ∙ ap Err damaged)))

pub returns-in_err-body-clause-ran : goal.returns-in_err-body-clause-ran
returns-in_err-body-clause-ran g c =
    let error = c.in_err-body.field-0.0 in
    let handed_on : c.from_residual.result ≡ Err (of_order error) = search rules in
    ran_more (λ file has. absurd (no_file file has)) (order_ran error c.in_err-body.was handed_on c.body_at.ensures.ran)

pub returns-then-body-clause-damaged : goal.returns-then-body-clause-damaged
returns-then-body-clause-damaged g c = λ name is params is_kick.
    let same : c.page_name.result ≡ name = cc in
    never c.args.index (c.args.index + 1)
    (escaped_no_tree params c.args.tree.now c.args.index c.requires.index c.in_ok-body.body (sym same ∙ c.page_name.ensures.value) c.if-body.true c.in_ok-body.ensures.listed)

pub returns-then-body-clause-ran : goal.returns-then-body-clause-ran
returns-then-body-clause-ran g c = ran_read (g.R.Receiver.model.file c.args.receiver.now ∷ []) c.body_at.ensures.ran (search rules) (λ is. absurd (cc))

pub returns-in_err-take-clause-damaged : goal.returns-in_err-take-clause-damaged
returns-in_err-take-clause-damaged g c = λ name is params is_kick.
    let error : c.take.result ≡ Err (Damaged name) = search rules in
    refused g.H.Host.meaning g.R.Receiver.model params c.args.tree.now c.args.index c.requires.index c.in_ok-body.body c.args.kick.now
    c.args.cache.now c.body_at.new.cache c.take.new.cache c.args.host.now c.body_at.new.host c.take.new.host c.args.receiver.now c.take.new.self
    c.body_at.ensures.ran.writes is_kick c.in_ok-body.ensures.listed name (c.take.ensures.damaged name error)
    (λ tells more fits. (c.take.ensures.goes_on tells more fits).1 name error)

pub returns-in_err-take-clause-ran : goal.returns-in_err-take-clause-ran
returns-in_err-take-clause-ran g c = ran_as (ran_then c.body_at.ensures.ran (search rules) c.take.ensures.ran) (λ faulted. search rules) (λ error. search rules)

pub returns-clause-takes : goal.returns-clause-takes
returns-clause-takes g c = λ params is_kick.
    handed g.H.Host.meaning g.R.Receiver.model params c.args.tree.now c.args.index c.requires.index c.in_ok-body.body c.args.kick.now
    c.args.cache.now c.body_at.new.cache c.take.new.cache c.args.host.now c.body_at.new.host c.take.new.host c.args.receiver.now c.take.new.self
    c.body_at.ensures.ran.writes is_kick c.in_ok-body.ensures.listed
    c.in_ok-take.ensures.takes (λ tells more fits. (c.in_ok-take.ensures.goes_on tells more fits).0)

pub returns-clause-ran : goal.returns-clause-ran
returns-clause-ran g c = ran_as (ran_then c.body_at.ensures.ran (search rules) c.take.ensures.ran) (λ faulted. absurd (cc)) (λ error. search rules)
