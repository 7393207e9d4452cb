use Rattle.std.proofs.Common.{◌≡◌, [], ◌∷◌, Err, ap, ◌∙◌, rules}
use Rattle.nb_model.specs.Vector.{zero_vector}
use Rattle.nb_order.specs.declared.order_error.OrderError.TheVariants as order
use Rattle.nb_tick.specs.Errors.{of_order}
use Rattle.nb_tick.specs.Steps.{without_kicks, resting_one}
use Rattle.nb_tick.proofs.Calls.{among_none, among_all, went_none, went_on, went_to, went_well}
use Rattle.nb_tick.proofs.Lists.{same_body}
use Rattle.nb_tick.proofs.Refusing.{order_fault, order_damaged}
use Rattle.nb_tick.proofs.Written.{copied_one, cant_read, cant_write}
use Rattle.nb_tick.proofs.drifting.add_record.Goals as goal

pub returns-in_err-body-clause-damaged : goal.returns-in_err-body-clause-damaged
returns-in_err-body-clause-damaged g c = λ name is.
    let handed_on : c.from_residual.result ≡ Err (of_order c.in_err-body.field-0.0) = search rules in
    let error : c.body_at.result ≡ Err (order.Damaged name) = c.in_err-body.was ∙ ap Err (order_damaged c.in_err-body.field-0.0 name (cc)) in
    cant_read (c.body_at.ensures.damaged name error)

pub returns-in_err-body-clause-ran : goal.returns-in_err-body-clause-ran
returns-in_err-body-clause-ran g c =
    let handed_on : c.from_residual.result ≡ Err (of_order c.in_err-body.field-0.0) = search rules in
    let files = c.args.writer.now.file ∷ [] in
    went_to (went_none g.H.Host.meaning files c.args.cache.now c.args.host.now c.requires.in_step) (among_none files) c.body_at.ensures.ran
    (λ faulted. c.in_err-body.was ∙ ap Err (order_fault c.in_err-body.field-0.0 (cc))) (λ error. search rules)

pub returns-in_err-add-clause-damaged : goal.returns-in_err-add-clause-damaged
returns-in_err-add-clause-damaged g c = λ name is.
    let handed_on : c.from_residual-in_err-add.result ≡ Err (of_order c.in_err-add.field-0.0) = search rules in
    let error : c.add.result ≡ Err (order.Damaged name) = c.in_err-add.was ∙ ap Err (order_damaged c.in_err-add.field-0.0 name (cc)) in
    cant_write c.body_at.ensures.ran.writes (c.add.ensures.damaged name error)

pub returns-in_err-add-clause-ran : goal.returns-in_err-add-clause-ran
returns-in_err-add-clause-ran g c =
    let handed_on : c.from_residual-in_err-add.result ≡ Err (of_order c.in_err-add.field-0.0) = search rules in
    let files = c.args.writer.now.file ∷ [] in
    went_to
    (went_on (went_none g.H.Host.meaning files c.args.cache.now c.args.host.now c.requires.in_step) (among_none files) c.body_at.ensures.ran (search rules))
    (among_all files) c.add.ensures.ran
    (λ faulted. c.in_err-add.was ∙ ap Err (order_fault c.in_err-add.field-0.0 (cc))) (λ error. search rules)

pub returns-clause-ran : goal.returns-clause-ran
returns-clause-ran g c =
    let files = c.args.writer.now.file ∷ [] in
    went_well
    (went_on
    (went_on (went_none g.H.Host.meaning files c.args.cache.now c.args.host.now c.requires.in_step) (among_none files) c.body_at.ensures.ran (search rules))
    (among_all files) c.add.ensures.ran (search rules))
    (λ faulted. absurd (cc))

pub returns-clause-copied : goal.returns-clause-copied
returns-clause-copied g c =
    copied_one g.H.Host.meaning resting_one c.args.from c.body_at.ensures.ran.writes c.in_ok-add.ensures.added
    (λ tells bodies holds k at.
    let same = same_body bodies c.args.index k c.in_ok-body.body at (c.in_ok-body.ensures.listed tells (without_kicks bodies) holds.bodies) in
    λ t. record { body = same t; kick = zero_vector })
