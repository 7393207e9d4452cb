use Rattle.std.proofs.Common.{◌≡◌, [], ◌∷◌, Err, sym, ap, ◌∙◌, rules}
use Rattle.nb_model.specs.Vector.{zero_vector}
use Rattle.nb_cache.specs.View.{seen}
use Rattle.nb_order.specs.declared.order_error.OrderError.TheVariants as order
use Rattle.nb_tick.specs.Errors.{of_order}
use Rattle.nb_tick.specs.Steps.{drifted_one}
use Rattle.nb_tick.proofs.Calls.{among_none, among_all, went_none, went_on, went_to, went_well}
use Rattle.nb_tick.proofs.Lists.{read_one}
use Rattle.nb_tick.proofs.Refusing.{order_fault, order_damaged}
use Rattle.nb_tick.proofs.Written.{copied_one, cant_read, cant_write}
use Rattle.nb_tick.proofs.drifting.drift_record.Goals as goal

pub returns-in_err-found-clause-damaged : goal.returns-in_err-found-clause-damaged
returns-in_err-found-clause-damaged g c = λ name is.
    let handed_on : c.from_residual.result ≡ Err (of_order c.in_err-found.field-0.0) = search rules in
    let error : c.kicked_at.result ≡ Err (order.Damaged name) = c.in_err-found.was ∙ ap Err (order_damaged c.in_err-found.field-0.0 name (cc)) in
    cant_read (c.kicked_at.ensures.damaged name error)

pub returns-in_err-found-clause-ran : goal.returns-in_err-found-clause-ran
returns-in_err-found-clause-ran g c =
    let handed_on : c.from_residual.result ≡ Err (of_order c.in_err-found.field-0.0) = search rules in
    let files = c.args.writer.now.file ∷ [] in
    went_to (went_none g.H.Host.meaning files c.args.cache.now c.args.host.now c.requires.in_step) (among_none files) c.kicked_at.ensures.ran
    (λ faulted. c.in_err-found.was ∙ ap Err (order_fault c.in_err-found.field-0.0 (cc))) (λ error. search rules)

pub returns-in_err-add-clause-damaged : goal.returns-in_err-add-clause-damaged
returns-in_err-add-clause-damaged g c = λ name is.
    let handed_on : c.from_residual-in_err-add.result ≡ Err (of_order c.in_err-add.field-0.0) = search rules in
    let error : c.add.result ≡ Err (order.Damaged name) = c.in_err-add.was ∙ ap Err (order_damaged c.in_err-add.field-0.0 name (cc)) in
    cant_write c.kicked_at.ensures.ran.writes (c.add.ensures.damaged name error)

pub returns-in_err-add-clause-ran : goal.returns-in_err-add-clause-ran
returns-in_err-add-clause-ran g c =
    let handed_on : c.from_residual-in_err-add.result ≡ Err (of_order c.in_err-add.field-0.0) = search rules in
    let files = c.args.writer.now.file ∷ [] in
    went_to
    (went_on (went_none g.H.Host.meaning files c.args.cache.now c.args.host.now c.requires.in_step) (among_none files) c.kicked_at.ensures.ran (search rules))
    (among_all files) c.add.ensures.ran
    (λ faulted. c.in_err-add.was ∙ ap Err (order_fault c.in_err-add.field-0.0 (cc))) (λ error. search rules)

pub returns-clause-ran : goal.returns-clause-ran
returns-clause-ran g c =
    let files = c.args.writer.now.file ∷ [] in
    went_well
    (went_on
    (went_on (went_none g.H.Host.meaning files c.args.cache.now c.args.host.now c.requires.in_step) (among_none files) c.kicked_at.ensures.ran (search rules))
    (among_all files) c.add.ensures.ran (search rules))
    (λ faulted. absurd (cc))

pub returns-clause-copied : goal.returns-clause-copied
returns-clause-copied g c =
    let found = c.in_ok-found.found in
    let made = drifted_one c.args.params.now c.args.way in
    copied_one g.H.Host.meaning made c.args.from c.kicked_at.ensures.ran.writes c.in_ok-add.ensures.added
    (λ tells bodies holds k at.
    let same = read_one (seen g.H.Host.meaning c.args.cache.now c.args.host.now c.args.from) bodies c.args.index found.body found.kick k holds
    (c.in_ok-found.ensures.read tells) at in
    ap made same ∙ (λ t. record { body = sym c.drifted_by-drifted.ensures.value t; kick = zero_vector }))
