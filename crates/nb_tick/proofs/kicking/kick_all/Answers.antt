use Rattle.std.proofs.Common.{◌≡◌, [], ◌∷◌, Err, ap, ◌∙◌, rules}
use Rattle.std.proofs.lemmas.Result.{on_ok_weaker}
use Rattle.nb_force.specs.declared.force_error.ForceError.TheVariants as force
use Rattle.nb_tick.specs.Errors.{of_force}
use Rattle.nb_tick.specs.Writer.{WriterValue}
use Rattle.nb_tick.proofs.Calls.{among_all, among_one, went_none, went_on, went_to}
use Rattle.nb_tick.proofs.Refusing.{force_fault, force_damaged}
use Rattle.nb_tick.proofs.SecondHalf.{cant_hand_over, all_kicked, cant_add_escaped}
use Rattle.nb_tick.proofs.kicking.kick_all.Goals as goal

pub returns-in_err-kicks-clause-damaged : goal.returns-in_err-kicks-clause-damaged
returns-in_err-kicks-clause-damaged g c = λ name is.
    let handed_on : c.from_residual-in_err-kicks.result ≡ Err (of_force c.in_err-kicks.field-0.0) = search rules in
    let error : c.kicks.result ≡ Err (force.Damaged name) =
    c.in_err-kicks.was ∙ ap Err (force_damaged c.in_err-kicks.field-0.0 name (cc)) in
    cant_hand_over g.H.Host.meaning c.args.params.now c.args.tree.now c.args.to c.args.count c.args.way
    c.args.cache.now c.empty.new.self c.args.host.now c.empty.new.host c.empty.ensures.ran.writes c.in_ok-empty.ensures.view
    c.requires.apart c.new.result c.new.ensures
    c.requires.count (c.kicks.ensures.damaged name error).file (c.kicks.ensures.damaged name error).cause

pub returns-in_err-kicks-clause-ran : goal.returns-in_err-kicks-clause-ran
returns-in_err-kicks-clause-ran g c =
    let handed_on : c.from_residual-in_err-kicks.result ≡ Err (of_force c.in_err-kicks.field-0.0) = search rules in
    let files = c.args.to ∷ [] in
    went_to
    (went_on (went_none g.H.Host.meaning files c.args.cache.now c.args.host.now c.requires.in_step) (among_all files)
    c.empty.ensures.ran (search rules))
    (among_one (ap (λ (w : WriterValue). w.file) c.new.ensures)) c.kicks.ensures.ran
    (λ faulted. c.in_err-kicks.was ∙ ap Err (force_fault c.in_err-kicks.field-0.0 (cc))) (λ error. search rules)

pub returns-clause-kicked : goal.returns-clause-kicked
returns-clause-kicked g c =
    on_ok_weaker c.add_escaped.result
    (λ copied.
    all_kicked g.H.Host.meaning c.args.params.now c.args.tree.now c.args.to c.args.count c.args.way
    c.args.cache.now c.empty.new.self c.args.host.now c.empty.new.host c.empty.ensures.ran.writes c.in_ok-empty.ensures.view
    c.requires.apart c.new.result c.new.ensures
    c.kicks.new.cache c.kicks.new.host c.kicks.new.receiver.writer c.kicks.new.receiver.way c.kicks.ensures.ran.writes
    c.in_ok-kicks.ensures.takes.taken c.in_ok-kicks.ensures.file c.in_ok-kicks.ensures.setting
    c.add_escaped.new.cache c.add_escaped.new.host c.add_escaped.new.writer c.add_escaped.ensures.file copied)
    c.add_escaped.ensures.copied

pub returns-clause-damaged : goal.returns-clause-damaged
returns-clause-damaged g c = λ name is.
    cant_add_escaped g.H.Host.meaning c.args.params.now c.args.tree.now c.args.to c.args.count c.args.way
    c.args.cache.now c.empty.new.self c.args.host.now c.empty.new.host c.empty.ensures.ran.writes c.in_ok-empty.ensures.view
    c.requires.apart c.new.result c.new.ensures
    c.kicks.new.cache c.kicks.new.host c.kicks.new.receiver.writer c.kicks.new.receiver.way c.kicks.ensures.ran.writes
    c.in_ok-kicks.ensures.takes.taken c.in_ok-kicks.ensures.file c.in_ok-kicks.ensures.setting
    c.requires.most c.requires.count (c.add_escaped.ensures.damaged name is)

pub returns-clause-ran : goal.returns-clause-ran
returns-clause-ran g c =
    let files = c.args.to ∷ [] in
    let begun = ap (λ (w : WriterValue). w.file) c.new.ensures in
    went_to
    (went_on
    (went_on (went_none g.H.Host.meaning files c.args.cache.now c.args.host.now c.requires.in_step) (among_all files)
    c.empty.ensures.ran (search rules))
    (among_one begun) c.kicks.ensures.ran (search rules))
    (among_one (c.in_ok-kicks.ensures.file ∙ begun)) c.add_escaped.ensures.ran (λ faulted. faulted) (λ error. error)
