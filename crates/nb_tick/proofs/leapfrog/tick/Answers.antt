use Rattle.std.proofs.Common.{◌≡◌, ◌-◌, Err, refl, ap, ◌∙◌, rules}
use Rattle.nb_tick.specs.declared.tick_error.TickError.TheVariants.{Damaged}
use Rattle.nb_tick.specs.Errors.{of_cache}
use Rattle.nb_tick.specs.Slots.{slot_file, other_slot, tick_files}
use Rattle.nb_tick.proofs.Calls.{among_none, went_none, went_on, went_to, went_well}
use Rattle.nb_tick.proofs.OneTick.{no_drift, no_sort, no_kick, one_tick, any_tick}
use Rattle.nb_tick.proofs.Refusing.{cache_fault}
use Rattle.nb_tick.proofs.Ticking.{among_drift, among_sort, among_slot}
use Rattle.nb_tick.proofs.leapfrog.tick.Goals as goal

pub returns-in_err-drift_all-clause-damaged : goal.returns-in_err-drift_all-clause-damaged
returns-in_err-drift_all-clause-damaged g c = λ name is.
    let error : c.drift_all.result ≡ Err (Damaged name) = search rules in
    no_drift g.H.Host.meaning c.args.params.now c.args.way c.args.known c.args.from c.file.result c.args.count c.file.ensures c.args.cache.now c.args.host.now
    c.requires.unwritten c.requires.in_step (c.drift_all.ensures.damaged name error)

pub returns-in_err-drift_all-clause-ran : goal.returns-in_err-drift_all-clause-ran
returns-in_err-drift_all-clause-ran g c =
    let begun = went_none g.H.Host.meaning (tick_files c.args.from) c.args.cache.now c.args.host.now c.requires.in_step in
    went_to begun (among_drift c.args.from) c.drift_all.ensures.ran (λ faulted. search rules) (λ error. search rules)

pub returns-in_err-tree-clause-damaged : goal.returns-in_err-tree-clause-damaged
returns-in_err-tree-clause-damaged g c = λ name is.
    let error : c.sort_drifted.result ≡ Err (Damaged name) = search rules in
    no_sort g.H.Host.meaning c.args.params.now c.args.way c.args.known c.args.from c.file.result c.args.count c.file.ensures c.args.cache.now c.args.host.now
    c.requires.unwritten c.requires.in_step c.drift_all.new.cache c.drift_all.new.host c.in_ok-drift_all.ensures.drifted
    (c.sort_drifted.ensures.damaged name error)

pub returns-in_err-tree-clause-ran : goal.returns-in_err-tree-clause-ran
returns-in_err-tree-clause-ran g c =
    let begun = went_none g.H.Host.meaning (tick_files c.args.from) c.args.cache.now c.args.host.now c.requires.in_step in
    let drifted = went_on begun (among_drift c.args.from) c.drift_all.ensures.ran (search rules) in
    went_to drifted (among_sort c.args.from) c.sort_drifted.ensures.ran (λ faulted. search rules) (λ error. search rules)

pub returns-in_err-kick_all-clause-damaged : goal.returns-in_err-kick_all-clause-damaged
returns-in_err-kick_all-clause-damaged g c = λ name is.
    let error : c.kick_all.result ≡ Err (Damaged name) = search rules in
    let to_is : c.file-2.result ≡ slot_file (other_slot c.args.from) = c.file-2.ensures ∙ ap slot_file c.other.ensures in
    no_kick g.H.Host.meaning c.args.params.now c.args.way c.args.known c.args.from c.file.result c.args.count c.file.ensures c.args.cache.now c.args.host.now
    c.requires.unwritten c.requires.in_step c.drift_all.new.cache c.drift_all.new.host c.in_ok-drift_all.ensures.drifted
    c.sort_drifted.new.cache c.sort_drifted.new.host c.in_ok-tree.tree c.in_ok-tree.ensures.tree c.in_ok-tree.ensures.range c.file-2.result to_is (c.kick_all.ensures.damaged name error)

pub returns-in_err-kick_all-clause-ran : goal.returns-in_err-kick_all-clause-ran
returns-in_err-kick_all-clause-ran g c =
    let to_is : c.file-2.result ≡ slot_file (other_slot c.args.from) = c.file-2.ensures ∙ ap slot_file c.other.ensures in
    let begun = went_none g.H.Host.meaning (tick_files c.args.from) c.args.cache.now c.args.host.now c.requires.in_step in
    let drifted = went_on begun (among_drift c.args.from) c.drift_all.ensures.ran (search rules) in
    let sorted = went_on drifted (among_sort c.args.from) c.sort_drifted.ensures.ran (search rules) in
    went_to sorted (among_slot c.args.from c.file-2.result to_is) c.kick_all.ensures.ran (λ faulted. search rules) (λ error. search rules)

pub returns-in_err-flush-clause-ran : goal.returns-in_err-flush-clause-ran
returns-in_err-flush-clause-ran g c =
    let to_is : c.file-2.result ≡ slot_file (other_slot c.args.from) = c.file-2.ensures ∙ ap slot_file c.other.ensures in
    let handed_on : c.from_residual-in_err-flush.result ≡ Err (of_cache c.in_err-flush.field-0.0) = search rules in
    let begun = went_none g.H.Host.meaning (tick_files c.args.from) c.args.cache.now c.args.host.now c.requires.in_step in
    let drifted = went_on begun (among_drift c.args.from) c.drift_all.ensures.ran (search rules) in
    let sorted = went_on drifted (among_sort c.args.from) c.sort_drifted.ensures.ran (search rules) in
    let kicked = went_on sorted (among_slot c.args.from c.file-2.result to_is) c.kick_all.ensures.ran (search rules) in
    went_to kicked (among_none (tick_files c.args.from)) c.flush.ensures.ran
    (λ faulted. c.in_err-flush.was ∙ ap Err (cache_fault c.in_err-flush.field-0.0 (cc))) (λ error. search rules)

pub returns-clause-stepped : goal.returns-clause-stepped
returns-clause-stepped g c =
    let to_is : c.file-2.result ≡ slot_file (other_slot c.args.from) = c.file-2.ensures ∙ ap slot_file c.other.ensures in
    one_tick g.H.Host.meaning c.args.params.now c.args.way c.args.known c.args.from c.file.result c.args.count c.file.ensures c.args.cache.now c.args.host.now
    c.requires.unwritten c.requires.in_step c.drift_all.new.cache c.drift_all.new.host c.in_ok-drift_all.ensures.drifted
    c.sort_drifted.new.cache c.sort_drifted.new.host c.in_ok-tree.tree c.in_ok-tree.ensures.tree c.in_ok-tree.ensures.range c.file-2.result to_is
    c.kick_all.new.cache c.kick_all.new.host c.flush.new.host (c.args.count - c.in_ok-tree.tree.count) refl c.in_ok-kick_all.ensures.kicked c.kick_all.ensures.ran.writes c.in_ok-flush.ensures.written

pub returns-clause-valid : goal.returns-clause-valid
returns-clause-valid g c =
    let to_is : c.file-2.result ≡ slot_file (other_slot c.args.from) = c.file-2.ensures ∙ ap slot_file c.other.ensures in
    any_tick g.H.Host.meaning c.args.params.now c.args.way c.args.known c.args.from c.file.result c.args.count c.file.ensures c.args.cache.now c.args.host.now
    c.requires.unwritten c.requires.in_step c.drift_all.new.cache c.drift_all.new.host c.in_ok-drift_all.ensures.drifted
    c.sort_drifted.new.cache c.sort_drifted.new.host c.in_ok-tree.tree c.in_ok-tree.ensures.tree c.in_ok-tree.ensures.range c.file-2.result to_is
    c.kick_all.new.cache c.kick_all.new.host c.flush.new.host (c.args.count - c.in_ok-tree.tree.count) refl c.in_ok-kick_all.ensures.kicked c.in_ok-flush.ensures.written

pub returns-clause-ran : goal.returns-clause-ran
returns-clause-ran g c =
    let to_is : c.file-2.result ≡ slot_file (other_slot c.args.from) = c.file-2.ensures ∙ ap slot_file c.other.ensures in
    let begun = went_none g.H.Host.meaning (tick_files c.args.from) c.args.cache.now c.args.host.now c.requires.in_step in
    let drifted = went_on begun (among_drift c.args.from) c.drift_all.ensures.ran (search rules) in
    let sorted = went_on drifted (among_sort c.args.from) c.sort_drifted.ensures.ran (search rules) in
    let kicked = went_on sorted (among_slot c.args.from c.file-2.result to_is) c.kick_all.ensures.ran (search rules) in
    went_well (went_on kicked (among_none (tick_files c.args.from)) c.flush.ensures.ran (search rules)) (λ faulted. absurd (cc))
