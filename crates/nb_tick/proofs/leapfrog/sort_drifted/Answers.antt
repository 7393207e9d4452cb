use Rattle.std.proofs.Common.{◌≡◌, [], ◌∷◌, Err, refl, ap, ◌∙◌, arith, rules}
use Rattle.nb_cache.specs.View.{seen}
use Rattle.nb_order.specs.declared.order_error.OrderError.TheVariants as order
use Rattle.nb_tree.specs.declared.tree_error.TreeError.TheVariants as tree
use Rattle.nb_tick.specs.Errors.{of_order, of_tree}
use Rattle.nb_tick.specs.Slots.{drifted_file, sorted_file, cell_file}
use Rattle.nb_tick.proofs.Calls.{among_of, went_none, went_on, went_to, went_well}
use Rattle.nb_tick.proofs.Refusing.{order_fault, order_damaged, tree_fault, tree_damaged}
use Rattle.nb_tick.proofs.Sorting.{cant_reorder, cant_build, built_sorted}
use Rattle.nb_tick.proofs.leapfrog.sort_drifted.Goals as goal

pub returns-in_err-reorder-clause-damaged : goal.returns-in_err-reorder-clause-damaged
returns-in_err-reorder-clause-damaged g c = λ name is.
    let handed_on : c.from_residual.result ≡ Err (of_order c.in_err-reorder.field-0.0) = search rules in
    let error : c.reorder.result ≡ Err (order.Damaged name) = c.in_err-reorder.was ∙ ap Err (order_damaged c.in_err-reorder.field-0.0 name (cc)) in
    cant_reorder (c.reorder.ensures.damaged name error)

pub returns-in_err-reorder-clause-ran : goal.returns-in_err-reorder-clause-ran
returns-in_err-reorder-clause-ran g c =
    let handed_on : c.from_residual.result ≡ Err (of_order c.in_err-reorder.field-0.0) = search rules in
    let files = sorted_file ∷ cell_file ∷ [] in
    went_to (went_none g.H.Host.meaning files c.args.cache.now c.args.host.now c.requires.in_step) (among_of files (0, omega arith, refl)) c.reorder.ensures.ran
    (λ faulted. c.in_err-reorder.was ∙ ap Err (order_fault c.in_err-reorder.field-0.0 (cc))) (λ error. search rules)

pub returns-in_err-build-clause-damaged : goal.returns-in_err-build-clause-damaged
returns-in_err-build-clause-damaged g c = λ name is.
    let handed_on : c.from_residual-in_err-build.result ≡ Err (of_tree c.in_err-build.field-0.0) = search rules in
    let error : c.build.result ≡ Err (tree.Damaged name) = c.in_err-build.was ∙ ap Err (tree_damaged c.in_err-build.field-0.0 name (cc)) in
    cant_build c.in_ok-reorder.ensures.sorted (c.build.ensures.damaged name error)

pub returns-in_err-build-clause-ran : goal.returns-in_err-build-clause-ran
returns-in_err-build-clause-ran g c =
    let handed_on : c.from_residual-in_err-build.result ≡ Err (of_tree c.in_err-build.field-0.0) = search rules in
    let files = sorted_file ∷ cell_file ∷ [] in
    went_to
    (went_on (went_none g.H.Host.meaning files c.args.cache.now c.args.host.now c.requires.in_step) (among_of files (0, omega arith, refl)) c.reorder.ensures.ran (search rules))
    (among_of files (1, omega arith, refl)) c.build.ensures.ran
    (λ faulted. c.in_err-build.was ∙ ap Err (tree_fault c.in_err-build.field-0.0 (cc))) (λ error. search rules)

pub returns-clause-tree : goal.returns-clause-tree
returns-clause-tree g c = λ tells.
    built_sorted c.args.params.now c.args.count (seen g.H.Host.meaning c.args.cache.now c.args.host.now drifted_file)
    (seen g.H.Host.meaning c.reorder.new.cache c.reorder.new.host) (seen g.H.Host.meaning c.build.new.cache c.build.new.host)
    c.in_ok-build.field-0 (c.in_ok-reorder.ensures.sorted tells) (c.in_ok-build.ensures.tree tells)

pub returns-clause-ran : goal.returns-clause-ran
returns-clause-ran g c =
    let files = sorted_file ∷ cell_file ∷ [] in
    went_well
    (went_on
    (went_on (went_none g.H.Host.meaning files c.args.cache.now c.args.host.now c.requires.in_step) (among_of files (0, omega arith, refl)) c.reorder.ensures.ran (search rules))
    (among_of files (1, omega arith, refl)) c.build.ensures.ran (search rules))
    (λ faulted. absurd (cc))
