use Rattle.std.proofs.Common.{◌≡◌, [], ◌∷◌, Err, refl, sym, ap, ◌∙◌, arith, rules}
use Rattle.std.proofs.lemmas.Result.{on_ok_weaker}
use Rattle.nb_tree.specs.declared.tree_error.TreeError.TheVariants as tree
use Rattle.nb_force.specs.declared.force_error.ForceError.TheVariants as force
use Rattle.nb_tick.specs.Errors.{of_tree, of_force}
use Rattle.nb_tick.specs.Slots.{drifted_file, cell_file}
use Rattle.nb_tick.specs.Writer.{WriterValue}
use Rattle.nb_tick.proofs.Calls.{among_of, went_none, went_on, went_to}
use Rattle.nb_tick.proofs.Refusing.{tree_fault, tree_damaged, force_fault, force_damaged}
use Rattle.nb_tick.proofs.TreeDrifts.{cant_build, cant_force, drifted_by_tree, cant_add}
use Rattle.nb_tick.proofs.drifting.drift_found.Goals as goal

pub returns-in_err-tree-clause-damaged : goal.returns-in_err-tree-clause-damaged
returns-in_err-tree-clause-damaged g c = λ name is.
    let handed_on : c.from_residual.result ≡ Err (of_tree c.in_err-tree.field-0.0) = search rules in
    let error : c.build.result ≡ Err (tree.Damaged name) =
    c.in_err-tree.was ∙ ap Err (tree_damaged c.in_err-tree.field-0.0 name (cc)) in
    cant_build (c.build.ensures.damaged name error)

pub returns-in_err-tree-clause-ran : goal.returns-in_err-tree-clause-ran
returns-in_err-tree-clause-ran g c =
    let handed_on : c.from_residual.result ≡ Err (of_tree c.in_err-tree.field-0.0) = search rules in
    let files = drifted_file ∷ cell_file ∷ [] in
    let begun = went_none g.H.Host.meaning files c.args.cache.now c.args.host.now c.requires.in_step in
    went_to begun (among_of files (1, omega arith, refl)) c.build.ensures.ran
    (λ faulted. c.in_err-tree.was ∙ ap Err (tree_fault c.in_err-tree.field-0.0 (cc))) (λ error. search rules)

pub returns-in_err-kicks-clause-damaged : goal.returns-in_err-kicks-clause-damaged
returns-in_err-kicks-clause-damaged g c = λ name is.
    let handed_on : c.from_residual-in_err-kicks.result ≡ Err (of_force c.in_err-kicks.field-0.0) = search rules in
    let error : c.kicks.result ≡ Err (force.Damaged name) =
    c.in_err-kicks.was ∙ ap Err (force_damaged c.in_err-kicks.field-0.0 name (cc)) in
    let none = c.kicks.ensures.damaged name error in
    cant_force
    (record {
      apart = c.requires.apart;
      few = c.requires.count;
      empty = c.requires.empty;
      builds = c.in_ok-tree.ensures.tree;
      range = c.in_ok-tree.ensures.range;
      writes = c.build.ensures.ran.writes;
      fresh = c.new.ensures;
    })
    none.file none.cause

pub returns-in_err-kicks-clause-ran : goal.returns-in_err-kicks-clause-ran
returns-in_err-kicks-clause-ran g c =
    let handed_on : c.from_residual-in_err-kicks.result ≡ Err (of_force c.in_err-kicks.field-0.0) = search rules in
    let files = drifted_file ∷ cell_file ∷ [] in
    let begun = went_none g.H.Host.meaning files c.args.cache.now c.args.host.now c.requires.in_step in
    let built = went_on begun (among_of files (1, omega arith, refl)) c.build.ensures.ran (search rules) in
    went_to built (among_of files (0, omega arith, sym (ap (λ (w : WriterValue). w.file) c.new.ensures))) c.kicks.ensures.ran
    (λ faulted. c.in_err-kicks.was ∙ ap Err (force_fault c.in_err-kicks.field-0.0 (cc))) (λ error. search rules)

pub returns-clause-drifted : goal.returns-clause-drifted
returns-clause-drifted g c =
    on_ok_weaker c.add_escaped.result
    (λ copied.
    drifted_by_tree
    (record {
      apart = c.requires.apart;
      few = c.requires.count;
      empty = c.requires.empty;
      builds = c.in_ok-tree.ensures.tree;
      range = c.in_ok-tree.ensures.range;
      writes = c.build.ensures.ran.writes;
      fresh = c.new.ensures;
    })
    (record {
      setting = c.in_ok-kicks.ensures.setting;
      file = c.in_ok-kicks.ensures.file;
      taken = c.in_ok-kicks.ensures.takes.taken;
      writes = c.kicks.ensures.ran.writes;
    })
    c.add_escaped.ensures.file copied)
    c.add_escaped.ensures.copied

pub returns-clause-damaged : goal.returns-clause-damaged
returns-clause-damaged g c = λ name is.
    cant_add
    (record {
      apart = c.requires.apart;
      few = c.requires.count;
      empty = c.requires.empty;
      builds = c.in_ok-tree.ensures.tree;
      range = c.in_ok-tree.ensures.range;
      writes = c.build.ensures.ran.writes;
      fresh = c.new.ensures;
    })
    (record {
      setting = c.in_ok-kicks.ensures.setting;
      file = c.in_ok-kicks.ensures.file;
      taken = c.in_ok-kicks.ensures.takes.taken;
      writes = c.kicks.ensures.ran.writes;
    })
    (c.add_escaped.ensures.damaged name is)

pub returns-clause-ran : goal.returns-clause-ran
returns-clause-ran g c =
    let files = drifted_file ∷ cell_file ∷ [] in
    let file = ap (λ (w : WriterValue). w.file) c.new.ensures in
    let begun = went_none g.H.Host.meaning files c.args.cache.now c.args.host.now c.requires.in_step in
    let built = went_on begun (among_of files (1, omega arith, refl)) c.build.ensures.ran (search rules) in
    let kicked = went_on built (among_of files (0, omega arith, sym file)) c.kicks.ensures.ran (search rules) in
    went_to kicked (among_of files (0, omega arith, sym (c.in_ok-kicks.ensures.file ∙ file))) c.add_escaped.ensures.ran
    (λ faulted. faulted) (λ error. error)
