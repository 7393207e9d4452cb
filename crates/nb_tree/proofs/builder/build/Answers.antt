use Rattle.std.proofs.Common.{◌≡◌, ◌*◌, ◌≤◌, ◌++◌, ◌∷◌, [], Err, inl, inr, sym, ap, subst, ◌∙◌, rules}
use Rattle.nb_model.specs.Leapfrog.{unescaped}
use Rattle.nb_cache.specs.View.{seen}
use Rattle.nb_cache.proofs.Callers.{no_file, other_file}
use Rattle.nb_record.specs.Order.{by_key, sorted_by}
use Rattle.nb_record.proofs.Callers.{length-sorted_by}
use Rattle.nb_tree.specs.declared.tree_error.TreeError.TheVariants.{Fault, Damaged}
use Rattle.nb_tree.specs.Refusals.{IsMisplaced}
use Rattle.nb_tree.specs.Passes.{HoldsCells, put_below, kid}
use Rattle.nb_model.specs.Limits.{gm_limit}
use Rattle.nb_host.specs.declared.page_name.PageName.{PageName}
use Rattle.nb_record.specs.Tree.{IsBitsFor}
use Rattle.nb_cell.specs.declared.table.CellTable.{CellTable}
use Rattle.nb_order.specs.Files.{page_of_body}
use Rattle.nb_tree.proofs.Calls.{goes_none, goes_on, goes_read, goes_ends, goes_ends_read, goes_done, ran_in}
use Rattle.nb_tree.proofs.Moves.{same_file}
use Rattle.nb_tree.proofs.Tops.{front_of_list, no_tree}
use Rattle.nb_tree.proofs.Finishing.{is_built, first_maker, is_begun, front_there, may_all, misplaced}
use Rattle.nb_tree.proofs.builder.build.Goals as goal

pub returns-in_err-reader-clause-damaged : goal.returns-in_err-reader-clause-damaged
returns-in_err-reader-clause-damaged g c = λ name is.
    let error : c.begin.result ≡ Err (Damaged name) = search rules in
    let made = goes_on (goes_none g.H.Host.meaning (c.args.cells ∷ []) c.args.cache.now c.args.host.now c.requires.in_step) c.make.ensures.ran (search rules) in
    no_tree g.H.Host.meaning c.args.params.now c.args.cache.now c.args.host.now c.args.bodies c.args.cells c.args.count name
    (inl (c.begin.ensures.named name error))
    (λ tells. inl (subst (λ l. IsMisplaced c.args.bodies c.args.count l name) (same_file c.args.bodies made (other_file c.requires.apart) tells)
    (c.begin.ensures.damaged name error tells)))

pub returns-in_err-reader-clause-ran : goal.returns-in_err-reader-clause-ran
returns-in_err-reader-clause-ran g c =
    goes_ends_read (goes_on (goes_none g.H.Host.meaning (c.args.cells ∷ []) c.args.cache.now c.args.host.now c.requires.in_step) c.make.ensures.ran (search rules))
    c.begin.ensures.ran
    (λ faulted. let error : c.begin.result ≡ Err Fault = search rules in error) (λ error. search rules)

pub root-requires-clause-maker : goal.root-requires-clause-maker
root-requires-clause-maker g c =
    first_maker c.in_ok-table.table c.args.cells c.bits_for.result c.args.params.now.leaf c.in_ok-table.ensures.value c.bits_for.ensures.most c.requires.cells

pub returns-in_err-sums-clause-damaged : goal.returns-in_err-sums-clause-damaged
returns-in_err-sums-clause-damaged g c = λ name is.
    let error : c.root.result ≡ Err (Damaged name) = search rules in
    let m = g.H.Host.meaning in
    let made = goes_on (goes_none m (c.args.cells ∷ []) c.args.cache.now c.args.host.now c.requires.in_step) c.make.ensures.ran (search rules) in
    let read = goes_read (goes_none m [] c.make.new.cache c.make.new.host made.writes.in_step) c.begin.ensures.ran (search rules) in
    let fields = c.in_ok-reader.ensures.fields in
    let cells_is : c.in_ok-table.table.file ≡ c.args.cells = ap (λ (t : CellTable). t.file) c.in_ok-table.ensures.value in
    no_tree m c.args.params.now c.args.cache.now c.args.host.now c.args.bodies c.args.cells c.args.count name
    (elim (c.root.ensures.named name error) [ inl first ↦ inl (first ∙ fields.0) | inr second ↦ inr (second ∙ cells_is) ])
    (λ tells.
    let begun = is_begun c.args.params.now c.args.bodies c.args.cells c.args.count c.bits_for.result
    (seen m c.args.cache.now c.args.host.now) (seen m c.make.new.cache c.make.new.host) (seen m c.begin.new.cache c.begin.new.host)
    c.in_ok-reader.reader c.in_ok-table.table fields.0 fields.1 (same_file c.args.bodies made (other_file c.requires.apart) tells)
    (λ file. same_file file read (no_file file) tells) (c.in_ok-reader.ensures.held tells) (c.in_ok-reader.ensures.at tells)
    c.in_ok-table.ensures.value (c.in_ok-table.ensures.table tells) (c.in_ok-table.ensures.padded tells) in
    inl (misplaced begun c.requires.count (c.root.ensures.damaged name error tells begun.held)))

pub returns-in_err-sums-clause-ran : goal.returns-in_err-sums-clause-ran
returns-in_err-sums-clause-ran g c =
    let cells_is : c.in_ok-table.table.file ≡ c.args.cells = ap (λ (t : CellTable). t.file) c.in_ok-table.ensures.value in
    goes_ends
    (goes_read (goes_on (goes_none g.H.Host.meaning (c.args.cells ∷ []) c.args.cache.now c.args.host.now c.requires.in_step) c.make.ensures.ran (search rules))
    c.begin.ensures.ran (search rules))
    (ran_in cells_is c.root.ensures.ran)
    (λ faulted. let error : c.root.result ≡ Err Fault = search rules in error) (λ error. search rules)

pub returns-then-from-clause-damaged : goal.returns-then-from-clause-damaged
returns-then-from-clause-damaged g c = λ name is.
    let m = g.H.Host.meaning in
    let made = goes_on (goes_none m (c.args.cells ∷ []) c.args.cache.now c.args.host.now c.requires.in_step) c.make.ensures.ran (search rules) in
    let read = goes_read (goes_none m [] c.make.new.cache c.make.new.host made.writes.in_step) c.begin.ensures.ran (search rules) in
    let fields = c.in_ok-reader.ensures.fields in
    let same : c.page_name.result ≡ name = cc in
    let page : name ≡ page_of_body c.args.bodies 0 = sym same ∙ c.page_name.ensures.value in
    no_tree m c.args.params.now c.args.cache.now c.args.host.now c.args.bodies c.args.cells c.args.count name
    (inl (ap (λ (n : PageName). n.file) page))
    (λ tells.
    let begun = is_begun c.args.params.now c.args.bodies c.args.cells c.args.count c.bits_for.result
    (seen m c.args.cache.now c.args.host.now) (seen m c.make.new.cache c.make.new.host) (seen m c.begin.new.cache c.begin.new.host)
    c.in_ok-reader.reader c.in_ok-table.table fields.0 fields.1 (same_file c.args.bodies made (other_file c.requires.apart) tells)
    (λ file. same_file file read (no_file file) tells) (c.in_ok-reader.ensures.held tells) (c.in_ok-reader.ensures.at tells)
    c.in_ok-table.ensures.value (c.in_ok-table.ensures.table tells) (c.in_ok-table.ensures.padded tells) in
    inr (record {
      page = page;
      heavy = λ front fronts.
          let sums = (c.in_ok-sums.ensures.passed tells c.args.params.now front begun.leaf (front_there begun fronts) (begun.at front fronts)).0 in
          subst (λ n. gm_limit ≤ c.args.params.now.grav * n) sums.mass (search rules);
    }))

pub returns-then-from-clause-ran : goal.returns-then-from-clause-ran
returns-then-from-clause-ran g c =
    let cells_is : c.in_ok-table.table.file ≡ c.args.cells = ap (λ (t : CellTable). t.file) c.in_ok-table.ensures.value in
    goes_done
    (goes_on
    (goes_read (goes_on (goes_none g.H.Host.meaning (c.args.cells ∷ []) c.args.cache.now c.args.host.now c.requires.in_step) c.make.ensures.ran (search rules))
    c.begin.ensures.ran (search rules))
    (ran_in cells_is c.root.ensures.ran) (search rules))
    (λ faulted. absurd (cc))

pub returns-clause-tree : goal.returns-clause-tree
returns-clause-tree g c = λ tells list holds sorted long.
    let m = g.H.Host.meaning in
    let made = goes_on (goes_none m (c.args.cells ∷ []) c.args.cache.now c.args.host.now c.requires.in_step) c.make.ensures.ran (search rules) in
    let read = goes_read (goes_none m [] c.make.new.cache c.make.new.host made.writes.in_step) c.begin.ensures.ran (search rules) in
    let fields = c.in_ok-reader.ensures.fields in
    let before = seen m c.args.cache.now c.args.host.now in
    let after = seen m c.root.new.cache c.root.new.host in
    let begun = is_begun c.args.params.now c.args.bodies c.args.cells c.args.count c.bits_for.result
    before (seen m c.make.new.cache c.make.new.host) (seen m c.begin.new.cache c.begin.new.host)
    c.in_ok-reader.reader c.in_ok-table.table fields.0 fields.1 (same_file c.args.bodies made (other_file c.requires.apart) tells)
    (λ file. same_file file read (no_file file) tells) (c.in_ok-reader.ensures.held tells) (c.in_ok-reader.ensures.at tells)
    c.in_ok-table.ensures.value (c.in_ok-table.ensures.table tells) (c.in_ok-table.ensures.padded tells) in
    let cells_is : c.in_ok-table.table.file ≡ c.args.cells = ap (λ (t : CellTable). t.file) c.in_ok-table.ensures.value in
    let all = goes_on (goes_read made c.begin.ensures.ran (search rules)) (ran_in cells_is c.root.ensures.ran) (search rules) in
    let sorted_list = sorted_by by_key list in
    let front = unescaped sorted_list in
    let fronts = front_of_list (before c.args.bodies) sorted_list holds sorted c.args.count (length-sorted_by by_key list ∙ long) in
    let passed = c.in_ok-sums.ensures.passed tells c.args.params.now front begun.leaf (front_there begun fronts) (begun.at front fronts) in
    let has = passed.1 [] begun.holds (may_all begun c.requires.count fronts) in
    let bits_is : c.in_ok-table.table.bits ≡ c.bits_for.result = ap (λ (t : CellTable). t.bits) c.in_ok-table.ensures.value in
    is_built c.args.params.now before after c.args.bodies c.args.cells c.args.count c.root.new.maker c.in_ok-sums.sums list holds sorted long
    (same_file c.args.bodies all (other_file c.requires.apart) tells)
    (subst (λ n. IsBitsFor n c.args.count) (sym (c.root.ensures.same.bits ∙ bits_is)) c.bits_for.ensures.bits)
    passed.0 (subst (λ f. HoldsCells (after f) c.root.new.maker (put_below c.args.params.now front 21 1 ++ kid c.args.params.now front 0 1)) cells_is has)

pub returns-clause-ran : goal.returns-clause-ran
returns-clause-ran g c =
    let cells_is : c.in_ok-table.table.file ≡ c.args.cells = ap (λ (t : CellTable). t.file) c.in_ok-table.ensures.value in
    goes_done
    (goes_on
    (goes_read (goes_on (goes_none g.H.Host.meaning (c.args.cells ∷ []) c.args.cache.now c.args.host.now c.requires.in_step) c.make.ensures.ran (search rules))
    c.begin.ensures.ran (search rules))
    (ran_in cells_is c.root.ensures.ran) (search rules))
    (λ faulted. absurd (cc))
