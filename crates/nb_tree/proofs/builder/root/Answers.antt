use Rattle.std.proofs.Common.{◌≡◌, ◌++◌, ◌∷◌, [], Err, None, inl, inr, refl, sym, ap, subst, ◌∙◌, rules, append_assoc}
use Rattle.nb_cache.specs.View.{seen}
use Rattle.nb_record.specs.Cells.{first_body, in_cell}
use Rattle.nb_tree.specs.declared.tree_error.TreeError.TheVariants.{Fault, Damaged}
use Rattle.nb_tree.specs.declared.sums.Sums.{Sums}
use Rattle.nb_tree.specs.Passes.{LiesIn, HoldsCells, MayStand, Inserts, HasPassed, AreSums, put_below, kid, tree_cell}
use Rattle.nb_tree.proofs.Calls.{goes_none, goes_on, goes_ends, goes_done, ran_in}
use Rattle.nb_tree.proofs.Inserting.{inserts_none, inserts_then, inserts_are, may_front}
use Rattle.nb_tree.proofs.Roots.{is_some_other, lies_in_root, root_first, empty_front, empty_put, root_kid, root_all}
use Rattle.nb_tree.proofs.Sorted.{front_sorted}
use Rattle.nb_tree.proofs.Deepest.{next_of_lies}
use Rattle.nb_tree.proofs.builder.root.Goals as goal

pub returns-then-is_none-clause-passed : goal.returns-then-is_none-clause-passed
returns-then-is_none-clause-passed g c = λ tells params front leaf fronts at.
    let nothing : c.args.reader.now.ahead ≡ None = search rules in
    let empty = empty_front front c.args.reader.now at nothing c.requires.begins in (
      subst (λ l. AreSums c.none.result l) (sym empty)
          (subst (λ (s : Sums). AreSums s []) (sym c.none.ensures.value) (record { count = refl; mass = refl; x = refl; y = refl; z = refl })),
      inserts_are (sym (empty_put params front empty))
          (inserts_none (seen g.H.Host.meaning c.args.cache.now c.args.host.now c.args.maker.now.table.file) c.args.maker.now),
    )

pub returns-then-is_none-clause-ran : goal.returns-then-is_none-clause-ran
returns-then-is_none-clause-ran g c =
    goes_done (goes_none g.H.Host.meaning (c.args.maker.now.table.file ∷ []) c.args.cache.now c.args.host.now c.requires.in_step)
    (λ faulted. absurd (cc))

pub pass-requires-clause-lies : goal.pass-requires-clause-lies
pass-requires-clause-lies g c =
    subst (λ k. LiesIn 0 k c.args.reader.now) (sym c.root.ensures) (lies_in_root c.args.reader.now (is_some_other c.args.reader.now.ahead c.is_none.ensures c.if-is_none.false))

pub returns-in_err-closed-clause-damaged : goal.returns-in_err-closed-clause-damaged
returns-in_err-closed-clause-damaged g c = λ name is tells held.
    let error : c.pass.result ≡ Err (Damaged name) = search rules in
    elim (c.pass.ensures.damaged name error tells held) [
      | inl misplaced ↦ inl misplaced
      | inr never ↦ inr (λ params front cells leaf fronts at holds may.
          let key = c.root.ensures in
          let whole = subst MayStand (sym (append_assoc cells (put_below params front 21 1) (kid params front 0 1))) may in
          never params front cells leaf fronts at
          (subst (λ k. first_body front (in_cell 0 k front) ≡ c.args.reader.now.taken) (sym key) (root_first front (front_sorted fronts) ∙ sym c.requires.begins))
          holds
          (subst (λ k. MayStand (cells ++ put_below params front 21 k)) (sym key) (may_front (cells ++ put_below params front 21 1) (kid params front 0 1) whole)))
    ]

pub returns-in_err-put-clause-damaged : goal.returns-in_err-put-clause-damaged
returns-in_err-put-clause-damaged g c = λ name is tells held. inr (λ params front cells leaf fronts at holds may.
    let error : c.put.result ≡ Err (Damaged name) = search rules in
    let key = c.root.ensures in
    let middle = seen g.H.Host.meaning c.pass.new.cache c.pass.new.host in
    let passed = subst (λ k. HasPassed params front 21 k (seen g.H.Host.meaning c.args.cache.now c.args.host.now c.args.maker.now.table.file) c.args.maker.now
    (middle c.args.maker.now.table.file) c.pass.new.maker c.in_ok-closed.closed) key
    (c.in_ok-closed.ensures.passed tells params front leaf fronts at
    (subst (λ k. first_body front (in_cell 0 k front) ≡ c.args.reader.now.taken) (sym key) (root_first front (front_sorted fronts) ∙ sym c.requires.begins))) in
    let some = root_kid params front (front_sorted fronts) c.args.reader.now.taken (next_of_lies at (lies_in_root c.args.reader.now (is_some_other c.args.reader.now.ahead c.is_none.ensures c.if-is_none.false))) in
    let cell_is = c.cell.ensures.value ∙ passed.cell in
    let whole = subst MayStand (ap (λ l. cells ++ (put_below params front 21 1 ++ l)) some ∙ sym (append_assoc cells (put_below params front 21 1) (tree_cell params front 0 1 ∷ []))) may in
    c.put.ensures.never name error tells (cells ++ put_below params front 21 1)
    (subst (λ f. HoldsCells (middle f) c.pass.new.maker (cells ++ put_below params front 21 1)) (sym c.pass.ensures.same.file)
    (passed.inserts cells holds (may_front (cells ++ put_below params front 21 1) (tree_cell params front 0 1 ∷ []) whole)))
    (subst (λ x. MayStand ((cells ++ put_below params front 21 1) ++ x ∷ [])) (sym cell_is) whole))

pub returns-in_err-put-clause-ran : goal.returns-in_err-put-clause-ran
returns-in_err-put-clause-ran g c =
    goes_ends (goes_on (goes_none g.H.Host.meaning (c.args.maker.now.table.file ∷ []) c.args.cache.now c.args.host.now c.requires.in_step) c.pass.ensures.ran (search rules))
    (ran_in c.pass.ensures.same.file c.put.ensures.ran)
    (λ faulted. let error : c.put.result ≡ Err Fault = search rules in error) (λ error. search rules)

pub returns-clause-passed : goal.returns-clause-passed
returns-clause-passed g c = λ tells params front leaf fronts at.
    let key = c.root.ensures in
    let middle = seen g.H.Host.meaning c.pass.new.cache c.pass.new.host in
    let after = seen g.H.Host.meaning c.put.new.cache c.put.new.host in
    let passed = subst (λ k. HasPassed params front 21 k (seen g.H.Host.meaning c.args.cache.now c.args.host.now c.args.maker.now.table.file) c.args.maker.now
    (middle c.args.maker.now.table.file) c.pass.new.maker c.in_ok-closed.closed) key
    (c.in_ok-closed.ensures.passed tells params front leaf fronts at
    (subst (λ k. first_body front (in_cell 0 k front) ≡ c.args.reader.now.taken) (sym key) (root_first front (front_sorted fronts) ∙ sym c.requires.begins))) in
    let some = root_kid params front (front_sorted fronts) c.args.reader.now.taken (next_of_lies at (lies_in_root c.args.reader.now (is_some_other c.args.reader.now.ahead c.is_none.ensures c.if-is_none.false))) in
    let cell_is = c.cell.ensures.value ∙ passed.cell in (
      subst (AreSums c.in_ok-closed.closed.sums) (root_all front) passed.sums,
      inserts_are (ap (λ l. put_below params front 21 1 ++ l) (ap (λ x. x ∷ []) cell_is ∙ sym some))
          (inserts_then passed.inserts
          (subst (λ f. Inserts (c.cell.result ∷ []) (middle f) c.pass.new.maker (after f) c.put.new.self) c.pass.ensures.same.file (c.in_ok-put.ensures.inserts tells))),
    )

pub returns-clause-ran : goal.returns-clause-ran
returns-clause-ran g c =
    goes_done (goes_on (goes_on (goes_none g.H.Host.meaning (c.args.maker.now.table.file ∷ []) c.args.cache.now c.args.host.now c.requires.in_step) c.pass.ensures.ran (search rules))
    (ran_in c.pass.ensures.same.file c.put.ensures.ran) (search rules))
    (λ faulted. absurd (cc))
