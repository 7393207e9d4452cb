use Rattle.std.proofs.Common.{◌≡◌, ◌∷◌, [], ◌++◌, Err, sym, ap, subst, ◌∙◌, take, rules}
use Rattle.nb_cache.specs.View.{seen}
use Rattle.nb_tree.specs.declared.tree_error.TreeError.TheVariants.{Fault, Damaged}
use Rattle.nb_tree.specs.Passes.{HoldsCells, MayStand, Inserts, cell_closed, cells_closed}
use Rattle.nb_tree.proofs.Calls.{goes_none, goes_on, goes_ends, ran_in}
use Rattle.nb_tree.proofs.Inserting.{inserts_none, inserts_then, inserts_are, may_next, may_before, closed_more, same_itself, same_then}
use Rattle.nb_tree.proofs.maker.Maker.put_all.Goals as goal

pub loop-closed-init : goal.loop-closed-init
loop-closed-init g c = record {
  maker = c.requires.maker;
  same = same_itself c.args.self.now;
  goes = goes_none g.H.Host.meaning (c.args.self.now.table.file ∷ []) c.args.cache.now c.args.host.now c.requires.in_step;
  inserts = λ tells. inserts_none (seen g.H.Host.meaning c.args.cache.now c.args.host.now c.args.self.now.table.file) c.args.self.now;
}

pub returns-in_err-put-clause-never : goal.returns-in_err-put-clause-never
returns-in_err-put-clause-never g c = λ name is tells held holds may.
    let error : c.put.result ≡ Err (Damaged name) = search rules in
    let inv = c.loop-closed.invariant in
    let now = seen g.H.Host.meaning c.loop-closed.cache c.loop-closed.host in
    let before = cells_closed (take c.loop-closed.closed-index c.args.cells.now) in
    let next = may_next held c.args.cells.now c.loop-closed.closed-index c.closed-item.result c.loop-closed-test.true may in
    let cell_is = c.cell.ensures.value ∙ ap cell_closed c.closed-item.is in
    c.put.ensures.never name error tells (held ++ before)
    (subst (λ f. HoldsCells (now f) c.loop-closed.self (held ++ before)) (sym inv.same.file)
    (inv.inserts tells held holds (may_before held before _ next)))
    (subst (λ x. MayStand ((held ++ before) ++ x ∷ [])) (sym cell_is) next)

pub returns-in_err-put-clause-ran : goal.returns-in_err-put-clause-ran
returns-in_err-put-clause-ran g c =
    goes_ends c.loop-closed.invariant.goes (ran_in c.loop-closed.invariant.same.file c.put.ensures.ran)
    (λ faulted. let error : c.put.result ≡ Err Fault = search rules in error) (λ error. search rules)

pub loop-closed-preserved : goal.loop-closed-preserved
loop-closed-preserved g c =
    let inv = c.loop-closed.invariant in
    let now = seen g.H.Host.meaning c.loop-closed.cache c.loop-closed.host in
    let after = seen g.H.Host.meaning c.put.new.cache c.put.new.host in
    let cell_is = c.cell.ensures.value ∙ ap cell_closed c.closed-item.is in
    record {
      maker = c.put.ensures.maker;
      same = same_then inv.same c.put.ensures.same;
      goes = goes_on inv.goes (ran_in inv.same.file c.put.ensures.ran) (search rules);
      inserts = λ tells.
          inserts_are
          (ap (λ x. cells_closed (take c.loop-closed.closed-index c.args.cells.now) ++ x ∷ []) cell_is
          ∙ sym (closed_more c.args.cells.now c.loop-closed.closed-index c.closed-item.result c.loop-closed-test.true))
          (inserts_then (inv.inserts tells)
          (subst (λ f. Inserts (c.cell.result ∷ []) (now f) c.loop-closed.self (after f) c.put.new.self) inv.same.file
          (c.in_ok-put.ensures.inserts tells)));
    }
