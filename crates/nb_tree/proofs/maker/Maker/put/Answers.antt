use Rattle.std.proofs.Common.{◌≡◌, ◌∷◌, [], Err, refl, ap, ◌∙◌, rules}
use Rattle.nb_tree.specs.Errors.{of_cell}
use Rattle.nb_tree.proofs.Calls.{goes_none, goes_done}
use Rattle.nb_tree.proofs.Inserting.{inserted, may_lack}
use Rattle.nb_tree.proofs.Refusing.{cell_damaged}
use Rattle.nb_cell.specs.declared.cell_error.CellError.TheVariants as cell
use Rattle.nb_tree.proofs.maker.Maker.put.Goals as goal

pub returns-then-self-ge-MOST_CELLS-clause-ran : goal.returns-then-self-ge-MOST_CELLS-clause-ran
returns-then-self-ge-MOST_CELLS-clause-ran g c =
    goes_done (goes_none g.H.Host.meaning (c.args.self.now.table.file ∷ []) c.args.cache.now c.args.host.now c.requires.in_step)
    (λ faulted. absurd (cc))

pub returns-in_err-insert-clause-named : goal.returns-in_err-insert-clause-named
returns-in_err-insert-clause-named g c = λ name is.
    let handed_on : c.from_residual.result ≡ Err (of_cell c.in_err-insert.field-0.0) = search rules in
    let error : c.insert.result ≡ Err (cell.Damaged name) = c.in_err-insert.was ∙ ap Err (cell_damaged c.in_err-insert.field-0.0 name (cc)) in
    (c.insert.ensures.damaged name error).file

pub returns-in_err-insert-clause-never : goal.returns-in_err-insert-clause-never
returns-in_err-insert-clause-never g c = λ name is tells cells holds may.
    let handed_on : c.from_residual.result ≡ Err (of_cell c.in_err-insert.field-0.0) = search rules in
    let error : c.insert.result ≡ Err (cell.Damaged name) = c.in_err-insert.was ∙ ap Err (cell_damaged c.in_err-insert.field-0.0 name (cc)) in
    (c.insert.ensures.damaged name error).no_table tells cells holds.table (may_lack cells c.args.cell.now may)

pub returns-clause-inserts : goal.returns-clause-inserts
returns-clause-inserts g c = λ tells.
    inserted c.args.cell.now (c.in_ok-insert.ensures.inserted.told tells) refl
