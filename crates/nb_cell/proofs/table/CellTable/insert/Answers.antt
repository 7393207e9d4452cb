use Rattle.std.proofs.Common.{◌≡◌, Err, [], ◌∷◌, rules, arith}
use Rattle.std.proofs.lemmas.Result.{on_ok_weaker, IfErr-weaker}
use Rattle.nb_host.specs.declared.page_name.PageName.{PageName}
use Rattle.nb_cache.proofs.Callers.{no_file, may_write, ran_as, ran_then, ran_again, seen_stays}
use Rattle.nb_cell.specs.declared.cell_error.CellError.TheVariants.{Fault, Damaged}
use Rattle.nb_cell.proofs.Calls.{inserts_on_last, inserts_behind, keeps_all, keeps_found, keeps_behind, ends_damaged}
use Rattle.nb_cell.proofs.table.CellTable.insert.Goals as goal

-- ---- the last page wasn't found

pub returns-in_err-last-clause-damaged : goal.returns-in_err-last-clause-damaged
returns-in_err-last-clause-damaged g c = λ name is.
    let error : c.last_page.result ≡ Err (Damaged name) = search rules in
    c.last_page.ensures.damaged name error

pub returns-in_err-last-clause-ran : goal.returns-in_err-last-clause-ran
returns-in_err-last-clause-ran g c = record {
  writes = may_write (c.args.self.now.file ∷ []) c.last_page.ensures.ran.writes;
  rose = λ faulted. let error : c.last_page.result ≡ Err Fault = search rules in c.last_page.ensures.ran.rose error;
  spared = search rules;
}

-- ---- its copy isn't of the form

pub returns-in_err-count-clause-kept : goal.returns-in_err-count-clause-kept
returns-in_err-count-clause-kept g c =
    let handed_on : c.from_residual-in_err-count.result ≡ Err c.in_err-count.field-0.0 = search rules in
    rw handed_on (λ not_fault. keeps_found c.args.self.now c.last_page.ensures.ran.writes)

pub returns-in_err-count-clause-damaged : goal.returns-in_err-count-clause-damaged
returns-in_err-count-clause-damaged g c = λ name is.
    let handed_on : c.from_residual-in_err-count.result ≡ Err c.in_err-count.field-0.0 = search rules in
    let named : c.in_err-count.field-0.0 ≡ Damaged (record { file = c.args.self.now.file; page = c.in_ok-last.last }) =
    c.in_err-count.ensures.named in
    let here : PageName = record { file = c.args.self.now.file; page = c.in_ok-last.last } in
    let same : Damaged name ≡ Damaged here = cc in
    let shown : name ≡ here = cc in
    ends_damaged name c.last_page.ensures.ran.writes c.in_ok-last.ensures.ends shown c.in_err-count.ensures.damaged

pub returns-in_err-count-clause-unchanged : goal.returns-in_err-count-clause-unchanged
returns-in_err-count-clause-unchanged g c = λ name is.
    seen_stays c.args.self.now.file (no_file c.args.self.now.file) c.last_page.ensures.ran.writes

pub returns-in_err-count-clause-ran : goal.returns-in_err-count-clause-ran
returns-in_err-count-clause-ran g c = record {
  writes = may_write (c.args.self.now.file ∷ []) c.last_page.ensures.ran.writes;
  rose = λ faulted.
      let handed_on : c.from_residual-in_err-count.result ≡ Err c.in_err-count.field-0.0 = search rules in
      let named = c.in_err-count.ensures.named in
      absurd (cc);
  spared = search rules;
}

-- ---- the cell goes on the last page

pub returns-then-count-lt-CELLS_PER_PAGE-clause-inserted : goal.returns-then-count-lt-CELLS_PER_PAGE-clause-inserted
returns-then-count-lt-CELLS_PER_PAGE-clause-inserted g c =
    on_ok_weaker c.put_page.result
    (λ put.
    inserts_on_last c.args.self.now c.in_ok-last.last c.args.cell.now c.requires.cell c.copy_page.new.into c.add_cell.new.into
    c.last_page.ensures.ran.writes c.in_ok-last.ensures.ends c.in_ok-count.ensures.view
    (record {
      written = record {
        full = search rules;
        form = c.add_cell.ensures.form;
        number = c.add_cell.ensures.number;
        padded = c.add_cell.ensures.padded;
      };
      room = λ all. omega (arith, c.in_ok-count.ensures.count);
      next = c.add_cell.ensures.next;
      cells = c.add_cell.ensures.cells;
    })
    put)
    c.put_page.ensures.put

pub returns-then-count-lt-CELLS_PER_PAGE-clause-kept : goal.returns-then-count-lt-CELLS_PER_PAGE-clause-kept
returns-then-count-lt-CELLS_PER_PAGE-clause-kept g c =
    IfErr-weaker c.put_page.result _ _
    (λ error kept not_fault. keeps_all c.args.self.now c.last_page.ensures.ran.writes (kept not_fault))
    c.put_page.ensures.kept

pub returns-then-count-lt-CELLS_PER_PAGE-clause-ran : goal.returns-then-count-lt-CELLS_PER_PAGE-clause-ran
returns-then-count-lt-CELLS_PER_PAGE-clause-ran g c = ran_then c.last_page.ensures.ran (search rules) c.put_page.ensures.ran

-- ---- it goes on a page behind it

pub returns-in_err-add_page-clause-kept : goal.returns-in_err-add_page-clause-kept
returns-in_err-add_page-clause-kept g c =
    let handed_on : c.from_residual-in_err-add_page.result ≡ Err c.in_err-add_page.field-0.0 = search rules in
    rw handed_on
    (λ not_fault. keeps_all c.args.self.now c.last_page.ensures.ran.writes (c.in_err-add_page.ensures.kept not_fault))

pub returns-in_err-add_page-clause-ran : goal.returns-in_err-add_page-clause-ran
returns-in_err-add_page-clause-ran g c =
    ran_as (ran_then c.last_page.ensures.ran (search rules) c.add_page.ensures.ran)
    (λ faulted. let error : c.add_page.result ≡ Err Fault = search rules in error) (λ error. search rules)

pub returns-in_err-put_page-clause-kept : goal.returns-in_err-put_page-clause-kept
returns-in_err-put_page-clause-kept g c =
    let handed_on : c.from_residual-in_err-put_page.result ≡ Err c.in_err-put_page.field-0.0 = search rules in
    rw handed_on
    (λ not_fault.
    keeps_behind c.args.self.now c.last_page.ensures.ran.writes c.in_ok-add_page.ensures.added
    (c.in_err-put_page.ensures.kept not_fault))

pub returns-in_err-put_page-clause-ran : goal.returns-in_err-put_page-clause-ran
returns-in_err-put_page-clause-ran g c =
    ran_as
    (ran_again (ran_then c.last_page.ensures.ran (search rules) c.add_page.ensures.ran) (search rules) c.put_page-2.ensures.ran)
    (λ faulted. let error : c.put_page-2.result ≡ Err Fault = search rules in error) (λ error. search rules)

pub returns-clause-inserted : goal.returns-clause-inserted
returns-clause-inserted g c =
    inserts_behind c.args.self.now c.in_ok-last.last c.args.cell.now c.requires.cell c.copy_page.new.into c.set_next.new.into
    c.last_page.ensures.ran.writes c.in_ok-last.ensures.ends c.in_ok-count.ensures.view
    (record {
      written = record {
        full = search rules;
        form = c.set_next.ensures.form;
        number = c.set_next.ensures.number;
        padded = c.set_next.ensures.padded;
      };
      all = omega (arith, c.in_ok-count.ensures.count, c.in_ok-count.ensures.form);
      next = c.set_next.ensures.next;
      cells = c.set_next.ensures.cells;
    })
    c.in_ok-add_page.ensures.added c.in_ok-put_page.ensures.put

pub returns-clause-ran : goal.returns-clause-ran
returns-clause-ran g c =
    ran_as
    (ran_again (ran_then c.last_page.ensures.ran (search rules) c.add_page.ensures.ran) (search rules) c.put_page-2.ensures.ran)
    (λ faulted. absurd (cc)) (λ error. search rules)
