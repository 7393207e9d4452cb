use Rattle.std.proofs.Common.{◌≡◌, ◌^◌, Ok, Err, rules, arith, subst}
use Rattle.std.specs.Prelude.{Result, IsOk, OnOk}
use Rattle.nb_cache.specs.View.{seen}
use Rattle.nb_host.specs.declared.host.HostError.TheVariants as host
use Rattle.nb_record.specs.Pages.{IsCellPage}
use Rattle.nb_cell.proofs.Calls.{makes_none, makes_next, makes_ran}
use Rattle.nb_cell.proofs.EmptyPages.{HasEmptyPages, empty_table}
use Rattle.nb_cell.proofs.table.CellTable.make.Goals as goal

-- what a call leaves where it is done
once_done : {T E P : Type 0} (outcome : Result T E) → IsOk outcome → OnOk outcome P → P
once_done (Ok value) done then = then
once_done (Err error) done then = cc

pub loop-page-init : goal.loop-page-init
loop-page-init g c =
    makes_none c.args.file (once_done c.empty.result c.in_ok-of_host.ensures.done c.empty.ensures.view) c.empty.ensures.ran
    c.in_ok-of_host.ensures.done

pub returns-in_err-of_host-2-clause-ran : goal.returns-in_err-of_host-2-clause-ran
returns-in_err-of_host-2-clause-ran g c =
    makes_ran c.loop-page.invariant c.put.ensures.ran
    (λ faulted. let error : c.of_host-in-loop-page.result ≡ Err host.Fault = search rules in c.of_host-in-loop-page.ensures.fault error)
    (λ error. search rules)

pub loop-page-preserved : goal.loop-page-preserved
loop-page-preserved g c =
    let begun = c.begin_cell_page.ensures in
    makes_next {bytes = c.begin_cell_page.new.into} c.loop-page.invariant
    (record {
      form = subst (λ n. IsCellPage n c.begin_cell_page.new.into) begun.number begun.form;
      next = begun.next;
      cells = begun.cells;
      padded = begun.padded;
    })
    (search rules) (once_done c.put.result c.in_ok-of_host-2.ensures.done c.put.ensures.view) c.put.ensures.ran c.in_ok-of_host-2.ensures.done

pub returns-clause-table : goal.returns-clause-table
returns-clause-table g c = λ tells.
    let all : c.loop-page.page ≡ 2 ^ c.args.bits = omega arith in
    let file = seen g.H.Host.meaning c.loop-page.cache c.loop-page.host c.args.file in
    empty_table file c.args.bits (subst (HasEmptyPages file) all (c.loop-page.invariant.pages tells))
