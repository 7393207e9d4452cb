use Rattle.std.proofs.Common.{arith}
use Rattle.nb_record.specs.declared.sizes.TheConstants.{CELL_SIZE}
use Rattle.nb_record.specs.Writing.{empty_page}
use Rattle.nb_record.proofs.Adding.{numbered_cells, empty_cells, empty_count, empty_next, empty_says_no_cell, empty_padded}
use Rattle.nb_record.proofs.writers.begin_cell_page.Goals as goal

pub returns-clause-number : goal.returns-clause-number
returns-clause-number c = rw (c.put_word.ensures, c.clear.ensures) (empty_cells c.args.page (omega arith)).number

pub returns-clause-form : goal.returns-clause-form
returns-clause-form c = rw (c.put_word.ensures, c.clear.ensures) (numbered_cells c.args.page (empty_page c.args.page) (empty_cells c.args.page (omega arith)))

pub returns-clause-count : goal.returns-clause-count
returns-clause-count c = rw (c.put_word.ensures, c.clear.ensures) (empty_count c.args.page)

pub returns-clause-next : goal.returns-clause-next
returns-clause-next c = rw (c.put_word.ensures, c.clear.ensures) (empty_next c.args.page)

pub returns-clause-cells : goal.returns-clause-cells
returns-clause-cells c = rw (c.put_word.ensures, c.clear.ensures) (empty_says_no_cell c.args.page)

pub returns-clause-padded : goal.returns-clause-padded
returns-clause-padded c = rw (c.put_word.ensures, c.clear.ensures) (empty_padded CELL_SIZE c.args.page)
