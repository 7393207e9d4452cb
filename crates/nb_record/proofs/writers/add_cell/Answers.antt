use Rattle.std.proofs.Common.{arith}
use Rattle.nb_record.specs.declared.sizes.TheConstants.{CELL_SIZE}
use Rattle.nb_record.specs.Records.{cell_bytes}
use Rattle.nb_record.specs.Pages.{page_number}
use Rattle.nb_record.specs.Writing.{with_record}
use Rattle.nb_record.proofs.Rows.{cell_room, cell_round}
use Rattle.nb_record.proofs.Adding.{numbered_cells, number_kept, cell_page_added, word_kept, count_more, cells_added, padded_added}
use Rattle.nb_record.proofs.writers.add_cell.Goals as goal

pub returns-clause-number : goal.returns-clause-number
returns-clause-number c =
    let room = cell_room c.args.cell.now c.args.into.now c.requires.size c.requires.room in
    rw (c.put_word.ensures, c.put_cell.ensures.bytes, c.word_at-count.ensures) (number_kept CELL_SIZE (cell_bytes c.args.cell.now) c.args.into.now room)

pub returns-clause-form : goal.returns-clause-form
returns-clause-form c =
    let room = cell_room c.args.cell.now c.args.into.now c.requires.size c.requires.room in
    let form = cell_page_added (cell_bytes c.args.cell.now) c.args.into.now room c.requires.room c.requires.form in
    rw (c.put_word.ensures, c.put_cell.ensures.bytes, c.word_at-count.ensures)
    (numbered_cells (page_number c.args.into.now) (with_record CELL_SIZE (cell_bytes c.args.cell.now) c.args.into.now) form)

pub returns-clause-next : goal.returns-clause-next
returns-clause-next c =
    let room = cell_room c.args.cell.now c.args.into.now c.requires.size c.requires.room in
    rw (c.put_word.ensures, c.put_cell.ensures.bytes, c.word_at-count.ensures) (word_kept CELL_SIZE (cell_bytes c.args.cell.now) c.args.into.now 16 room (omega arith) (omega arith))

pub returns-clause-count : goal.returns-clause-count
returns-clause-count c =
    let room = cell_room c.args.cell.now c.args.into.now c.requires.size c.requires.room in
    rw (c.put_word.ensures, c.put_cell.ensures.bytes, c.word_at-count.ensures) (count_more CELL_SIZE (cell_bytes c.args.cell.now) c.args.into.now room)

pub returns-clause-cells : goal.returns-clause-cells
returns-clause-cells c =
    let room = cell_room c.args.cell.now c.args.into.now c.requires.size c.requires.room in
    rw (c.put_word.ensures, c.put_cell.ensures.bytes, c.word_at-count.ensures) (cells_added (cell_bytes c.args.cell.now) c.args.into.now c.args.cell.now room (cell_round c.args.cell.now c.put_cell.ensures.fits))

pub returns-clause-padded : goal.returns-clause-padded
returns-clause-padded c =
    let room = cell_room c.args.cell.now c.args.into.now c.requires.size c.requires.room in
    λ padded. rw (c.put_word.ensures, c.put_cell.ensures.bytes, c.word_at-count.ensures) (padded_added CELL_SIZE (cell_bytes c.args.cell.now) c.args.into.now room padded)
