use Rattle.std.proofs.Common.{arith}
use Rattle.nb_record.specs.Pages.{page_number}
use Rattle.nb_record.proofs.Adding.{with_next, numbered_cells, next_form, next_is, next_count, next_cells, next_padded}
use Rattle.nb_record.proofs.writers.set_next.Goals as goal

pub returns-clause-number : goal.returns-clause-number
returns-clause-number c = rw c.put_word.ensures (next_form c.args.page c.args.into.now c.requires.size (omega arith) c.requires.later c.requires.form).number

pub returns-clause-form : goal.returns-clause-form
returns-clause-form c =
    let form = next_form c.args.page c.args.into.now c.requires.size (omega arith) c.requires.later c.requires.form in
    rw c.put_word.ensures (numbered_cells (page_number c.args.into.now) (with_next c.args.page c.args.into.now) form)

pub returns-clause-next : goal.returns-clause-next
returns-clause-next c = rw c.put_word.ensures (next_is c.args.page c.args.into.now c.requires.size (omega arith))

pub returns-clause-count : goal.returns-clause-count
returns-clause-count c = rw c.put_word.ensures (next_count c.args.page c.args.into.now c.requires.size)

pub returns-clause-cells : goal.returns-clause-cells
returns-clause-cells c = rw c.put_word.ensures (next_cells c.args.page c.args.into.now c.requires.size)

pub returns-clause-padded : goal.returns-clause-padded
returns-clause-padded c = λ padded. rw c.put_word.ensures (next_padded c.args.page c.args.into.now c.requires.size padded)
