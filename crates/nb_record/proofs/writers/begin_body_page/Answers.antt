use Rattle.std.proofs.Common.{arith}
use Rattle.nb_record.specs.declared.sizes.TheConstants.{BODY_SIZE}
use Rattle.nb_record.specs.Writing.{empty_page}
use Rattle.nb_record.proofs.Adding.{numbered_bodies, empty_bodies, empty_count, empty_says_no_body, empty_padded}
use Rattle.nb_record.proofs.writers.begin_body_page.Goals as goal

pub returns-clause-number : goal.returns-clause-number
returns-clause-number c = rw (c.put_word.ensures, c.clear.ensures) (empty_bodies c.args.page (omega arith)).number

pub returns-clause-form : goal.returns-clause-form
returns-clause-form c = rw (c.put_word.ensures, c.clear.ensures) (numbered_bodies c.args.page (empty_page c.args.page) (empty_bodies c.args.page (omega arith)))

pub returns-clause-count : goal.returns-clause-count
returns-clause-count c = rw (c.put_word.ensures, c.clear.ensures) (empty_count c.args.page)

pub returns-clause-bodies : goal.returns-clause-bodies
returns-clause-bodies c = rw (c.put_word.ensures, c.clear.ensures) (empty_says_no_body c.args.page)

pub returns-clause-padded : goal.returns-clause-padded
returns-clause-padded c = rw (c.put_word.ensures, c.clear.ensures) (empty_padded BODY_SIZE c.args.page)
