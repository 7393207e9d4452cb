use Rattle.nb_model.proofs.Facts.{is_integer_root}
use Rattle.nb_fixed.proofs.square_root.root.Goals as goal

pub returns-then-q-eq0-clause-root : goal.returns-then-q-eq0-clause-root
returns-then-q-eq0-clause-root c = rw c.root_of_word.ensures (is_integer_root c.args.q)

pub returns-else-q-eq0-clause-root : goal.returns-else-q-eq0-clause-root
returns-else-q-eq0-clause-root c = rw c.root_of_wide.ensures (is_integer_root c.args.q)
