use Rattle.nb_journal.proofs.Unique.{one_journal}
use Rattle.nb_journal.proofs.laws.law_one_journal.Goals as goal

pub returns : goal.returns
returns c = λ a b file first second. one_journal a b file first second
