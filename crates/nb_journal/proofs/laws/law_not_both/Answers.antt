use Rattle.nb_journal.proofs.Unique.{not_both}
use Rattle.nb_journal.proofs.laws.law_not_both.Goals as goal

pub returns : goal.returns
returns c = λ log offset file journal damaged. not_both log offset file journal damaged
