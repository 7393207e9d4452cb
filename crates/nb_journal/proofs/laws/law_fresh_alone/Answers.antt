use Rattle.nb_journal.proofs.Unique.{fresh_alone}
use Rattle.nb_journal.proofs.laws.law_fresh_alone.Goals as goal

pub returns : goal.returns
returns c = λ log offset file fresh either. fresh_alone log offset file fresh either
