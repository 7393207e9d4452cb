use Rattle.nb_journal.proofs.Found.{counters-with_entry}
use Rattle.nb_journal.proofs.laws.law_counters.Goals as goal

pub returns : goal.returns
returns c = λ log entry. counters-with_entry log entry
