use Rattle.nb_journal.proofs.Unique.{one_damage}
use Rattle.nb_journal.proofs.laws.law_one_damage.Goals as goal

pub returns : goal.returns
returns c = λ a b file first second. one_damage a b file first second
