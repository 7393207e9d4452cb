use Rattle.nb_journal.proofs.Total.{every_file}
use Rattle.nb_journal.proofs.laws.law_every_file.Goals as goal

pub returns : goal.returns
returns c = λ file. every_file file
