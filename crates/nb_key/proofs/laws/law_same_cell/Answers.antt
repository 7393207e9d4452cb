use Rattle.nb_key.proofs.Ranges.{same_cell}
use Rattle.nb_key.proofs.laws.law_same_cell.Goals as goal

pub returns : goal.returns
returns c = same_cell
