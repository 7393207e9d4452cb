use Rattle.nb_model.proofs.Cells.{force_by_cases}
use Rattle.nb_model.proofs.laws.law_force_on.Goals as goal

pub returns : goal.returns
returns c = force_by_cases
