use Rattle.nb_model.proofs.Undone.{step_undone}
use Rattle.nb_model.proofs.laws.law_back.Goals as goal

pub returns : goal.returns
returns c = step_undone
