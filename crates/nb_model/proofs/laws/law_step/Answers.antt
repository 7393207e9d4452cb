use Rattle.nb_model.proofs.Steps.{step_valid}
use Rattle.nb_model.proofs.laws.law_step.Goals as goal

pub returns : goal.returns
returns c = step_valid
