use Rattle.nb_model.proofs.Steps.{half_kick_below}
use Rattle.nb_model.proofs.laws.law_half_kick.Goals as goal

pub returns : goal.returns
returns c = λ params bodies b valid. half_kick_below params bodies valid.gm b
