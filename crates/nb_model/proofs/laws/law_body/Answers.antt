use Rattle.nb_model.proofs.Steps.{body_stays_valid}
use Rattle.nb_model.proofs.laws.law_body.Goals as goal

pub returns : goal.returns
returns c = body_stays_valid
