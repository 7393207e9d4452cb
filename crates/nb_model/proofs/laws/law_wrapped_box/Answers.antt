use Rattle.nb_model.proofs.Wrapping.{is_nearest}
use Rattle.nb_model.proofs.Drifts.{is_wrapped_drift}
use Rattle.nb_model.proofs.laws.law_wrapped_box.Goals as goal

pub returns-clause-nearest : goal.returns-clause-nearest
returns-clause-nearest c = is_nearest

pub returns-clause-drift : goal.returns-clause-drift
returns-clause-drift c = is_wrapped_drift
