use Rattle.nb_model.proofs.Roots.{is_integer_root}
use Rattle.nb_model.proofs.laws.law_integer_root.Goals as goal

pub returns : goal.returns
returns c = is_integer_root
