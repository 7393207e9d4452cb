use Rattle.nb_model.proofs.OpenBox.{open_box}
use Rattle.nb_model.proofs.laws.law_open_box.Goals as goal

pub returns : goal.returns
returns c = open_box
