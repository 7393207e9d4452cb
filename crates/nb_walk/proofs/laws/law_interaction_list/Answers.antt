use Rattle.nb_walk.proofs.Ways.{root_terms}
use Rattle.nb_walk.proofs.Pulling.{list_force}
use Rattle.nb_walk.proofs.laws.law_interaction_list.Goals as goal

pub returns : goal.returns
returns c = record { start = root_terms; force = λ params p bodies within box. list_force params p bodies within box }
