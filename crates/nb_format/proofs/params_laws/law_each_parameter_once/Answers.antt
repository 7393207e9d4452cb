use Rattle.nb_format.proofs.ParamsOnce.{settings_of-accepted, edges_of-accepted}
use Rattle.nb_format.proofs.params_laws.law_each_parameter_once.Goals as goal

pub returns-clause-numbers : goal.returns-clause-numbers
returns-clause-numbers c = λ text params read which below. settings_of-accepted text params read which below

pub returns-clause-edge : goal.returns-clause-edge
returns-clause-edge c = λ text params read. edges_of-accepted text params read
