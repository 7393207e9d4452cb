use Rattle.nb_format.proofs.CanonicalParams.{params_of-canonical, params_of-without_edge}
use Rattle.nb_format.proofs.params_laws.law_canonical_params.Goals as goal

pub returns-clause-seven : goal.returns-clause-seven
returns-clause-seven c = λ params are. params_of-canonical params are

pub returns-clause-six : goal.returns-clause-six
returns-clause-six c = λ params are. params_of-without_edge params are
