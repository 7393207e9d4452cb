use Rattle.nb_host.proofs.Callers.{changes_more}
use Rattle.nb_host.proofs.laws.law_changes_more.Goals as goal

pub returns : goal.returns
returns g c = λ fewer more old new within run. changes_more within run
