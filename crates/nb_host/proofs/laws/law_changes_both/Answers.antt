use Rattle.nb_host.proofs.Callers.{changes_both}
use Rattle.nb_host.proofs.laws.law_changes_both.Goals as goal

pub returns : goal.returns
returns g c = λ first second old middle new one two. changes_both one two
