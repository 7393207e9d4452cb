use Rattle.nb_host.proofs.Callers.{changes_every}
use Rattle.nb_host.proofs.laws.law_every_image.Goals as goal

pub returns : goal.returns
returns g c = λ files old new run. changes_every g.H.Host.meaning.includes_only_now run
