use Rattle.nb_host.proofs.Callers.{since_either, either_since}
use Rattle.nb_host.proofs.laws.law_images_of_both.Goals as goal

pub returns : goal.returns
returns g c = λ old middle new image first second honest. (
  since_either first second image honest,
  either_since g.H.Host.meaning.includes_earlier first second image honest,
)
