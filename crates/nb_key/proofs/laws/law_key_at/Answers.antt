use Rattle.nb_key.proofs.Paths.{key_is, octants_to-are, length-octants_to}
use Rattle.nb_key.proofs.laws.law_key_at.Goals as goal

pub returns : goal.returns
returns c = record { key = key_is; octants = octants_to-are; count = length-octants_to }
