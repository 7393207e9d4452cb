use Rattle.nb_key.proofs.Ranges.{in_range}
use Rattle.nb_key.proofs.laws.law_range.Goals as goal

pub returns : goal.returns
returns c = in_range
