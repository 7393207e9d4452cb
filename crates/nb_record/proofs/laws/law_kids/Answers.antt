use Rattle.nb_record.proofs.Kids.{kid_is, kids_of-lt, some_kid}
use Rattle.nb_record.proofs.laws.law_kids.Goals as goal

pub returns : goal.returns
returns c = record { bit = kid_is; range = kids_of-lt; some = some_kid }
