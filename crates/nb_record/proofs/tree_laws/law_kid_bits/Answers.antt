use Rattle.nb_record.proofs.KidBits.{kids_by_bits}
use Rattle.nb_record.proofs.tree_laws.law_kid_bits.Goals as goal

pub returns : goal.returns
returns c = kids_by_bits
