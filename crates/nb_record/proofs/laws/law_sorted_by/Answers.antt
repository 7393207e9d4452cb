use Rattle.nb_record.proofs.Sorting.{permuted, sorted, only, different_ids}
use Rattle.nb_record.proofs.MortonOrder.{own_by_id}
use Rattle.nb_record.proofs.laws.law_sorted_by.Goals as goal

pub returns : goal.returns
returns c = record { permutation = permuted; sorted = sorted; only = only; ids = different_ids; by_id = own_by_id }
