use Rattle.nb_record.proofs.MortonOrder.{held_valid, own_order, own_front}
use Rattle.nb_record.proofs.laws.law_morton_order.Goals as goal

pub returns : goal.returns
returns c = record { valid = held_valid; sorted = own_order; front = own_front }
