use Rattle.nb_record.proofs.Orders.{front, back, present, escaped, unescaped_sorted, ranks_rise, same_order, chosen_sorted}
use Rattle.nb_record.proofs.CellBodies.{read_unescaped}
use Rattle.nb_record.proofs.order_laws.law_order.Goals as goal

pub returns : goal.returns
returns c = record { front = front; back = back; present = present; index = read_unescaped; escaped = escaped; stays = unescaped_sorted; rising = ranks_rise; same = same_order; chosen = chosen_sorted }
