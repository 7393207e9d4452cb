use Rattle.nb_record.proofs.Rows.{body_size, body_round, record_body, record_kick, record_form, record_size}
use Rattle.nb_record.proofs.laws.law_bodies.Goals as goal

pub returns : goal.returns
returns c = record { bytes = body_round; length = body_size; body = record_body; kick = record_kick; form = record_form; size = record_size }
