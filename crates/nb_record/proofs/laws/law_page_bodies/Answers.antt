use Rattle.nb_record.proofs.Lists.{length-bodies_of, body_at}
use Rattle.nb_record.proofs.laws.law_page_bodies.Goals as goal

pub returns : goal.returns
returns c = record { count = length-bodies_of; body = body_at }
