use Rattle.nb_order.proofs.sorter.tests.equal_keys_go_by_id.Goals as goal

pub push_body-requires-clause-in_step : goal.push_body-requires-clause-in_step
push_body-requires-clause-in_step g c = λ _. c.in_ok-cache.ensures.fits _
