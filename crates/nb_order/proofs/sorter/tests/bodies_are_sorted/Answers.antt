use Rattle.nb_order.proofs.sorter.tests.bodies_are_sorted.Goals as goal

pub push_body-requires-clause-in_step : goal.push_body-requires-clause-in_step
push_body-requires-clause-in_step g c = λ _. c.in_ok-cache.ensures.fits _
