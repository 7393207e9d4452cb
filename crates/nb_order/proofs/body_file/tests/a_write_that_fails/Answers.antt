use Rattle.nb_order.proofs.body_file.tests.a_write_that_fails.Goals as goal

pub push_body-requires-clause-in_step : goal.push_body-requires-clause-in_step
push_body-requires-clause-in_step g c = λ _. c.in_ok-cache.ensures.fits _
