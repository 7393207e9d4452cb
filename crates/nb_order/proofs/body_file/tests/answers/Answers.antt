use Rattle.nb_order.proofs.body_file.tests.answers.Goals as goal

pub put-requires-clause-in_step : goal.put-requires-clause-in_step
put-requires-clause-in_step c = λ _. c.in_ok-cache.ensures.fits _
