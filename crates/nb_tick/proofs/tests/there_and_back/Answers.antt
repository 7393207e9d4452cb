use Rattle.nb_tick.proofs.tests.there_and_back.Goals as goal

pub put-requires-clause-in_step : goal.put-requires-clause-in_step
put-requires-clause-in_step c = λ _. c.in_ok-cache.ensures.fits _
