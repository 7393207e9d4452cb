use Rattle.nb_cache.proofs.cache.tests.crashes_after_a_put.Goals as goal

pub put_byte-requires-clause-in_step : goal.put_byte-requires-clause-in_step
put_byte-requires-clause-in_step g c = λ _. c.in_ok-cache.ensures.fits _
