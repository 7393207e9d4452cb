use Rattle.nb_cache.proofs.cache.tests.pages_come_and_go.Goals as goal

pub fetch-requires-clause-in_step : goal.fetch-requires-clause-in_step
fetch-requires-clause-in_step g c = λ _. c.in_ok-cache.ensures.fits _
