use Rattle.nb_cache.proofs.cache.tests.faults_are_told.Goals as goal

pub fetch-requires-clause-in_step : goal.fetch-requires-clause-in_step
fetch-requires-clause-in_step g c = λ _. c.in_ok-cache.ensures.fits _
