use Rattle.nb_cell.proofs.tests.more_chains_than_pages_in_the_cache.Goals as goal

pub make-requires-clause-in_step : goal.make-requires-clause-in_step
make-requires-clause-in_step g c = λ _. c.in_ok-cache.ensures.fits _
