use Rattle.nb_cell.proofs.tests.a_damaged_page_in_the_cache.Goals as goal

pub put-requires-clause-in_step : goal.put-requires-clause-in_step
put-requires-clause-in_step g c = λ _. c.in_ok-cache.ensures.fits _
