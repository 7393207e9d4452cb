use Rattle.nb_cell.proofs.tests.a_chain_of_two_pages.Goals as goal

pub make-requires-clause-in_step : goal.make-requires-clause-in_step
make-requires-clause-in_step g c = λ _. c.in_ok-cache.ensures.fits _
