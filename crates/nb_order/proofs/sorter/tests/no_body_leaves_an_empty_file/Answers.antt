use Rattle.nb_order.proofs.sorter.tests.no_body_leaves_an_empty_file.Goals as goal

pub reorder-requires-clause-in_step : goal.reorder-requires-clause-in_step
reorder-requires-clause-in_step g c = λ _. c.in_ok-cache.ensures.fits _
