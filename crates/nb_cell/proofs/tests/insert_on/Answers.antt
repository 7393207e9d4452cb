use Rattle.nb_cell.proofs.tests.insert_on.Goals as goal

pub insert-answer-requires-clause-in_step : goal.insert-answer-requires-clause-in_step
insert-answer-requires-clause-in_step c = λ _. c.in_ok-cache.ensures.fits _
