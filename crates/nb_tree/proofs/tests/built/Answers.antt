use Rattle.nb_tree.proofs.tests.built.Goals as goal

pub push_rows-requires-clause-in_step : goal.push_rows-requires-clause-in_step
push_rows-requires-clause-in_step c = λ _. c.in_ok-cache.ensures.fits _
