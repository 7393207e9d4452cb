use Rattle.nb_tick.proofs.tests.crowd_ticked.Goals as goal

pub put_crowd-requires : goal.put_crowd-requires
put_crowd-requires c = λ _. c.in_ok-cache.ensures.fits _
