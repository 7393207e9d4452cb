use Rattle.nb_cache.proofs.cache.tests.pages_that_leave_are_written.Goals as goal

pub evict-requires : goal.evict-requires
evict-requires g c = record { in_step = λ _. c.in_ok-cache.ensures.fits _ }
