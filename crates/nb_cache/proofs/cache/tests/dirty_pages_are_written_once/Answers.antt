use Rattle.nb_cache.proofs.cache.tests.dirty_pages_are_written_once.Goals as goal

pub put_all-requires : goal.put_all-requires
put_all-requires g c = record { in_step = λ _. c.in_ok-cache.ensures.fits _ }
