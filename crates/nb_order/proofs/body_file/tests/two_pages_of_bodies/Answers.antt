use Rattle.nb_order.proofs.body_file.tests.two_pages_of_bodies.Goals as goal

pub push_bodies-requires : goal.push_bodies-requires
push_bodies-requires g c = record { in_step = λ _. c.in_ok-cache.ensures.fits _ }
