use Rattle.nb_tree.proofs.generated_tests.cells_of_generated.Goals as goal

pub push_bodies-requires : goal.push_bodies-requires
push_bodies-requires c = record { in_step = λ _. c.in_ok-cache.ensures.fits _ }
