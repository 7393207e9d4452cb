use Rattle.nb_order.proofs.sorter.tests.pages_of_bodies_are_sorted.Goals as goal

pub loop-index-init : goal.loop-index-init
loop-index-init g c = λ _. c.in_ok-cache.ensures.fits _
