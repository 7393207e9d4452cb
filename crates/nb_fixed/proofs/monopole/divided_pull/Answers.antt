use Rattle.std.proofs.Common.{arith}
use Rattle.nb_model.proofs.Facts.{le-integer_root}
use Rattle.nb_fixed.proofs.monopole.divided_pull.Goals as goal

pub nonzero_div-scale : goal.nonzero_div-scale
nonzero_div-scale c = rw c.root_of_word-root.ensures (le-integer_root 1 _ (omega arith))
