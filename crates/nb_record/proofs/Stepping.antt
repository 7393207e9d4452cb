-- What crates above may cite of kicks: a half kick and a kick of the same bodies in another order, a kick of a list in Morton
-- order, and the tree of a list that was kicked.
pub use Rattle.nb_record.proofs.SameSteps.{same_half_kick, same_kick, kick_sorted}
pub use Rattle.nb_record.proofs.KickedTrees.{kicked_tree}
