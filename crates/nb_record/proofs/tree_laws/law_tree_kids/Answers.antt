use Rattle.nb_record.proofs.TreeKids.{root_of_tree, leaf_is, kid_of_tree, empty_octant}
use Rattle.nb_record.proofs.tree_laws.law_tree_kids.Goals as goal

pub returns : goal.returns
returns c = record { root = root_of_tree; leaf = leaf_is; kid = kid_of_tree; empty = empty_octant }
