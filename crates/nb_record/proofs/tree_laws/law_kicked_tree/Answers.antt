use Rattle.nb_record.proofs.KickedTrees.{kicked_tree}
use Rattle.nb_record.proofs.tree_laws.law_kicked_tree.Goals as goal

pub returns : goal.returns
returns c = kicked_tree
