use Rattle.nb_record.proofs.SameTrees.{same_tree, same_tree_of}
use Rattle.nb_record.proofs.tree_laws.law_same_tree.Goals as goal

pub returns : goal.returns
returns c = record { cells = same_tree; files = same_tree_of }
