use Rattle.nb_record.proofs.SameLists.{same_table}
use Rattle.nb_record.proofs.tree_laws.law_same_table.Goals as goal

pub returns : goal.returns
returns c = same_table
