use Rattle.nb_record.proofs.TreeForms.{tree_form}
use Rattle.nb_record.proofs.tree_laws.law_tree_forms.Goals as goal

pub returns : goal.returns
returns c = tree_form
