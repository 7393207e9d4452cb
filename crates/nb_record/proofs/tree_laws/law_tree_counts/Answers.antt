use Rattle.nb_record.proofs.TreeCounts.{most_cells, no_cells, some_cells}
use Rattle.nb_record.proofs.tree_laws.law_tree_counts.Goals as goal

pub returns : goal.returns
returns c = record { none = no_cells; some = some_cells; most = most_cells }
