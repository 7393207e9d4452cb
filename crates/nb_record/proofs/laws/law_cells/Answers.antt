use Rattle.nb_record.proofs.Rows.{cell_round, cell_size}
use Rattle.nb_record.proofs.laws.law_cells.Goals as goal

pub returns : goal.returns
returns c = record { value = cell_round; size = cell_size }
