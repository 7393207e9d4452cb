use Rattle.nb_record.proofs.Lists.{length-cells_of, cell_at, key_found, key_first, key_lacking}
use Rattle.nb_record.proofs.laws.law_page_cells.Goals as goal

pub returns : goal.returns
returns c = record { count = length-cells_of; cell = cell_at; found = key_found; first = key_first; lacks = key_lacking }
