use Rattle.nb_record.proofs.SameFiles.{same_file, same_cell_page}
use Rattle.nb_record.proofs.laws.law_zero_padded.Goals as goal

pub returns : goal.returns
returns c = record { bodies = same_file; cells = same_cell_page }
