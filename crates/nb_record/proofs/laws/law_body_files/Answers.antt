use Rattle.nb_record.proofs.Files.{page_within, index_within, one_list}
use Rattle.nb_record.proofs.laws.law_body_files.Goals as goal

pub returns : goal.returns
returns c = record { page = page_within; index = index_within; one = one_list }
