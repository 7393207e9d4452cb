use Rattle.nb_host.proofs.Callers.{left_stays}
use Rattle.nb_format.proofs.Callers.{filled_kept, being_kept}
use Rattle.nb_format.proofs.writer_laws.law_filling_kept.Goals as goal

pub returns-clause-unfinished : goal.returns-clause-unfinished
returns-clause-unfinished g c = λ file old new leads unfinished. left_stays g.H.Host.meaning leads unfinished

pub returns-clause-filled : goal.returns-clause-filled
returns-clause-filled g c = λ filling bodies old new leads filled. filled_kept leads filled

pub returns-clause-written : goal.returns-clause-written
returns-clause-written g c = λ others plan filling bodies start old new spared leads being. being_kept spared leads being
