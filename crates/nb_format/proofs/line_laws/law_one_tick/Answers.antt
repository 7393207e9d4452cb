use Rattle.nb_format.proofs.SaidLines.{same-tick}
use Rattle.nb_format.proofs.line_laws.law_one_tick.Goals as goal

pub returns : goal.returns
returns c = λ k time out l when gone few_k few_time few_out few_l few_when few_gone same. same-tick k time out l when gone few_k few_time few_out few_l few_when few_gone same
