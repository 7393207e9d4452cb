use Rattle.nb_format.proofs.ParamsFaults.{params_of-fault, params_of-of_line, fault_at-number}
use Rattle.nb_format.proofs.params_laws.law_first_faulty_line.Goals as goal

pub returns-clause-told : goal.returns-clause-told
returns-clause-told c = λ text index error few first. params_of-fault text index error few first

pub returns-clause-first : goal.returns-clause-first
returns-clause-first c = λ text number error e is. params_of-of_line text number error e is

pub returns-clause-number : goal.returns-clause-number
returns-clause-number c = λ lines index error e. fault_at-number lines index error e
