use Rattle.std.proofs.Common.{Result, subst}
use Rattle.std.specs.Prelude.{IfOk}
use Rattle.nb_model.specs.declared.params.Params.{Params}
use Rattle.nb_model.specs.Valid.{AreInRange}
use Rattle.nb_format.specs.declared.params_error.ParamsError.{ParamsError}
use Rattle.nb_format.proofs.ParamsValues.{params_of-in_range}
use Rattle.nb_format.proofs.params_laws.law_params_in_range.Goals as goal

pub returns : goal.returns
returns c = λ text params read.
    let P : Result Params ParamsError → Type 0 = λ r. IfOk r AreInRange in subst P read (params_of-in_range text)
