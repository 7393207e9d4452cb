use Rattle.std.proofs.Common.{take}
use Rattle.nb_model.specs.Legs.{directions}
use Rattle.nb_engine.proofs.Steps.{steps_valid, escaped_count-fewer}
use Rattle.nb_engine.proofs.Paths.{ticks-within, time-now}
use Rattle.nb_engine.proofs.laws.law_run.Goals as goal

pub returns-clause-valid : goal.returns-clause-valid
returns-clause-valid c = λ run k is. steps_valid run.params (take k (directions run.begin run.legs)) run.bodies is.bodies

pub returns-clause-out : goal.returns-clause-out
returns-clause-out c = λ run i k less. escaped_count-fewer run.params (directions run.begin run.legs) i k run.bodies less

pub returns-clause-within : goal.returns-clause-within
returns-clause-within c = ticks-within

pub returns-clause-time : goal.returns-clause-time
returns-clause-time c = time-now
