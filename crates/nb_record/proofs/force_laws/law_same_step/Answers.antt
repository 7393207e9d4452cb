use Rattle.nb_record.proofs.SameSteps.{same_half_kick, same_kick, same_drift, same_step, same_step_order, kick_sorted}
use Rattle.nb_record.proofs.force_laws.law_same_step.Goals as goal

pub returns : goal.returns
returns c = record {
  force = same_half_kick;
  kick = same_kick;
  drift = same_drift;
  step = same_step;
  order = same_step_order;
  sorted = kick_sorted;
}
