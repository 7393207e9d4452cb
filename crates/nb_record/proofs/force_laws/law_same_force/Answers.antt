use Rattle.nb_record.proofs.SameForces.{same_direct_sum, same_force_of_cell, same_force_of_all}
use Rattle.nb_record.proofs.force_laws.law_same_force.Goals as goal

pub returns : goal.returns
returns c = record { direct = same_direct_sum; cell = same_force_of_cell; whole = same_force_of_all }
