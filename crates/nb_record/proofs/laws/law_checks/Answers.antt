use Rattle.nb_record.proofs.Checks.{cells_checked, bodies_checked}
use Rattle.nb_record.proofs.laws.law_checks.Goals as goal

pub returns : goal.returns
returns c = record { cells = cells_checked; bodies = bodies_checked }
