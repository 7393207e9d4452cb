use Rattle.nb_model.proofs.Facts.{sum_by-octants, total_mass-octants}
use Rattle.nb_record.proofs.TreeCounts.{length-octants}
use Rattle.nb_record.proofs.order_laws.law_octant_sums.Goals as goal

pub returns : goal.returns
returns c = record { mass = total_mass-octants; count = length-octants; any = sum_by-octants }
