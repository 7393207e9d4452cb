use Rattle.nb_record.proofs.CellBodies.{cell_within, cell_read, cell_pulls, cell_sums, cell_weighs}
use Rattle.nb_record.proofs.tree_laws.law_cell_bodies.Goals as goal

pub returns : goal.returns
returns c = record { within = cell_within; bodies = cell_read; pulls = cell_pulls; sums = cell_sums; mass = cell_weighs }
