use Rattle.nb_key.proofs.Levels.{octants_are, octants_of, one_level, same_octants, key_of_push, key_of_parent}
use Rattle.nb_key.proofs.laws.law_octants.Goals as goal

pub returns : goal.returns
returns c = record { level = octants_are; every = octants_of; one = one_level; same = same_octants; child = key_of_push; parent = key_of_parent }
