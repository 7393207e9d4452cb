use Rattle.nb_key.proofs.Levels.{read_level}
use Rattle.nb_key.proofs.key.Key.level.Goals as goal

pub returns : goal.returns
returns c = rw (← c.self.view_is) (read_level c.self.inside.number c.self.invariant)
