use Rattle.nb_key.proofs.Levels.{parent_is}
use Rattle.nb_key.proofs.key.Key.parent.Goals as goal

pub invariant_of-result : goal.invariant_of-result
invariant_of-result c = parent_is c.self.inside.number c.self.invariant c.if-self-eq-ROOT.false
