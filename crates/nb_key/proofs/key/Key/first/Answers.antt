use Rattle.nb_key.proofs.Ranges.{first_is}
use Rattle.nb_key.proofs.key.Key.first.Goals as goal

pub returns : goal.returns
returns c = λ level is. rw c.self.view_is (first_is level c.args.self c.bits_below.result is (c.bits_below.ensures.bits level is))
