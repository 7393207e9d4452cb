use Rattle.nb_format.proofs.Settings.{content_of-sets}
use Rattle.nb_format.proofs.params_line.read_line.Goals as goal

pub returns-clause-known : goal.returns-clause-known
returns-clause-known c = rw c.content.ensures (content_of-sets c.trim.result.now)
