use Rattle.nb_cache.specs.View.{seen}
use Rattle.nb_order.proofs.Reading.{listed_kick}
use Rattle.nb_order.proofs.body_file.kick_at.Goals as goal

pub returns-clause-read : goal.returns-clause-read
returns-clause-read g c = λ tells. let is = c.in_ok-found.ensures.read tells in (is.has, is.kick_is)

pub returns-clause-listed : goal.returns-clause-listed
returns-clause-listed g c = λ tells kick_for bodies body holds there.
    listed_kick (seen g.H.Host.meaning c.args.cache.now c.args.host.now c.args.file) kick_for bodies c.args.index body
    c.in_ok-found.found.body c.in_ok-found.found.kick (c.in_ok-found.ensures.read tells) holds there
