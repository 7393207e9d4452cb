use Rattle.nb_host.proofs.laws.law_contents_are_left.Goals as goal

pub returns : goal.returns
returns g c = g.H.Host.meaning.leaves_contents
