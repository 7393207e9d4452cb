use Rattle.nb_cache.proofs.Callers.{step_elsewhere, step_outside, seen_elsewhere}
use Rattle.nb_cache.proofs.laws.law_other_files.Goals as goal

pub returns-clause-same : goal.returns-clause-same
returns-clause-same g c = λ cache old new same. step_elsewhere g.H.Host.meaning cache old new same

pub returns-clause-others : goal.returns-clause-others
returns-clause-others g c = λ cache files old new apart leads in_step. step_outside cache apart leads in_step

pub returns-clause-view : goal.returns-clause-view
returns-clause-view g c = λ cache files old new file spared leads tells.
    (seen_elsewhere cache file spared leads).told tells
