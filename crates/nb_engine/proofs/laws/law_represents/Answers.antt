use Rattle.nb_engine.proofs.Representing.{represents_kept, represents_ticked, represents_legged}
use Rattle.nb_engine.proofs.laws.law_represents.Goals as goal

pub returns-clause-kept : goal.returns-clause-kept
returns-clause-kept c = represents_kept

pub returns-clause-tick : goal.returns-clause-tick
returns-clause-tick c = represents_ticked

pub returns-clause-leg : goal.returns-clause-leg
returns-clause-leg c = represents_legged
