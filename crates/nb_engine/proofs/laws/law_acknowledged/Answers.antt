use Rattle.nb_engine.proofs.Told.{none_told, told_line, told_more}
use Rattle.nb_engine.proofs.OtherLines.{told_other}
use Rattle.nb_engine.proofs.laws.law_acknowledged.Goals as goal

pub returns-clause-none : goal.returns-clause-none
returns-clause-none c = none_told c.law_said_lines.ensures.tick

pub returns-clause-line : goal.returns-clause-line
returns-clause-line c = told_line c.law_said_lines.ensures.tick c.law_one_tick.ensures

pub returns-clause-other : goal.returns-clause-other
returns-clause-other c = told_other

pub returns-clause-more : goal.returns-clause-more
returns-clause-more c = told_more
