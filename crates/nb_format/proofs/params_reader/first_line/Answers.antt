use Rattle.std.proofs.lemmas.List.{take_rest}
use Rattle.nb_format.proofs.ParamsLines.{lines_of-some, lines_of-none}
use Rattle.nb_format.proofs.params_reader.first_line.Goals as goal

pub returns-in-Some-clause-lines : goal.returns-in-Some-clause-lines
returns-in-Some-clause-lines c = rw take_rest (lines_of-some c.args.text.now c.in-Some.end (cc))

pub returns-in-None-clause-lines : goal.returns-in-None-clause-lines
returns-in-None-clause-lines c = lines_of-none c.args.text.now (cc)
