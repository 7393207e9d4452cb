use Rattle.std.proofs.Common.{◌<◌, length, arith}
use Rattle.std.proofs.lemmas.Bool.Decides.{nat_tests}
use Rattle.nb_format.proofs.Settings.{content_of-no_equals}
use Rattle.nb_format.proofs.params_line.content.Goals as goal

pub returns-in-None : goal.returns-in-None
returns-in-None c =
    let line = c.args.line.now in
    let some : 0 < length line = grind (arith, nat_tests) in
    content_of-no_equals line some c.if-line-eq-COMMENT.false (c.in-None.ensures)
