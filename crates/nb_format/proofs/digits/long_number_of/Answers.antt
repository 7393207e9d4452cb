use Rattle.std.proofs.Common.{◌∙◌}
use Rattle.nb_format.proofs.Numerals.{IsUtf8-number, parse-number}
use Rattle.nb_format.proofs.digits.long_number_of.Goals as goal

pub returns-in-Ok : goal.returns-in-Ok
returns-in-Ok c =
    let parsed = rw c.in-Ok.ensures.cases.0 at c.parse.ensures.value.0 in
    c.ok.ensures.value ∙ parse-number c.args.text.now c.parse.result parsed (cc)

pub returns-in-Err : goal.returns-in-Err
returns-in-Err c = absurd (c.in-Err.ensures.cases.0 (IsUtf8-number c.args.text.now (cc)))
