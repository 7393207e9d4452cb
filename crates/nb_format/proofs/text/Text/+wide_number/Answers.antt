use Rattle.std.proofs.Common.{arith, sym, ap, ◌∙◌, append_assoc, ◌++◌}
use Rattle.std.proofs.lemmas.Fmt.{decimal_digit}
use Rattle.nb_format.proofs.Decimals.{length-decimal_digit, decimal_more, length-decimal_more}
use Rattle.nb_format.proofs.text.Text.+wide_number.Goals as goal

pub digit-requires-clause-room : goal.digit-requires-clause-room
digit-requires-clause-room t c = omega (arith, length-decimal_digit c.args.number c.if-number-lt-TEN.true)

pub returns-then-number-lt-TEN-clause-value : goal.returns-then-number-lt-TEN-clause-value
returns-then-number-lt-TEN-clause-value t c =
    c.digit.ensures.value ∙ ap (λ w. c.args.self ++ w) (sym (decimal_digit c.args.number c.if-number-lt-TEN.true))

pub returns-then-number-lt-TEN-clause-length : goal.returns-then-number-lt-TEN-clause-length
returns-then-number-lt-TEN-clause-length t c = omega (arith, length-decimal_digit c.args.number c.if-number-lt-TEN.true)

pub wide_number-requires : goal.wide_number-requires
wide_number-requires t c = omega (arith, length-decimal_more c.args.number)

pub digit-requires-2-clause-room : goal.digit-requires-2-clause-room
digit-requires-2-clause-room t c = omega (arith, length-decimal_more c.args.number)

pub returns-clause-value : goal.returns-clause-value
returns-clause-value t c = grind (arith, append_assoc, decimal_more c.args.number)

pub returns-clause-length : goal.returns-clause-length
returns-clause-length t c = omega (arith, length-decimal_more c.args.number)
