use Rattle.std.proofs.Common.{rules, tests}
use Rattle.std.proofs.lemmas.Iterator.{YieldsList-from_slice}
use Rattle.std.proofs.lemmas.Iterator.Search.{all_from_yields_List}
use Rattle.nb_format.specs.Digits.{is_digit}
use Rattle.nb_format.proofs.Numerals.{is_number-within}
use Rattle.nb_format.proofs.digits.is_number.Goals as goal

pub returns : goal.returns
returns c =
    let all = all_from_yields_List is_digit _ _ c.all.result c.all.ensures.ran (YieldsList-from_slice c.args.text.now cc) (λ x b q k. search (rules, tests)) in
    is_number-within c.args.text.now c.all.result (cc) c.if-text-gt-MOST_DIGITS.false all
