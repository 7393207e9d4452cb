use Rattle.std.proofs.Common.{rules, arith, []}
use Rattle.nb_cli.specs.Splitting.{lists_of}
use Rattle.nb_cli.proofs.Arguments.{none_there, one_there, two_there, three_there, only_these}
use Rattle.nb_cli.proofs.words.job_named.Goals as goal

pub returns-in_ok-start_pages-in-empty-clause-some : goal.returns-in_ok-start_pages-in-empty-clause-some
returns-in_ok-start_pages-in-empty-clause-some c =
    let none = none_there c.as_slice.result.now c.in-empty.len_below in
    (search rules, cc, c.in_ok-start_pages-in-empty.ensures.some)

pub returns-in_ok-pace_of-in-empty-2-clause-some : goal.returns-in_ok-pace_of-in-empty-2-clause-some
returns-in_ok-pace_of-in-empty-2-clause-some c =
    let none = none_there c.as_slice.result.now c.in-empty.len_below in
    (search rules, cc, c.in_ok-pace_of-in-empty-2.ensures.some)

pub returns-in-empty-3-clause-some : goal.returns-in-empty-3-clause-some
returns-in-empty-3-clause-some c =
    let none = none_there c.as_slice.result.now c.in-empty.len_below in
    (search rules, only_these (lists_of c.args.given.now) [] (cc) (c.is_plain.ensures.0 c.if-is_plain.true))

pub returns-in_ok-pace_of-in-len1-clause-some : goal.returns-in_ok-pace_of-in-len1-clause-some
returns-in_ok-pace_of-in-len1-clause-some c =
    let one = one_there c.as_slice.result.now c.in-len1.len_at_least c.in-len1.len_below in
    (search rules, cc, c.in_ok-pace_of-in-len1.ensures.some)

pub returns-in-len1-2-clause-some : goal.returns-in-len1-2-clause-some
returns-in-len1-2-clause-some c =
    let one = one_there c.as_slice.result.now c.in-len1.len_at_least c.in-len1.len_below in
    (search rules, only_these (lists_of c.args.given.now) _ (cc) (c.is_plain-then-eq-5.ensures.0 c.if-is_plain-2.true))

pub returns-in-len2-clause-some : goal.returns-in-len2-clause-some
returns-in-len2-clause-some c =
    let two = two_there c.as_slice.result.now c.in-len2.len_at_least c.in-len2.len_below in (
      search rules,
      only_these (lists_of c.args.given.now) _ (cc) (c.is_plain-then-count-le-MOST_BODIES.ensures.0 c.if-is_plain-3.true),
      omega arith,
    )

pub returns-in_ok-pace_of-in-len3-clause-some : goal.returns-in_ok-pace_of-in-len3-clause-some
returns-in_ok-pace_of-in-len3-clause-some c =
    let three = three_there c.as_slice.result.now c.in-len3.len_at_least c.in-len3.len_below in
    (search rules, cc, omega arith, c.in_ok-pace_of-in-len3.ensures.some)
