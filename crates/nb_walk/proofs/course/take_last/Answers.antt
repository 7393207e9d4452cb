use Rattle.std.proofs.Common.{length, arith, subst, inl, inr}
use Rattle.std.specs.Prelude.{IsSome}
use Rattle.std.proofs.lemmas.Bool.{cases_lt}
use Rattle.nb_walk.proofs.course.take_last.Goals as goal

pub returns-clause-empty : goal.returns-clause-empty
returns-clause-empty c = λ none.
    elim (cases_lt 0 (length c.args.items.now.items)) [
      | inl some ↦ absurd (let is = subst IsSome none (c.pop.ensures.variant.1 some) in cc)
      | inr few ↦ omega arith
    ]
