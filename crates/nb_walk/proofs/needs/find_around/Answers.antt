use Rattle.std.proofs.Common.{arith, inl, inr}
use Rattle.std.proofs.lemmas.Bool.{cases_lt}
use Rattle.nb_walk.proofs.Waits.{none_left}
use Rattle.nb_walk.proofs.needs.find_around.Goals as goal

pub returns-in-None-clause-none : goal.returns-in-None-clause-none
returns-in-None-clause-none c = λ none.
    none_left c.args.i c.args.waits.now
    (λ j d below. elim (cases_lt j c.args.start) [
      | inl before ↦ c.find_left-in-None.ensures.none none j d (omega arith) before
      | inr from ↦ c.find_left.ensures.none c.in-None.is j d from (omega arith)
    ])
