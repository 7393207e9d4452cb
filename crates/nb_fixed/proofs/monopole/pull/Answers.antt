use Rattle.std.proofs.Common.{sym, arith, inl, inr}
use Rattle.std.proofs.lemmas.Bool.{cases_lt}
use Rattle.nb_model.specs.Limits.{gm_limit}
use Rattle.nb_model.proofs.Facts.{pull_too_far}
use Rattle.nb_fixed.proofs.monopole.pull.Goals as goal

pub returns-then-square-gm : goal.returns-then-square-gm
returns-then-square-gm c =
    sym (pull_too_far c.args.params.now c.args.from.now c.args.mass c.args.centre.now (
    elim (cases_lt c.near_square-square.result gm_limit) [
      | inl near ↦ grind (arith, c.near_square-square.ensures.near near)
      | inr far ↦ grind (arith, c.near_square-square.ensures.far far)
    ]
    ))
