use Rattle.std.proofs.Common.{◌+◌, ◌^◌, ◌<◌, ap, subst, sym, ◌∙◌}
use Rattle.std.proofs.lemmas.Nat.{one_shl}
use Rattle.nb_walk.specs.Shared.{in_set}
use Rattle.nb_walk.proofs.Bits.{in_with, with_below}
use Rattle.nb_walk.proofs.shared.with.Goals as goal

pub returns-clause-sets : goal.returns-clause-sets
returns-clause-sets c = λ j.
    ap (λ n. in_set (c.args.walks + n) j) (one_shl c.args.k 64 c.requires.k)
    ∙ in_with c.args.walks c.args.k j c.requires.below

pub returns-clause-below : goal.returns-clause-below
returns-clause-below c =
    subst (λ n. c.args.walks + n < 2 ^ (c.args.k + 1)) (sym (one_shl c.args.k 64 c.requires.k))
    (with_below c.args.walks c.args.k c.requires.below)
