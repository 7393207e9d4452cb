-- Each of the numbers fits its type, so none of them is past its end.
use Rattle.std.proofs.Common.{◌+◌, arith}
use Rattle.std.proofs.lemmas.Grind.{get_or_default_zero}
use Rattle.nb_host.proofs.plan.has_next.Goals as goal

pub returns-in-None : goal.returns-in-None
returns-in-None c = (
  λ never. (cc),
  λ found.
      let fits = c.type_inv.numbers found.0 in
      let same = get_or_default_zero c.args.numbers.now found.0 (c.args.number + 1) found.1 in
      absurd (c.in-None.ensures (omega (arith, fits, same, found.2))),
)
