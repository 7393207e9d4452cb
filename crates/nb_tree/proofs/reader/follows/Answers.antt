use Rattle.std.proofs.Common.{sym, subst, rules}
use Rattle.nb_tree.specs.Passes.{Follows}
use Rattle.nb_tree.proofs.Fronts.{out_follows}
use Rattle.nb_tree.proofs.reader.follows.Goals as goal

pub returns-then-next : goal.returns-then-next
returns-then-next c = (
  λ _. subst (Follows c.args.ahead.now.body) (sym c.in-Some.is)
      (out_follows c.args.ahead.now.body c.in-Some.next.body c.requires.inside c.if-next.true),
  λ _. search rules,
)
