use Rattle.std.proofs.Common.{◌≡◌, ◌<◌, true, length, sym, ◌∙◌, subst, arith}
use Rattle.std.specs.Prelude.{Contains}
use Rattle.nb_walk.specs.Shared.{items_of, is_left_to}
use Rattle.nb_walk.proofs.Sharing.{item_of}
use Rattle.nb_walk.proofs.needs.find_left.Goals as goal

pub returns-then-is_left-clause-some : goal.returns-then-is_left-clause-some
returns-then-is_left-clause-some c = λ x is.
    let waits = c.args.waits.now in
    let e = c.index-waits-j.result in
    let left : is_left_to c.args.i e ≡ true = sym c.is_left.ensures ∙ c.if-is_left.true in
    let within : c.loop-j.j < length waits = omega arith in
    let same : e.item ≡ x = cc in
    subst (Contains (items_of c.args.i waits)) same (item_of c.args.i waits e (c.loop-j.j, within, sym c.index-waits-j.is) left)
