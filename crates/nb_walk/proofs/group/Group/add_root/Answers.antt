use Rattle.std.proofs.Common.{arith, ◌≡◌, ℕ, ◌++◌, ◌∷◌, ◌<◌, ◌/◌, [], append-nil, sym, refl, ◌∙◌, true}
use Rattle.std.specs.Prelude.{IsOk}
use Rattle.std.specs.Result.{is_ok}
use Rattle.std.proofs.lemmas.Bool.{cond-true, false≢true}
use Rattle.nb_walk.specs.declared.group.Group.{Group}
use Rattle.nb_walk.specs.declared.shared.SharedItem.{SharedItem}
use Rattle.nb_walk.specs.Shared.{is_left_to}
use Rattle.nb_walk.proofs.Sharing.{left_to_none}
use Rattle.nb_walk.proofs.Joins.{joins_none, joins_root, joined_has, joined_shared, joined_none}
use Rattle.nb_walk.proofs.group.Group.add_root.Goals as goal

pub returns-then-len-self : goal.returns-then-len-self
returns-then-len-self c = joins_none c.args.walk c.args.self.now c.args.self.now c.requires.group c.requires.walk refl (omega arith)

pub returns : goal.returns
returns c =
    let walk = c.args.walk in
    let g = c.args.self.now in
    let from : Group = record { tallies = g.tallies; owns = g.owns; items = c.push.new.self; waits = g.waits; room = g.room } in
    let none : SharedItem = record { item = c.default.result; block = walk / 64; walks = 0 } in
    let joined : SharedItem = record { item = c.default.result; block = walk / 64; walks = c.with.result } in
    let below = λ (i : ℕ) (left : is_left_to i none ≡ true). absurd {A = i < walk} (false≢true (sym (left_to_none i none.block none.item) ∙ left)) in
    let room = c.requires.group.items in
    let sizes = g.items.ok.0 in
    let waiting = g.waits.ok.0 in
    let here = c.if-len-self.false in
    let first = c.len.ensures in
    let second = c.len-2.ensures in
    let fits : IsOk c.push.result = c.push.ensures.succeeds (omega arith) in
    let items : from.items.items ≡ g.items.items ++ joined ∷ [] = c.push.ensures.items ∙ cond-true (is_ok c.push.result) (g.items.items ++ joined ∷ []) g.items.items fits in
    joins_root walk g from c.requires.group c.requires.walk joined g.items.items []
    (joined_shared walk none joined refl refl c.with.ensures.sets below)
    (joined_has walk none joined refl refl c.with.ensures.sets below)
    c.default.ensures
    (sym (append-nil g.items.items)) items
    (joined_none walk none joined refl refl c.with.ensures.sets below (λ i. left_to_none i none.block none.item))
    (omega arith) c.push.ensures.capacity
