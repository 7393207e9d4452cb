use Rattle.std.proofs.Common.{arith, rules, ◌≡◌, ℕ, ◌++◌, ◌∷◌, ◌<◌, ◌/◌, [], length, length-append, sym, ap, refl, ◌∙◌, true, subst}
use Rattle.std.specs.Prelude.{IsOk}
use Rattle.std.specs.Result.{is_ok}
use Rattle.std.proofs.lemmas.Bool.{cond-true}
use Rattle.std.proofs.lemmas.List.Elements.{All-contains}
use Rattle.nb_walk.specs.declared.group.Group.{Group}
use Rattle.nb_walk.specs.declared.item.Item.TheVariants as item
use Rattle.nb_walk.specs.declared.shared.SharedItem.{SharedItem}
use Rattle.nb_walk.specs.Group.{all_shared}
use Rattle.nb_walk.specs.Shared.{is_left_to, IsShared}
use Rattle.nb_walk.proofs.Passes.{is_among}
use Rattle.nb_walk.proofs.Joins.{joins_root, joined_has, joined_items, joined_shared}
use Rattle.nb_walk.proofs.group.Group.join_root.Goals as goal

pub returns-then-last-k-eq0 : goal.returns-then-last-k-eq0
returns-then-last-k-eq0 c =
    let walk = c.args.walk in
    let g = c.args.self.now in
    let from : Group = record { tallies = g.tallies; owns = g.owns; items = c.push.new.self; waits = g.waits; room = g.room } in
    let rest : Group = record { tallies = g.tallies; owns = g.owns; items = c.take_one.new.entries; waits = g.waits; room = g.room } in
    let last : SharedItem = c.in-Some.last in
    let joined : SharedItem = record { item = last.item; block = last.block; walks = c.with-walks.result } in
    let was = c.in-Some.ensures.some in
    let shared = All-contains (IsShared (length g.tallies.items)) (all_shared g) last c.requires.group.shared (is_among g rest last was) in
    let count = c.requires.walk in
    let below = λ (i : ℕ) (left : is_left_to i last ≡ true). subst (λ n. i < n) (sym count) (shared.below i left) in
    let room = c.requires.group.items in
    let few = c.requires.group.few in
    let sizes = c.take_one.new.entries.ok.0 in
    let all = length-append g.items.items g.waits.items in
    let one = ap length was in
    let two = length-append rest.items.items (last ∷ []) in
    let kept = c.take_one.ensures.capacity in
    let grows = c.push.ensures.capacity in
    let fits : IsOk c.push.result = c.push.ensures.succeeds (omega arith) in
    let items : from.items.items ≡ rest.items.items ++ joined ∷ [] = c.push.ensures.items ∙ cond-true (is_ok c.push.result) (rest.items.items ++ joined ∷ []) rest.items.items fits in
    let block : last.block ≡ walk / 64 = c.if-last-block.true in
    let root : last.item ≡ item.Cell 1 0 = search rules in
    joins_root walk g from c.requires.group count joined rest.items.items (last ∷ [])
    (joined_shared walk last joined block refl c.with-walks.ensures.sets below)
    (joined_has walk last joined block refl c.with-walks.ensures.sets below)
    root was items
    (joined_items walk last joined block refl c.with-walks.ensures.sets below refl)
    (omega arith) (omega arith)
