use Rattle.std.proofs.Common.{◌≡◌, ℕ, ◌+◌, ◌-◌, ◌*◌, ◌/◌, ◌%◌, ◌^◌, List, [], ◌∷◌, ◌++◌, length, drop, eqb, is_ok, append-nil, append_assoc, arith, sym, ap, ◌∙◌, refl}
use Rattle.std.specs.Prelude.{◌≢◌, ◌<◌, vec_len, vec_capacity}
use Rattle.std.proofs.lemmas.Bool.{cond-true, cond-false, eq-eqb, ne_eqb}
use Rattle.std.proofs.lemmas.List.{length_push, map-append}
use Rattle.nb_model.specs.Gravity.{octants}
use Rattle.nb_walk.specs.declared.item.Item.{Item}
use Rattle.nb_walk.specs.declared.item.Item.TheVariants as item
use Rattle.nb_walk.specs.declared.shared.SharedItem.{SharedItem}
use Rattle.nb_walk.specs.Looks.{kid_items}
use Rattle.nb_walk.specs.Shared.{shared_by}
use Rattle.nb_walk.proofs.Rooms.{kid_next, no_kids}
use Rattle.nb_walk.proofs.group.Group.open.Goals.{then-kids-octant-eq1, else-kids-octant-eq1}
use Rattle.nb_walk.proofs.group.Group.open.Goals as goal

abbrev shares : ℕ → ℕ → Item → SharedItem
shares block walks x = record { item = x; block = block; walks = walks }

-- the items with one octant more, or none
with_kid : (block walks : ℕ) (old kid next : List Item) (front items : List SharedItem) → items ≡ front ++ shared_by block walks old → next ≡ old ++ kid
    → items ++ shared_by block walks kid ≡ front ++ shared_by block walks next
with_kid block walks old kid next front items is more =
    ap (λ l. l ++ shared_by block walks kid) is ∙ append_assoc front (shared_by block walks old) (shared_by block walks kid)
    ∙ ap (λ l. front ++ l) (sym (map-append (shares block walks) old kid) ∙ ap (shared_by block walks) (sym more))

pub loop-i-init : goal.loop-i-init
loop-i-init c = record {
  items = sym (ap (λ l. c.args.self.now.items.items ++ shared_by c.args.block c.args.walks l) (no_kids c.key-key.result c.kids-kids.result) ∙ append-nil c.args.self.now.items.items);
  free = omega (arith, c.requires.room);
  capacity = omega arith;
  tallies = refl;
  owns = refl;
  waits = refl;
  room = refl;
}

pub loop-i-preserved : goal.loop-i-preserved
loop-i-preserved c =
    let block = c.args.block in
    let walks = c.args.walks in
    let key = c.key-key.result in
    let kids = c.kids-kids.result in
    let i = c.loop-i.i in
    let octant = 7 - i in
    let front = c.args.self.now.items.items in
    let before = c.loop-i.self.items.items in
    let old = kid_items key kids (drop (8 - i) octants) in
    let next = kid_next key kids i c.loop-i-test.true in
    let kid : List Item = item.Cell (8 * key + octant) 0 ∷ [] in
    let was = c.loop-i.invariant in
    elim c.if-kids-octant-eq1.branch [
      | then-kids-octant-eq1 w ↦
          let set = cond-true (eqb (kids / 2 ^ octant % 2) 1) kid [] (eq-eqb (kids / 2 ^ octant % 2) 1 w.if-kids-octant-eq1.true) in
          let push = w.push-then-kids-octant-eq1 in
          let one = shares block walks (item.Cell w.child.result 0) in
          let long = c.loop-i.self.items.ok.0 in
          let free : vec_len c.loop-i.self.items < vec_capacity c.loop-i.self.items = omega (arith, was.free, c.loop-i-test.true) in
          let all : push.new.self.items ≡ before ++ one ∷ [] = push.ensures.items ∙ cond-true (is_ok push.result) (before ++ one ∷ []) before (push.ensures.succeeds free) in
          let now : c.if-kids-octant-eq1.self.items.items ≡ before ++ shared_by block walks kid = ap (λ v. v.items.items) w.self-is ∙ all ∙ ap (λ k. before ++ shares block walks (item.Cell k 0) ∷ []) w.child.ensures in
          let longer = length_push before one in
          let more : vec_capacity c.if-kids-octant-eq1.self.items ≡ vec_capacity push.new.self = ap (λ v. vec_capacity v.items) w.self-is in
          record {
            items = now ∙ with_kid block walks old kid _ front before was.items (next ∙ ap (λ l. old ++ l) set);
            free = omega (arith, ap (λ v. length v.items.items) w.self-is, ap length all, more, push.ensures.capacity, was.free);
            capacity = omega (arith, more, push.ensures.capacity, was.capacity);
            tallies = ap (λ v. v.tallies) w.self-is ∙ was.tallies;
            owns = ap (λ v. v.owns) w.self-is ∙ was.owns;
            waits = ap (λ v. v.waits) w.self-is ∙ was.waits;
            room = ap (λ v. v.room) w.self-is ∙ was.room;
          }
      | else-kids-octant-eq1 w ↦
          let unset = cond-false (eqb (kids / 2 ^ octant % 2) 1) kid [] (ne_eqb (kids / 2 ^ octant % 2) 1 w.if-kids-octant-eq1.false) in
          let now : c.if-kids-octant-eq1.self.items.items ≡ before = ap (λ v. v.items.items) w.self-is in
          record {
            items = now ∙ sym (append-nil before) ∙ with_kid block walks old [] _ front before was.items (next ∙ ap (λ l. old ++ l) unset);
            free = omega (arith, ap (λ v. length v.items.items) w.self-is, ap (λ v. vec_capacity v.items) w.self-is, was.free);
            capacity = omega (arith, ap (λ v. vec_capacity v.items) w.self-is, was.capacity);
            tallies = ap (λ v. v.tallies) w.self-is ∙ was.tallies;
            owns = ap (λ v. v.owns) w.self-is ∙ was.owns;
            waits = ap (λ v. v.waits) w.self-is ∙ was.waits;
            room = ap (λ v. v.room) w.self-is ∙ was.room;
          }
    ]

pub returns-clause-items : goal.returns-clause-items
returns-clause-items c =
    let cell = c.args.cell.now in
    let front = c.args.self.now.items.items in
    let share = shared_by c.args.block c.args.walks in
    let i = c.loop-i.i in
    let last : 8 - i ≡ 0 = omega arith in
    let some : cell.kids ≢ 0 = λ none. c.if-kids-eq0.false (c.kids-kids.ensures.value ∙ none) in
    let opened = cond-false (eqb cell.kids 0) (item.Bodies cell.first cell.count ∷ []) (kid_items cell.key cell.kids octants) (ne_eqb cell.kids 0 some) in
    c.loop-i.invariant.items
    ∙ ap (λ n. front ++ share (kid_items c.key-key.result c.kids-kids.result (drop n octants))) last
    ∙ ap (λ k. front ++ share (kid_items k c.kids-kids.result octants)) c.key-key.ensures.value
    ∙ ap (λ k. front ++ share (kid_items cell.key k octants)) c.kids-kids.ensures.value
    ∙ ap (λ l. front ++ share l) (sym opened)

pub returns-clause-capacity : goal.returns-clause-capacity
returns-clause-capacity c = c.loop-i.invariant.capacity

pub returns-clause-tallies : goal.returns-clause-tallies
returns-clause-tallies c = c.loop-i.invariant.tallies

pub returns-clause-owns : goal.returns-clause-owns
returns-clause-owns c = c.loop-i.invariant.owns

pub returns-clause-waits : goal.returns-clause-waits
returns-clause-waits c = c.loop-i.invariant.waits

pub returns-clause-room : goal.returns-clause-room
returns-clause-room c = c.loop-i.invariant.room
