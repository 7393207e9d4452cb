use Rattle.std.proofs.Common.{◌≡◌, ◌+◌, ◌-◌, ◌*◌, ◌/◌, ◌%◌, ◌^◌, List, [], ◌∷◌, ◌++◌, length, drop, eqb, append-nil, append_assoc, arith, sym, ap, subst, ◌∙◌}
use Rattle.std.proofs.lemmas.Bool.{cond-true, cond-false, eq-eqb, ne_eqb}
use Rattle.std.proofs.lemmas.List.{length_push}
use Rattle.nb_model.specs.Gravity.{octants}
use Rattle.nb_walk.specs.declared.item.Item.{Item}
use Rattle.nb_walk.specs.declared.item.Item.TheVariants as item
use Rattle.nb_walk.specs.Room.{HasRoom}
use Rattle.nb_walk.specs.Looks.{kid_items}
use Rattle.nb_walk.proofs.Rooms.{not_deepest, kid_next, no_kids, room_kid}
use Rattle.nb_walk.proofs.items.push_kids.Goals.{then-kids-octant-eq1, else-kids-octant-eq1}
use Rattle.nb_walk.proofs.items.push_kids.Goals as goal

pub loop-i-init : goal.loop-i-init
loop-i-init c = record {
  items = sym (ap (λ l. c.args.items.now.items ++ l) (no_kids c.args.key c.args.kids) ∙ append-nil c.args.items.now.items);
  room = c.requires.room;
  depth = omega arith;
}

pub child-requires-clause-level : goal.child-requires-clause-level
child-requires-clause-level c = not_deepest c.args.key c.requires.key c.requires.level

-- the items with one octant more, or none
with_kid : (old items front next kid : List Item) → items ≡ front ++ old → next ≡ old ++ kid → items ++ kid ≡ front ++ next
with_kid old items front next kid is more = ap (λ l. l ++ kid) is ∙ append_assoc front old kid ∙ ap (λ l. front ++ l) (sym more)

pub loop-i-preserved : goal.loop-i-preserved
loop-i-preserved c =
    let key = c.args.key in
    let kids = c.args.kids in
    let i = c.loop-i.i in
    let octant = 7 - i in
    let front = c.args.items.now.items in
    let before = c.loop-i.items.items in
    let old = kid_items key kids (drop (8 - i) octants) in
    let next = kid_next key kids i c.loop-i-test.true in
    let kid : List Item = item.Cell (8 * key + octant) 0 ∷ [] in
    elim c.if-kids-octant-eq1.branch [
      | then-kids-octant-eq1 w ↦
          let set = cond-true (eqb (kids / 2 ^ octant % 2) 1) kid [] (eq-eqb (kids / 2 ^ octant % 2) 1 w.if-kids-octant-eq1.true) in
          let now : c.if-kids-octant-eq1.items.items ≡ before ++ kid = ap (λ v. v.items) w.items-is ∙ w.push.ensures.items ∙ ap (λ k. before ++ item.Cell k 0 ∷ []) w.child.ensures in
          let long = length_push before (item.Cell (8 * key + octant) 0) in
          record {
            items = now ∙ with_kid old before front _ kid c.loop-i.invariant.items (next ∙ ap (λ l. old ++ l) set);
            room = subst HasRoom (sym now) (room_kid before key octant i c.loop-i.invariant.room c.requires.key c.requires.level (omega arith) c.loop-i-test.true c.loop-i.invariant.depth);
            depth = omega (arith, ap length now, c.loop-i.invariant.depth);
          }
      | else-kids-octant-eq1 w ↦
          let unset = cond-false (eqb (kids / 2 ^ octant % 2) 1) kid [] (ne_eqb (kids / 2 ^ octant % 2) 1 w.if-kids-octant-eq1.false) in
          let now : c.if-kids-octant-eq1.items.items ≡ before = ap (λ v. v.items) w.items-is in
          record {
            items = now ∙ sym (append-nil before) ∙ with_kid old before front _ [] c.loop-i.invariant.items (next ∙ ap (λ l. old ++ l) unset);
            room = subst HasRoom (sym now) c.loop-i.invariant.room;
            depth = omega (arith, ap length now, c.loop-i.invariant.depth);
          }
    ]
