use Rattle.std.proofs.Common.{arith, ◌≡◌, ℕ, ◌++◌, [], List, length, get_or, take, drop, append-nil, sym, ap, ◌∙◌, subst}
use Rattle.std.specs.Vec.{with_items}
use Rattle.std.proofs.lemmas.List.{take_all, drop_all}
use Rattle.nb_walk.specs.declared.group.Group.{Group}
use Rattle.nb_walk.specs.declared.group.Own.{Own}
use Rattle.nb_walk.specs.Group.{own_items}
use Rattle.nb_walk.proofs.Endings.{AreEmpty, empty_more, emptied_group, emptied_walks}
use Rattle.nb_walk.proofs.group.Group.finish.Goals as goal

written_back : (n : ℕ) (xs ys : List Own) → length xs ≡ length ys → n ≡ length ys → take n (xs ++ drop (length xs) ys) ≡ xs
written_back n xs ys same all =
    let none : drop (length xs) ys ≡ [] = drop_all (length xs) ys (omega arith) in
    ap (λ l. take n (xs ++ l)) none ∙ ap (take n) (append-nil xs) ∙ take_all n xs (omega arith)

pub loop-own-init : goal.loop-own-init
loop-own-init c = λ k d below. absurd (omega arith)

pub loop-own-preserved : goal.loop-own-preserved
loop-own-preserved c =
    let here = c.loop-own-test.true in
    let long : length c.loop-own.own-items ≡ length c.deref_mut-own-items.result.now = c.loop-own.auto.own-items in
    empty_more c.loop-own.own-items c.loop-own.own-index
    (record { items = c.clear-in-loop-own.new.self; need = (get_or c.loop-own.own-items c.loop-own.own-index c.own-item.result).need })
    c.loop-own.invariant (omega arith) c.clear-in-loop-own.ensures

pub returns-clause-group : goal.returns-clause-group
returns-clause-group c =
    let g = c.args.self.now in
    let lent = c.deref_mut-own-items.result.now in
    let all = c.loop-own.own-items in
    let from : Group = record { tallies = g.tallies; owns = with_items g.owns all; items = c.clear.new.self; waits = c.clear-2.new.self; room = g.room } in
    let long : length all ≡ length lent = c.loop-own.auto.own-items in
    let lends : length lent ≡ length g.owns.items = ap length c.deref_mut-own-items.ensures.value in
    let sizes : g.owns.len ≡ length g.owns.items = g.owns.ok.0 in
    let written : from.owns.items ≡ all = written_back g.owns.len all g.owns.items (omega arith) sizes in
    let count : length from.owns.items ≡ length g.owns.items = ap length written ∙ long ∙ lends in
    let end = c.loop-own-test.false in
    let empty : AreEmpty from.owns.items (length from.owns.items) = λ k d below.
    subst (λ l. own_items (get_or l k d) ≡ []) (sym written) (c.loop-own.invariant k d (omega arith)) in
    let first = c.clear.ensures.capacity in
    let second = c.clear-2.ensures.capacity in
    emptied_group g from c.requires.group c.clear.ensures.items c.clear-2.ensures.items count empty (omega arith) (omega arith)

pub returns-clause-finished : goal.returns-clause-finished
returns-clause-finished c =
    let g = c.args.self.now in
    let lent = c.deref_mut-own-items.result.now in
    let all = c.loop-own.own-items in
    let from : Group = record { tallies = g.tallies; owns = with_items g.owns all; items = c.clear.new.self; waits = c.clear-2.new.self; room = g.room } in
    let long : length all ≡ length lent = c.loop-own.auto.own-items in
    let lends : length lent ≡ length g.owns.items = ap length c.deref_mut-own-items.ensures.value in
    let sizes : g.owns.len ≡ length g.owns.items = g.owns.ok.0 in
    let written : from.owns.items ≡ all = written_back g.owns.len all g.owns.items (omega arith) sizes in
    let count : length from.owns.items ≡ length g.owns.items = ap length written ∙ long ∙ lends in
    let end = c.loop-own-test.false in
    let empty : AreEmpty from.owns.items (length from.owns.items) = λ k d below.
    subst (λ l. own_items (get_or l k d) ≡ []) (sym written) (c.loop-own.invariant k d (omega arith)) in
    emptied_walks g from c.requires.group c.clear.ensures.items c.clear-2.ensures.items count empty
