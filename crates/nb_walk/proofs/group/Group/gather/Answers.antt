use Rattle.std.proofs.Common.{◌≡◌, ◌+◌, ◌<◌, ◌≤◌, ◌↔◌, [], ◌∷◌, ◌++◌, length, take, get_or, is_ok, sym, ap, ◌∙◌, subst, arith, refl, vec_len, vec_capacity}
use Rattle.std.specs.Prelude.{All, Contains}
use Rattle.std.proofs.lemmas.Bool.{cond-true}
use Rattle.std.proofs.lemmas.List.{take_more, take_all}
use Rattle.std.proofs.lemmas.List.Elements.{All-push, All-same, All-nil}
use Rattle.nb_walk.specs.Group.{own_items, all_shared, HasNeed, SomeNeed}
use Rattle.nb_walk.specs.Room.{IsItemInRange}
use Rattle.nb_walk.specs.Page.{IsPageOf}
use Rattle.nb_walk.proofs.Names.{names_more, names_same, names_none}
use Rattle.nb_walk.proofs.Waits.{small_need}
use Rattle.nb_walk.proofs.group.Group.gather.Goals.{in-Some, in_default}
use Rattle.nb_walk.proofs.group.Group.gather.Goals as goal

pub loop-own-init : goal.loop-own-init
loop-own-init c =
    let tree = c.args.tree.now in
    let none = c.requires.empty in
    record {
      names = names_none tree [] c.args.wants.now.items refl none;
      pages = All-same (IsPageOf tree) c.args.wants.now.items [] none (All-nil (IsPageOf tree));
      count = (let empty = ap length none in omega arith);
      capacity = omega arith;
    }

pub page_name-requires-clause-small : goal.page_name-requires-clause-small
page_name-requires-clause-small c =
    let g = c.args.self.now in
    let i = c.loop-own.own-index in
    let own = c.own-item.result in
    let same : own ≡ get_or g.owns.items i own = c.own-item.is ∙ ap (λ l. get_or l i own) c.deref-own-items.ensures.value in
    let count = c.requires.group.owns in
    let inside : i < length g.owns.items = omega arith in
    let need : HasNeed i (all_shared g) own = subst (HasNeed i (all_shared g)) (sym same) (c.requires.needs i own (omega arith)) in
    let room = c.requires.group.rooms i own inside in
    small_need i (all_shared g) own c.in-Some.item need (subst (λ o. All IsItemInRange (own_items o)) (sym same) room.small) c.requires.group.small c.in-Some.is

pub loop-own-preserved : goal.loop-own-preserved
loop-own-preserved c =
    let tree = c.args.tree.now in
    let owns = c.deref-own-items.result.now in
    let i = c.loop-own.own-index in
    let own = c.own-item.result in
    let more : take (i + 1) owns ≡ take i owns ++ own ∷ [] = take_more owns i own (omega arith) ∙ ap (λ o. take i owns ++ o ∷ []) (sym c.own-item.is) in
    let inv = c.loop-own.invariant in
    let names = c.loop-own.wants.items in
    let now = c.match-own.wants.items in
    elim c.match-own.branch [
      | in-Some w ↦
          let name = w.page_name.result in
          let room : vec_len c.loop-own.wants < vec_capacity c.loop-own.wants = omega arith in
          let pushed : now ≡ names ++ name ∷ [] = ap (λ v. v.items) w.wants-is ∙ w.push.ensures.items ∙ cond-true (is_ok w.push.result) (names ++ name ∷ []) names (w.push.ensures.succeeds room) in
          record {
            names = names_more tree (take i owns) (take (i + 1) owns) own names now name more pushed (record { item = w.in-Some.item; need = w.in-Some.is; page = sym w.page_name.ensures.name }) inv.names;
            pages = subst (All (IsPageOf tree)) (sym pushed) (All-push (IsPageOf tree) names name inv.pages w.page_name.ensures.page);
            count = let up = w.push.ensures.upper_bound in subst (λ v. vec_len v ≤ i + 1) (sym w.wants-is) (omega arith);
            capacity = let up = w.push.ensures.capacity in subst (λ v. vec_capacity c.args.wants.now ≤ vec_capacity v) (sym w.wants-is) (omega arith);
          }
      | in_default w ↦
          let same : now ≡ names = ap (λ v. v.items) w.wants-is in
          record {
            names = names_same tree (take i owns) (take (i + 1) owns) own names now more same w.in_default.is inv.names;
            pages = subst (All (IsPageOf tree)) (sym same) inv.pages;
            count = subst (λ v. vec_len v ≤ i + 1) (sym w.wants-is) (omega arith);
            capacity = subst (λ v. vec_capacity c.args.wants.now ≤ vec_capacity v) (sym w.wants-is) inv.capacity;
          }
    ]

pub returns-clause-names : goal.returns-clause-names
returns-clause-names c = λ name.
    let owns = c.deref-own-items.result.now in
    let all : take c.loop-own.own-index owns ≡ c.args.self.now.owns.items = take_all c.loop-own.own-index owns (omega arith) ∙ c.deref-own-items.ensures.value in
    subst (λ l. Contains c.loop-own.wants.items name ↔ SomeNeed c.args.tree.now l name) all (c.loop-own.invariant.names name)
