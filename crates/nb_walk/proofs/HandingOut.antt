-- An item that walks share is handed out to them.
use Rattle.std.proofs.Common.{◌≡◌, ℕ, ◌+◌, ◌<◌, ◌≤◌, Bool, true, false, Result, Ok, Err, List, [], ◌∷◌, ◌++◌, append-nil, append_assoc, length, get_or, Option, Some, None, sym, ap, ◌∙◌, refl, arith, subst, inl, inr}
use Rattle.std.specs.Prelude.{◌≢◌, ◌⊎◌, IsTrue, OnOk, All, Contains, vec_capacity}
use Rattle.std.proofs.lemmas.List.{length-append}
use Rattle.std.proofs.lemmas.List.Sums.{sum_by-append, sum_by-cons}
use Rattle.nb_model.specs.declared.params.Params.{Params}
use Rattle.nb_record.specs.declared.tree.Tree.{Tree}
use Rattle.nb_walk.specs.declared.group.Group.{Group}
use Rattle.nb_walk.specs.declared.group.Own.{Own}
use Rattle.nb_walk.specs.declared.item.Item.{Item}
use Rattle.nb_walk.specs.declared.shared.SharedItem.{SharedItem}
use Rattle.nb_walk.specs.Group.{IsOwnTally, walk_of, own_items, all_shared, group_walks, walks_with, IsGroup, AreTallies, TakesShared, RunsOwn, SharesOut, HandsOut, shared_bound}
use Rattle.nb_walk.specs.Items.{last_item}
use Rattle.nb_walk.specs.Left.{item_bound}
use Rattle.nb_walk.specs.Room.{HasRoom, IsItemInRange}
use Rattle.nb_walk.specs.Running.{EachAt, Each, KeepsWalk, HasRun}
use Rattle.nb_walk.specs.Shared.{is_left_to, items_of, IsShared}
use Rattle.nb_walk.specs.Shown.{shown_for}
use Rattle.nb_walk.specs.Walk.{WalkValue}
use Rattle.nb_walk.proofs.Lefts.{bound_some}
use Rattle.nb_walk.proofs.Parts.{run_wait, run_then, kept_then}
use Rattle.nb_walk.proofs.SharedLooks.{all_behind}
use Rattle.nb_walk.proofs.Sharing.{items_of_append, items_of_one, items_of_other, walks_each, walks_length}

abbrev pub rest_of : SharedItem → ℕ → SharedItem
rest_of e others = record { item = e.item; block = e.block; walks = others }

-- what one walk has left, before and after
pub record OneHanded (e : SharedItem) (others i : ℕ) (old new : Own) : Type 0 where
  pub same : items_of i (rest_of e others ∷ []) ++ own_items new ≡ items_of i (e ∷ []) ++ own_items old
  pub none : own_items old ≡ [] → items_of i (rest_of e others ∷ []) ≡ []

bool_cases : (t : Bool) → (t ≡ true) ⊎ (t ≡ false)
bool_cases true = inl refl
bool_cases false = inr refl

empty_or : (l : List Item) → (l ≡ []) ⊎ (l ≢ [])
empty_or [] = inl refl
empty_or (x ∷ l) = inr (λ e. cc)

pub one_handed : (e : SharedItem) (others i : ℕ) (old new : Own) → SharesOut e.item (is_left_to i e) (is_left_to i (rest_of e others)) old new → OneHanded e others i old new
one_handed e others i old new shares = elim (bool_cases (is_left_to i e)) [
  | inr out ↦
      let both = shares.other out in
      let no_rest = items_of_other i (rest_of e others) both.1 in
      record {
        same = ap (λ l. l ++ own_items new) no_rest ∙ both.0 ∙ sym (ap (λ l. l ++ own_items old) (items_of_other i e out));
        none = λ empty. no_rest;
      }
  | inl has ↦ elim (empty_or (own_items old)) [
    | inl empty ↦
        let both = shares.takes has empty in
        let no_rest = items_of_other i (rest_of e others) both.1 in
        record {
          same = ap (λ l. l ++ own_items new) no_rest ∙ both.0 ∙ sym (ap (λ l. l ++ own_items old) (items_of_one i e has) ∙ ap (λ l. e.item ∷ l) empty);
          none = λ no_own. no_rest;
        }
    | inr some ↦
        let both = shares.holds some in
        record {
          same = ap (λ l. l ++ own_items new) (items_of_one i (rest_of e others) (both.1 ∙ has)) ∙ ap (λ l. e.item ∷ l) both.0 ∙ sym (ap (λ l. l ++ own_items old) (items_of_one i e has));
          none = λ empty. absurd (some empty);
        }
  ]
]

-- the group with the owns that took the item, and the others' rest among what waits
module _ (old : Group) (e : SharedItem) (others : ℕ) (new : Group) (group : IsGroup old)
    (tallies : new.tallies ≡ old.tallies) (items : new.items ≡ old.items)
    (shares : EachAt (λ i. SharesOut e.item (is_left_to i e) (is_left_to i (rest_of e others))) (length old.owns.items) old.owns.items new.owns.items)
    (waits : (i : ℕ) → items_of i new.waits.items ≡ items_of i old.waits.items ++ items_of i (rest_of e others ∷ [])) where
  within_owns : (i : ℕ) → i < length old.tallies.items → i < length old.owns.items
  within_owns i below = let long = group.owns in omega arith

  handed_at : (i : ℕ) (o : Own) → i < length old.tallies.items → OneHanded e others i (get_or old.owns.items i o) (get_or new.owns.items i o)
  handed_at i o below = one_handed e others i (get_or old.owns.items i o) (get_or new.owns.items i o) (shares i o (within_owns i below))

  pub hands_out : HandsOut old e new
  hands_out = record {
    tallies = tallies;
    items = items;
    left = λ i o below.
        let own_old = own_items (get_or old.owns.items i o) in
        let own_new = own_items (get_or new.owns.items i o) in
        let I = items_of i old.items.items in
        let W = items_of i old.waits.items in
        let E = items_of i (e ∷ []) in
        let R = items_of i (rest_of e others ∷ []) in
        let one = handed_at i o below in
        ap (λ l. l ++ own_new) (items_of_append i new.items.items new.waits.items ∙ ap (λ v. items_of i v.items ++ items_of i new.waits.items) items ∙ ap (λ l. I ++ l) (waits i))
        ∙ append_assoc I (W ++ R) own_new
        ∙ ap (λ l. I ++ l) (append_assoc W R own_new ∙ ap (λ l. W ++ l) one.same ∙ sym (append_assoc W E own_old))
        ∙ sym (append_assoc I (W ++ E) own_old)
        ∙ sym (ap (λ l. l ++ own_old) (items_of_append i old.items.items (old.waits.items ++ e ∷ []) ∙ ap (λ l. I ++ l) (items_of_append i old.waits.items (e ∷ []))));
    takes = λ i o below has empty. ((shares i o (within_owns i below)).takes has empty).0;
    other = λ i o below out. ((shares i o (within_owns i below)).other out).0;
    holds = λ i o below some. ((shares i o (within_owns i below)).holds some).0;
    waits = λ i o below empty. waits i ∙ ap (λ l. items_of i old.waits.items ++ l) ((handed_at i o below).none empty) ∙ append-nil (items_of i old.waits.items);
  }

-- ---- an item is handed out, and each walk visits its own

module _ (cells bodies_shown : ℕ → Option (List ℕ)) (params : Params) (tree : Tree) (old : Group) (e : SharedItem) (mid : Group) (group : IsGroup old) (tallies : AreTallies params old)
    (mid_group : IsGroup mid) (hands : HandsOut old e mid) where
  abbrev Run : ℕ → WalkValue → WalkValue → Type 0
  Run n = HasRun cells bodies_shown params tree n

  mid_count : length mid.tallies.items ≡ length old.tallies.items
  mid_count = ap (λ v. length v.items) hands.tallies

  pub handed_run : Each (Run 0) (length old.tallies.items) (walks_with old e) (group_walks mid)
  handed_run i d below =
      let long = group.owns in
      let mid_long = mid_group.owns in
      walks_each (Run 0) old.tallies.items mid.tallies.items old.owns.items mid.owns.items ((old.items.items ++ e ∷ []) ++ old.waits.items) (all_shared mid) i d long mid_count (omega (arith, mid_count)) below
      (λ a o.
      let was = walk_of (get_or old.tallies.items i a) (items_of i ((old.items.items ++ e ∷ []) ++ old.waits.items) ++ own_items (get_or old.owns.items i o)) in
      subst (λ v. Run 0 was (walk_of (get_or v.items i a) (items_of i (all_shared mid) ++ own_items (get_or mid.owns.items i o)))) (sym hands.tallies)
      (subst (λ l. Run 0 was (walk_of (get_or old.tallies.items i a) l)) (sym (hands.left i o below))
      (run_wait cells bodies_shown params tree i old.items.items (e ∷ []) old.waits.items (own_items (get_or old.owns.items i o)) (get_or old.tallies.items i a) (tallies i a below))))

  module _ (new : Group) (items : new.items ≡ mid.items) (new_waits : new.waits ≡ mid.waits) (count : length new.tallies.items ≡ length mid.tallies.items) where
    pub handed_kept : Each (KeepsWalk params tree) (length mid.tallies.items) (group_walks mid) (group_walks new) → Each (KeepsWalk params tree) (length old.tallies.items) (walks_with old e) (group_walks new)
    handed_kept kept i d below = kept_then params tree (get_or (walks_with old e) i d) (get_or (group_walks mid) i d) (get_or (group_walks new) i d) (handed_run i d below).kept (kept i d (omega (arith, mid_count)))

    module _ (runs : RunsOwn cells bodies_shown params tree mid new) where
      then_run : (i : ℕ) (d : WalkValue) (n : ℕ) → i < length old.tallies.items → Run n (get_or (group_walks mid) i d) (get_or (group_walks new) i d) → Run (0 + n) (get_or (walks_with old e) i d) (get_or (group_walks new) i d)
      then_run i d n below run = run_then cells bodies_shown params tree 0 n (get_or (walks_with old e) i d) (get_or (group_walks mid) i d) (get_or (group_walks new) i d) (handed_run i d below) run

      inside : (i : ℕ) → i < length old.tallies.items → i < length mid.tallies.items
      inside i below = omega (arith, mid_count)

      last_one : (x : Item) → last_item (x ∷ []) ≡ Some x
      last_one x = refl

      took_one : shown_for cells bodies_shown tree e.item ≢ None → (i : ℕ) (d : WalkValue) (o : Own) → i < length old.tallies.items → is_left_to i e ≡ true → own_items (get_or old.owns.items i o) ≡ []
          → Run 1 (get_or (walks_with old e) i d) (get_or (group_walks new) i d)
      took_one shown i d o below has empty =
          let own = hands.takes i o below has empty in
          let last : last_item (own_items (get_or mid.owns.items i o)) ≡ Some e.item = ap last_item own ∙ last_one e.item in
          then_run i d 1 below (runs.looked i d o e.item (inside i below) last shown)

      no_last : (x : Item) → last_item [] ≡ Some x → ⊥
      no_last x is = cc

      stays_empty : (i : ℕ) (o : Own) → i < length old.tallies.items → own_items (get_or mid.owns.items i o) ≡ [] → own_items (get_or new.owns.items i o) ≡ []
      stays_empty i o below empty = runs.stays i o (inside i below) (λ x is. absurd (no_last x (sym (ap last_item empty) ∙ is))) ∙ empty

      pub handed_takes : shown_for cells bodies_shown tree e.item ≢ None → TakesShared cells bodies_shown params tree old e new
      handed_takes shown = record {
        ran = λ i d below. then_run i d 0 below (runs.ran i d (inside i below));
        took = λ shown_ i d o below has empty. took_one shown i d o below has empty;
        own = λ i d o below empty. elim (bool_cases (is_left_to i e)) [
          | inl has ↦ inr (took_one shown i d o below has empty)
          | inr out ↦ inl (stays_empty i o below (hands.other i o below out ∙ empty))
        ];
        others = λ i x there. subst (λ v. Contains (items_of i v.items) x) (sym (items ∙ hands.items)) there;
        rests = λ rest i o below.
            let below_old : i < length old.tallies.items = omega (arith, mid_count) in
            let was = rest i o below_old in
            record {
              last = λ x is. runs.rests i o x (inside i below_old) is;
              shared = λ empty. elim (empty_or (own_items (get_or old.owns.items i o))) [
                | inl no_own ↦
                    subst (λ v. All (λ x. shown_for cells bodies_shown tree x ≡ None) (items_of i v.items)) (sym new_waits)
                    (subst (All (λ x. shown_for cells bodies_shown tree x ≡ None)) (sym (hands.waits i o below_old no_own)) (was.shared no_own))
                | inr some ↦
                    let same = hands.holds i o below_old some in
                    let still = runs.stays i o (inside i below_old) (λ x is. was.last x (sym (ap last_item same) ∙ is)) in
                    absurd (some (sym same ∙ sym still ∙ empty))
              ];
            };
        bound =
            let all = sum_by-append (λ (s : SharedItem). item_bound tree s.item) old.items.items (e ∷ []) in
            let one = sum_by-cons (λ (s : SharedItem). item_bound tree s.item) e [] in
            let some = bound_some tree e.item in
            subst (λ v. shared_bound tree v.items < shared_bound tree (old.items.items ++ e ∷ [])) (sym (items ∙ hands.items)) (omega arith);
      }

-- ---- what always holds of a group

-- the group with other owns, and more shared items that wait
pub group_with : (old new : Group) (more : List SharedItem) → IsGroup old → new.tallies ≡ old.tallies → new.items ≡ old.items → new.room ≡ old.room → length new.owns.items ≡ length old.owns.items
    → All (λ o. HasRoom (own_items o)) new.owns.items → new.waits.items ≡ old.waits.items ++ more → All (λ s. IsItemInRange s.item) more → All (IsShared (length old.tallies.items)) more
    → vec_capacity old.waits ≤ vec_capacity new.waits → length (all_shared old) + length more ≤ old.room → IsGroup new
group_with old new more group tallies items room owns rooms waits small shared capacity few =
    let long = group.owns in
    let space = group.items in
    let waiting = group.waits in
    let item_list = ap (λ v. v.items) items in
    let all : length (all_shared new) ≡ length (all_shared old) + length more =
    omega (arith, ap length item_list, ap length waits, length-append new.items.items new.waits.items, length-append old.items.items old.waits.items, length-append old.waits.items more) in
    record {
      owns = owns ∙ long ∙ sym (ap (λ v. length v.items) tallies);
      tallies = subst (λ v. All IsOwnTally v.items) (sym tallies) group.tallies;
      rooms = rooms;
      small = all_behind (λ (s : SharedItem). IsItemInRange s.item) old.items.items more old.waits.items new.items.items new.waits.items item_list waits group.small small;
      shared = subst (λ v. All (IsShared (length v.items)) (all_shared new)) (sym tallies)
          (all_behind (IsShared (length old.tallies.items)) old.items.items more old.waits.items new.items.items new.waits.items item_list waits group.shared shared);
      few = omega (arith, all, room);
      items = subst (λ v. new.room ≤ vec_capacity v) (sym items) (omega (arith, room));
      waits = omega (arith, room);
    }

-- the others, where there are some
pub shared_rest : (e : SharedItem) (others n m : ℕ) → n ≡ m → (others ≡ 0 → ⊥) → (others ≡ 0) ⊎ IsShared n (rest_of e others) → IsShared m (rest_of e others)
shared_rest e others n m same some (inl none) = absurd (some none)
shared_rest e others n m same some (inr shared) = subst (λ k. IsShared k (rest_of e others)) same shared

-- ---- answers

pub unseen_of : (o : Option (List ℕ)) (t : Bool) → t ≡ false → (o ≢ None → IsTrue t) → o ≡ None
unseen_of None t is seen = refl
unseen_of (Some bytes) t is seen = absurd (let both = sym is ∙ seen (λ e. cc) in cc)

pub on_ok_then : {A E : Type 0} {P Q : Type 0} (r : Result A E) → (P → Q) → OnOk r P → OnOk r Q
on_ok_then (Ok a) f p = f p
on_ok_then (Err e) f p = tt

pub handed_length : (g : Group) (e : SharedItem) → IsGroup g → length (walks_with g e) ≡ length g.tallies.items
handed_length g e group = walks_length 0 g.tallies.items g.owns.items ((g.items.items ++ e ∷ []) ++ g.waits.items) group.owns

pub walks_many : (g : Group) → IsGroup g → length (group_walks g) ≡ length g.tallies.items
walks_many g group = walks_length 0 g.tallies.items g.owns.items (all_shared g) group.owns
