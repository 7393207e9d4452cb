-- The walks of a group without items: over a tree without bodies in the box nothing is left.
use Rattle.std.proofs.Common.{◌≡◌, ℕ, ◌+◌, ◌<◌, ◌≤◌, List, [], ◌++◌, length, get_or, set, get_or-set_other, get_or-set_same, sym, ap, ◌∙◌, arith, subst, inl, inr}
use Rattle.std.specs.Prelude.{◌≢◌, All, vec_capacity}
use Rattle.std.proofs.lemmas.Bool.{cases_lt}
use Rattle.std.proofs.lemmas.List.Elements.{All-nil}
use Rattle.nb_walk.specs.declared.group.Group.{Group}
use Rattle.nb_walk.specs.declared.group.Own.{Own}
use Rattle.nb_walk.specs.declared.shared.SharedItem.{SharedItem}
use Rattle.nb_walk.specs.Group.{all_shared, group_walks, own_items, IsGroup}
use Rattle.nb_walk.specs.Room.{HasRoom, IsItemInRange}
use Rattle.nb_walk.specs.Shared.{items_of, IsShared}
use Rattle.nb_walk.proofs.Joins.{room_none}
use Rattle.nb_walk.proofs.Rounds.{none_of_none}
use Rattle.nb_walk.proofs.Sharing.{all_walks}

abbrev pub AreEmpty : List Own → ℕ → Type 0
AreEmpty owns n = (k : ℕ) (d : Own) → k < n → own_items (get_or owns k d) ≡ []

pub empty_more : (owns : List Own) (i : ℕ) (o : Own) → AreEmpty owns i → i < length owns → own_items o ≡ [] → AreEmpty (set owns i o) (i + 1)
empty_more owns i o empty within own k d below = elim (cases_lt k i) [
  | inl before ↦
      let other : k ≢ i = omega arith in
      ap own_items (get_or-set_other owns i k o d other) ∙ empty k d before
  | inr from ↦
      let same : k ≡ i = omega arith in
      ap (λ j. own_items (get_or (set owns i o) j d)) same ∙ ap own_items (get_or-set_same owns i o d within) ∙ own
]

module _ (g from : Group) (group : IsGroup g) (items : from.items.items ≡ []) (waits : from.waits.items ≡ []) (count : length from.owns.items ≡ length g.owns.items) (empty : AreEmpty from.owns.items (length from.owns.items)) where
  abbrev emptied : Group
  emptied = record { tallies = g.tallies; owns = from.owns; items = from.items; waits = from.waits; room = g.room }

  pub emptied_shared : all_shared emptied ≡ []
  emptied_shared = ap (λ l. l ++ from.waits.items) items ∙ waits

  pub emptied_group : vec_capacity g.items ≤ vec_capacity from.items → vec_capacity g.waits ≤ vec_capacity from.waits → IsGroup emptied
  emptied_group capacity waits_capacity = record {
    owns = (let pairs = group.owns in omega arith);
    tallies = group.tallies;
    rooms = λ k d below. subst HasRoom (sym (empty k d below)) room_none;
    small = subst (All (λ e. IsItemInRange e.item)) (sym emptied_shared) (All-nil (λ (e : SharedItem). IsItemInRange e.item));
    shared = subst (All (IsShared (length g.tallies.items))) (sym emptied_shared) (All-nil (IsShared (length g.tallies.items)));
    few = subst (λ l. length l ≤ g.room) (sym emptied_shared) (omega arith);
    items = (let room = group.items in omega arith);
    waits = (let room = group.waits in omega arith);
  }

  pub emptied_walks : All (λ w. w.items ≡ []) (group_walks emptied)
  emptied_walks =
      let pairs = group.owns in
      all_walks (λ w. w.items ≡ []) g.tallies.items from.owns.items (all_shared emptied) (omega arith) (λ i a o within.
      ap (λ l. items_of i l ++ own_items (get_or from.owns.items i o)) emptied_shared ∙ ap (λ l. l ++ own_items (get_or from.owns.items i o)) (none_of_none i) ∙ empty i o (omega arith))
