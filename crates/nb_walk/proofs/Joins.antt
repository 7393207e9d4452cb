-- A walk that is begun among the shared items.
use Rattle.std.proofs.Common.{◌≡◌, ℕ, suc, ◌+◌, ◌/◌, ◌%◌, ◌<◌, ◌≤◌, ◌&&◌, cond, eqb, Bool, true, false, List, [], ◌∷◌, ◌++◌, length, length-append, append-nil, sym, ap, ◌∙◌, refl, arith, subst, inl, inr}
use Rattle.std.specs.Prelude.{◌≢◌, ◌⊎◌, All, Contains, vec_capacity}
use Rattle.std.proofs.lemmas.Bool.{and_from, eqb-true, eq-eqb, ne_eqb, cond-true, cond-false, cases_eq}
use Rattle.std.proofs.lemmas.List.Elements.{All-nil, All-append, All-push, All-weaker, All-contains, Contains-append_left, Contains-append_right}
use Rattle.std.proofs.lemmas.Option.{slice_get_within}
use Rattle.nb_model.specs.declared.body.At.{At}
use Rattle.nb_walk.specs.declared.group.Group.{Group}
use Rattle.nb_walk.specs.declared.group.Own.{Own}
use Rattle.nb_walk.specs.declared.item.Item.{Item}
use Rattle.nb_walk.specs.declared.item.Item.TheVariants as item
use Rattle.nb_walk.specs.declared.shared.SharedItem.{SharedItem}
use Rattle.nb_walk.specs.declared.tally.Tally.{Tally}
use Rattle.nb_walk.specs.Group.{all_shared, group_walks, own_items, walk_of, walks_from, IsGroup, IsOwnTally}
use Rattle.nb_walk.specs.Joining.{JoinsRoot}
use Rattle.nb_walk.specs.Items.{root_items}
use Rattle.nb_walk.specs.Room.{HasRoom, IsItemInRange}
use Rattle.nb_walk.specs.Shared.{in_set, is_left_to, items_of, IsShared}
use Rattle.nb_walk.specs.Walk.{new_walk}
use Rattle.nb_walk.proofs.Passes.{with_items, all_among}
use Rattle.nb_walk.proofs.Rooms.{room_push}
use Rattle.nb_walk.proofs.Sharing.{items_of_append, items_of_one, items_of_other, all_left_to}

-- ---- a walk more in a set

same_and : (a b c : Bool) → (a ≡ true → b ≡ c) → (a && b) ≡ (a && c)
same_and true b c same = same refl
same_and false b c same = refl

module _ (walk : ℕ) (e joined : SharedItem) (block : e.block ≡ walk / 64) (same : joined.block ≡ e.block)
    (sets : (j : ℕ) → in_set joined.walks j ≡ cond (eqb j (walk % 64)) true (in_set e.walks j)) (below : (i : ℕ) → is_left_to i e ≡ true → i < walk) where
  pub joined_has : is_left_to walk joined ≡ true
  joined_has = and_from (eqb joined.block (walk / 64)) (in_set joined.walks (walk % 64)) (eq-eqb joined.block (walk / 64) (same ∙ block))
      (sets (walk % 64) ∙ cond-true (eqb (walk % 64) (walk % 64)) true (in_set e.walks (walk % 64)) (eq-eqb (walk % 64) (walk % 64) refl))

  pub joined_others : (i : ℕ) → i ≢ walk → is_left_to i joined ≡ is_left_to i e
  joined_others i other =
      ap (λ b. eqb b (i / 64) && in_set joined.walks (i % 64)) same
      ∙ same_and (eqb e.block (i / 64)) (in_set joined.walks (i % 64)) (in_set e.walks (i % 64)) (λ is.
      let here = eqb-true e.block (i / 64) is in
      let differs : i % 64 ≢ walk % 64 = λ at. other (omega arith) in
      sets (i % 64) ∙ cond-false (eqb (i % 64) (walk % 64)) true (in_set e.walks (i % 64)) (ne_eqb (i % 64) (walk % 64) differs))

  pub joined_shared : IsShared (walk + 1) joined
  joined_shared = record {
    walk = walk;
    has = joined_has;
    below = λ i is. elim (cases_eq i walk) [
      | inl one ↦ omega arith
      | inr other ↦ (let before = below i (sym (joined_others i other) ∙ is) in omega arith)
    ];
  }

  -- a walk before it has of this item what it had
  pub joined_items : joined.item ≡ e.item → (i : ℕ) → i < walk → items_of i (joined ∷ []) ≡ items_of i (e ∷ [])
  joined_items item i before = by (is_left_to i e) refl where
    by : (b : Bool) → is_left_to i e ≡ b → items_of i (joined ∷ []) ≡ items_of i (e ∷ [])
    by true is = items_of_one i joined (joined_others i (omega arith) ∙ is) ∙ ap (λ x. x ∷ []) item ∙ sym (items_of_one i e is)
    by false is = items_of_other i joined (joined_others i (omega arith) ∙ is) ∙ sym (items_of_other i e is)

  pub joined_none : ((i : ℕ) → is_left_to i e ≡ false) → (i : ℕ) → i < walk → items_of i (joined ∷ []) ≡ items_of i []
  unfolding items_of
  joined_none none i before = items_of_other i joined (joined_others i (omega arith) ∙ none i)

-- ---- the shared items

nothing : (xs : List Item) → All (λ x. ⊥) xs → xs ≡ []
nothing [] none = refl
nothing (x ∷ xs) none = absurd (none 0 x (omega arith))

-- a walk that is begun has none yet
pub none_yet : (walk : ℕ) (entries : List SharedItem) → All (IsShared walk) entries → items_of walk entries ≡ []
none_yet walk entries shared = nothing (items_of walk entries) (all_left_to (λ x. ⊥) walk entries (λ e there is.
    let before = (All-contains (IsShared walk) entries e shared there).below walk is in
    omega arith))

shared_more : (walk : ℕ) (entries : List SharedItem) → All (IsShared walk) entries → All (IsShared (walk + 1)) entries
shared_more walk entries shared = All-weaker (IsShared walk) (IsShared (walk + 1)) (λ e is. record { walk = is.walk; has = is.has; below = λ i left. (let before = is.below i left in omega arith) }) entries shared

root_small : (x : Item) → x ≡ item.Cell 1 0 → IsItemInRange x
root_small x is = subst IsItemInRange (sym is) root where
  root : IsItemInRange (item.Cell 1 0)
  root = ((0, record { deepest = omega arith; least = omega arith; below = omega arith }), omega arith)

module _ (walk : ℕ) (old from : Group) (group : IsGroup old) (count : walk ≡ length old.tallies.items) where
  old_shared : All (IsShared walk) (all_shared old)
  old_shared = subst (λ n. All (IsShared n) (all_shared old)) (sym count) group.shared

  pub joins_none : from.items.items ≡ old.items.items → vec_capacity old.items ≤ vec_capacity from.items → JoinsRoot walk false old (with_items old from)
  joins_none same capacity =
      let all : all_shared (with_items old from) ≡ all_shared old = ap (λ l. l ++ old.waits.items) same in
      record {
        tallies = refl;
        owns = refl;
        waits = refl;
        room = refl;
        items = (let room = group.items in omega arith);
        few = subst (λ l. length l ≤ old.room) (sym all) group.few;
        small = subst (All (λ e. IsItemInRange e.item)) (sym all) group.small;
        shared = subst (All (IsShared (walk + 1))) (sym all) (shared_more walk (all_shared old) old_shared);
        others = λ i before. ap (items_of i) all;
        own = ap (items_of walk) all ∙ none_yet walk (all_shared old) old_shared;
      }

  pub joins_root : (joined : SharedItem) (xs part : List SharedItem) → IsShared (walk + 1) joined → is_left_to walk joined ≡ true → joined.item ≡ item.Cell 1 0
      → old.items.items ≡ xs ++ part → from.items.items ≡ xs ++ joined ∷ [] → ((i : ℕ) → i < walk → items_of i (joined ∷ []) ≡ items_of i part)
      → length xs + 1 + length old.waits.items ≤ old.room → vec_capacity old.items ≤ vec_capacity from.items → JoinsRoot walk true old (with_items old from)
  joins_root joined xs part is_shared has root was now same few capacity =
      let among_front : (x : SharedItem) → Contains xs x → Contains (all_shared old) x = λ x there. Contains-append_left old.items.items old.waits.items x (subst (λ l. Contains l x) (sym was) (Contains-append_left xs part x there)) in
      let among_waits : (x : SharedItem) → Contains old.waits.items x → Contains (all_shared old) x = λ x there. Contains-append_right old.items.items old.waits.items x there in
      let shared = shared_more walk (all_shared old) old_shared in
      let keeps = λ (P : SharedItem → Type 0) (all : All P (all_shared old)) (own : P joined).
      subst (λ l. All P (l ++ old.waits.items)) (sym now)
      (All-append P (xs ++ joined ∷ []) old.waits.items (All-push P xs joined (all_among P (all_shared old) xs among_front all) own) (all_among P (all_shared old) old.waits.items among_waits all)) in
      record {
        tallies = refl;
        owns = refl;
        waits = refl;
        room = refl;
        items = (let room = group.items in omega arith);
        few = subst (λ l. length (l ++ old.waits.items) ≤ old.room) (sym now)
            (omega (arith, length-append (xs ++ joined ∷ []) old.waits.items, length-append xs (joined ∷ [])));
        small = keeps (λ e. IsItemInRange e.item) group.small (root_small joined.item root);
        shared = keeps (IsShared (walk + 1)) shared is_shared;
        others = λ i before.
            ap (λ l. items_of i (l ++ old.waits.items)) now
            ∙ items_of_append i (xs ++ joined ∷ []) old.waits.items
            ∙ ap (λ l. l ++ items_of i old.waits.items) (items_of_append i xs (joined ∷ []) ∙ ap (λ l. items_of i xs ++ l) (same i before) ∙ sym (items_of_append i xs part))
            ∙ sym (items_of_append i (xs ++ part) old.waits.items)
            ∙ ap (λ l. items_of i (l ++ old.waits.items)) (sym was);
        own =
            let front = none_yet walk xs (all_among (IsShared walk) (all_shared old) xs among_front old_shared) in
            let behind = none_yet walk old.waits.items (all_among (IsShared walk) (all_shared old) old.waits.items among_waits old_shared) in
            ap (λ l. items_of walk (l ++ old.waits.items)) now
            ∙ items_of_append walk (xs ++ joined ∷ []) old.waits.items
            ∙ ap (λ l. items_of walk (xs ++ joined ∷ []) ++ l) behind
            ∙ append-nil (items_of walk (xs ++ joined ∷ []))
            ∙ items_of_append walk xs (joined ∷ [])
            ∙ ap (λ l. l ++ items_of walk (joined ∷ [])) front
            ∙ items_of_one walk joined has
            ∙ ap (λ x. x ∷ []) root;
      }

-- ---- a walk more

walks_push : (from at : ℕ) (tallies : List Tally) (owns : List Own) (old new : List SharedItem) (a : Tally) (o : Own) → length owns ≡ length tallies → at ≡ from + length tallies
    → ((i : ℕ) → from ≤ i → i < at → items_of i new ≡ items_of i old)
    → walks_from from (tallies ++ a ∷ []) (owns ++ o ∷ []) new ≡ walks_from from tallies owns old ++ walk_of a (items_of at new ++ own_items o) ∷ []
unfolding walks_from
walks_push from at [] [] old new a o same is others =
    let here : from ≡ at = omega arith in
    ap (λ k. walk_of a (items_of k new ++ own_items o) ∷ []) here
walks_push from at [] (p ∷ owns) old new a o same is others = absurd (omega arith)
walks_push from at (t ∷ tallies) [] old new a o same is others = absurd (omega arith)
walks_push from at (t ∷ tallies) (p ∷ owns) old new a o same is others =
    let first = others from (omega arith) (omega arith) in
    let rest = walks_push (suc from) at tallies owns old new a o (omega arith) (omega arith) (λ i low below. others i (omega arith) below) in
    ap (λ l. walk_of t (l ++ own_items p) ∷ walks_from (suc from) (tallies ++ a ∷ []) (owns ++ o ∷ []) new) first
    ∙ ap (λ l. walk_of t (items_of from old ++ own_items p) ∷ l) rest

-- the root is among the shared items or its own
abbrev pub HasRoot : Bool → List Item → Type 0
HasRoot shares own = ((shares ≡ false) × (own ≡ root_items)) ⊎ ((shares ≡ true) × (own ≡ []))

pub room_none : HasRoom []
room_none = record { each = λ i x is. absurd (let below = slice_get_within [] i x is in omega arith); small = All-nil IsItemInRange }

root_room : (shares : Bool) (own : List Item) → HasRoot shares own → HasRoom own
root_room shares own (inl one) = subst HasRoom (sym one.1) (room_push [] (item.Cell 1 0) room_none (root_small (item.Cell 1 0) refl) (omega arith))
root_room shares own (inr other) = subst HasRoom (sym other.1) room_none

root_left : (shares : Bool) (shared own : List Item) → shared ≡ cond shares root_items [] → HasRoot shares own → shared ++ own ≡ root_items
root_left shares shared own is (inl one) = ap (λ l. l ++ own) (is ∙ cond-false shares root_items [] one.0) ∙ one.1
root_left shares shared own is (inr other) = ap (λ l. l ++ own) (is ∙ cond-true shares root_items [] other.0) ∙ ap (λ l. root_items ++ l) other.1

module _ (walk : ℕ) (shares : Bool) (old mid from : Group) (a : Tally) (o : Own) (group : IsGroup old) (count : walk ≡ length old.tallies.items) (joins : JoinsRoot walk shares old mid)
    (tallies : from.tallies.items ≡ mid.tallies.items ++ a ∷ []) (owns : from.owns.items ≡ mid.owns.items ++ o ∷ []) (root : HasRoot shares (own_items o)) where
  abbrev begun : Group
  begun = record { tallies = from.tallies; owns = from.owns; items = mid.items; waits = mid.waits; room = mid.room }

  all_tallies : from.tallies.items ≡ old.tallies.items ++ a ∷ []
  all_tallies = tallies ∙ ap (λ v. v.items ++ a ∷ []) joins.tallies

  all_owns : from.owns.items ≡ old.owns.items ++ o ∷ []
  all_owns = owns ∙ ap (λ v. v.items ++ o ∷ []) joins.owns

  pub begun_group : IsOwnTally a → IsGroup begun
  begun_group tally =
      let many = ap length all_tallies ∙ length-append old.tallies.items (a ∷ []) in
      let owned = ap length all_owns ∙ length-append old.owns.items (o ∷ []) in
      let pairs = group.owns in
      let more : walk + 1 ≡ length from.tallies.items = omega arith in
      record {
        owns = omega arith;
        tallies = subst (All IsOwnTally) (sym all_tallies) (All-push IsOwnTally old.tallies.items a group.tallies tally);
        rooms = subst (All (λ p. HasRoom (own_items p))) (sym all_owns) (All-push (λ p. HasRoom (own_items p)) old.owns.items o group.rooms (root_room shares (own_items o) root));
        small = joins.small;
        shared = subst (λ n. All (IsShared n) (all_shared mid)) more joins.shared;
        few = joins.few;
        items = joins.items;
        waits = (let here = joins.room in let same : vec_capacity mid.waits ≡ vec_capacity old.waits = ap (λ v. vec_capacity v) joins.waits in let room = group.waits in omega arith);
      }

  pub begun_walks : (target : At) → walk_of a root_items ≡ new_walk target → group_walks begun ≡ group_walks old ++ new_walk target ∷ []
  begun_walks target start =
      ap (λ l. walks_from 0 l from.owns.items (all_shared mid)) all_tallies
      ∙ ap (λ l. walks_from 0 (old.tallies.items ++ a ∷ []) l (all_shared mid)) all_owns
      ∙ walks_push 0 walk old.tallies.items old.owns.items (all_shared old) (all_shared mid) a o group.owns (omega arith) (λ i low below. joins.others i below)
      ∙ ap (λ l. group_walks old ++ walk_of a l ∷ []) (root_left shares (items_of walk (all_shared mid)) (own_items o) joins.own root)
      ∙ ap (λ w. group_walks old ++ w ∷ []) start
