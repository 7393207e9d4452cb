-- A pass over the items that walks share, one after the other.
use Rattle.std.proofs.Common.{◌≡◌, ℕ, ◌<◌, ◌≤◌, Bool, true, false, List, [], ◌∷◌, ◌++◌, Option, None, length, get_or, length-append, sym, ap, ◌∙◌, refl, arith, subst, inl, inr}
use Rattle.std.specs.Prelude.{◌≢◌, ◌⊎◌, All, Contains, vec_capacity}
use Rattle.std.proofs.lemmas.List.Elements.{All-weaker, All-contains, All-contains_itself, Contains-append_left, Contains-append_right, Contains-append_cases, Contains-push, Contains-push_cases}
use Rattle.nb_model.specs.declared.body.Body.{Body}
use Rattle.nb_model.specs.declared.params.Params.{Params}
use Rattle.nb_record.specs.declared.tree.Tree.{Tree}
use Rattle.nb_record.specs.Tree.{IsTreeOf}
use Rattle.nb_walk.specs.declared.group.Group.{Group}
use Rattle.nb_walk.specs.declared.group.Own.{Own}
use Rattle.nb_walk.specs.declared.item.Item.{Item}
use Rattle.nb_walk.specs.declared.shared.SharedItem.{SharedItem}
use Rattle.nb_walk.specs.declared.tally.Tally.{Tally}
use Rattle.nb_walk.specs.Group.{all_shared, group_walks, own_items, shared_bound, walks_from, walks_with, IsGroup, AreTallies, AreAtRest, KeepsRooms, TakesShared}
use Rattle.nb_walk.specs.Part.{IsTally}
use Rattle.nb_walk.specs.Room.{IsItemInRange}
use Rattle.nb_walk.specs.Running.{KeepsWalk, HasRun, Each}
use Rattle.nb_walk.specs.Shared.{is_left_to, items_of, IsShared}
use Rattle.nb_walk.specs.Shown.{Shows, shown_for}
use Rattle.nb_walk.specs.Walk.{WalkValue, IsSumInRange, IsWalkOn}
use Rattle.nb_walk.proofs.Parts.{kept_then, run_none, run_then}
use Rattle.nb_walk.proofs.Sharing.{items_of_append, items_of_one, items_of_other, walks_length, walk_at}

-- what holds of all holds of those of another list that are among them
pub all_among : {X : Type 0} (P : X → Type 0) (xs ys : List X) → ((x : X) → Contains ys x → Contains xs x) → All P xs → All P ys
all_among P xs ys among all = All-weaker (Contains ys) P (λ x there. All-contains P xs x all (among x there)) ys (All-contains_itself ys)

none_in : {X : Type 0} (x : X) → Contains [] x → ⊥
none_in x (k, below, is) = absurd (omega arith)

-- an item that a walk has left of one shared item is that one's
pub left_of_one : (i : ℕ) (e : SharedItem) (x : Item) → Contains (items_of i (e ∷ [])) x → (is_left_to i e ≡ true) × (e.item ≡ x)
left_of_one i e x there = by (is_left_to i e) refl where
  by : (b : Bool) → is_left_to i e ≡ b → (is_left_to i e ≡ true) × (e.item ≡ x)
  by true is = (
    is,
    elim (Contains-push_cases [] e.item x (subst (λ l. Contains l x) (items_of_one i e is) there)) [
      | inl none ↦ absurd (none_in x none)
      | inr same ↦ same
    ],
  )
  by false is = absurd (none_in x (subst (λ l. Contains l x) (items_of_other i e is) there))

-- walks with tallies in range are in range
pub walk_in_range : (params : Params) (from : ℕ) (tallies : List Tally) (owns : List Own) (entries : List SharedItem) (i : ℕ) (d : WalkValue) → length owns ≡ length tallies → All (IsTally params) tallies → i < length tallies
    → IsSumInRange params (get_or (walks_from from tallies owns entries) i d)
walk_in_range params from [] owns entries i d same all within = absurd (omega arith)
walk_in_range params from (a ∷ tallies) [] entries i d same all within = absurd (omega arith)
walk_in_range params from (a ∷ tallies) (o ∷ os) entries i d same all within =
    subst (IsSumInRange params) (sym (walk_at from (a ∷ tallies) (o ∷ os) entries i d a o same within)) (all i a within).range

-- ---- an item is taken out

-- the group with another's items that are to be looked at
abbrev pub with_items : Group → Group → Group
with_items g from = record { tallies = g.tallies; owns = g.owns; items = from.items; waits = g.waits; room = g.room }

pub rooms_then : (old mid new : Group) → KeepsRooms old mid → KeepsRooms mid new → KeepsRooms old new
rooms_then old mid new first second = record {
  count = second.count ∙ first.count;
  room = second.room ∙ first.room;
  tallies = omega arith;
  owns = omega arith;
}

module _ (g rest : Group) (e : SharedItem) (is : g.items.items ≡ rest.items.items ++ e ∷ []) where
  abbrev left : Group
  left = with_items g rest

  longer : length (all_shared left) < length (all_shared g)
  longer =
      let items = ap length is in
      let one = length-append rest.items.items (e ∷ []) in
      let all = length-append g.items.items g.waits.items in
      let others = length-append rest.items.items g.waits.items in
      omega arith

  among : (x : SharedItem) → Contains (all_shared left) x → Contains (all_shared g) x
  among x there = elim (Contains-append_cases rest.items.items g.waits.items x there) [
    | inl before ↦ Contains-append_left g.items.items g.waits.items x (subst (λ l. Contains l x) (sym is) (Contains-append_left rest.items.items (e ∷ []) x before))
    | inr behind ↦ Contains-append_right g.items.items g.waits.items x behind
  ]

  pub is_among : Contains (all_shared g) e
  is_among = Contains-append_left g.items.items g.waits.items e (subst (λ l. Contains l e) (sym is) (Contains-push rest.items.items e))

  pub left_group : IsGroup g → vec_capacity g.items ≤ vec_capacity rest.items → IsGroup left
  left_group group capacity =
      let fewer = longer in
      record {
        owns = group.owns;
        tallies = group.tallies;
        rooms = group.rooms;
        small = all_among (λ x. IsItemInRange x.item) (all_shared g) (all_shared left) among group.small;
        shared = all_among (IsShared (length g.tallies.items)) (all_shared g) (all_shared left) among group.shared;
        few = (let few = group.few in omega arith);
        items = (let room = group.items in omega arith);
        waits = group.waits;
      }

  pub left_room : IsGroup g → length (all_shared left) < g.room
  left_room group =
      let fewer = longer in
      let few = group.few in
      omega arith

  pub left_walks : group_walks g ≡ walks_with left e
  left_walks = ap (λ l. walks_from 0 g.tallies.items g.owns.items (l ++ g.waits.items)) is

-- ---- a pass

module _ (cells bodies_shown : ℕ → Option (List ℕ)) (params : Params) (tree : Tree) where
  abbrev Run : ℕ → WalkValue → WalkValue → Type 0
  Run looked old new = HasRun cells bodies_shown params tree looked old new

  -- what a pass has done so far: of the items that were to be looked at, a walk without own items has looked at one, or has
  -- them left
  pub record HasPassed (old now : Group) : Type 0 where
    pub group : IsGroup now
    pub tallies : AreTallies params now
    pub rooms : KeepsRooms old now
    pub ran : Each (HasRun cells bodies_shown params tree 0) (length old.tallies.items) (group_walks old) (group_walks now)
    pub rests : AreAtRest cells bodies_shown tree now
    pub goes_on : (i : ℕ) (d : WalkValue) (o : Own) (x : Item) → i < length old.tallies.items → own_items (get_or old.owns.items i o) ≡ []
        → Contains (items_of i old.items.items) x → shown_for cells bodies_shown tree x ≢ None
        → ((own_items (get_or now.owns.items i o) ≡ []) × Contains (items_of i now.items.items) x)
        ⊎ HasRun cells bodies_shown params tree 1 (get_or (group_walks old) i d) (get_or (group_walks now) i d)

  pub passed_none : (g : Group) → IsGroup g → AreTallies params g → AreAtRest cells bodies_shown tree g → HasPassed g g
  passed_none g group tallies rests = record {
    group = group;
    tallies = tallies;
    rooms = record { count = refl; room = refl; tallies = omega arith; owns = omega arith };
    ran = λ i d within. run_none cells bodies_shown params tree (get_or (group_walks g) i d) (walk_in_range params 0 g.tallies.items g.owns.items (all_shared g) i d group.owns tallies within);
    rests = rests;
    goes_on = λ i d o x within own there shown. inl (own, there);
  }

  -- the same items, in another place
  pub passed_same : (old now rest : Group) → now.items.items ≡ rest.items.items → vec_capacity now.items ≤ vec_capacity rest.items → HasPassed old now → HasPassed old (with_items now rest)
  passed_same old now rest same capacity passed =
      let walks : group_walks now ≡ group_walks (with_items now rest) = ap (λ l. walks_from 0 now.tallies.items now.owns.items (l ++ now.waits.items)) same in
      record {
        group = record {
          owns = passed.group.owns;
          tallies = passed.group.tallies;
          rooms = passed.group.rooms;
          small = subst (λ l. All (λ e. IsItemInRange e.item) (l ++ now.waits.items)) same passed.group.small;
          shared = subst (λ l. All (IsShared (length now.tallies.items)) (l ++ now.waits.items)) same passed.group.shared;
          few = subst (λ l. length (l ++ now.waits.items) ≤ now.room) same passed.group.few;
          items = (let room = passed.group.items in omega arith);
          waits = passed.group.waits;
        };
        tallies = passed.tallies;
        rooms = record { count = passed.rooms.count; room = passed.rooms.room; tallies = passed.rooms.tallies; owns = passed.rooms.owns };
        ran = λ i d within. subst (λ l. Run 0 (get_or (group_walks old) i d) (get_or l i d)) walks (passed.ran i d within);
        rests = passed.rests;
        goes_on = λ i d o x within own there shown. elim (passed.goes_on i d o x within own there shown) [
          | inl both ↦ inl (both.0, subst (λ l. Contains (items_of i l) x) same both.1)
          | inr ran ↦ inr (subst (λ l. Run 1 (get_or (group_walks old) i d) (get_or l i d)) walks ran)
        ];
      }

  -- none is left to be looked at
  pub passed_all : (old now : Group) → HasPassed old now → now.items.items ≡ [] → (i : ℕ) (d : WalkValue) (o : Own) (x : Item) → i < length old.tallies.items → own_items (get_or old.owns.items i o) ≡ []
      → Contains (items_of i old.items.items) x → shown_for cells bodies_shown tree x ≢ None → Run 1 (get_or (group_walks old) i d) (get_or (group_walks now) i d)
  unfolding items_of
  passed_all old now passed none i d o x within own there shown = elim (passed.goes_on i d o x within own there shown) [
    | inl both ↦ absurd (none_in x (subst (λ l. Contains (items_of i l) x) none both.1))
    | inr ran ↦ ran
  ]

  module _ (old now rest new : Group) (e : SharedItem) (is : now.items.items ≡ rest.items.items ++ e ∷ []) (passed : HasPassed old now) where
    abbrev taken : Group
    taken = with_items now rest

    pub kept_on : Each (KeepsWalk params tree) (length now.tallies.items) (walks_with taken e) (group_walks new) → Each (KeepsWalk params tree) (length old.tallies.items) (group_walks old) (group_walks new)
    kept_on kept i d within =
        let count = passed.rooms.count in
        kept_then params tree (get_or (group_walks old) i d) (get_or (group_walks now) i d) (get_or (group_walks new) i d) (passed.ran i d within).kept
        (subst (λ l. KeepsWalk params tree (get_or l i d) (get_or (group_walks new) i d)) (sym (left_walks now rest e is)) (kept i d (omega arith)))

    pub still_on : (files : ℕ → List ℕ) (bodies : List Body) → IsTreeOf tree files params bodies → Shows cells bodies_shown tree files → IsGroup old
        → All (λ w. IsWalkOn params bodies tree (files tree.cells) w) (group_walks old) → All (λ w. IsWalkOn params bodies tree (files tree.cells) w) (walks_with taken e)
    still_on files bodies of_tree shows group on =
        let count = passed.rooms.count in
        subst (All (λ w. IsWalkOn params bodies tree (files tree.cells) w)) (left_walks now rest e is)
        (λ i d below.
        let long = walks_length 0 now.tallies.items now.owns.items (all_shared now) passed.group.owns in
        let was = walks_length 0 old.tallies.items old.owns.items (all_shared old) group.owns in
        let within : i < length old.tallies.items = omega arith in
        ((passed.ran i d within).over files bodies of_tree shows (on i d (omega arith))).0)

    module _ (takes : TakesShared cells bodies_shown params tree taken e new) where
      step : (i : ℕ) (d : WalkValue) → i < length now.tallies.items → Run 0 (get_or (group_walks now) i d) (get_or (group_walks new) i d)
      step i d within = subst (λ l. Run 0 (get_or l i d) (get_or (group_walks new) i d)) (sym (left_walks now rest e is)) (takes.ran i d within)

      -- a walk that had looked at none before
      looks : (i : ℕ) (d : WalkValue) → Run 0 (get_or (group_walks old) i d) (get_or (group_walks now) i d) → Run 1 (get_or (walks_with taken e) i d) (get_or (group_walks new) i d) → Run 1 (get_or (group_walks old) i d) (get_or (group_walks new) i d)
      looks i d before after = run_then cells bodies_shown params tree 0 1 (get_or (group_walks old) i d) (get_or (group_walks now) i d) (get_or (group_walks new) i d) before
          (subst (λ l. Run 1 (get_or l i d) (get_or (group_walks new) i d)) (sym (left_walks now rest e is)) after)

      goes : (i : ℕ) (d : WalkValue) (o : Own) (x : Item) → i < length old.tallies.items → own_items (get_or old.owns.items i o) ≡ []
          → Contains (items_of i old.items.items) x → shown_for cells bodies_shown tree x ≢ None
          → ((own_items (get_or new.owns.items i o) ≡ []) × Contains (items_of i new.items.items) x) ⊎ Run 1 (get_or (group_walks old) i d) (get_or (group_walks new) i d)
      goes i d o x within own there shown =
          let count = passed.rooms.count in
          let here : i < length now.tallies.items = omega arith in
          elim (passed.goes_on i d o x within own there shown) [
            | inr ran ↦ inr (run_then cells bodies_shown params tree 1 0 (get_or (group_walks old) i d) (get_or (group_walks now) i d) (get_or (group_walks new) i d) ran (step i d here))
            | inl both ↦ elim (Contains-append_cases (items_of i rest.items.items) (items_of i (e ∷ [])) x (subst (λ l. Contains l x) (ap (items_of i) is ∙ items_of_append i rest.items.items (e ∷ [])) both.1)) [
              | inl other ↦ elim (takes.own i d o here both.0) [
                | inl none ↦ inl (none, takes.others i x other)
                | inr ran ↦ inr (looks i d (passed.ran i d within) ran)
              ]
              | inr one ↦
                  let its = left_of_one i e x one in
                  inr (looks i d (passed.ran i d within) (takes.took (λ none. shown (subst (λ y. shown_for cells bodies_shown tree y ≡ None) its.1 none)) i d o here its.0 both.0))
            ]
          ]

      pub passed_more : IsGroup new → AreTallies params new → KeepsRooms taken new → HasPassed old new
      passed_more group tallies rooms =
          let count = passed.rooms.count in
          record {
            group = group;
            tallies = tallies;
            rooms = rooms_then old now new passed.rooms (record { count = rooms.count; room = rooms.room; tallies = rooms.tallies; owns = rooms.owns });
            ran = λ i d within. run_then cells bodies_shown params tree 0 0 (get_or (group_walks old) i d) (get_or (group_walks now) i d) (get_or (group_walks new) i d) (passed.ran i d within) (step i d (omega arith));
            rests = takes.rests passed.rests;
            goes_on = goes;
          }

      pub bound_falls : shared_bound tree new.items.items < shared_bound tree now.items.items
      bound_falls = subst (λ l. shared_bound tree new.items.items < shared_bound tree l) (sym is) takes.bound
