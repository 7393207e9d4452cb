-- The walks of a pool: what each has taken, the items that they share, and those that one takes by itself. This is of the
-- crate's own calls.
use Rattle.std.specs.Prelude.{◌≡◌, ◌≢◌, ℕ, suc, ◌<◌, ◌≤◌, ◌⊎◌, Bool, true, false, if◌then◌else◌, List, [], ◌∷◌, ◌++◌, length, get_or, sum_by, All, Contains, Option, Some, None, vec_capacity}
use Rattle.nb_model.specs.declared.params.Params.{Params}
use Rattle.nb_model.specs.Valid.{IsInBox}
use Rattle.nb_key.specs.Morton.{morton_key}
use Rattle.nb_host.specs.declared.page_name.PageName.{PageName}
use Rattle.nb_record.specs.declared.cell.Cell.{Cell}
use Rattle.nb_record.specs.declared.tree.Tree.{Tree}
use Rattle.nb_walk.specs.declared.group.Group.{Group}
use Rattle.nb_walk.specs.declared.group.Own.{Own}
use Rattle.nb_walk.specs.declared.item.Item.{Item}
use Rattle.nb_walk.specs.declared.shared.SharedItem.{SharedItem}
use Rattle.nb_walk.specs.declared.tally.Tally.{Tally}
use Rattle.nb_walk.specs.declared.term.Term.{Term}
use Rattle.nb_walk.specs.declared.term.Term.TheVariants as term
use Rattle.nb_walk.specs.Angle.{by_angle}
use Rattle.nb_walk.specs.Items.{last_item, page_for}
use Rattle.nb_walk.specs.Left.{item_bound}
use Rattle.nb_walk.specs.Part.{IsTally}
use Rattle.nb_walk.specs.Pool.{PooledWalk}
use Rattle.nb_walk.specs.Room.{HasRoom, IsItemInRange}
use Rattle.nb_walk.specs.Running.{HasRun, Each}
use Rattle.nb_walk.specs.Shared.{is_left_to, items_of, IsShared}
use Rattle.nb_walk.specs.Shown.{shown_for}
use Rattle.nb_walk.specs.Taking.{Adds}
use Rattle.nb_walk.specs.Walk.{WalkValue}

-- ---- the walks

-- what a walk has left: its part of the shared items, and its own
abbrev pub walk_of : Tally → List Item → WalkValue
walk_of a items = record { target = a.target; sum = a.sum; taken = a.taken; items = items }

abbrev pub own_items : Own → List Item
own_items o = o.items.items

-- the walks from number i on, with these shared items
unfoldable pub walks_from : ℕ → List Tally → List Own → List SharedItem → List WalkValue
walks_from i [] owns entries = []
walks_from i (a ∷ tallies) [] entries = []
walks_from i (a ∷ tallies) (o ∷ owns) entries =
    walk_of a (items_of i entries ++ own_items o) ∷ walks_from (suc i) tallies owns entries

-- the shared items: those to be looked at, and those that wait
abbrev pub all_shared : Group → List SharedItem
all_shared g = g.items.items ++ g.waits.items

abbrev pub group_walks : Group → List WalkValue
group_walks g = walks_from 0 g.tallies.items g.owns.items (all_shared g)

-- the walks with one shared item more to be looked at
abbrev pub walks_with : Group → SharedItem → List WalkValue
walks_with g e = walks_from 0 g.tallies.items g.owns.items ((g.items.items ++ e ∷ []) ++ g.waits.items)

-- the walks as a pool shows them: what each needs is told only where they were asked
unfoldable pub pooled_from : Bool → ℕ → List Tally → List Own → List SharedItem → List PooledWalk
pooled_from asked i [] owns entries = []
pooled_from asked i (a ∷ tallies) [] entries = []
pooled_from asked i (a ∷ tallies) (o ∷ owns) entries =
    record { walk = walk_of a (items_of i entries ++ own_items o); needs = if asked then o.need else None }
    ∷ pooled_from asked (suc i) tallies owns entries

abbrev pub pooled_walks : Bool → Group → List PooledWalk
pooled_walks asked g = pooled_from asked 0 g.tallies.items g.owns.items (all_shared g)

-- ---- what always holds

pub record IsOwnTally (a : Tally) : Type 0 where
  pub target : IsInBox a.target
  pub key : a.key ≡ morton_key a.target

pub record IsGroup (g : Group) : Type 0 where
  pub owns : length g.owns.items ≡ length g.tallies.items
  pub tallies : All IsOwnTally g.tallies.items
  pub rooms : All (λ o. HasRoom (own_items o)) g.owns.items
  pub small : All (λ e. IsItemInRange e.item) (all_shared g)
  pub shared : All (IsShared (length g.tallies.items)) (all_shared g)
  pub few : length (all_shared g) ≤ g.room
  pub items : g.room ≤ vec_capacity g.items
  pub waits : g.room ≤ vec_capacity g.waits

-- the tallies are in range too
abbrev pub AreTallies : Params → Group → Type 0
AreTallies params g = All (IsTally params) g.tallies.items

-- ---- what is next

-- a walk's next item is the last of its own, or where it has none any of the shared
pub record IsNextOf (i : ℕ) (entries : List SharedItem) (own : List Item) (x : Item) : Type 0 where
  pub last : own ≢ [] → last_item own ≡ Some x
  pub shared : own ≡ [] → Contains (items_of i entries) x

-- a walk that has items of its own waits at the last, and one that has none waits at each of the shared that wait
pub record IsAtRest (cells bodies : ℕ → Option (List ℕ)) (tree : Tree) (i : ℕ) (waits : List SharedItem) (own : List Item) : Type 0 where
  pub last : (x : Item) → last_item own ≡ Some x → shown_for cells bodies tree x ≡ None
  pub shared : own ≡ [] → All (λ x. shown_for cells bodies tree x ≡ None) (items_of i waits)

abbrev pub AreAtRest : (cells bodies : ℕ → Option (List ℕ)) → Tree → Group → Type 0
AreAtRest cells bodies tree g =
    (i : ℕ) (d : Own) → i < length g.tallies.items → IsAtRest cells bodies tree i g.waits.items (own_items (get_or g.owns.items i d))

-- each walk that isn't finished waits at an item that is next, and one that is waits at none
pub record HasNeed (i : ℕ) (entries : List SharedItem) (own : Own) : Type 0 where
  pub next : (x : Item) → own.need ≡ Some x → IsNextOf i entries (own_items own) x
  pub none : own.need ≡ None → (own_items own ≡ []) × (items_of i entries ≡ [])

abbrev pub HaveNeeds : Group → Type 0
HaveNeeds g = (i : ℕ) (d : Own) → i < length g.tallies.items → HasNeed i (all_shared g) (get_or g.owns.items i d)

-- ---- what an item's look does

-- what the bound of the steps is over the shared items that are to be looked at
abbrev pub shared_bound : Tree → List SharedItem → ℕ
shared_bound tree entries = sum_by (λ e. item_bound tree e.item) entries

-- One shared item was looked at: those that have it left and have no own items took it, where its page is shown, and none has
-- own items now that had none but one that looked at a page. The others that are to be looked at stay.
pub record TakesShared (cells bodies : ℕ → Option (List ℕ)) (params : Params) (tree : Tree) (old : Group) (e : SharedItem) (new : Group) : Type 0 where
  pub ran : Each (HasRun cells bodies params tree 0) (length old.tallies.items) (walks_with old e) (group_walks new)
  pub took : shown_for cells bodies tree e.item ≢ None → (i : ℕ) (d : WalkValue) (o : Own) → i < length old.tallies.items
      → is_left_to i e ≡ true → own_items (get_or old.owns.items i o) ≡ []
      → HasRun cells bodies params tree 1 (get_or (walks_with old e) i d) (get_or (group_walks new) i d)
  pub own : (i : ℕ) (d : WalkValue) (o : Own) → i < length old.tallies.items → own_items (get_or old.owns.items i o) ≡ []
      → (own_items (get_or new.owns.items i o) ≡ []) ⊎ HasRun cells bodies params tree 1 (get_or (walks_with old e) i d) (get_or (group_walks new) i d)
  pub others : (i : ℕ) (x : Item) → Contains (items_of i old.items.items) x → Contains (items_of i new.items.items) x
  pub rests : AreAtRest cells bodies tree old → AreAtRest cells bodies tree new
  pub bound : shared_bound tree new.items.items < shared_bound tree (old.items.items ++ e ∷ [])

-- a walk whose next item is shown looked at a page
abbrev pub LooksWhereShown : (cells bodies : ℕ → Option (List ℕ)) → Params → Tree → Group → Group → Type 0
LooksWhereShown cells bodies params tree old new =
    (i : ℕ) (d : WalkValue) (o : Own) (x : Item) → i < length old.tallies.items
    → IsNextOf i (all_shared old) (own_items (get_or old.owns.items i o)) x → shown_for cells bodies tree x ≢ None
    → HasRun cells bodies params tree 1 (get_or (group_walks old) i d) (get_or (group_walks new) i d)

-- the same of walks without own items, of shared ones that are to be looked at
abbrev pub LooksAtShared : (cells bodies : ℕ → Option (List ℕ)) → Params → Tree → Group → Group → Type 0
LooksAtShared cells bodies params tree old new =
    (i : ℕ) (d : WalkValue) (o : Own) (x : Item) → i < length old.tallies.items → own_items (get_or old.owns.items i o) ≡ []
    → Contains (items_of i old.items.items) x → shown_for cells bodies tree x ≢ None
    → HasRun cells bodies params tree 1 (get_or (group_walks old) i d) (get_or (group_walks new) i d)

-- ---- what tallies take

-- a walk that meets a cell opens it, or takes it as one mass, and any other stays
abbrev pub Meets : Params → Cell → (has opens : Bool) → Tally → Tally → Type 0
Meets params cell false opens a b = (opens ≡ false) × (b ≡ a)
Meets params cell true true a b = (by_angle params a.target cell.key cell.centre ≡ false) × (b ≡ a)
Meets params cell true false a b =
    (by_angle params a.target cell.key cell.centre ≡ true) × Adds params (term.Cell cell.mass cell.centre ∷ []) a b

-- a walk that has the item left adds these terms, and any other stays
abbrev pub AddsTo : Params → Bool → List Term → Tally → Tally → Type 0
AddsTo params false terms a b = b ≡ a
AddsTo params true terms a b = Adds params terms a b

-- what a look leaves as it was: how many walks there are, and how much room
pub record KeepsRooms (old new : Group) : Type 0 where
  pub count : length new.tallies.items ≡ length old.tallies.items
  pub room : new.room ≡ old.room
  pub tallies : vec_capacity old.tallies ≤ vec_capacity new.tallies
  pub owns : vec_capacity old.owns ≤ vec_capacity new.owns

-- ---- what walks take by themselves

-- a walk with its own items and its tally before and after some visits of these, or none
pub record RunsOwn (cells bodies_shown : ℕ → Option (List ℕ)) (params : Params) (tree : Tree) (old new : Group) : Type 0 where
  pub ran : Each (HasRun cells bodies_shown params tree 0) (length old.tallies.items) (group_walks old) (group_walks new)
  pub rests : (i : ℕ) (d : Own) (x : Item) → i < length old.tallies.items
      → last_item (own_items (get_or new.owns.items i d)) ≡ Some x → shown_for cells bodies_shown tree x ≡ None
  pub looked : (i : ℕ) (d : WalkValue) (o : Own) (x : Item) → i < length old.tallies.items
      → last_item (own_items (get_or old.owns.items i o)) ≡ Some x → shown_for cells bodies_shown tree x ≢ None
      → HasRun cells bodies_shown params tree 1 (get_or (group_walks old) i d) (get_or (group_walks new) i d)
  pub stays : (i : ℕ) (d : Own) → i < length old.tallies.items
      → ((x : Item) → last_item (own_items (get_or old.owns.items i d)) ≡ Some x → shown_for cells bodies_shown tree x ≡ None)
      → own_items (get_or new.owns.items i d) ≡ own_items (get_or old.owns.items i d)

-- a walk that has the item left takes it for its own where it has none, and is among the others where it has
pub record SharesOut (x : Item) (has others : Bool) (old new : Own) : Type 0 where
  pub takes : has ≡ true → own_items old ≡ [] → (own_items new ≡ x ∷ []) × (others ≡ false)
  pub holds : own_items old ≢ [] → (own_items new ≡ own_items old) × (others ≡ has)
  pub other : has ≡ false → (own_items new ≡ own_items old) × (others ≡ false)

-- ---- where walks wait

-- a walk that waits nowhere may be given one of these items that is left to it, and nothing else changes
pub record MayBeGiven (entries : List SharedItem) (i : ℕ) (old new : Own) : Type 0 where
  pub items : new.items ≡ old.items
  pub kept : (x : Item) → old.need ≡ Some x → new.need ≡ Some x
  pub given : (x : Item) → old.need ≡ None → new.need ≡ Some x → Contains (items_of i entries) x

-- some walk waits for this page
pub record SomeNeed (tree : Tree) (owns : List Own) (name : PageName) : Type 0 where
  pub own : Own
  pub there : Contains owns own
  pub item : Item
  pub need : own.need ≡ Some item
  pub page : page_for tree item ≡ name

-- An item was handed out: a walk that has it left takes it for its own where it has none, and for one that has it waits, so all
-- have the same items left.
pub record HandsOut (old : Group) (e : SharedItem) (new : Group) : Type 0 where
  pub tallies : new.tallies ≡ old.tallies
  pub items : new.items ≡ old.items
  pub left : (i : ℕ) (o : Own) → i < length old.tallies.items
      → items_of i (all_shared new) ++ own_items (get_or new.owns.items i o)
      ≡ items_of i (old.items.items ++ (old.waits.items ++ e ∷ [])) ++ own_items (get_or old.owns.items i o)
  pub takes : (i : ℕ) (o : Own) → i < length old.tallies.items → is_left_to i e ≡ true
      → own_items (get_or old.owns.items i o) ≡ [] → own_items (get_or new.owns.items i o) ≡ e.item ∷ []
  pub other : (i : ℕ) (o : Own) → i < length old.tallies.items → is_left_to i e ≡ false
      → own_items (get_or new.owns.items i o) ≡ own_items (get_or old.owns.items i o)
  pub holds : (i : ℕ) (o : Own) → i < length old.tallies.items → own_items (get_or old.owns.items i o) ≢ []
      → own_items (get_or new.owns.items i o) ≡ own_items (get_or old.owns.items i o)
  pub waits : (i : ℕ) (o : Own) → i < length old.tallies.items → own_items (get_or old.owns.items i o) ≡ []
      → items_of i new.waits.items ≡ items_of i old.waits.items
