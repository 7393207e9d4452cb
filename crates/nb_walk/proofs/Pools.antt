-- A pool before and after an advance.
use Rattle.std.proofs.Common.{◌≡◌, ℕ, zero, suc, ◌+◌, ◌-◌, ◌*◌, ◌<◌, ◌≤◌, ◌↔◌, eqb, Bool, true, false, Result, Ok, Err, List, [], ◌∷◌, ◌++◌, Option, Some, None, length, map, get_or, sym, ap, ◌∙◌, refl, arith, subst, inl, inr}
use Rattle.std.specs.Prelude.{◌≢◌, IsTrue, OnErr, slice_get, sum_by, All, Contains}
use Rattle.std.proofs.lemmas.Bool.{cases_eq, eq-eqb, eqb-true}
use Rattle.std.proofs.lemmas.List.{map-append}
use Rattle.std.proofs.lemmas.List.Sums.{sum_by-cons}
use Rattle.std.proofs.lemmas.List.Elements.{All-contains, All-contains_itself}
use Rattle.std.proofs.lemmas.Option.{slice_get_within, get_or_from_slice_get}
use Rattle.nb_model.specs.declared.body.Body.{Body}
use Rattle.nb_model.specs.declared.params.Params.{Params}
use Rattle.nb_model.specs.Leapfrog.{unescaped}
use Rattle.nb_host.specs.declared.page_name.PageName.{PageName}
use Rattle.nb_host.specs.Page.{IsRising}
use Rattle.nb_record.specs.declared.tree.Tree.{Tree}
use Rattle.nb_record.specs.Tree.{IsTreeOf}
use Rattle.nb_walk.specs.declared.group.Group.{Group}
use Rattle.nb_walk.specs.declared.group.Own.{Own}
use Rattle.nb_walk.specs.declared.item.Item.{Item}
use Rattle.nb_walk.specs.declared.shared.SharedItem.{SharedItem}
use Rattle.nb_walk.specs.declared.tally.Tally.{Tally}
use Rattle.nb_walk.specs.Part.{IsTally}
use Rattle.nb_walk.specs.Group.{IsOwnTally, walk_of, own_items, walks_from, all_shared, group_walks, pooled_from, pooled_walks, IsNextOf, IsAtRest, AreAtRest, HasNeed, HaveNeeds, LooksWhereShown, SomeNeed}
use Rattle.nb_walk.specs.Items.{last_item, page_for}
use Rattle.nb_walk.specs.Left.{step_bound, item_bound, remaining_pages}
use Rattle.nb_walk.specs.Page.{IsPageOf}
use Rattle.nb_walk.specs.Shared.{items_of}
use Rattle.nb_walk.specs.Shown.{Shows, IsAtMost, shown_for}
use Rattle.nb_walk.specs.Walk.{WalkValue, IsSumInRange, IsWithin, IsWalkOn}
use Rattle.nb_walk.specs.Running.{KeepsWalk, HasRun, Each}
use Rattle.nb_walk.specs.Pool.{PooledWalk, unasked, all_unasked, targets, sums, all_needs, AreSumsInRange, AreWithin, AreFinished, IsSettled, SomeWaits, IsNeeded, IsWanted, pool_bound, CanGoOn, AreOn, IsAdvanced}
use Rattle.nb_walk.proofs.Lefts.{bound_some}
use Rattle.nb_walk.proofs.Sharing.{walks_length, walk_at}

-- ---- two lists of walks, index by index

module _ (R : WalkValue → WalkValue → Type 0) where
  later : (x y : WalkValue) (xs ys : List WalkValue) → Each R (suc (length xs)) (x ∷ xs) (y ∷ ys) → Each R (length xs) xs ys
  later x y xs ys each k d below = each (suc k) d (omega arith)

  map_same : {Y : Type 0} (f : WalkValue → Y) → ((a b : WalkValue) → R a b → f b ≡ f a) → (old new : List WalkValue) → length new ≡ length old → Each R (length old) old new → map f new ≡ map f old
  map_same f same [] [] long each = refl
  map_same f same [] (y ∷ ys) long each = absurd (omega arith)
  map_same f same (x ∷ xs) [] long each = absurd (omega arith)
  map_same f same (x ∷ xs) (y ∷ ys) long each =
      let first = same x y (each 0 x (omega arith)) in
      let rest = map_same f same xs ys (omega arith) (later x y xs ys each) in
      cc

  sum_less : (f : WalkValue → ℕ) → ((a b : WalkValue) → R a b → f b ≤ f a) → (old new : List WalkValue) → length new ≡ length old → Each R (length old) old new → sum_by f new ≤ sum_by f old
  sum_less f less [] [] long each = omega arith
  sum_less f less [] (y ∷ ys) long each = absurd (omega arith)
  sum_less f less (x ∷ xs) [] long each = absurd (omega arith)
  sum_less f less (x ∷ xs) (y ∷ ys) long each =
      let first = less x y (each 0 x (omega arith)) in
      let rest = sum_less f less xs ys (omega arith) (later x y xs ys each) in
      omega (arith, sum_by-cons f x xs, sum_by-cons f y ys)

  sum_lower : (f : WalkValue → ℕ) → ((a b : WalkValue) → R a b → f b ≤ f a) → (old new : List WalkValue) (k : ℕ) → length new ≡ length old → Each R (length old) old new → k < length old
      → ((d : WalkValue) → f (get_or new k d) < f (get_or old k d)) → sum_by f new < sum_by f old
  sum_lower f less [] new k long each within lower = absurd (omega arith)
  sum_lower f less (x ∷ xs) [] k long each within lower = absurd (omega arith)
  sum_lower f less (x ∷ xs) (y ∷ ys) zero long each within lower =
      let first = lower x in
      let rest = sum_less f less xs ys (omega arith) (later x y xs ys each) in
      omega (arith, sum_by-cons f x xs, sum_by-cons f y ys)
  sum_lower f less (x ∷ xs) (y ∷ ys) (suc k) long each within lower =
      let first = less x y (each 0 x (omega arith)) in
      let rest = sum_lower f less xs ys k (omega arith) (later x y xs ys each) (omega arith) lower in
      omega (arith, sum_by-cons f x xs, sum_by-cons f y ys)

-- ---- the walks as a pool shows them

abbrev pub walks_in : List PooledWalk → List WalkValue
walks_in ws = map (λ w. w.walk) ws

map_in : {Y : Type 0} (f : WalkValue → Y) (ws : List PooledWalk) → map (λ w. f w.walk) ws ≡ map f (walks_in ws)
map_in f [] = refl
map_in f (w ∷ ws) = ap (λ l. f w.walk ∷ l) (map_in f ws)

sum_in : (f : WalkValue → ℕ) (ws : List PooledWalk) → sum_by (λ w. f w.walk) ws ≡ sum_by f (walks_in ws)
sum_in f [] = refl
sum_in f (w ∷ ws) = omega (arith, sum_by-cons (λ v. f v.walk) w ws, sum_by-cons f w.walk (walks_in ws), sum_in f ws)

length_in : (ws : List PooledWalk) → length (walks_in ws) ≡ length ws
length_in [] = refl
length_in (w ∷ ws) = ap suc (length_in ws)

walk_in : (ws : List PooledWalk) (k : ℕ) (d : PooledWalk) → k < length ws → (get_or ws k d).walk ≡ get_or (walks_in ws) k d.walk
walk_in [] k d below = absurd (omega arith)
walk_in (w ∷ ws) zero d below = refl
walk_in (w ∷ ws) (suc k) d below = walk_in ws k d (omega arith)

all_in : (P : WalkValue → Type 0) (ws : List PooledWalk) → All P (walks_in ws) → All (λ w. P w.walk) ws
all_in P ws all k d below = subst P (sym (walk_in ws k d below)) (all k d.walk (omega (arith, length_in ws)))

pub all_back : (P : WalkValue → Type 0) (ws : List PooledWalk) → All (λ w. P w.walk) ws → All P (walks_in ws)
all_back P ws all k d below =
    let there : k < length ws = omega (arith, length_in ws) in
    subst P (walk_in ws k (unasked d) there) (all k (unasked d) there)

pub pooled_in : (asked : Bool) (i : ℕ) (tallies : List Tally) (owns : List Own) (entries : List SharedItem) → walks_in (pooled_from asked i tallies owns entries) ≡ walks_from i tallies owns entries
unfolding pooled_from walks_from
pooled_in asked i [] owns entries = refl
pooled_in asked i (a ∷ tallies) [] entries = refl
pooled_in asked i (a ∷ tallies) (o ∷ owns) entries = ap (λ l. walk_of a (items_of i entries ++ own_items o) ∷ l) (pooled_in asked (suc i) tallies owns entries)

pooled_unasked : (asked : Bool) (i : ℕ) (tallies : List Tally) (owns : List Own) (entries : List SharedItem) → pooled_from false i tallies owns entries ≡ all_unasked (pooled_from asked i tallies owns entries)
unfolding pooled_from
pooled_unasked asked i [] owns entries = refl
pooled_unasked asked i (a ∷ tallies) [] entries = refl
pooled_unasked asked i (a ∷ tallies) (o ∷ owns) entries = ap (λ l. unasked (walk_of a (items_of i entries ++ own_items o)) ∷ l) (pooled_unasked asked (suc i) tallies owns entries)

pub group_unasked : (asked : Bool) (g : Group) → pooled_walks false g ≡ all_unasked (pooled_walks asked g)
group_unasked asked g = pooled_unasked asked 0 g.tallies.items g.owns.items (all_shared g)

pub group_in : (asked : Bool) (g : Group) → walks_in (pooled_walks asked g) ≡ group_walks g
group_in asked g = pooled_in asked 0 g.tallies.items g.owns.items (all_shared g)

pooled_length : (asked : Bool) (i : ℕ) (tallies : List Tally) (owns : List Own) (entries : List SharedItem) → length owns ≡ length tallies → length (pooled_from asked i tallies owns entries) ≡ length tallies
pooled_length asked i tallies owns entries same = sym (length_in (pooled_from asked i tallies owns entries)) ∙ ap length (pooled_in asked i tallies owns entries) ∙ walks_length i tallies owns entries same

pub group_length : (asked : Bool) (g : Group) → length g.owns.items ≡ length g.tallies.items → length (pooled_walks asked g) ≡ length g.tallies.items
group_length asked g same = pooled_length asked 0 g.tallies.items g.owns.items (all_shared g) same

-- ---- what they need

needs_are : (i : ℕ) (tallies : List Tally) (owns : List Own) (entries : List SharedItem) → length owns ≡ length tallies → all_needs (pooled_from true i tallies owns entries) ≡ map (λ o. o.need) owns
unfolding pooled_from
needs_are i [] [] entries same = refl
needs_are i [] (o ∷ owns) entries same = absurd (omega arith)
needs_are i (a ∷ tallies) [] entries same = absurd (omega arith)
needs_are i (a ∷ tallies) (o ∷ owns) entries same = ap (λ l. o.need ∷ l) (needs_are (suc i) tallies owns entries (omega arith))

none_needed : (i : ℕ) (tallies : List Tally) (owns : List Own) (entries : List SharedItem) (x : Item) → Contains (all_needs (pooled_from false i tallies owns entries)) (Some x) → ⊥
unfolding pooled_from
none_needed i [] owns entries x (k, below, is) = absurd (omega arith)
none_needed i (a ∷ tallies) [] entries x (k, below, is) = absurd (omega arith)
none_needed i (a ∷ tallies) (o ∷ owns) entries x (zero, below, is) = cc
none_needed i (a ∷ tallies) (o ∷ owns) entries x (suc k, below, is) = none_needed (suc i) tallies owns entries x (k, omega arith, is)

pub record NeedAt (owns : List Own) (x : Item) : Type 0 where
  pub at : ℕ
  pub within : at < length owns
  pub need : (o : Own) → (get_or owns at o).need ≡ Some x
  pub own : Own
  pub there : Contains owns own
  pub same : own.need ≡ Some x

need_at : (owns : List Own) (x : Item) → Contains (map (λ o. o.need) owns) (Some x) → NeedAt owns x
need_at [] x (k, below, is) = absurd (omega arith)
need_at (o ∷ owns) x (zero, below, is) = record { at = 0; within = omega arith; need = λ e. is; own = o; there = (0, omega arith, refl); same = is }
need_at (o ∷ owns) x (suc k, below, is) =
    let rest = need_at owns x (k, omega arith, is) in
    record {
      at = suc rest.at;
      within = (let inside = rest.within in omega arith);
      need = rest.need;
      own = rest.own;
      there = (suc rest.there.0, (let inside = rest.there.1 in omega arith), rest.there.2);
      same = rest.same;
    }

need_of : (owns : List Own) (o : Own) (x : Item) → Contains owns o → o.need ≡ Some x → Contains (map (λ o. o.need) owns) (Some x)
need_of [] o x (k, below, is) need = absurd (omega arith)
need_of (y ∷ owns) o x (zero, below, is) need = (0, omega arith, ap (λ v. v.need) is ∙ need)
need_of (y ∷ owns) o x (suc k, below, is) need =
    let rest = need_of owns o x (k, omega arith, is) need in
    (suc rest.0, (let inside = rest.1 in omega arith), rest.2)

module _ (g : Group) (same : length g.owns.items ≡ length g.tallies.items) where
  pub group_needs : all_needs (pooled_walks true g) ≡ map (λ o. o.need) g.owns.items
  group_needs = needs_are 0 g.tallies.items g.owns.items (all_shared g) same

  pub group_need : (x : Item) → Contains (all_needs (pooled_walks true g)) (Some x) → NeedAt g.owns.items x
  group_need x needed = need_at g.owns.items x (subst (λ l. Contains l (Some x)) group_needs needed)

  pub need_needed : (tree : Tree) (name : PageName) → SomeNeed tree g.owns.items name ↔ IsNeeded tree (pooled_walks true g) name
  need_needed tree name = (
    λ some. record { item = some.item; needed = subst (λ l. Contains l (Some some.item)) (sym group_needs) (need_of g.owns.items some.own some.item some.there some.need); page = some.page },
    λ needed.
        let at = group_need needed.item needed.needed in
        record { own = at.own; there = at.there; item = needed.item; need = at.same; page = needed.page },
  )

-- ---- what they wait for

pub last_contains : (items : List Item) (x : Item) → last_item items ≡ Some x → Contains items x
last_contains items x is = (length items - 1, slice_get_within items (length items - 1) x is, get_or_from_slice_get items (length items - 1) x x is)

contains_before : (xs ys : List Item) (x : Item) → Contains xs x → Contains (xs ++ ys) x
contains_before [] ys x (k, below, is) = absurd (omega arith)
contains_before (y ∷ xs) ys x (zero, below, is) = (0, omega arith, is)
contains_before (y ∷ xs) ys x (suc k, below, is) =
    let rest = contains_before xs ys x (k, omega arith, is) in
    (suc rest.0, (let inside = rest.1 in omega arith), rest.2)

pub contains_behind : (xs ys : List Item) (x : Item) → Contains ys x → Contains (xs ++ ys) x
contains_behind [] ys x there = there
contains_behind (y ∷ xs) ys x there =
    let rest = contains_behind xs ys x there in
    (suc rest.0, (let inside = rest.1 in omega arith), rest.2)

no_item : (x : Item) → Contains [] x → ⊥
no_item x (k, below, is) = absurd (omega arith)

-- the next item of a walk is one that it has left
pub next_left : (i : ℕ) (entries : List SharedItem) (own : List Item) (x : Item) → IsNextOf i entries own x → Contains (items_of i entries ++ own) x
next_left i entries [] x next = contains_before (items_of i entries) [] x (next.shared refl)
next_left i entries (y ∷ own) x next = contains_behind (items_of i entries) (y ∷ own) x (last_contains (y ∷ own) x (next.last (λ e. cc)))

module _ (cells bodies_shown : ℕ → Option (List ℕ)) (tree : Tree) where
  next_unseen : (i : ℕ) (entries : List SharedItem) (own : List Item) (x : Item) → IsNextOf i entries own x → IsAtRest cells bodies_shown tree i entries own → shown_for cells bodies_shown tree x ≡ None
  next_unseen i entries [] x next rest = All-contains (λ y. shown_for cells bodies_shown tree y ≡ None) (items_of i entries) x (rest.shared refl) (next.shared refl)
  next_unseen i entries (y ∷ own) x next rest = rest.last x (next.last (λ e. cc))

  no_need : (need : Option Item) → ((x : Item) → need ≡ Some x → ⊥) → need ≡ None
  no_need None never = refl
  no_need (Some x) never = absurd (never x refl)

  settled_one : (i : ℕ) (entries : List SharedItem) (a : Tally) (o : Own) → HasNeed i entries o → IsAtRest cells bodies_shown tree i entries (own_items o)
      → IsSettled cells bodies_shown tree (record { walk = walk_of a (items_of i entries ++ own_items o); needs = o.need })
  settled_one i entries a o has rest = record {
    own = λ x is. next_left i entries (own_items o) x (has.next x is);
    unseen = λ x is. next_unseen i entries (own_items o) x (has.next x is) rest;
    finished = λ is. let none = has.none is in ap (λ l. l ++ own_items o) none.1 ∙ none.0;
    waits = λ none. no_need o.need (λ x is. no_item x (subst (λ l. Contains l x) none (next_left i entries (own_items o) x (has.next x is))));
  }

  settled_from : (from : ℕ) (tallies : List Tally) (owns : List Own) (entries : List SharedItem) → length owns ≡ length tallies
      → ((i : ℕ) (d : Own) → i < length tallies → HasNeed (from + i) entries (get_or owns i d)) → ((i : ℕ) (d : Own) → i < length tallies → IsAtRest cells bodies_shown tree (from + i) entries (own_items (get_or owns i d)))
      → All (IsSettled cells bodies_shown tree) (pooled_from true from tallies owns entries)
  unfolding pooled_from
  settled_from from [] [] entries same needs rests k d below = absurd (omega arith)
  settled_from from [] (o ∷ owns) entries same needs rests k d below = absurd (omega arith)
  settled_from from (a ∷ tallies) [] entries same needs rests k d below = absurd (omega arith)
  settled_from from (a ∷ tallies) (o ∷ owns) entries same needs rests zero d below =
      let zero_more : from + 0 ≡ from = omega arith in
      settled_one from entries a o (subst (λ j. HasNeed j entries o) zero_more (needs 0 o (omega arith))) (subst (λ j. IsAtRest cells bodies_shown tree j entries (own_items o)) zero_more (rests 0 o (omega arith)))
  settled_from from (a ∷ tallies) (o ∷ owns) entries same needs rests (suc k) d below =
      settled_from (suc from) tallies owns entries (omega arith)
      (λ i e inside. let next : from + suc i ≡ suc from + i = omega arith in subst (λ j. HasNeed j entries (get_or owns i e)) next (needs (suc i) e (omega arith)))
      (λ i e inside. let next : from + suc i ≡ suc from + i = omega arith in subst (λ j. IsAtRest cells bodies_shown tree j entries (own_items (get_or owns i e))) next (rests (suc i) e (omega arith)))
      k d (omega arith)

  pub group_settled : (g : Group) → length g.owns.items ≡ length g.tallies.items → g.items.items ≡ [] → HaveNeeds g → AreAtRest cells bodies_shown tree g → All (IsSettled cells bodies_shown tree) (pooled_walks true g)
  group_settled g same empty needs rests =
      let waits : all_shared g ≡ g.waits.items = ap (λ l. l ++ g.waits.items) empty in
      settled_from 0 g.tallies.items g.owns.items (all_shared g) same
      (λ i d below. let index : i ≡ 0 + i = omega arith in subst (λ j. HasNeed j (all_shared g) (get_or g.owns.items i d)) index (needs i d below))
      (λ i d below.
      let index : i ≡ 0 + i = omega arith in
      subst (λ j. IsAtRest cells bodies_shown tree j (all_shared g) (own_items (get_or g.owns.items i d))) index
      (subst (λ l. IsAtRest cells bodies_shown tree i l (own_items (get_or g.owns.items i d))) (sym waits) (rests i d below)))

-- ---- an advance

module _ (was are : List PooledWalk) (old new : List WalkValue) (was_is : walks_in was ≡ old) (are_is : walks_in are ≡ new) (long : length new ≡ length old) where
  module _ (params : Params) (tree : Tree) (each : Each (KeepsWalk params tree) (length old) old new) where
    abbrev Kept : WalkValue → WalkValue → Type 0
    Kept = KeepsWalk params tree

    pub new_targets : targets are ≡ targets was
    new_targets =
        let f = λ (w : WalkValue). w.target in
        map_in f are ∙ ap (map f) are_is ∙ map_same Kept f (λ x y kept. kept.target) old new long each ∙ sym (map_in f was ∙ ap (map f) was_is)

    pub new_range : AreSumsInRange params are
    new_range = all_in (IsSumInRange params) are (subst (All (IsSumInRange params)) (sym are_is) (λ k d below. (each k d (omega arith)).range))

    pub new_within : AreWithin tree.mass was → AreWithin tree.mass are
    new_within few =
        let before = subst (All (IsWithin tree.mass)) was_is (all_back (IsWithin tree.mass) was few) in
        all_in (IsWithin tree.mass) are (subst (All (IsWithin tree.mass)) (sym are_is) (λ k d below. (each k d (omega arith)).within (before k d (omega arith))))

    pub new_bound : pool_bound tree are ≤ pool_bound tree was
    new_bound =
        let f = λ (w : WalkValue). step_bound tree w.items in
        let less = sum_less Kept f (λ x y kept. kept.bound) old new long each in
        omega (arith, sum_in f was, sum_in f are, ap (sum_by f) was_is, ap (sum_by f) are_is)

    pub new_lower : (k : ℕ) → k < length old → ((d : WalkValue) → step_bound tree (get_or new k d).items < step_bound tree (get_or old k d).items) → pool_bound tree are < pool_bound tree was
    new_lower k within lower =
        let f = λ (w : WalkValue). step_bound tree w.items in
        let less = sum_lower Kept f (λ x y kept. kept.bound) old new k long each within lower in
        omega (arith, sum_in f was, sum_in f are, ap (sum_by f) was_is, ap (sum_by f) are_is)

  -- over a tree, where each walk was on its way
  module _ (cells bodies_shown : ℕ → Option (List ℕ)) (params : Params) (tree : Tree) (ran : Each (HasRun cells bodies_shown params tree 0) (length old) old new)
      (files : ℕ → List ℕ) (bodies : List Body) (of_tree : IsTreeOf tree files params bodies) (shows : Shows cells bodies_shown tree files)
      (on : AreOn params bodies tree (files tree.cells) was) where
    abbrev On : WalkValue → Type 0
    On w = IsWalkOn params bodies tree (files tree.cells) w

    abbrev pages : WalkValue → ℕ
    pages w = remaining_pages (files tree.cells) tree params.leaf bodies w.items

    abbrev OnTheirWay : WalkValue → WalkValue → Type 0
    OnTheirWay x y = On y × (pages y ≤ pages x)

    pub old_on : All On old
    old_on = subst (All On) was_is (all_back On was on)

    over : Each OnTheirWay (length old) old new
    over k d below = let both = (ran k d below).over files bodies of_tree shows (old_on k d below) in (both.0, omega (arith, both.1))

    pub new_tree : ((unescaped bodies ≢ []) → CanGoOn cells bodies_shown tree was → (k : ℕ) × (k < length old) × ((d : WalkValue) → HasRun cells bodies_shown params tree 1 (get_or old k d) (get_or new k d)))
        → IsAdvanced cells bodies_shown params bodies tree (files tree.cells) was are
    new_tree goes =
        let left = sum_in pages was in
        let right = sum_in pages are in
        let before = ap (sum_by pages) was_is in
        let after = ap (sum_by pages) are_is in
        record {
          walks = all_in On are (subst (All On) (sym are_is) (λ k d below. (over k d (omega arith)).0));
          left = let less = sum_less OnTheirWay pages (λ x y both. both.1) old new long over in omega arith;
          lower = λ some can.
              let at = goes some can in
              let lower = sum_lower OnTheirWay pages (λ x y both. both.1) old new at.0 long over at.1
              (λ d. let both = (at.2 d).over files bodies of_tree shows (old_on at.0 d at.1) in omega (arith, both.1)) in
              omega arith;
        }

-- ---- where a walk can go on

has_items : (tree : Tree) (items : List Item) (x : Item) → Contains items x → 0 < step_bound tree items
has_items tree [] x (k, below, is) = absurd (omega arith)
has_items tree (y ∷ items) x there = omega (arith, sum_by-cons (item_bound tree) y items, bound_some tree y)

-- the walk that an item needs, and what is next for it
pub record GoesAt (g : Group) (x : Item) : Type 0 where
  pub at : ℕ
  pub within : at < length g.tallies.items
  pub next : (o : Own) → IsNextOf at (all_shared g) (own_items (get_or g.owns.items at o)) x

pub goes_at : (asked : Bool) (g : Group) (x : Item) → length g.owns.items ≡ length g.tallies.items → (asked ≡ true → HaveNeeds g) → Contains (all_needs (pooled_walks asked g)) (Some x) → GoesAt g x
goes_at false g x same needs needed = absurd (none_needed 0 g.tallies.items g.owns.items (all_shared g) x needed)
goes_at true g x same needs needed =
    let at = group_need g same x needed in
    record { at = at.at; within = (let inside = at.within in omega arith); next = λ o. (needs refl at.at o (let inside = at.within in omega arith)).next x (at.need o) }

-- a walk with something left has less where all are finished
ended_at : (tree : Tree) (tallies : List Tally) (owns : List Own) (entries : List SharedItem) (new : List WalkValue) (x : Item) (i : ℕ) (d : WalkValue) → length owns ≡ length tallies → i < length tallies → i < length new
    → All (λ w. w.items ≡ []) new → ((o : Own) → IsNextOf i entries (own_items (get_or owns i o)) x) → step_bound tree (get_or new i d).items < step_bound tree (get_or (walks_from 0 tallies owns entries) i d).items
ended_at tree tallies [] entries new x i d same below inside ended next = absurd (omega arith)
ended_at tree tallies (o ∷ owns) entries new x i d same below inside ended next =
    let a : Tally = record { target = d.target; key = 0; sum = d.sum; taken = 0 } in
    let own = own_items (get_or (o ∷ owns) i o) in
    let here = walk_at 0 tallies (o ∷ owns) entries i d a o same below in
    let index : 0 + i ≡ i = omega arith in
    let left : (get_or (walks_from 0 tallies (o ∷ owns) entries) i d).items ≡ items_of i entries ++ own = ap (λ w. w.items) here ∙ ap (λ j. items_of j entries ++ own) index in
    let some = has_items tree (items_of i entries ++ own) x (next_left i entries own x (next o)) in
    let none : (get_or new i d).items ≡ [] = ended i d inside in
    omega (arith, ap (step_bound tree) left, ap (step_bound tree) none)

pub ended_lower : (tree : Tree) (old new : Group) (x : Item) → length old.owns.items ≡ length old.tallies.items → length (group_walks new) ≡ length old.tallies.items → All (λ w. w.items ≡ []) (group_walks new) → (at : GoesAt old x)
    → (d : WalkValue) → step_bound tree (get_or (group_walks new) at.at d).items < step_bound tree (get_or (group_walks old) at.at d).items
ended_lower tree old new x same long ended at d =
    let inside = at.within in
    ended_at tree old.tallies.items old.owns.items (all_shared old) (group_walks new) x at.at d same inside (omega arith) ended at.next

-- a walk whose next item is shown looked at a page
pub went_at : (cells bodies_shown : ℕ → Option (List ℕ)) (params : Params) (tree : Tree) (old new : Group) (x : Item) → length old.owns.items ≡ length old.tallies.items → LooksWhereShown cells bodies_shown params tree old new → (at : GoesAt old x)
    → shown_for cells bodies_shown tree x ≢ None → (d : WalkValue) → HasRun cells bodies_shown params tree 1 (get_or (group_walks old) at.at d) (get_or (group_walks new) at.at d)
went_at cells bodies_shown params tree old new x same goes at shown d = by_own old.owns.items same at.next (λ o next. goes at.at d o x at.within next shown) where
  by_own : (owns : List Own) → length owns ≡ length old.tallies.items → ((o : Own) → IsNextOf at.at (all_shared old) (own_items (get_or old.owns.items at.at o)) x)
      → ((o : Own) → IsNextOf at.at (all_shared old) (own_items (get_or old.owns.items at.at o)) x → HasRun cells bodies_shown params tree 1 (get_or (group_walks old) at.at d) (get_or (group_walks new) at.at d))
      → HasRun cells bodies_shown params tree 1 (get_or (group_walks old) at.at d) (get_or (group_walks new) at.at d)
  by_own [] long next goes_ = absurd (let inside = at.within in omega arith)
  by_own (o ∷ owns) long next goes_ = goes_ o (next o)

-- ---- its answer

pub some_name : (tree : Tree) (walks : List PooledWalk) (wants : List PageName) → IsWanted tree walks wants → wants ≡ [] → (x : Item) → Contains (all_needs walks) (Some x) → ⊥
some_name tree walks wants wanted none x needed =
    let there = (wanted.names (page_for tree x)).1 (record { item = x; needed = needed; page = refl }) in
    let nowhere = subst (λ l. Contains l (page_for tree x)) none there in
    absurd (omega (arith, nowhere.1))

no_needs : (walks : List PooledWalk) → ((x : Item) → Contains (all_needs walks) (Some x) → ⊥) → (k : ℕ) (d : PooledWalk) → k < length walks → (get_or walks k d).needs ≡ None
no_needs [] never k d below = absurd (omega arith)
no_needs (w ∷ walks) never zero d below = none w.needs (λ x is. never x (0, omega arith, is)) where
  none : (need : Option Item) → ((x : Item) → need ≡ Some x → ⊥) → need ≡ None
  none None nowhere = refl
  none (Some x) nowhere = absurd (nowhere x refl)
no_needs (w ∷ walks) never (suc k) d below = no_needs walks (λ x there. never x (suc there.0, (let inside = there.1 in omega arith), there.2)) k d (omega arith)

pub finished_all : (cells bodies_shown : ℕ → Option (List ℕ)) (tree : Tree) (walks : List PooledWalk) (wants : List PageName) → All (IsSettled cells bodies_shown tree) walks → IsWanted tree walks wants → wants ≡ [] → AreFinished walks
finished_all cells bodies_shown tree walks wants settled wanted none k d below =
    (settled k d below).finished (no_needs walks (some_name tree walks wants wanted none) k d below)

needs_some : (walks : List PooledWalk) (x : Item) → Contains (all_needs walks) (Some x) → (k : ℕ) × (k < length walks) × ((d : PooledWalk) → (get_or walks k d).needs ≡ Some x)
needs_some [] x (k, below, is) = absurd (omega arith)
needs_some (w ∷ walks) x (zero, below, is) = (0, omega arith, λ d. is)
needs_some (w ∷ walks) x (suc k, below, is) =
    let rest = needs_some walks x (k, omega arith, is) in
    (suc rest.0, (let inside = rest.1 in omega arith), rest.2)

pub none_wanted : (cells bodies_shown : ℕ → Option (List ℕ)) (tree : Tree) (walks : List PooledWalk) (wants : List PageName) → All (IsSettled cells bodies_shown tree) walks → IsWanted tree walks wants → AreFinished walks → wants ≡ []
none_wanted cells bodies_shown tree walks [] settled wanted done = refl
none_wanted cells bodies_shown tree [] (name ∷ wants) settled wanted done =
    let needed = (wanted.names name).0 (0, omega arith, refl) in
    absurd (omega (arith, needed.needed.1))
none_wanted cells bodies_shown tree (w ∷ walks) (name ∷ wants) settled wanted done =
    let needed = (wanted.names name).0 (0, omega arith, refl) in
    let at = needs_some (w ∷ walks) needed.item needed.needed in
    absurd (let some = at.2 w in let none = (settled at.0 w at.1).waits (done at.0 w at.1) in let both = sym none ∙ some in cc)

pub some_waits : (tree : Tree) (walks : List PooledWalk) (wants : List PageName) → IsWanted tree walks wants → wants ≢ [] → SomeWaits walks
some_waits tree walks [] wanted some = absurd (some refl)
some_waits tree walks (name ∷ wants) wanted some =
    let needed = (wanted.names name).0 (0, omega arith, refl) in
    record { item = needed.item; needed = needed.needed }

pub wanted : (tree : Tree) (g : Group) (gathered wants : List PageName) → length g.owns.items ≡ length g.tallies.items → IsRising wants → ((name : PageName) → Contains gathered name ↔ SomeNeed tree g.owns.items name) → All (IsPageOf tree) gathered
    → ((name : PageName) → Contains wants name ↔ Contains gathered name) → IsWanted tree (pooled_walks true g) wants
wanted tree g gathered wants same_length rising names pages same = record {
  rising = rising;
  names = λ name. (
    λ there. (need_needed g same_length tree name).0 ((names name).0 ((same name).0 there)),
    λ needed. (same name).1 ((names name).1 ((need_needed g same_length tree name).1 needed)),
  );
  pages = λ k d below. All-contains (IsPageOf tree) gathered (get_or wants k d) pages ((same (get_or wants k d)).0 (All-contains_itself wants k d below));
}

-- ---- walks whose needs alone changed

same_from : (from : ℕ) (tallies : List Tally) (old new : List Own) (entries : List SharedItem) → length new ≡ length old → Each (λ (a : Own) (b : Own). b.items ≡ a.items) (length old) old new → walks_from from tallies new entries ≡ walks_from from tallies old entries
unfolding walks_from
same_from from [] old new entries long each = refl
same_from from (a ∷ tallies) [] [] entries long each = refl
same_from from (a ∷ tallies) [] (y ∷ new) entries long each = absurd (omega arith)
same_from from (a ∷ tallies) (x ∷ old) [] entries long each = absurd (omega arith)
same_from from (a ∷ tallies) (x ∷ old) (y ∷ new) entries long each =
    let own : own_items y ≡ own_items x = ap (λ l. l.items) (each 0 x (omega arith)) in
    let rest = same_from (suc from) tallies old new entries (omega arith) (λ i d below. each (suc i) d (omega arith)) in
    ap (λ l. walk_of a (items_of from entries ++ l) ∷ walks_from (suc from) tallies new entries) own
    ∙ ap (λ l. walk_of a (items_of from entries ++ own_items x) ∷ l) rest

pub same_walks : (old new : Group) → new.tallies ≡ old.tallies → new.items ≡ old.items → new.waits ≡ old.waits → length new.owns.items ≡ length old.owns.items
    → Each (λ (a : Own) (b : Own). b.items ≡ a.items) (length old.owns.items) old.owns.items new.owns.items → group_walks new ≡ group_walks old
same_walks old new tallies items waits long each =
    ap (λ t. walks_from 0 t.items new.owns.items (all_shared new)) tallies
    ∙ ap (λ l. walks_from 0 old.tallies.items new.owns.items (l.items ++ new.waits.items)) items
    ∙ ap (λ l. walks_from 0 old.tallies.items new.owns.items (old.items.items ++ l.items)) waits
    ∙ same_from 0 old.tallies.items old.owns.items new.owns.items (all_shared old) long each

pub on_err : {A E : Type 0} {P : Type 0} (r : Result A E) → P → OnErr r P
on_err (Ok a) p = tt
on_err (Err e) p = p

-- ---- a walk more

unasked_from : (asked : Bool) (i : ℕ) (tallies : List Tally) (owns : List Own) (entries : List SharedItem) → pooled_from false i tallies owns entries ≡ map unasked (walks_from i tallies owns entries)
unfolding pooled_from walks_from
unasked_from asked i [] owns entries = refl
unasked_from asked i (a ∷ tallies) [] entries = refl
unasked_from asked i (a ∷ tallies) (o ∷ owns) entries = ap (λ l. unasked (walk_of a (items_of i entries ++ own_items o)) ∷ l) (unasked_from asked (suc i) tallies owns entries)

pub unasked_walks : (g : Group) → pooled_walks false g ≡ map unasked (group_walks g)
unasked_walks g = unasked_from false 0 g.tallies.items g.owns.items (all_shared g)

pub begun_walks : (asked : Bool) (old new : Group) (w : WalkValue) → group_walks new ≡ group_walks old ++ w ∷ [] → pooled_walks false new ≡ all_unasked (pooled_walks asked old) ++ unasked w ∷ []
begun_walks asked old new w is =
    unasked_walks new ∙ ap (map unasked) is ∙ map-append unasked (group_walks old) (w ∷ [])
    ∙ ap (λ l. l ++ unasked w ∷ []) (sym (unasked_walks old) ∙ group_unasked asked old)

-- ---- a pool's walks and its group's

-- the walks that a pool shows before and after an advance are those of its group
pub record IsStep (was are : List PooledWalk) (old new : List WalkValue) : Type 0 where
  pub was_is : walks_in was ≡ old
  pub are_is : walks_in are ≡ new
  pub long : length new ≡ length old

pub step_of : (asked now : Bool) (old mid new : Group) (was : List PooledWalk) → pooled_walks asked old ≡ was → length old.owns.items ≡ length old.tallies.items → length mid.owns.items ≡ length mid.tallies.items
    → length mid.tallies.items ≡ length old.tallies.items → group_walks new ≡ group_walks mid → IsStep was (pooled_walks now new) (group_walks old) (group_walks mid)
step_of asked now old mid new was is own_old own_mid count same = record {
  was_is = ap walks_in (sym is) ∙ group_in asked old;
  are_is = group_in now new ∙ same;
  long = omega (arith, walks_length 0 old.tallies.items old.owns.items (all_shared old) own_old, walks_length 0 mid.tallies.items mid.owns.items (all_shared mid) own_mid);
}

pub each_to : (R : WalkValue → WalkValue → Type 0) (g : Group) (new : List WalkValue) → length g.owns.items ≡ length g.tallies.items → Each R (length g.tallies.items) (group_walks g) new → Each R (length (group_walks g)) (group_walks g) new
each_to R g new own each k d below = each k d (omega (arith, walks_length 0 g.tallies.items g.owns.items (all_shared g) own))

pub tallies_in : (params : Params) (asked : Bool) (g : Group) (was : List PooledWalk) → pooled_walks asked g ≡ was → length g.owns.items ≡ length g.tallies.items → All IsOwnTally g.tallies.items → AreSumsInRange params was → All (IsTally params) g.tallies.items
tallies_in params asked g was is same owns range k d below =
    let within : k < length (pooled_walks asked g) = omega (arith, group_length asked g same) in
    let back = subst (AreSumsInRange params) (sym is) range in
    let own = owns k d below in
    record { target = own.target; key = own.key; range = at g.tallies.items g.owns.items same back below }
  where
    at : (tallies : List Tally) (os : List Own) → length os ≡ length tallies → AreSumsInRange params (pooled_walks asked g) → k < length g.tallies.items → IsAtMost (params.grav * (get_or g.tallies.items k d).taken) (get_or g.tallies.items k d).sum
    at tallies os same_ back inside = by_own g.owns.items refl where
      by_own : (owns_ : List Own) → owns_ ≡ g.owns.items → IsAtMost (params.grav * (get_or g.tallies.items k d).taken) (get_or g.tallies.items k d).sum
      by_own [] e = absurd (omega (arith, ap length e))
      by_own (o ∷ rest) e =
          let all = subst (All (IsSumInRange params)) (group_in asked g) (all_back (IsSumInRange params) (pooled_walks asked g) back) in
          let w = walk_of d [] in
          let there = all k w (omega (arith, walks_length 0 g.tallies.items g.owns.items (all_shared g) same)) in
          subst (IsSumInRange params) (walk_at 0 g.tallies.items g.owns.items (all_shared g) k w d o same inside) there

-- where the needs are known and the page of one is shown, a walk's bound falls
pub bound_lower : (cells bodies_shown : ℕ → Option (List ℕ)) (params : Params) (tree : Tree) (old mid : Group) (x : Item) → length old.owns.items ≡ length old.tallies.items → length (group_walks mid) ≡ length old.tallies.items
    → (tree.count ≢ 0 → LooksWhereShown cells bodies_shown params tree old mid) → (tree.count ≡ 0 → All (λ w. w.items ≡ []) (group_walks mid)) → shown_for cells bodies_shown tree x ≢ None → (at : GoesAt old x)
    → (d : WalkValue) → step_bound tree (get_or (group_walks mid) at.at d).items < step_bound tree (get_or (group_walks old) at.at d).items
bound_lower cells bodies_shown params tree old mid x same long goes ended shown at d = elim (cases_eq tree.count 0) [
  | inl none ↦ ended_lower tree old mid x same long (ended none) at d
  | inr some ↦ let run = went_at cells bodies_shown params tree old mid x same (goes some) at shown d in omega (arith, run.bound)
]

pub is_ended : (wants : List PageName) (n : ℕ) (t : Bool) → n ≡ length wants → t ≡ eqb n 0 → (IsTrue t → wants ≡ []) × (wants ≡ [] → IsTrue t)
is_ended wants n t long is = (
  λ e. none wants (let zero_is = eqb-true n 0 (sym is ∙ e) in omega arith),
  λ e. let zero_is : n ≡ 0 = omega (arith, ap length e) in is ∙ eq-eqb n 0 zero_is,
)
  where
    none : (names : List PageName) → length names ≡ 0 → names ≡ []
    none [] few = refl
    none (x ∷ names) few = absurd (omega arith)

pub at_rest : (cells bodies_shown : ℕ → Option (List ℕ)) (tree : Tree) (old new : Group) → length new.tallies.items ≡ length old.tallies.items → new.waits ≡ old.waits
    → Each (λ (a : Own) (b : Own). b.items ≡ a.items) (length old.owns.items) old.owns.items new.owns.items → length old.owns.items ≡ length old.tallies.items → AreAtRest cells bodies_shown tree old → AreAtRest cells bodies_shown tree new
at_rest cells bodies_shown tree old new count waits owns same rests i d below =
    let here = rests i d (omega arith) in
    let own : own_items (get_or new.owns.items i d) ≡ own_items (get_or old.owns.items i d) = ap (λ l. l.items) (owns i d (omega arith)) in
    subst (λ l. IsAtRest cells bodies_shown tree i new.waits.items l) (sym own)
    (subst (λ v. IsAtRest cells bodies_shown tree i v.items (own_items (get_or old.owns.items i d))) (sym waits) here)

-- ---- sums

sum_from : (asked : Bool) (from : ℕ) (tallies : List Tally) (owns : List Own) (entries : List SharedItem) (i : ℕ) (a : Tally) → length owns ≡ length tallies → i < length tallies → a ≡ get_or tallies i a
    → slice_get (sums (pooled_from asked from tallies owns entries)) i ≡ Some a.sum
unfolding pooled_from
sum_from asked from [] owns entries i a same below is = absurd (omega arith)
sum_from asked from (t ∷ tallies) [] entries i a same below is = absurd (omega arith)
sum_from asked from (t ∷ tallies) (o ∷ owns) entries zero a same below is = ap (λ v. Some v.sum) (sym is)
sum_from asked from (t ∷ tallies) (o ∷ owns) entries (suc i) a same below is = sum_from asked (suc from) tallies owns entries i a (omega arith) (omega arith) is

pub sum_at : (asked : Bool) (g : Group) (i : ℕ) (a : Tally) → length g.owns.items ≡ length g.tallies.items → i < length g.tallies.items → a ≡ get_or g.tallies.items i a → slice_get (sums (pooled_walks asked g)) i ≡ Some a.sum
sum_at asked g i a same below is = sum_from asked 0 g.tallies.items g.owns.items (all_shared g) i a same below is

-- ---- no walks

none_from : (asked : Bool) (i : ℕ) (tallies : List Tally) (owns : List Own) (entries : List SharedItem) → tallies ≡ [] → pooled_from asked i tallies owns entries ≡ []
unfolding pooled_from
none_from asked i [] owns entries none = refl
none_from asked i (a ∷ tallies) owns entries none = absurd (cc)

pub no_walks : (asked : Bool) (g : Group) → g.tallies.items ≡ [] → pooled_walks asked g ≡ []
no_walks asked g none = none_from asked 0 g.tallies.items g.owns.items (all_shared g) none
