-- Walks that visit their own items, one walk after the other.
use Rattle.std.proofs.Common.{◌≡◌, ℕ, ◌+◌, ◌<◌, ◌≤◌, eqb, List, ◌++◌, length, get_or, set, length-set, get_or-set_other, get_or-set_same, Option, Some, None, sym, ap, ◌∙◌, refl, arith, subst, inl, inr}
use Rattle.std.specs.Prelude.{◌≢◌, All, Contains, vec_capacity}
use Rattle.std.proofs.lemmas.Bool.{cases_lt, cond-false, ne_eqb}
use Rattle.std.proofs.lemmas.List.Elements.{All-set}
use Rattle.nb_model.specs.declared.body.Body.{Body}
use Rattle.nb_model.specs.declared.params.Params.{Params}
use Rattle.nb_host.specs.declared.page_name.PageName.{PageName}
use Rattle.nb_record.specs.declared.tree.Tree.{Tree}
use Rattle.nb_record.specs.Tree.{IsTreeOf}
use Rattle.nb_walk.specs.declared.group.Group.{Group}
use Rattle.nb_walk.specs.declared.group.Own.{Own}
use Rattle.nb_walk.specs.declared.item.Item.{Item}
use Rattle.nb_walk.specs.declared.tally.Tally.{Tally}
use Rattle.nb_walk.specs.Group.{walk_of, own_items, all_shared, group_walks, IsGroup, AreTallies, KeepsRooms, RunsOwn}
use Rattle.nb_walk.specs.Items.{last_item}
use Rattle.nb_walk.specs.Left.{step_bound}
use Rattle.nb_walk.specs.Part.{IsTally, KeepsTally, TakesPart, OnPart}
use Rattle.nb_walk.specs.Pool.{BlamesOne}
use Rattle.nb_walk.specs.Room.{HasRoom, IsItemInRange}
use Rattle.nb_walk.specs.Running.{KeepsWalk, HasRun, Each}
use Rattle.nb_walk.specs.Shared.{items_of, IsShared}
use Rattle.nb_walk.specs.Shown.{Shows, BlamesNext}
use Rattle.nb_walk.specs.Walk.{WalkValue, CanVisit, IsWalkOn}
use Rattle.nb_walk.proofs.Meetings.{keeps_then, keeps_same, kept_tally}
use Rattle.nb_walk.proofs.Parts.{kept_own, run_own, own_fits}
use Rattle.nb_walk.proofs.Pools.{last_contains, contains_behind}
use Rattle.nb_walk.proofs.Runs.{SameFrom, same_more, any_default}
use Rattle.nb_walk.proofs.Sharing.{walks_each, walks_all, some_walk, blames}
use Rattle.nb_walk.proofs.Visits.{Rests}

-- a group with the tally and the own part of one walk set
pub record IsSet (now new : Group) (i : ℕ) (b : Tally) (o : Own) : Type 0 where
  pub tallies : new.tallies.items ≡ set now.tallies.items i b
  pub owns : new.owns.items ≡ set now.owns.items i o
  pub items : new.items ≡ now.items
  pub waits : new.waits ≡ now.waits
  pub room : new.room ≡ now.room
  pub tallies_room : vec_capacity now.tallies ≤ vec_capacity new.tallies
  pub owns_room : vec_capacity now.owns ≤ vec_capacity new.owns

module _ (params : Params) (tree : Tree) where
  -- the walks went on in range, and nothing else changed
  pub record KeepsOwns (old new : Group) : Type 0 where
    pub group : IsGroup new
    pub tallies : AreTallies params new
    pub rooms : KeepsRooms old new
    pub items : new.items ≡ old.items
    pub waits : new.waits ≡ old.waits
    pub kept : (j : ℕ) (a : Tally) (o : Own) → j < length old.tallies.items
        → KeepsTally params tree.mass (get_or old.tallies.items j a) (get_or new.tallies.items j a)
        × (step_bound tree (own_items (get_or new.owns.items j o)) ≤ step_bound tree (own_items (get_or old.owns.items j o)))

  pub keeps_none : (g : Group) → IsGroup g → AreTallies params g → KeepsOwns g g
  keeps_none g group tallies = record {
    group = group;
    tallies = tallies;
    rooms = record { count = refl; room = refl; tallies = omega arith; owns = omega arith };
    items = refl;
    waits = refl;
    kept = λ j a o below. (keeps_same params tree.mass (get_or g.tallies.items j a) (get_or g.tallies.items j a) (tallies j a below) refl, omega arith);
  }

  module _ (old now new : Group) (i : ℕ) (b : Tally) (o : Own) (within : i < length now.tallies.items) (is : IsSet now new i b o) (keeps : KeepsOwns old now)
      (room : HasRoom (own_items o)) (kept : (a : Tally) → KeepsTally params tree.mass (get_or now.tallies.items i a) b)
      (bound : (e : Own) → step_bound tree (own_items o) ≤ step_bound tree (own_items (get_or now.owns.items i e))) where
    set_tally : IsTally params b
    set_tally = kept_tally params tree.mass (get_or now.tallies.items i b) b (keeps.tallies i b within) (kept b)

    set_tallies : AreTallies params new
    set_tallies = subst (All (IsTally params)) (sym is.tallies) (All-set (IsTally params) now.tallies.items i b set_tally keeps.tallies)

    set_count : length new.tallies.items ≡ length now.tallies.items
    set_count = ap length is.tallies ∙ length-set now.tallies.items i b

    set_owns : length new.owns.items ≡ length now.owns.items
    set_owns = ap length is.owns ∙ length-set now.owns.items i o

    set_shared : all_shared new ≡ all_shared now
    set_shared = ap (λ v. v.items ++ new.waits.items) is.items ∙ ap (λ v. now.items.items ++ v.items) is.waits

    set_group : IsGroup new
    set_group =
        let group = keeps.group in
        let owns = group.owns in
        let few = group.few in
        let items = group.items in
        let waits = group.waits in
        let longer = ap length set_shared in
        let same_room = is.room in
        record {
          owns = omega (arith, set_count, set_owns);
          tallies = λ k d below. let t = set_tallies k d below in record { target = t.target; key = t.key };
          rooms = subst (All (λ p. HasRoom (own_items p))) (sym is.owns) (All-set (λ p. HasRoom (own_items p)) now.owns.items i o room group.rooms);
          small = subst (All (λ e. IsItemInRange e.item)) (sym set_shared) group.small;
          shared = subst (λ n. All (IsShared n) (all_shared new)) (sym set_count) (subst (All (IsShared (length now.tallies.items))) (sym set_shared) group.shared);
          few = omega arith;
          items = subst (λ v. new.room ≤ vec_capacity v) (sym is.items) (omega arith);
          waits = subst (λ v. new.room ≤ vec_capacity v) (sym is.waits) (omega arith);
        }

    pub keeps_set : KeepsOwns old new
    keeps_set =
        let rooms = keeps.rooms in
        let count = rooms.count in
        let same_room = rooms.room in
        let new_room = is.room in
        let tallies_room = rooms.tallies in
        let owns_room = rooms.owns in
        let more_tallies = is.tallies_room in
        let more_owns = is.owns_room in
        let owns = keeps.group.owns in
        record {
          group = set_group;
          tallies = set_tallies;
          rooms = record { count = omega (arith, set_count); room = omega arith; tallies = omega arith; owns = omega arith };
          items = is.items ∙ keeps.items;
          waits = is.waits ∙ keeps.waits;
          kept = λ j a e below. elim (cases_lt j i) [
            | inl before ↦
                let other : j ≢ i = omega arith in
                let was = keeps.kept j a e below in (
                  subst (λ t. KeepsTally params tree.mass (get_or old.tallies.items j a) t) (sym (ap (λ l. get_or l j a) is.tallies ∙ get_or-set_other now.tallies.items i j b a other)) was.0,
                  subst (λ p. step_bound tree (own_items p) ≤ step_bound tree (own_items (get_or old.owns.items j e))) (sym (ap (λ l. get_or l j e) is.owns ∙ get_or-set_other now.owns.items i j o e other)) was.1,
                )
            | inr from ↦ elim (cases_lt i j) [
              | inl behind ↦
                  let other : j ≢ i = omega arith in
                  let was = keeps.kept j a e below in (
                    subst (λ t. KeepsTally params tree.mass (get_or old.tallies.items j a) t) (sym (ap (λ l. get_or l j a) is.tallies ∙ get_or-set_other now.tallies.items i j b a other)) was.0,
                    subst (λ p. step_bound tree (own_items p) ≤ step_bound tree (own_items (get_or old.owns.items j e))) (sym (ap (λ l. get_or l j e) is.owns ∙ get_or-set_other now.owns.items i j o e other)) was.1,
                  )
              | inr there ↦
                  let at : j ≡ i = omega arith in
                  let was = keeps.kept i a e (omega arith) in
                  let first : get_or new.tallies.items i a ≡ b = ap (λ l. get_or l i a) is.tallies ∙ get_or-set_same now.tallies.items i b a within in
                  let second : get_or new.owns.items i e ≡ o = ap (λ l. get_or l i e) is.owns ∙ get_or-set_same now.owns.items i o e (omega arith) in
                  let less = bound e in
                  let lesser = was.1 in
                  let least : step_bound tree (own_items o) ≤ step_bound tree (own_items (get_or old.owns.items i e)) = omega arith in
                  subst (λ k. KeepsTally params tree.mass (get_or old.tallies.items k a) (get_or new.tallies.items k a)
                  × (step_bound tree (own_items (get_or new.owns.items k e)) ≤ step_bound tree (own_items (get_or old.owns.items k e)))) (sym at) (
                    subst (λ t. KeepsTally params tree.mass (get_or old.tallies.items i a) t) (sym first) (keeps_then params tree.mass (get_or old.tallies.items i a) (get_or now.tallies.items i a) b was.0 (kept a)),
                    subst (λ p. step_bound tree (own_items p) ≤ step_bound tree (own_items (get_or old.owns.items i e))) (sym second) least,
                  )
            ]
          ];
        }

  -- the walks as contracts see them
  pub keeps_walks : (old new : Group) → IsGroup old → KeepsOwns old new → Each (KeepsWalk params tree) (length old.tallies.items) (group_walks old) (group_walks new)
  keeps_walks old new group keeps i d below =
      let owns = group.owns in
      let own_new = keeps.group.owns in
      let count = keeps.rooms.count in
      let shared : all_shared new ≡ all_shared old = ap (λ v. v.items ++ new.waits.items) keeps.items ∙ ap (λ v. old.items.items ++ v.items) keeps.waits in
      walks_each (KeepsWalk params tree) old.tallies.items new.tallies.items old.owns.items new.owns.items (all_shared old) (all_shared new) i d owns count (omega arith) below
      (λ a o.
      let both = keeps.kept i a o below in
      subst (λ l. KeepsWalk params tree (walk_of (get_or old.tallies.items i a) (items_of i (all_shared old) ++ own_items (get_or old.owns.items i o))) (walk_of (get_or new.tallies.items i a) (items_of i l ++ own_items (get_or new.owns.items i o)))) (sym shared)
      (kept_own params tree (items_of i (all_shared old)) (own_items (get_or old.owns.items i o)) (own_items (get_or new.owns.items i o)) (get_or old.tallies.items i a) (get_or new.tallies.items i a) both.0 both.1))

module _ (cells bodies_shown : ℕ → Option (List ℕ)) (params : Params) (tree : Tree) where
  -- a walk visited its own items, until none was left or the page of the next wasn't shown
  pub record RanOwn (old new : List Item) (a b : Tally) : Type 0 where
    pub took : TakesPart cells bodies_shown params tree 0 old new a b
    pub rests : Rests cells bodies_shown params tree new
    pub looked : CanVisit cells bodies_shown tree old → TakesPart cells bodies_shown params tree 1 old new a b
    pub stays : Rests cells bodies_shown params tree old → new ≡ old

  -- the walks below i did so, and the others are as they were
  pub record RunsTo (old new : Group) (i : ℕ) : Type 0 where
    pub keeps : KeepsOwns params tree old new
    pub ran : (j : ℕ) (a : Tally) (o : Own) → j < i
        → RanOwn (own_items (get_or old.owns.items j o)) (own_items (get_or new.owns.items j o)) (get_or old.tallies.items j a) (get_or new.tallies.items j a)
    pub tallies : SameFrom i old.tallies.items new.tallies.items
    pub owns : SameFrom i old.owns.items new.owns.items

  pub runs_none : (g : Group) → IsGroup g → AreTallies params g → RunsTo g g 0
  runs_none g group tallies = record {
    keeps = keeps_none params tree g group tallies;
    ran = λ j a o below. absurd (omega arith);
    tallies = λ k d from. refl;
    owns = λ k d from. refl;
  }

  pub runs_more : (old now new : Group) (i : ℕ) (b : Tally) (o : Own) → i < length now.tallies.items → IsSet now new i b o → RunsTo old now i → HasRoom (own_items o)
      → ((a : Tally) (e : Own) → KeepsTally params tree.mass (get_or now.tallies.items i a) b × (step_bound tree (own_items o) ≤ step_bound tree (own_items (get_or now.owns.items i e)))
      × RanOwn (own_items (get_or now.owns.items i e)) (own_items o) (get_or now.tallies.items i a) b) → RunsTo old new (i + 1)
  runs_more old now new i b o within is runs room holds =
      let owns = runs.keeps.group.owns in
      record {
        keeps = keeps_set params tree old now new i b o within is runs.keeps room (λ a. (holds a o).0) (λ e. (holds b e).1);
        ran = λ j a e below. elim (cases_lt j i) [
          | inl before ↦
              let other : j ≢ i = omega arith in
              subst (λ p. RanOwn (own_items (get_or old.owns.items j e)) (own_items p) (get_or old.tallies.items j a) (get_or new.tallies.items j a)) (sym (ap (λ l. get_or l j e) is.owns ∙ get_or-set_other now.owns.items i j o e other))
              (subst (λ t. RanOwn (own_items (get_or old.owns.items j e)) (own_items (get_or now.owns.items j e)) (get_or old.tallies.items j a) t) (sym (ap (λ l. get_or l j a) is.tallies ∙ get_or-set_other now.tallies.items i j b a other))
              (runs.ran j a e before))
          | inr from ↦
              let at : j ≡ i = omega arith in
              let first : get_or new.tallies.items i a ≡ b = ap (λ l. get_or l i a) is.tallies ∙ get_or-set_same now.tallies.items i b a within in
              let second : get_or new.owns.items i e ≡ o = ap (λ l. get_or l i e) is.owns ∙ get_or-set_same now.owns.items i o e (omega arith) in
              let was_a = runs.tallies i a (omega arith) in
              let was_o = runs.owns i e (omega arith) in
              subst (λ k. RanOwn (own_items (get_or old.owns.items k e)) (own_items (get_or new.owns.items k e)) (get_or old.tallies.items k a) (get_or new.tallies.items k a)) (sym at)
              (subst (λ p. RanOwn (own_items (get_or old.owns.items i e)) (own_items p) (get_or old.tallies.items i a) (get_or new.tallies.items i a)) (sym second)
              (subst (λ t. RanOwn (own_items (get_or old.owns.items i e)) (own_items o) (get_or old.tallies.items i a) t) (sym first)
              (subst (λ p. RanOwn (own_items p) (own_items o) (get_or old.tallies.items i a) b) was_o
              (subst (λ t. RanOwn (own_items (get_or now.owns.items i e)) (own_items o) t b) was_a (holds a e).2))))
        ];
        tallies = subst (λ l. SameFrom (i + 1) old.tallies.items l) (sym is.tallies) (same_more old.tallies.items now.tallies.items i b runs.tallies);
        owns = subst (λ l. SameFrom (i + 1) old.owns.items l) (sym is.owns) (same_more old.owns.items now.owns.items i o runs.owns);
      }

  -- ---- all walks did

  module _ (old new : Group) (group : IsGroup old) (tallies : AreTallies params old) (n : ℕ) (all : length old.tallies.items ≤ n) (runs : RunsTo old new n) where
    run_at : (looked : ℕ) (i : ℕ) (d : WalkValue) → i < length old.tallies.items
        → ((a : Tally) (o : Own) → TakesPart cells bodies_shown params tree looked (own_items (get_or old.owns.items i o)) (own_items (get_or new.owns.items i o)) (get_or old.tallies.items i a) (get_or new.tallies.items i a))
        → HasRun cells bodies_shown params tree looked (get_or (group_walks old) i d) (get_or (group_walks new) i d)
    run_at looked i d below took =
        let owns = group.owns in
        let keeps = runs.keeps in
        let own_new = keeps.group.owns in
        let count = keeps.rooms.count in
        let Run = HasRun cells bodies_shown params tree looked in
        let shared : all_shared new ≡ all_shared old = ap (λ v. v.items ++ new.waits.items) keeps.items ∙ ap (λ v. old.items.items ++ v.items) keeps.waits in
        walks_each Run old.tallies.items new.tallies.items old.owns.items new.owns.items (all_shared old) (all_shared new) i d owns count (omega arith) below
        (λ a o.
        subst (λ l. Run (walk_of (get_or old.tallies.items i a) (items_of i (all_shared old) ++ own_items (get_or old.owns.items i o))) (walk_of (get_or new.tallies.items i a) (items_of i l ++ own_items (get_or new.owns.items i o)))) (sym shared)
        (run_own cells bodies_shown params tree looked (items_of i (all_shared old)) (own_items (get_or old.owns.items i o)) (own_items (get_or new.owns.items i o)) (get_or old.tallies.items i a) (get_or new.tallies.items i a)
        (let t = tallies i a below in t.target) (took a o)))

    some_of : {G : Type 0} (i : ℕ) → i < length old.tallies.items → (Tally → Own → G) → G
    some_of i below f = some_walk old.tallies.items old.owns.items i group.owns below f

    pub runs_own : RunsOwn cells bodies_shown params tree old new
    runs_own = record {
      ran = λ i d below. run_at 0 i d below (λ a o. (runs.ran i a o (omega arith)).took);
      rests = λ i d x below last. some_of i below (λ a o. (runs.ran i a d (omega arith)).rests x last);
      looked = λ i d o x below last shown.
          run_at 1 i d below
          (λ a e.
          let same : get_or old.owns.items i e ≡ get_or old.owns.items i o = any_default old.owns.items i e o (let owns = group.owns in omega arith) in
          (runs.ran i a e (omega arith)).looked (record { item = x; last = subst (λ p. last_item (own_items p) ≡ Some x) (sym same) last; shown = shown }));
      stays = λ i d below rest. some_of i below (λ a o. (runs.ran i a d (omega arith)).stays rest);
    }

  -- ---- a page that isn't the tree's

  pub own_blames : (g : Group) (i : ℕ) (name : PageName) → IsGroup g → i < length g.tallies.items → tree.count ≢ 0 → ((o : Own) → BlamesNext cells bodies_shown tree (own_items (get_or g.owns.items i o)) name) → BlamesOne cells bodies_shown tree (group_walks g) name
  own_blames g i name group below some looks =
      let owns = g.owns.items in
      let shared = items_of i (all_shared g) in
      some_walk g.tallies.items owns i group.owns below
      (λ a o.
      let look = looks o in
      let last : last_item (own_items (get_or owns i o)) ≡ Some look.item = sym (cond-false (eqb tree.count 0) None (last_item (own_items (get_or owns i o))) (ne_eqb tree.count 0 some)) ∙ look.next in
      let there = contains_behind shared (own_items (get_or owns i o)) look.item (last_contains (own_items (get_or owns i o)) look.item last) in
      blames cells bodies_shown tree g.tallies.items owns (all_shared g) i look.item name group.owns below
      (λ p.
      let same : get_or owns i o ≡ get_or owns i p = any_default owns i o p (let long = group.owns in omega arith) in
      subst (λ q. Contains (shared ++ own_items q) look.item) same there)
      look.page look.shown)

  pub own_sound : (old now : Group) (i : ℕ) (files : ℕ → List ℕ) (bodies : List Body) → IsTreeOf tree files params bodies → Shows cells bodies_shown tree files → IsGroup old → i < length old.tallies.items → RunsTo old now i
      → All (λ w. IsWalkOn params bodies tree (files tree.cells) w) (group_walks old) → (P : Type 0) → ((a : Tally) (o : Own) → OnPart params tree cells bodies_shown (own_items (get_or now.owns.items i o)) (get_or now.tallies.items i a) (λ b f. P)) → P
  own_sound old now i files bodies of_tree shows group below runs on P holds =
      let file = files tree.cells in
      some_walk old.tallies.items old.owns.items i group.owns below
      (λ a o.
      let whole = walks_all (λ w. IsWalkOn params bodies tree file w) old.tallies.items old.owns.items (all_shared old) i a o group.owns below on in
      let fits = own_fits params bodies tree file (items_of i (all_shared old)) (own_items (get_or old.owns.items i o)) (get_or old.tallies.items i a) whole in
      let was_a = runs.tallies i a (omega arith) in
      let was_o = runs.owns i o (omega arith) in
      let asks = subst (λ p. OnPart params tree cells bodies_shown (own_items p) (get_or old.tallies.items i a) (λ b f. P)) was_o (subst (λ t. OnPart params tree cells bodies_shown (own_items (get_or now.owns.items i o)) t (λ b f. P)) was_a (holds a o)) in
      asks files bodies of_tree shows fits.0 fits.1)

pub no_less : (a b : ℕ) → b ≡ a → a ≤ b
no_less a b same = omega arith
