-- A group after a look at a shared item.
use Rattle.std.proofs.Common.{◌≡◌, ℕ, ◌+◌, ◌<◌, ◌≤◌, cond, Bool, true, false, Result, List, [], ◌∷◌, ◌++◌, append-nil, length, length-append, get_or, vec_len, Option, Some, None, sym, ap, ◌∙◌, refl, arith, subst}
use Rattle.std.specs.Prelude.{◌≢◌, option_map, All, vec_capacity}
use Rattle.std.specs.Global.{Vec}
use Rattle.std.specs.Vec.{with_items}
use Rattle.std.proofs.lemmas.Bool.{cond-true}
use Rattle.std.proofs.lemmas.List.{with_items_is}
use Rattle.std.proofs.lemmas.List.Sums.{sum_by-cons}
use Rattle.nb_model.specs.declared.body.Body.{Body}
use Rattle.nb_model.specs.declared.params.Params.{Params}
use Rattle.nb_host.specs.declared.page_name.PageName.{PageName}
use Rattle.nb_record.specs.declared.cell.Cell.{Cell}
use Rattle.nb_record.specs.declared.header.PageError.{PageError}
use Rattle.nb_record.specs.declared.tree.Tree.{Tree}
use Rattle.nb_record.specs.Pages.{read_body_page}
use Rattle.nb_record.specs.Records.{IsCell}
use Rattle.nb_walk.specs.declared.group.Group.{Group}
use Rattle.nb_walk.specs.declared.item.Item.{Item}
use Rattle.nb_walk.specs.declared.item.Item.TheVariants as item
use Rattle.nb_walk.specs.declared.shared.SharedItem.{SharedItem}
use Rattle.nb_walk.specs.declared.sight.Sight.{Sight}
use Rattle.nb_walk.specs.declared.sight.Sight.TheVariants as sight
use Rattle.nb_walk.specs.declared.tally.Tally.{Tally}
use Rattle.nb_walk.specs.declared.term.Term.{Term}
use Rattle.nb_walk.specs.Group.{own_items, all_shared, group_walks, walks_with, IsGroup, AreTallies, TakesShared, shared_bound, Meets, AddsTo}
use Rattle.nb_walk.specs.Items.{remaining_mass, page_for}
use Rattle.nb_walk.specs.Left.{AreItemsOf, item_bound, step_bound}
use Rattle.nb_walk.specs.Looks.{opened_items}
use Rattle.nb_walk.specs.Part.{IsTally, KeepsTally, TakesPart}
use Rattle.nb_walk.specs.Pool.{BlamesOne}
use Rattle.nb_walk.specs.Room.{IsItemInRange, HasRoom}
use Rattle.nb_walk.specs.Running.{KeepsWalk, Each, EachAt}
use Rattle.nb_walk.specs.Shared.{is_left_to, items_of, shared_by, IsShared}
use Rattle.nb_walk.specs.Shown.{shown_for}
use Rattle.nb_walk.specs.Sight.{SeesTree}
use Rattle.nb_walk.specs.Taking.{Adds}
use Rattle.nb_walk.specs.Walk.{IsWalkOn}
use Rattle.nb_walk.proofs.Lefts.{bound_some}
use Rattle.nb_walk.proofs.Meetings.{keeps_same, kept_tally, no_tally}
use Rattle.nb_walk.proofs.Sharing.{items_of_unshared, left_to_none}
use Rattle.nb_walk.proofs.SharedLooks.{TakesOne, takes_cell, takes_bodies, takes_still, IsLooked, on_item, all_kept, group_takes, kept_back, blames_back, group_waits, all_among, all_behind, all_one}

-- after `push`, where there is room
pub pushed_on : {X : Type 0} (v w : Vec X) (x : X) (ok : Bool) → w.items ≡ cond ok (v.items ++ x ∷ []) v.items → (vec_len v < vec_capacity v → ok ≡ true) → vec_len v < vec_capacity v → w.items ≡ v.items ++ x ∷ []
pushed_on v w x ok is succeeds free = is ∙ cond-true ok (v.items ++ x ∷ []) v.items (succeeds free)

no_items : (i : ℕ) → items_of i [] ≡ []
unfolding items_of
no_items i = refl

-- what is lent of a page
pub not_shown : (page : ℕ) (shown : Option (List ℕ)) (answer : Option (Result (List ℕ) PageError)) → answer ≡ option_map (λ b. read_body_page page b) shown → answer ≡ None → shown ≡ None
not_shown page None answer is none = refl
not_shown page (Some bytes) answer is none = absurd (let both = sym is ∙ none in cc)

pub was_shown : (page : ℕ) (shown : Option (List ℕ)) (answer : Option (Result (List ℕ) PageError)) (read : Result (List ℕ) PageError) → answer ≡ option_map (λ b. read_body_page page b) shown → answer ≡ Some read → shown ≢ None
was_shown page None answer read is some none = let both = sym is ∙ some in cc
was_shown page (Some bytes) answer read is some none = cc

abbrev pub with_tallies : Group → List Tally → Group
with_tallies g xs = record { tallies = with_items g.tallies xs; owns = g.owns; items = g.items; waits = g.waits; room = g.room }

abbrev pub with_shared : Group → (items : Vec SharedItem) → Group
with_shared g items = record { tallies = g.tallies; owns = g.owns; items = items; waits = g.waits; room = g.room }

abbrev pub with_waits : Group → (waits : Vec SharedItem) → Group
with_waits g waits = record { tallies = g.tallies; owns = g.owns; items = g.items; waits = waits; room = g.room }

-- ---- what bounds the steps

module _ (tree : Tree) where
  bound_shared : (block walks : ℕ) (items : List Item) → shared_bound tree (shared_by block walks items) ≡ step_bound tree items
  bound_shared block walks [] = refl
  bound_shared block walks (x ∷ xs) =
      let first : SharedItem = record { item = x; block = block; walks = walks } in
      omega (arith, sum_by-cons (λ (s : SharedItem). item_bound tree s.item) first (shared_by block walks xs), sum_by-cons (item_bound tree) x xs, bound_shared block walks xs)

  pub bound_of : (e : SharedItem) (block walks : ℕ) (items : List Item) (x : Item) → e.item ≡ x → step_bound tree items < item_bound tree x → shared_bound tree (shared_by block walks items) < item_bound tree e.item
  bound_of e block walks items x is less = subst (λ y. shared_bound tree (shared_by block walks items) < item_bound tree y) (sym is) (omega (arith, bound_shared block walks items))

  pub bound_none : (e : SharedItem) → shared_bound tree [] < item_bound tree e.item
  bound_none e = bound_some tree e.item

-- ---- the room

-- there is room for eight more
abbrev pub HasSpace : Group → Type 0
HasSpace g = length (all_shared g) + 8 ≤ g.room

pub free_waits : (g : Group) → IsGroup g → HasSpace g → vec_len g.waits < vec_capacity g.waits
free_waits g group space = let own = g.waits.ok.0 in omega (arith, space, group.waits, length-append g.items.items g.waits.items)

-- ---- what always holds

-- a group of which the own items stay
record IsNext (params : Params) (old new : Group) : Type 0 where
  count : length new.tallies.items ≡ length old.tallies.items
  owns : new.owns.items ≡ old.owns.items
  tallies : AreTallies params new
  room : new.room ≡ old.room
  small : All (λ s. IsItemInRange s.item) (all_shared new)
  shared : All (IsShared (length old.tallies.items)) (all_shared new)
  few : length (all_shared new) ≤ old.room
  items : vec_capacity old.items ≤ vec_capacity new.items
  waits : vec_capacity old.waits ≤ vec_capacity new.waits

group_next : (params : Params) (old new : Group) → IsGroup old → IsNext params old new → IsGroup new
group_next params old new group next = record {
  owns = ap length next.owns ∙ group.owns ∙ sym next.count;
  tallies = λ i d below. let is = next.tallies i d below in record { target = is.target; key = is.key };
  rooms = subst (All (λ o. HasRoom (own_items o))) (sym next.owns) group.rooms;
  small = next.small;
  shared = subst (λ m. All (IsShared m) (all_shared new)) (sym next.count) next.shared;
  few = omega (arith, next.few, next.room);
  items = omega (arith, next.items, next.room, group.items);
  waits = omega (arith, next.waits, next.room, group.waits);
}

-- ---- what comes in the item's place

module _ (params : Params) (tree : Tree) where
  -- the tallies went on, and some items came to the shared ones
  pub record IsMet (old : Group) (pushed : List SharedItem) (new : Group) : Type 0 where
    pub count : length new.tallies.items ≡ length old.tallies.items
    pub kept : Each (KeepsTally params tree.mass) (length old.tallies.items) old.tallies.items new.tallies.items
    pub owns : new.owns ≡ old.owns
    pub waits : new.waits ≡ old.waits
    pub room : new.room ≡ old.room
    pub items : new.items.items ≡ old.items.items ++ pushed
    pub capacity : vec_capacity old.items ≤ vec_capacity new.items

  pub met_same : (g : Group) → AreTallies params g → IsMet g [] g
  met_same g tallies = record {
    count = refl;
    kept = λ i d below. let a = get_or g.tallies.items i d in keeps_same params tree.mass a a (tallies i d below) refl;
    owns = refl;
    waits = refl;
    room = refl;
    items = sym (append-nil g.items.items);
    capacity = omega arith;
  }

  pub met_by : (g : Group) (was xs : List Tally) → was ≡ g.tallies.items → length xs ≡ length was → Each (KeepsTally params tree.mass) (length was) was xs → IsMet g [] (with_tallies g xs)
  met_by g was xs same long kept =
      let written = with_items_is g.tallies xs (omega (arith, g.tallies.ok.0, ap length same)) in
      record {
        count = ap length written ∙ long ∙ ap length same;
        kept = subst (λ l. Each (KeepsTally params tree.mass) (length g.tallies.items) g.tallies.items l) (sym written) (subst (λ l. Each (KeepsTally params tree.mass) (length l) l xs) same kept);
        owns = refl;
        waits = refl;
        room = refl;
        items = sym (append-nil g.items.items);
        capacity = omega arith;
      }

  module _ (old : Group) (group : IsGroup old) (space : HasSpace old) where
    pub free_items : (mid : Group) → IsMet old [] mid → vec_len mid.items < vec_capacity mid.items
    free_items mid met =
        let own = mid.items.ok.0 in
        omega (arith, space, group.items, met.capacity, ap length (met.items ∙ append-nil old.items.items), length-append old.items.items old.waits.items)

    pub met_push : (mid : Group) (pushed : List SharedItem) (items : Vec SharedItem) → IsMet old [] mid → items.items ≡ mid.items.items ++ pushed → vec_capacity mid.items ≤ vec_capacity items → IsMet old pushed (with_shared mid items)
    met_push mid pushed items met is more = record {
      count = met.count;
      kept = met.kept;
      owns = met.owns;
      waits = met.waits;
      room = met.room;
      items = is ∙ ap (λ l. l ++ pushed) (met.items ∙ append-nil old.items.items);
      capacity = omega (arith, met.capacity, more);
    }

    module _ (tallies : AreTallies params old) where
      pub met_tallies : (pushed : List SharedItem) (new : Group) → IsMet old pushed new → AreTallies params new
      met_tallies pushed new met i d below =
          let there : i < length old.tallies.items = subst (λ m. i < m) met.count below in
          kept_tally params tree.mass (get_or old.tallies.items i d) (get_or new.tallies.items i d) (tallies i d there) (met.kept i d there)

      pub met_group : (pushed : List SharedItem) (new : Group) → IsMet old pushed new → All (λ s. IsItemInRange s.item) pushed → All (IsShared (length old.tallies.items)) pushed → length pushed ≤ 8 → IsGroup new
      met_group pushed new met small shared few =
          let waits = ap (λ v. v.items) met.waits in
          group_next params old new group (record {
            count = met.count;
            owns = ap (λ v. v.items) met.owns;
            tallies = met_tallies pushed new met;
            room = met.room;
            small = all_among (λ s. IsItemInRange s.item) old.items.items pushed old.waits.items new.items.items new.waits.items met.items waits group.small small;
            shared = all_among (IsShared (length old.tallies.items)) old.items.items pushed old.waits.items new.items.items new.waits.items met.items waits group.shared shared;
            few = omega (arith, space, few, length-append new.items.items new.waits.items, length-append old.items.items old.waits.items, length-append old.items.items pushed, ap length met.items, ap length waits);
            items = met.capacity;
            waits = omega (arith, ap (λ v. vec_capacity v) met.waits);
          })

      pub group_wait : (e : SharedItem) (waits : Vec SharedItem) → IsItemInRange e.item → IsShared (length old.tallies.items) e → waits.items ≡ old.waits.items ++ e ∷ [] → vec_capacity old.waits ≤ vec_capacity waits → IsGroup (with_waits old waits)
      group_wait e waits small shared is more =
          group_next params old (with_waits old waits) group (record {
            count = refl;
            owns = refl;
            tallies = tallies;
            room = refl;
            small = all_behind (λ s. IsItemInRange s.item) old.items.items (e ∷ []) old.waits.items old.items.items waits.items refl is group.small (all_one (λ s. IsItemInRange s.item) e small);
            shared = all_behind (IsShared (length old.tallies.items)) old.items.items (e ∷ []) old.waits.items old.items.items waits.items refl is group.shared (all_one (IsShared (length old.tallies.items)) e shared);
            few = omega (arith, space, length-append old.items.items waits.items, length-append old.items.items old.waits.items, length-append old.waits.items (e ∷ []), ap length is);
            items = omega arith;
            waits = more;
          })

      module _ (cells bodies_shown : ℕ → Option (List ℕ)) (e : SharedItem) where
        looked_of : (pushed : List SharedItem) (new : Group) → IsMet old pushed new → IsLooked cells bodies_shown params tree old e pushed new
        looked_of pushed new met = record { count = met.count; owns = ap (λ v. v.items) met.owns; waits = ap (λ v. v.items) met.waits; items = met.items }

        abbrev Met : List SharedItem → Group → Type 0
        Met pushed new = EachAt (TakesOne cells bodies_shown params tree e pushed) (length old.tallies.items) old.tallies.items new.tallies.items

        -- what was written is what each walk took
        met_written : (was xs : List Tally) (pushed : List SharedItem) → was ≡ old.tallies.items → length xs ≡ length was
            → ((i : ℕ) (d : Tally) → i < length old.tallies.items → TakesOne cells bodies_shown params tree e pushed i (get_or old.tallies.items i d) (get_or xs i d)) → Met pushed (with_tallies old xs)
        met_written was xs pushed same long each =
            subst (λ l. EachAt (TakesOne cells bodies_shown params tree e pushed) (length old.tallies.items) old.tallies.items l)
            (sym (with_items_is old.tallies xs (omega (arith, old.tallies.ok.0, ap length same)))) each

        pub met_bodies : (terms : List Term) (new : List Item) (was xs : List Tally) → was ≡ old.tallies.items → length xs ≡ length was → Each (KeepsTally params tree.mass) (length was) was xs
            → EachAt (λ i. AddsTo params (is_left_to i e) terms) (length was) was xs
            → ((a b : Tally) → KeepsTally params tree.mass a b → Adds params terms a b → TakesPart cells bodies_shown params tree 1 (e.item ∷ []) new a b) → Met (shared_by e.block e.walks new) (with_tallies old xs)
        met_bodies terms new was xs same long kept adds takes =
            met_written was xs (shared_by e.block e.walks new) same long (λ i d below.
            let a = get_or old.tallies.items i d in
            let b = get_or xs i d in
            let goes = subst (λ l. Each (KeepsTally params tree.mass) (length l) l xs) same kept in
            let more = subst (λ l. EachAt (λ i. AddsTo params (is_left_to i e) terms) (length l) l xs) same adds in
            takes_bodies cells bodies_shown params tree e terms new i a b (tallies i d below) (takes a b (goes i d below)) (more i d below))

        pub met_cells : (key page opened : ℕ) (some : tree.count ≢ 0) (seen : Sight) (sees : SeesTree tree cells bodies_shown key page seen) (cell : Cell) (was xs : List Tally) → e.item ≡ item.Cell key page
            → seen ≡ sight.Cell cell → IsCell cell → cell.key ≡ key → cell.first + cell.count ≤ tree.count
            → was ≡ old.tallies.items → length xs ≡ length was → Each (KeepsTally params tree.mass) (length was) was xs
            → EachAt (λ i. Meets params cell (is_left_to i e) (is_left_to i (record { item = e.item; block = e.block; walks = opened }))) (length was) was xs
            → Met (shared_by e.block opened (opened_items cell)) (with_tallies old xs)
        met_cells key page opened some seen sees cell was xs is seen_is form key_is within same long kept meets =
            met_written was xs (shared_by e.block opened (opened_items cell)) same long (λ i d below.
            let a = get_or old.tallies.items i d in
            let b = get_or xs i d in
            let goes = subst (λ l. Each (KeepsTally params tree.mass) (length l) l xs) same kept in
            let more = subst (λ l. EachAt (λ i. Meets params cell (is_left_to i e) (is_left_to i (record { item = e.item; block = e.block; walks = opened }))) (length l) l xs) same meets in
            takes_cell cells bodies_shown params tree e key page opened some seen sees cell i a b is seen_is form key_is within (tallies i d below) (goes i d below) (more i d below))

        -- none opened it
        pub met_unopened : (opened : ℕ) (items : List Item) (new : Group) → opened ≡ 0 → Met (shared_by e.block opened items) new → Met [] new
        met_unopened opened items new none met i d below =
            let one = met i d below in
            let a = get_or old.tallies.items i d in
            let b = get_or new.tallies.items i d in
            let left = subst (λ n. is_left_to i (record { item = e.item; block = e.block; walks = n }) ≡ false) (sym none) (left_to_none i e.block e.item) in
            let gone = items_of_unshared i e.block opened e.item items left ∙ sym (no_items i) in
            record {
              part = subst (λ l. TakesPart cells bodies_shown params tree 0 (items_of i (e ∷ [])) l a b) gone one.part;
              look = λ has. subst (λ l. TakesPart cells bodies_shown params tree 1 (items_of i (e ∷ [])) l a b) gone (one.look has);
            }

        pub met_still : (new : List Item) → ((a : Tally) → IsTally params a → TakesPart cells bodies_shown params tree 1 (e.item ∷ []) new a a) → Met (shared_by e.block e.walks new) old
        met_still new takes i d below = let a = get_or old.tallies.items i d in takes_still cells bodies_shown params tree e new i a (tallies i d below) (takes a (tallies i d below))

        pub met_kept : (pushed : List SharedItem) (new : Group) → IsMet old pushed new → Met pushed new → Each (KeepsWalk params tree) (length old.tallies.items) (walks_with old e) (group_walks new)
        met_kept pushed new met each = all_kept cells bodies_shown params tree old e group.owns pushed new (looked_of pushed new met) tallies each

        pub met_takes : (pushed : List SharedItem) (new : Group) → IsMet old pushed new → Met pushed new → shared_bound tree pushed < item_bound tree e.item → TakesShared cells bodies_shown params tree old e new
        met_takes pushed new met each less = group_takes cells bodies_shown params tree old e group.owns pushed new (looked_of pushed new met) tallies each less

        pub back_kept : (new : Group) → IsMet old (e ∷ []) new → Each (KeepsWalk params tree) (length old.tallies.items) (walks_with old e) (group_walks new)
        back_kept new met = kept_back cells bodies_shown params tree old e group.owns (e ∷ []) new (looked_of (e ∷ []) new met) refl met.kept

        pub back_blames : (new : Group) (name : PageName) → IsMet old (e ∷ []) new → IsShared (length old.tallies.items) e → page_for tree e.item ≡ name → shown_for cells bodies_shown tree e.item ≢ None → BlamesOne cells bodies_shown tree (group_walks new) name
        back_blames new name met shared page shown = blames_back cells bodies_shown params tree old e group.owns (e ∷ []) new (looked_of (e ∷ []) new met) name shared refl page shown

        pub waits_takes : (waits : Vec SharedItem) → waits.items ≡ old.waits.items ++ e ∷ [] → shown_for cells bodies_shown tree e.item ≡ None → TakesShared cells bodies_shown params tree old e (with_waits old waits)
        waits_takes waits is unseen = group_waits cells bodies_shown params tree old e group.owns (with_waits old waits) tallies refl refl refl is unseen

        pub waits_kept : (waits : Vec SharedItem) → waits.items ≡ old.waits.items ++ e ∷ [] → shown_for cells bodies_shown tree e.item ≡ None → Each (KeepsWalk params tree) (length old.tallies.items) (walks_with old e) (group_walks (with_waits old waits))
        waits_kept waits is unseen = λ i d below. ((waits_takes waits is unseen).ran i d below).kept

        -- a look over a tree finds no damage
        module _ (bodies : List Body) (file : List ℕ) (on : All (λ w. IsWalkOn params bodies tree file w) (walks_with old e)) (x : Item) (is : e.item ≡ x) where
          pub no_damage_of : IsShared (length old.tallies.items) e → (AreItemsOf params bodies tree file (x ∷ []) → ⊥) → ⊥
          no_damage_of shared damage =
              let i = shared.walk in
              let fits = on_item cells bodies_shown params tree old e group.owns bodies file on i no_tally (shared.below i shared.has) shared.has in
              damage (subst (λ y. AreItemsOf params bodies tree file (y ∷ [])) is fits.0)

          pub no_weight_of : (i : ℕ) → i < length old.tallies.items → is_left_to i e ≡ true
              → (AreItemsOf params bodies tree file (x ∷ []) → tree.mass < (get_or old.tallies.items i no_tally).taken + remaining_mass bodies (x ∷ [])) → ⊥
          no_weight_of i below has heavy =
              let fits = on_item cells bodies_shown params tree old e group.owns bodies file on i no_tally below has in
              let all = subst (λ y. AreItemsOf params bodies tree file (y ∷ [])) is fits.0 in
              let light = subst (λ y. (get_or old.tallies.items i no_tally).taken + remaining_mass bodies (y ∷ []) ≤ tree.mass) is fits.1 in
              let more = heavy all in
              absurd (omega arith)
