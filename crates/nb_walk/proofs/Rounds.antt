-- A round of a pool: the shared items in another order, each walk's own items, and a pass.
use Rattle.std.proofs.Common.{◌≡◌, ℕ, ◌<◌, ◌≤◌, Result, Ok, Err, List, [], ◌∷◌, ◌++◌, Option, Some, None, length, get_or, append-nil, sym, ap, ◌∙◌, refl, arith, subst, inl, inr}
use Rattle.std.specs.Prelude.{◌≢◌, ◌⊎◌, All, Contains, IsPermutation, OnOk, vec_capacity}
use Rattle.std.proofs.lemmas.List.Elements.{All-nil}
use Rattle.std.proofs.lemmas.List.Sorted.{IsPermutation-append_left, IsPermutation-append_right, IsPermutation-sym, Contains-permutation, length_permutation}
use Rattle.nb_model.specs.declared.body.Body.{Body}
use Rattle.nb_model.specs.declared.params.Params.{Params}
use Rattle.nb_model.specs.Valid.{IsInBox}
use Rattle.nb_record.specs.declared.tree.Tree.{Tree}
use Rattle.nb_record.specs.Tree.{IsTreeOf}
use Rattle.nb_record.proofs.Callers.{tree_in_box}
use Rattle.nb_walk.specs.declared.group.Group.{Group}
use Rattle.nb_walk.specs.declared.group.Own.{Own}
use Rattle.nb_walk.specs.declared.item.Item.{Item}
use Rattle.nb_walk.specs.declared.shared.SharedItem.{SharedItem}
use Rattle.nb_walk.specs.declared.tally.Tally.{Tally}
use Rattle.nb_walk.specs.Group.{all_shared, group_walks, own_items, walk_of, IsGroup, AreTallies, AreAtRest, LooksWhereShown, LooksAtShared, RunsOwn}
use Rattle.nb_walk.specs.Items.{last_item}
use Rattle.nb_walk.specs.Part.{IsTally}
use Rattle.nb_walk.specs.Room.{IsItemInRange}
use Rattle.nb_walk.specs.Running.{KeepsWalk, HasRun, Each}
use Rattle.nb_walk.specs.Shared.{items_of, IsShared}
use Rattle.nb_walk.specs.Shown.{Shows, shown_for}
use Rattle.nb_walk.specs.Walk.{WalkValue, IsSumInRange, IsWalkOn}
use Rattle.nb_walk.proofs.Courses.{none_left}
use Rattle.nb_walk.proofs.Parts.{kept_then, run_then, run_permuted}
use Rattle.nb_walk.proofs.Passes.{all_among}
use Rattle.nb_walk.proofs.Pulling.{angle}
use Rattle.nb_walk.proofs.Sharing.{items_of_append, items_of_permuted, walks_length, walk_is}
use Rattle.nb_walk.proofs.Walking.{ended}

some_of : {X : Type 0} (xs : List X) (i : ℕ) → i < length xs → X
some_of {X} [] i within = absurd {A = X} (omega arith)
some_of (x ∷ xs) i within = x

pub is_empty_or : {X : Type 0} (xs : List X) → (xs ≡ []) ⊎ (xs ≢ [])
is_empty_or [] = inl refl
is_empty_or (x ∷ xs) = inr (λ same. absurd (cc))

append_none : {X : Type 0} (xs ys : List X) → xs ++ ys ≡ [] → (xs ≡ []) × (ys ≡ [])
append_none [] ys same = (refl, same)
append_none (x ∷ xs) ys same = absurd (cc)

pub none_of_none : (i : ℕ) → items_of i [] ≡ []
unfolding items_of
none_of_none i = refl

no_last : (x : Item) → last_item [] ≡ Some x → ⊥
no_last x is = absurd (cc)

pub on_ok_both : {T E P Q R : Type 0} (r : Result T E) → (P → Q → R) → OnOk r P → OnOk r Q → OnOk r R
on_ok_both (Ok x) both p q = both p q
on_ok_both (Err e) both p q = tt

-- a walk of a group
pub group_walk : (g : Group) (i : ℕ) (d : WalkValue) (a : Tally) (o : Own) → length g.owns.items ≡ length g.tallies.items → i < length g.tallies.items
    → get_or (group_walks g) i d ≡ walk_of (get_or g.tallies.items i a) (items_of i (all_shared g) ++ own_items (get_or g.owns.items i o))
group_walk g i d a o same within = walk_is g.tallies.items g.owns.items (all_shared g) i d a o same within

pub group_length : (g : Group) → IsGroup g → length (group_walks g) ≡ length g.tallies.items
group_length g group = walks_length 0 g.tallies.items g.owns.items (all_shared g) group.owns

-- ---- the items that waited are to be looked at again

module _ (g from : Group) (reversed : List SharedItem) (group : IsGroup g) (same : IsPermutation g.waits.items reversed) (items : from.items.items ≡ g.items.items ++ reversed) (none : from.waits.items ≡ []) where
  abbrev turned_group : Group
  turned_group = record { tallies = g.tallies; owns = g.owns; items = from.items; waits = from.waits; room = g.room }

  turned_all : IsPermutation (all_shared g) (all_shared turned_group)
  turned_all =
      subst (IsPermutation (all_shared g)) (sym (ap (λ l. from.items.items ++ l) none ∙ append-nil from.items.items ∙ items)) (IsPermutation-append_right g.items.items g.waits.items reversed same)

  pub turned_items : (i : ℕ) → IsPermutation (items_of i (all_shared g)) (items_of i from.items.items)
  turned_items i = items_of_permuted i (all_shared g) from.items.items (subst (IsPermutation (all_shared g)) (sym items) (IsPermutation-append_right g.items.items g.waits.items reversed same))

  among : (x : SharedItem) → Contains (all_shared turned_group) x → Contains (all_shared g) x
  among x there = Contains-permutation (all_shared turned_group) (all_shared g) x (IsPermutation-sym (all_shared g) (all_shared turned_group) turned_all) there

  pub turned_is_group : vec_capacity g.items ≤ vec_capacity from.items → vec_capacity g.waits ≤ vec_capacity from.waits → IsGroup turned_group
  turned_is_group capacity waits_capacity = record {
    owns = group.owns;
    tallies = group.tallies;
    rooms = group.rooms;
    small = all_among (λ x. IsItemInRange x.item) (all_shared g) (all_shared turned_group) among group.small;
    shared = all_among (IsShared (length g.tallies.items)) (all_shared g) (all_shared turned_group) among group.shared;
    few = (let few = group.few in let long = length_permutation (all_shared g) (all_shared turned_group) turned_all in omega arith);
    items = (let room = group.items in omega arith);
    waits = (let room = group.waits in omega arith);
  }

module _ (cells bodies_shown : ℕ → Option (List ℕ)) (params : Params) (tree : Tree) where
  abbrev Run : ℕ → WalkValue → WalkValue → Type 0
  Run looked old new = HasRun cells bodies_shown params tree looked old new

  abbrev Keeps : WalkValue → WalkValue → Type 0
  Keeps old new = KeepsWalk params tree old new

  -- ---- one run after the other

  pub each_run : (n : ℕ) (xs ys zs : List WalkValue) → Each (Run 0) n xs ys → Each (Run 0) n ys zs → Each (Run 0) n xs zs
  each_run n xs ys zs first second i d within = run_then cells bodies_shown params tree 0 0 (get_or xs i d) (get_or ys i d) (get_or zs i d) (first i d within) (second i d within)

  pub each_kept : (n : ℕ) (xs ys zs : List WalkValue) → Each (Run 0) n xs ys → Each Keeps n ys zs → Each Keeps n xs zs
  each_kept n xs ys zs first second i d within = kept_then params tree (get_or xs i d) (get_or ys i d) (get_or zs i d) (first i d within).kept (second i d within)

  pub each_on : (files : ℕ → List ℕ) (bodies : List Body) → IsTreeOf tree files params bodies → Shows cells bodies_shown tree files → (n : ℕ) (xs ys : List WalkValue) → length xs ≡ n → length ys ≡ n
      → Each (Run 0) n xs ys → All (λ w. IsWalkOn params bodies tree (files tree.cells) w) xs → All (λ w. IsWalkOn params bodies tree (files tree.cells) w) ys
  each_on files bodies of_tree shows n xs ys was long each on i d below = ((each i d (omega arith)).over files bodies of_tree shows (on i d (omega arith))).0

  -- ---- the shared items in another order

  module _ (old turned : Group) (group : IsGroup old) (tallies : turned.tallies ≡ old.tallies) (owns : turned.owns ≡ old.owns) (none : turned.waits.items ≡ [])
      (same : (i : ℕ) → IsPermutation (items_of i (all_shared old)) (items_of i turned.items.items)) where
    pub turned_shared : all_shared turned ≡ turned.items.items
    turned_shared = ap (λ l. turned.items.items ++ l) none ∙ append-nil turned.items.items

    pub turned_tallies : AreTallies params old → AreTallies params turned
    turned_tallies all = subst (λ (t : List Tally). All (IsTally params) t) (sym (ap (λ t. t.items) tallies)) all

    pub turned_run : AreTallies params old → Each (Run 0) (length old.tallies.items) (group_walks old) (group_walks turned)
    turned_run all i d within =
        let a = some_of old.tallies.items i within in
        let pairs = group.owns in
        let o = some_of old.owns.items i (omega arith) in
        let tally = get_or old.tallies.items i a in
        let own = own_items (get_or old.owns.items i o) in
        let many = ap (λ t. length t.items) tallies in
        let owned = ap (λ t. length t.items) owns in
        let new : get_or (group_walks turned) i d ≡ walk_of tally (items_of i turned.items.items ++ own) =
        group_walk turned i d a o (omega arith) (omega arith)
        ∙ ap (λ t. walk_of (get_or t.items i a) (items_of i (all_shared turned) ++ own_items (get_or turned.owns.items i o))) tallies
        ∙ ap (λ t. walk_of tally (items_of i (all_shared turned) ++ own_items (get_or t.items i o))) owns
        ∙ ap (λ l. walk_of tally (items_of i l ++ own)) turned_shared in
        subst (λ w. Run 0 w (get_or (group_walks turned) i d)) (sym (group_walk old i d a o pairs within))
        (subst (λ w. Run 0 (walk_of tally (items_of i (all_shared old) ++ own)) w) (sym new)
        (run_permuted cells bodies_shown params tree (items_of i (all_shared old) ++ own) (items_of i turned.items.items ++ own) tally (all i a within) (IsPermutation-append_left own (items_of i (all_shared old)) (items_of i turned.items.items) (same i))))

    -- ---- each walk's own items

    module _ (alone : Group) (items : alone.items ≡ turned.items) (waits : alone.waits ≡ turned.waits) (count : length alone.tallies.items ≡ length turned.tallies.items)
        (ran : RunsOwn cells bodies_shown params tree turned alone) where
      pub rests_alone : AreAtRest cells bodies_shown tree alone
      rests_alone i d within = record {
        last = λ x is. ran.rests i d x (omega arith) is;
        shared = λ none_own. subst (λ l. All (λ x. shown_for cells bodies_shown tree x ≡ None) (items_of i l)) (sym (ap (λ v. v.items) waits ∙ none))
            (subst (All (λ x. shown_for cells bodies_shown tree x ≡ None)) (sym (none_of_none i)) (All-nil (λ x. shown_for cells bodies_shown tree x ≡ None)));
      }

      pub run_alone : AreTallies params old → Each (Run 0) (length old.tallies.items) (group_walks old) (group_walks alone)
      run_alone all =
          let many = ap (λ t. length t.items) tallies in
          each_run (length old.tallies.items) (group_walks old) (group_walks turned) (group_walks alone) (turned_run all) (λ i d within. ran.ran i d (omega arith))

      -- ---- a pass

      pub goes_on : AreTallies params old → (new : Group) → Each (Run 0) (length alone.tallies.items) (group_walks alone) (group_walks new) → LooksAtShared cells bodies_shown params tree alone new
          → LooksWhereShown cells bodies_shown params tree old new
      goes_on all new passed shared i d o x within next shown =
          let many = ap (λ t. length t.items) tallies in
          let same_own : own_items (get_or turned.owns.items i o) ≡ own_items (get_or old.owns.items i o) = ap (λ t. own_items (get_or t.items i o)) owns in
          let was = get_or (group_walks old) i d in
          let turn = get_or (group_walks turned) i d in
          let mid = get_or (group_walks alone) i d in
          let now = get_or (group_walks new) i d in
          elim (is_empty_or (own_items (get_or old.owns.items i o))) [
            | inl empty ↦
                let still = ran.stays i o (omega arith) (λ y last. absurd (no_last y (subst (λ l. last_item l ≡ Some y) (same_own ∙ empty) last))) in
                let there = Contains-permutation (items_of i (all_shared old)) (items_of i turned.items.items) x (same i) (next.shared empty) in
                let here = subst (λ v. Contains (items_of i v.items) x) (sym items) there in
                run_then cells bodies_shown params tree 0 1 was mid now (run_alone all i d within) (shared i d o x (omega arith) (still ∙ same_own ∙ empty) here shown)
            | inr some ↦
                let last = subst (λ l. last_item l ≡ Some x) (sym same_own) (next.last some) in
                let looked = ran.looked i d o x (omega arith) last shown in
                run_then cells bodies_shown params tree 0 1 was turn now (turned_run all i d within)
                (run_then cells bodies_shown params tree 1 0 turn mid now looked (passed i d (omega arith)))
          ]

  -- ---- where there are no bodies in the box

  cleared : WalkValue → WalkValue
  cleared w = record { target = w.target; sum = w.sum; taken = w.taken; items = [] }

  cleared_run : tree.count ≡ 0 → (w : WalkValue) → IsInBox w.target → IsSumInRange params w → Run 0 w (record { target = w.target; sum = w.sum; taken = w.taken; items = [] })
  cleared_run none w within range = record {
    kept = record { target = refl; range = range; within = λ few. few; bound = omega arith };
    bound = omega arith;
    over = λ files bodies of_tree shows on.
        let box = tree_in_box tree files params bodies of_tree in
        (ended params bodies tree (files tree.cells) box w within (none_left (angle params w.target) params tree files bodies of_tree none w.items on.items) on, omega arith);
  }

  module _ (old new : Group) (group : IsGroup old) (after : IsGroup new) (all : AreTallies params old) (tallies : new.tallies ≡ old.tallies) (finished : All (λ w. w.items ≡ []) (group_walks new)) where
    finished_at : (i : ℕ) (o : Own) → i < length old.tallies.items → items_of i (all_shared new) ++ own_items (get_or new.owns.items i o) ≡ []
    finished_at i o within =
        let a = some_of old.tallies.items i within in
        let many = ap (λ t. length t.items) tallies in
        let long = group_length new after in
        let d = walk_of a [] in
        sym (ap (λ w. w.items) (group_walk new i d a o after.owns (omega arith))) ∙ finished i d (omega arith)

    pub finished_run : tree.count ≡ 0 → Each (Run 0) (length old.tallies.items) (group_walks old) (group_walks new)
    finished_run none i d within =
        let a = some_of old.tallies.items i within in
        let pairs = group.owns in
        let o = some_of old.owns.items i (omega arith) in
        let tally = get_or old.tallies.items i a in
        let many = ap (λ t. length t.items) tallies in
        let items = items_of i (all_shared old) ++ own_items (get_or old.owns.items i o) in
        let now : get_or (group_walks new) i d ≡ walk_of tally [] =
        group_walk new i d a o after.owns (omega arith)
        ∙ ap (λ t. walk_of (get_or t.items i a) (items_of i (all_shared new) ++ own_items (get_or new.owns.items i o))) tallies
        ∙ ap (walk_of tally) (finished_at i o within) in
        subst (λ w. Run 0 w (get_or (group_walks new) i d)) (sym (group_walk old i d a o pairs within))
        (subst (λ w. Run 0 (walk_of tally items) w) (sym now)
        (cleared_run none (walk_of tally items) (all i a within).target (all i a within).range))

    pub finished_rests : AreAtRest cells bodies_shown tree new
    finished_rests i o within =
        let many = ap (λ t. length t.items) tallies in
        let nothing = append_none (items_of i (all_shared new)) (own_items (get_or new.owns.items i o)) (finished_at i o (omega arith)) in
        let shared = append_none (items_of i new.items.items) (items_of i new.waits.items) (sym (items_of_append i new.items.items new.waits.items) ∙ nothing.0) in
        record {
          last = λ x is. absurd (no_last x (subst (λ l. last_item l ≡ Some x) nothing.1 is));
          shared = λ own. subst (All (λ x. shown_for cells bodies_shown tree x ≡ None)) (sym shared.1) (All-nil (λ x. shown_for cells bodies_shown tree x ≡ None));
        }
