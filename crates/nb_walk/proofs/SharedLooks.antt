-- What walks that share an item take of it, and what that leaves of a group.
use Rattle.std.proofs.Common.{◌≡◌, ℕ, ◌+◌, ◌-◌, ◌*◌, ◌/◌, ◌%◌, ◌^◌, ◌<◌, ◌≤◌, cond, eqb, true, false, Bool, Result, Ok, Err, List, [], ◌∷◌, ◌++◌, length, length-append, get_or, Option, Some, None, sym, ap, ◌∙◌, refl, arith, subst, inl, inr}
use Rattle.std.specs.Prelude.{◌≢◌, option_map, slice_get, sum_by, All, Contains}
use Rattle.std.proofs.lemmas.Bool.{cond-true, cond-false, eq-eqb, ne_eqb, cases_eq}
use Rattle.std.proofs.lemmas.List.{get_or_append_left, get_or-append-add}
use Rattle.std.proofs.lemmas.List.Elements.{All-append, All-push, Contains-append_left, Contains-push}
use Rattle.std.proofs.lemmas.List.Sums.{sum_by-append, sum_by-cons}
use Rattle.nb_model.specs.declared.body.Body.{Body}
use Rattle.nb_model.specs.declared.params.Params.{Params}
use Rattle.nb_model.specs.Gravity.{octants}
use Rattle.nb_host.specs.declared.page_name.PageName.{PageName}
use Rattle.nb_key.specs.Morton.{IsKey}
use Rattle.nb_key.proofs.Levels.{child_is}
use Rattle.nb_record.specs.declared.cell.Cell.{Cell}
use Rattle.nb_record.specs.declared.header.PageError.{PageError}
use Rattle.nb_record.specs.declared.sizes.TheConstants.{BODIES_PER_PAGE}
use Rattle.nb_record.specs.declared.tree.Tree.{Tree}
use Rattle.nb_record.specs.Order.{by_key, sorted_by}
use Rattle.nb_record.specs.Pages.{record_count, read_body_page}
use Rattle.nb_record.specs.Records.{IsCell, body_record, IsBodyRecord}
use Rattle.nb_record.specs.Tree.{IsTreeOf}
use Rattle.nb_walk.specs.declared.group.Group.{Group}
use Rattle.nb_walk.specs.declared.item.Item.{Item}
use Rattle.nb_walk.specs.declared.item.Item.TheVariants as item
use Rattle.nb_walk.specs.declared.shared.SharedItem.{SharedItem}
use Rattle.nb_walk.specs.declared.sight.Sight.{Sight}
use Rattle.nb_walk.specs.declared.sight.Sight.TheVariants as sight
use Rattle.nb_walk.specs.declared.tally.Tally.{Tally}
use Rattle.nb_walk.specs.declared.term.Term.{Term}
use Rattle.nb_walk.specs.declared.term.Term.TheVariants as term
use Rattle.nb_walk.specs.Angle.{by_angle}
use Rattle.nb_walk.specs.Group.{walk_of, own_items, walks_from, all_shared, group_walks, walks_with, AreTallies, IsAtRest, shared_bound, TakesShared, Meets, AddsTo}
use Rattle.nb_walk.specs.Items.{bodies_from, remaining_mass, page_for}
use Rattle.nb_walk.specs.Left.{AreItemsOf, item_bound, step_bound}
use Rattle.nb_walk.specs.Looks.{kid_items, opened_items}
use Rattle.nb_walk.specs.Part.{IsTally, KeepsTally, TakesPart}
use Rattle.nb_walk.specs.Pool.{BlamesOne}
use Rattle.nb_walk.specs.Room.{IsItemInRange}
use Rattle.nb_walk.specs.Running.{KeepsWalk, HasRun, Each, EachAt}
use Rattle.nb_walk.specs.Shared.{is_left_to, items_of, shared_by, IsShared}
use Rattle.nb_walk.specs.Shown.{Shows, shown_for}
use Rattle.nb_walk.specs.Sight.{SeesOver, SeesTree}
use Rattle.nb_walk.specs.Taking.{Adds, page_terms, TakesAlong}
use Rattle.nb_walk.specs.Terms.{body_terms, term_mass}
use Rattle.nb_walk.specs.Walk.{WalkValue, IsWalkOn}
use Rattle.nb_walk.proofs.Lefts.{bound_some, bound_opened, bound_next}
use Rattle.nb_walk.proofs.Meetings.{of_set, keeps_same}
use Rattle.nb_walk.proofs.Parts.{kept_shared, shared_fits, run_shared, run_wait, takes_none, takes_less}
use Rattle.nb_walk.proofs.Rooms.{not_deepest, divided_level}
use Rattle.nb_walk.proofs.Sharing.{items_of_append, items_of_one, items_of_other, items_of_shared, items_of_unshared, item_of, some_walk, walks_each, walks_all, blames}
use Rattle.nb_walk.proofs.Stepping.{HasBody, cell_item_of, bodies_of_item, page_checks}
use Rattle.nb_walk.proofs.Takes.{has_body, page_range, takes_accepted, takes_opened, takes_next, takes_page, takes_rest, accepted_heavy, range_heavy}

-- ---- one walk, one item

module _ (cells bodies_shown : ℕ → Option (List ℕ)) (params : Params) (tree : Tree) where
  abbrev Looks : List Item → List Item → Tally → Tally → Type 0
  Looks old new a b = TakesPart cells bodies_shown params tree 1 old new a b

  -- over each tree the item gives way
  abbrev Along : List Item → List Item → Tally → Tally → Type 0
  Along old new a b =
      (files : ℕ → List ℕ) (bodies : List Body) → IsTreeOf tree files params bodies → Shows cells bodies_shown tree files
      → AreItemsOf params bodies tree (files tree.cells) old → TakesAlong params bodies tree (files tree.cells) old new a b

  takes_part : (old new : List Item) (a b : Tally) → KeepsTally params tree.mass a b → step_bound tree new < step_bound tree old → Along old new a b → Looks old new a b
  takes_part old new a b kept less along = record {
    kept = kept;
    bound = omega arith;
    over = λ files bodies of_tree shows items mass.
        let takes = along files bodies of_tree shows items in
        record { terms = takes.terms; added = takes.added; items = takes.items; along = takes.along; fewer = (let fewer = takes.fewer in omega arith) };
  }

  one_bound : (x : Item) → step_bound tree (x ∷ []) ≡ item_bound tree x
  one_bound x = omega (arith, sum_by-cons (item_bound tree) x [])

  module _ (key page : ℕ) (some : tree.count ≢ 0) (seen : Sight) (sees : SeesTree tree cells bodies_shown key page seen) where
    abbrev of_key : Item
    of_key = item.Cell key page

    seen_over : (now : Sight) → seen ≡ now → (files : ℕ → List ℕ) (bodies : List Body) → IsTreeOf tree files params bodies → Shows cells bodies_shown tree files
        → AreItemsOf params bodies tree (files tree.cells) (of_key ∷ []) → SeesOver params bodies tree (files tree.cells) key page now
    seen_over now is files bodies of_tree shows items =
        let own = cell_item_of (λ (k m : ℕ) p. true) params tree files bodies of_tree [] key page some items in
        subst (SeesOver params bodies tree (files tree.cells) key page) is (sees files params bodies of_tree shows own)

    pub part_taken : (cell : Cell) (a b : Tally) → seen ≡ sight.Cell cell → KeepsTally params tree.mass a b → by_angle params a.target cell.key cell.centre ≡ true
        → Adds params (term.Cell cell.mass cell.centre ∷ []) a b → Looks (of_key ∷ []) [] a b
    part_taken cell a b is kept whole added =
        let less = bound_some tree of_key in
        takes_part (of_key ∷ []) [] a b kept (omega (arith, one_bound of_key))
        (λ files bodies of_tree shows items. takes_accepted params tree files bodies of_tree [] cell key page a b items (seen_over (sight.Cell cell) is files bodies of_tree shows items) whole added)

    pub part_opened : (cell : Cell) (a : Tally) → seen ≡ sight.Cell cell → IsTally params a → by_angle params a.target cell.key cell.centre ≡ false
        → IsCell cell → cell.key ≡ key → cell.first + cell.count ≤ tree.count → Looks (of_key ∷ []) (opened_items cell) a a
    part_opened cell a is tally opened form same within =
        let lower = bound_opened tree cell page form.key (λ some. divided_level cell cell.kids form refl some) within in
        let there : step_bound tree (opened_items cell) < item_bound tree of_key = subst (λ k. step_bound tree (opened_items cell) < item_bound tree (item.Cell k page)) same lower in
        takes_part (of_key ∷ []) (opened_items cell) a a (keeps_same params tree.mass a a tally refl) (omega (arith, one_bound of_key))
        (λ files bodies of_tree shows items. takes_opened params tree files bodies of_tree [] cell key page (opened_items cell) a items (seen_over (sight.Cell cell) is files bodies of_tree shows items) opened refl)

    pub part_next : (next : ℕ) (a : Tally) → seen ≡ sight.Next next → IsTally params a → page < next → next < tree.pages → Looks (of_key ∷ []) (item.Cell key next ∷ []) a a
    part_next next a is tally later within =
        let less = bound_next tree key page next later within in
        takes_part (of_key ∷ []) (item.Cell key next ∷ []) a a (keeps_same params tree.mass a a tally refl) (omega (arith, one_bound of_key))
        (λ files bodies of_tree shows items. takes_next params tree files bodies of_tree [] key page next (item.Cell key next ∷ []) a items (seen_over (sight.Next next) is files bodies of_tree shows items) refl)

    pub no_damage : (name : PageName) → seen ≡ sight.Damaged name → (files : ℕ → List ℕ) (bodies : List Body) → IsTreeOf tree files params bodies → Shows cells bodies_shown tree files
        → AreItemsOf params bodies tree (files tree.cells) (of_key ∷ []) → ⊥
    no_damage name is files bodies of_tree shows items = seen_over (sight.Damaged name) is files bodies of_tree shows items

    pub too_much : (cell : Cell) (a : Tally) → seen ≡ sight.Cell cell → by_angle params a.target cell.key cell.centre ≡ true → tree.mass < a.taken + cell.mass
        → (files : ℕ → List ℕ) (bodies : List Body) → IsTreeOf tree files params bodies → Shows cells bodies_shown tree files
        → AreItemsOf params bodies tree (files tree.cells) (of_key ∷ []) → tree.mass < a.taken + remaining_mass bodies (of_key ∷ [])
    too_much cell a is whole heavy files bodies of_tree shows items =
        accepted_heavy params tree files bodies of_tree [] cell key page a items (seen_over (sight.Cell cell) is files bodies of_tree shows items) whole heavy

  -- what is lent of the page of body `from`
  pub record IsLent (from : ℕ) (bytes : List ℕ) : Type 0 where
    pub answer : Option (Result (List ℕ) PageError)
    pub is : answer ≡ option_map (λ b. read_body_page (from / BODIES_PER_PAGE) b) (bodies_shown (from / BODIES_PER_PAGE))
    pub some : answer ≡ Some (Ok bytes)

  module _ (from count here : ℕ) (bytes : List ℕ) (lent : IsLent from bytes) (few : here ≤ count) (on_page : from % BODIES_PER_PAGE + here ≤ BODIES_PER_PAGE) where
    abbrev of_range : Item
    of_range = item.Bodies from count

    abbrev here_terms : List Term
    here_terms = page_terms bytes (from % BODIES_PER_PAGE) (from % BODIES_PER_PAGE + here)

    -- what holds over each tree whose items these bodies are
    abbrev OverBodies : ((files : ℕ → List ℕ) → List Body → Type 0) → Type 0
    OverBodies Holds = (files : ℕ → List ℕ) (bodies : List Body) → IsTreeOf tree files params bodies → Shows cells bodies_shown tree files
        → AreItemsOf params bodies tree (files tree.cells) (of_range ∷ []) → Holds files bodies

    same_terms : from % BODIES_PER_PAGE + here ≤ record_count bytes → OverBodies (λ files bodies. here_terms ≡ body_terms (bodies_from bodies from here))
    same_terms on_this files bodies of_tree shows items =
        let own = bodies_of_item (λ (k m : ℕ) p. true) params tree files bodies of_tree [] from count items in
        page_range params tree files bodies of_tree [] cells bodies_shown from count here bytes shows (record { answer = lent.answer; is = lent.is; some = lent.some }) own.1 few on_page on_this

    pub part_page : (a b : Tally) → from % BODIES_PER_PAGE + here ≤ record_count bytes → here < count → 1 ≤ here → from % BODIES_PER_PAGE + here ≡ BODIES_PER_PAGE
        → KeepsTally params tree.mass a b → Adds params here_terms a b → Looks (of_range ∷ []) (item.Bodies (from + here) (count - here) ∷ []) a b
    part_page a b on_this more some to_end kept added =
        let z = item.Bodies (from + here) (count - here) in
        takes_part (of_range ∷ []) (z ∷ []) a b kept (omega (arith, one_bound of_range, one_bound z))
        (λ files bodies of_tree shows items. takes_page params tree files bodies of_tree [] from count here (z ∷ []) a b items more some to_end refl
        (subst (λ ts. Adds params ts a b) (same_terms on_this files bodies of_tree shows items) added))

    pub part_rest : (a b : Tally) → from % BODIES_PER_PAGE + here ≤ record_count bytes → count ≤ here → KeepsTally params tree.mass a b → Adds params here_terms a b → Looks (of_range ∷ []) [] a b
    part_rest a b on_this less kept added =
        takes_part (of_range ∷ []) [] a b kept (omega (arith, one_bound of_range))
        (λ files bodies of_tree shows items. takes_rest params tree files bodies of_tree [] from count here a b items less few
        (subst (λ ts. Adds params ts a b) (same_terms on_this files bodies of_tree shows items) added))

    -- the page has the bodies
    has_one : (j : ℕ) → j < count → from % BODIES_PER_PAGE + j < BODIES_PER_PAGE → OverBodies (λ files bodies. HasBody bytes (from / BODIES_PER_PAGE) (from % BODIES_PER_PAGE + j) (slice_get (sorted_by by_key bodies) (from + j)))
    has_one j below on files bodies of_tree shows items =
        let own = bodies_of_item (λ (k m : ℕ) p. true) params tree files bodies of_tree [] from count items in
        has_body params tree files bodies of_tree [] cells bodies_shown from count j bytes shows (record { answer = lent.answer; is = lent.is; some = lent.some }) own.1 below on

    pub has_all : 1 ≤ here → record_count bytes < from % BODIES_PER_PAGE + here → OverBodies (λ files bodies. ⊥)
    has_all some more files bodies of_tree shows items =
        let last = has_one (here - 1) (omega arith) (omega arith) files bodies of_tree shows items in
        let within = last.within in
        absurd (omega arith)

    pub has_record : (i : ℕ) → from % BODIES_PER_PAGE ≤ i → i < from % BODIES_PER_PAGE + here → (IsBodyRecord (body_record i bytes) → ⊥) → OverBodies (λ files bodies. ⊥)
    has_record i low high bad files bodies of_tree shows items =
        let index = from % BODIES_PER_PAGE in
        let back : index + (i - index) ≡ i = omega arith in
        let there = has_one (i - index) (omega arith) (omega arith) files bodies of_tree shows items in
        bad (subst (λ k. IsBodyRecord (body_record k bytes)) back there.form)

    pub too_many : (a : Tally) → from % BODIES_PER_PAGE + here ≤ record_count bytes → tree.mass < a.taken + sum_by term_mass here_terms → OverBodies (λ files bodies. tree.mass < a.taken + remaining_mass bodies (of_range ∷ []))
    too_many a on_this heavy files bodies of_tree shows items =
        range_heavy params tree files bodies of_tree [] from count here a few
        (subst (λ ts. tree.mass < a.taken + sum_by term_mass ts) (same_terms on_this files bodies of_tree shows items) heavy)

  pub no_bad_page : (from count : ℕ) (answer : Option (Result (List ℕ) PageError)) (error : PageError) → answer ≡ option_map (λ b. read_body_page (from / BODIES_PER_PAGE) b) (bodies_shown (from / BODIES_PER_PAGE)) → answer ≡ Some (Err error)
      → (files : ℕ → List ℕ) (bodies : List Body) → IsTreeOf tree files params bodies → Shows cells bodies_shown tree files
      → AreItemsOf params bodies tree (files tree.cells) (item.Bodies from count ∷ []) → ⊥
  no_bad_page from count answer error is some files bodies of_tree shows items =
      let own = bodies_of_item (λ (k m : ℕ) p. true) params tree files bodies of_tree [] from count items in
      page_checks params tree files bodies cells bodies_shown from answer error of_tree shows (omega arith) is some

  -- ---- the group

  -- what a walk takes of a shared item, and what it has in its place
  pub record TakesOne (e : SharedItem) (pushed : List SharedItem) (i : ℕ) (a b : Tally) : Type 0 where
    pub part : TakesPart cells bodies_shown params tree 0 (items_of i (e ∷ [])) (items_of i pushed) a b
    pub look : is_left_to i e ≡ true → Looks (items_of i (e ∷ [])) (items_of i pushed) a b

  pub takes_with : (e : SharedItem) (pushed : List SharedItem) (i : ℕ) (a b : Tally) (new : List Item) → is_left_to i e ≡ true → items_of i pushed ≡ new → Looks (e.item ∷ []) new a b → TakesOne e pushed i a b
  takes_with e pushed i a b new is now takes =
      let look = subst (λ l. Looks l (items_of i pushed) a b) (sym (items_of_one i e is)) (subst (λ l. Looks (e.item ∷ []) l a b) (sym now) takes) in
      record { part = takes_less cells bodies_shown params tree 1 0 (items_of i (e ∷ [])) (items_of i pushed) a b (omega arith) look; look = λ left. look }

  pub takes_without : (e : SharedItem) (pushed : List SharedItem) (i : ℕ) (a b : Tally) → IsTally params a → is_left_to i e ≡ false → items_of i pushed ≡ [] → b ≡ a → TakesOne e pushed i a b
  takes_without e pushed i a b tally is none same = record {
    part = subst (λ l. TakesPart cells bodies_shown params tree 0 l (items_of i pushed) a b) (sym (items_of_other i e is))
        (subst (λ l. TakesPart cells bodies_shown params tree 0 [] l a b) (sym none)
        (subst (TakesPart cells bodies_shown params tree 0 [] [] a) (sym same) (takes_none cells bodies_shown params tree [] a tally)));
    look = λ left. absurd (let both = sym is ∙ left in cc);
  }

  -- a group after a look at a shared item, in whose place others came
  pub record IsLooked (old : Group) (e : SharedItem) (pushed : List SharedItem) (new : Group) : Type 0 where
    pub count : length new.tallies.items ≡ length old.tallies.items
    pub owns : new.owns.items ≡ old.owns.items
    pub waits : new.waits.items ≡ old.waits.items
    pub items : new.items.items ≡ old.items.items ++ pushed

  module _ (old : Group) (e : SharedItem) (whole : length old.owns.items ≡ length old.tallies.items) where
    abbrev n : ℕ
    n = length old.tallies.items

    -- a walk that has the item left is on its way
    pub on_item : (bodies : List Body) (file : List ℕ) → All (λ w. IsWalkOn params bodies tree file w) (walks_with old e) → (i : ℕ) (a : Tally) → i < n → is_left_to i e ≡ true
        → AreItemsOf params bodies tree file (e.item ∷ []) × ((get_or old.tallies.items i a).taken + remaining_mass bodies (e.item ∷ []) ≤ tree.mass)
    on_item bodies file on i a below is =
        some_walk old.tallies.items old.owns.items i whole below (λ t o.
        let was = get_or old.tallies.items i a in
        let own = own_items (get_or old.owns.items i o) in
        let it = walks_all (λ w. IsWalkOn params bodies tree file w) old.tallies.items old.owns.items ((old.items.items ++ e ∷ []) ++ old.waits.items) i a o whole below on in
        let fits = shared_fits params bodies tree file i old.items.items (e ∷ []) old.waits.items own was it in
        subst (λ l. AreItemsOf params bodies tree file l × (was.taken + remaining_mass bodies l ≤ tree.mass)) (items_of_one i e is) fits)

    module _ (pushed : List SharedItem) (new : Group) (looked : IsLooked old e pushed new) where
      -- of any walk that the group has
      at_walk : (P : WalkValue → WalkValue → Type 0) (i : ℕ) (d : WalkValue) → i < n
          → ((a : Tally) (own : List Item) → P (walk_of (get_or old.tallies.items i a) (items_of i ((old.items.items ++ e ∷ []) ++ old.waits.items) ++ own))
          (walk_of (get_or new.tallies.items i a) (items_of i ((old.items.items ++ pushed) ++ old.waits.items) ++ own)))
          → P (get_or (walks_with old e) i d) (get_or (group_walks new) i d)
      at_walk P i d below holds =
          subst (λ os. P (get_or (walks_with old e) i d) (get_or (walks_from 0 new.tallies.items os (all_shared new)) i d)) (sym looked.owns)
          (subst (λ ws. P (get_or (walks_with old e) i d) (get_or (walks_from 0 new.tallies.items old.owns.items (new.items.items ++ ws)) i d)) (sym looked.waits)
          (subst (λ xs. P (get_or (walks_with old e) i d) (get_or (walks_from 0 new.tallies.items old.owns.items (xs ++ old.waits.items)) i d)) (sym looked.items)
          (walks_each P old.tallies.items new.tallies.items old.owns.items old.owns.items ((old.items.items ++ e ∷ []) ++ old.waits.items) ((old.items.items ++ pushed) ++ old.waits.items)
          i d whole looked.count refl below (λ a o. holds a (own_items (get_or old.owns.items i o))))))

      -- ---- where the item was looked at

      module _ (tallies : AreTallies params old) (met : EachAt (TakesOne e pushed) n old.tallies.items new.tallies.items) where
        runs : Each (HasRun cells bodies_shown params tree 0) n (walks_with old e) (group_walks new)
        runs i d below = at_walk (HasRun cells bodies_shown params tree 0) i d below (λ a own.
            run_shared cells bodies_shown params tree 0 i old.items.items (e ∷ []) pushed old.waits.items own (get_or old.tallies.items i a) (get_or new.tallies.items i a) (tallies i a below).target (met i a below).part)

        looks : (i : ℕ) (d : WalkValue) → i < n → is_left_to i e ≡ true → HasRun cells bodies_shown params tree 1 (get_or (walks_with old e) i d) (get_or (group_walks new) i d)
        looks i d below is = at_walk (HasRun cells bodies_shown params tree 1) i d below (λ a own.
            run_shared cells bodies_shown params tree 1 i old.items.items (e ∷ []) pushed old.waits.items own (get_or old.tallies.items i a) (get_or new.tallies.items i a) (tallies i a below).target ((met i a below).look is))

        pub all_kept : Each (KeepsWalk params tree) n (walks_with old e) (group_walks new)
        all_kept i d below = (runs i d below).kept

        pub group_takes : shared_bound tree pushed < item_bound tree e.item → TakesShared cells bodies_shown params tree old e new
        group_takes less = record {
          ran = runs;
          took = λ shown i d o below is none. looks i d below is;
          own = λ i d o below none. inl (ap (λ os. own_items (get_or os i o)) looked.owns ∙ none);
          others = λ i x there. subst (λ xs. Contains (items_of i xs) x) (sym looked.items)
              (subst (λ l. Contains l x) (sym (items_of_append i old.items.items pushed)) (Contains-append_left (items_of i old.items.items) (items_of i pushed) x there));
          rests = λ rest i d below. subst (λ ws. IsAtRest cells bodies_shown tree i ws (own_items (get_or new.owns.items i d))) (sym looked.waits)
              (subst (λ os. IsAtRest cells bodies_shown tree i old.waits.items (own_items (get_or os i d))) (sym looked.owns) (rest i d (subst (λ m. i < m) looked.count below)));
          bound =
              let bound = λ (s : SharedItem). item_bound tree s.item in
              omega (arith, ap (shared_bound tree) looked.items, sum_by-append bound old.items.items pushed, sum_by-append bound old.items.items (e ∷ []), sum_by-cons bound e []);
        }

      -- ---- where it was put back

      pub kept_back : pushed ≡ e ∷ [] → Each (KeepsTally params tree.mass) n old.tallies.items new.tallies.items → Each (KeepsWalk params tree) n (walks_with old e) (group_walks new)
      kept_back same kept i d below = at_walk (KeepsWalk params tree) i d below (λ a own.
          kept_shared params tree i old.items.items (e ∷ []) pushed old.waits.items own (get_or old.tallies.items i a) (get_or new.tallies.items i a) (kept i a below)
          (omega (arith, ap (λ l. step_bound tree (items_of i l)) same)))

      pub blames_back : (name : PageName) → IsShared n e → pushed ≡ e ∷ [] → page_for tree e.item ≡ name → shown_for cells bodies_shown tree e.item ≢ None → BlamesOne cells bodies_shown tree (group_walks new) name
      blames_back name shared same page shown =
          let i = shared.walk in
          let there : Contains (all_shared new) e = subst (λ xs. Contains (xs ++ new.waits.items) e) (sym (looked.items ∙ ap (λ l. old.items.items ++ l) same))
          (Contains-append_left (old.items.items ++ e ∷ []) new.waits.items e (Contains-push old.items.items e)) in
          blames cells bodies_shown tree new.tallies.items new.owns.items (all_shared new) i e.item name (ap length looked.owns ∙ whole ∙ sym looked.count)
          (subst (λ m. i < m) (sym looked.count) (shared.below i shared.has))
          (λ o. Contains-append_left (items_of i (all_shared new)) (own_items (get_or new.owns.items i o)) e.item (item_of i (all_shared new) e there shared.has))
          page shown

    -- ---- where it waits

    abbrev Run : WalkValue → WalkValue → Type 0
    Run v w = HasRun cells bodies_shown params tree 0 v w

    abbrev Unseen : Item → Type 0
    Unseen x = shown_for cells bodies_shown tree x ≡ None

    pub group_waits : (new : Group) → AreTallies params old → new.tallies.items ≡ old.tallies.items → new.owns.items ≡ old.owns.items → new.items.items ≡ old.items.items → new.waits.items ≡ old.waits.items ++ e ∷ []
        → shown_for cells bodies_shown tree e.item ≡ None → TakesShared cells bodies_shown params tree old e new
    group_waits new tallies same_tallies same_owns same_items same_waits unseen = record {
      ran = λ i d below.
          subst (λ ts. Run (get_or (walks_with old e) i d) (get_or (walks_from 0 ts new.owns.items (all_shared new)) i d)) (sym same_tallies)
          (subst (λ os. Run (get_or (walks_with old e) i d) (get_or (walks_from 0 old.tallies.items os (all_shared new)) i d)) (sym same_owns)
          (subst (λ xs. Run (get_or (walks_with old e) i d) (get_or (walks_from 0 old.tallies.items old.owns.items (xs ++ new.waits.items)) i d)) (sym same_items)
          (subst (λ ws. Run (get_or (walks_with old e) i d) (get_or (walks_from 0 old.tallies.items old.owns.items (old.items.items ++ ws)) i d)) (sym same_waits)
          (walks_each Run old.tallies.items old.tallies.items old.owns.items old.owns.items ((old.items.items ++ e ∷ []) ++ old.waits.items) (old.items.items ++ (old.waits.items ++ e ∷ [])) i d whole refl refl below
          (λ a o. run_wait cells bodies_shown params tree i old.items.items (e ∷ []) old.waits.items (own_items (get_or old.owns.items i o)) (get_or old.tallies.items i a) (tallies i a below))))));
      took = λ shown i d o below is none. absurd (shown unseen);
      own = λ i d o below none. inl (ap (λ os. own_items (get_or os i o)) same_owns ∙ none);
      others = λ i x there. subst (λ xs. Contains (items_of i xs) x) (sym same_items) there;
      rests = λ rest i d below.
          let was = rest i d (subst (λ l. i < length l) same_tallies below) in
          subst (λ os. IsAtRest cells bodies_shown tree i new.waits.items (own_items (get_or os i d))) (sym same_owns)
          (record {
            last = was.last;
            shared = λ none. subst (λ ws. All Unseen (items_of i ws)) (sym same_waits)
                (subst (All Unseen) (sym (items_of_append i old.waits.items (e ∷ [])))
                (All-append Unseen (items_of i old.waits.items) (items_of i (e ∷ [])) (was.shared none) (own_unseen i (is_left_to i e) refl)));
          });
      bound =
          let bound = λ (s : SharedItem). item_bound tree s.item in
          let some = bound_some tree e.item in
          omega (arith, ap (shared_bound tree) same_items, sum_by-append bound old.items.items (e ∷ []), sum_by-cons bound e []);
    }
      where
        own_unseen : (i : ℕ) (t : Bool) → is_left_to i e ≡ t → All Unseen (items_of i (e ∷ []))
        own_unseen i true is = subst (All Unseen) (sym (items_of_one i e is)) (All-push Unseen [] e.item (λ k d none. absurd (omega arith)) unseen)
        own_unseen i false is = subst (All Unseen) (sym (items_of_other i e is)) (λ k d none. absurd (omega arith))

  -- ---- what each walk takes

  -- a cell, of the walks that meet it
  pub takes_cell : (e : SharedItem) (key page opened : ℕ) (some : tree.count ≢ 0) (seen : Sight) (sees : SeesTree tree cells bodies_shown key page seen) (cell : Cell) (i : ℕ) (a b : Tally) → e.item ≡ item.Cell key page
      → seen ≡ sight.Cell cell → IsCell cell → cell.key ≡ key → cell.first + cell.count ≤ tree.count → IsTally params a → KeepsTally params tree.mass a b
      → Meets params cell (is_left_to i e) (is_left_to i (record { item = e.item; block = e.block; walks = opened })) a b → TakesOne e (shared_by e.block opened (opened_items cell)) i a b
  takes_cell e key page opened some seen sees cell i a b is seen_is form key_is within tally kept meets = go (is_left_to i e) (is_left_to i (of_set e opened)) refl refl meets where
    go : (t u : Bool) → is_left_to i e ≡ t → is_left_to i (of_set e opened) ≡ u → Meets params cell t u a b → TakesOne e (shared_by e.block opened (opened_items cell)) i a b
    go false u has opens met = takes_without e (shared_by e.block opened (opened_items cell)) i a b tally has (items_of_unshared i e.block opened e.item (opened_items cell) (opens ∙ met.0)) met.1
    go true true has opens met = takes_with e (shared_by e.block opened (opened_items cell)) i a b (opened_items cell) has (items_of_shared i e.block opened e.item (opened_items cell) opens)
        (subst (λ x. Looks (x ∷ []) (opened_items cell) a b) (sym is) (subst (Looks (item.Cell key page ∷ []) (opened_items cell) a) (sym met.1) (part_opened key page some seen sees cell a seen_is tally met.0 form key_is within)))
    go true false has opens met = takes_with e (shared_by e.block opened (opened_items cell)) i a b [] has (items_of_unshared i e.block opened e.item (opened_items cell) opens)
        (subst (λ x. Looks (x ∷ []) [] a b) (sym is) (part_taken key page some seen sees cell a b seen_is kept met.0 met.1))

  -- bodies, of the walks that have them left
  pub takes_bodies : (e : SharedItem) (terms : List Term) (new : List Item) (i : ℕ) (a b : Tally) → IsTally params a → (Adds params terms a b → Looks (e.item ∷ []) new a b)
      → AddsTo params (is_left_to i e) terms a b → TakesOne e (shared_by e.block e.walks new) i a b
  takes_bodies e terms new i a b tally takes adds = go (is_left_to i e) refl adds where
    go : (t : Bool) → is_left_to i e ≡ t → AddsTo params t terms a b → TakesOne e (shared_by e.block e.walks new) i a b
    go false has same = takes_without e (shared_by e.block e.walks new) i a b tally has (items_of_unshared i e.block e.walks e.item new has) same
    go true has added = takes_with e (shared_by e.block e.walks new) i a b new has (items_of_shared i e.block e.walks e.item new has) (takes added)

  -- a look that leaves the tallies
  pub takes_still : (e : SharedItem) (new : List Item) (i : ℕ) (a : Tally) → IsTally params a → Looks (e.item ∷ []) new a a → TakesOne e (shared_by e.block e.walks new) i a a
  takes_still e new i a tally takes = go (is_left_to i e) refl where
    go : (t : Bool) → is_left_to i e ≡ t → TakesOne e (shared_by e.block e.walks new) i a a
    go false has = takes_without e (shared_by e.block e.walks new) i a a tally has (items_of_unshared i e.block e.walks e.item new has) refl
    go true has = takes_with e (shared_by e.block e.walks new) i a a new has (items_of_shared i e.block e.walks e.item new has) takes

-- ---- lists

module _ {X : Type 0} (P : X → Type 0) where
  all_left : (xs ys : List X) → All P (xs ++ ys) → All P xs
  all_left xs ys all = λ k d below. subst P (get_or_append_left xs ys d k below) (all k d (omega (arith, length-append xs ys)))

  all_right : (xs ys : List X) → All P (xs ++ ys) → All P ys
  all_right xs ys all = λ k d below. subst P (get_or-append-add xs ys k d) (all (length xs + k) d (omega (arith, length-append xs ys)))

  -- some more among them
  pub all_among : (xs more ws now then : List X) → now ≡ xs ++ more → then ≡ ws → All P (xs ++ ws) → All P more → All P (now ++ then)
  all_among xs more ws now then is same all own =
      subst (λ l. All P (l ++ then)) (sym is) (subst (λ l. All P ((xs ++ more) ++ l)) (sym same)
      (All-append P (xs ++ more) ws (All-append P xs more (all_left xs ws all) own) (all_right xs ws all)))

  -- some more behind them
  pub all_behind : (xs more ws now then : List X) → now ≡ xs → then ≡ ws ++ more → All P (xs ++ ws) → All P more → All P (now ++ then)
  all_behind xs more ws now then same is all own =
      subst (λ l. All P (l ++ then)) (sym same) (subst (λ l. All P (xs ++ l)) (sym is)
      (All-append P xs (ws ++ more) (all_left xs ws all) (All-append P ws more (all_right xs ws all) own)))

  pub all_one : (x : X) → P x → All P (x ∷ [])
  all_one x p = All-push P [] x (λ k d none. absurd (omega arith)) p

  pub all_none : All P []
  all_none k d none = absurd (omega arith)

-- ---- an opened cell's items

abbrev AreOctants : List ℕ → Type 0
AreOctants [] = Unit {0}
AreOctants (o ∷ os) = (o < 8) × AreOctants os

eight : AreOctants octants
eight = (omega arith, (omega arith, (omega arith, (omega arith, (omega arith, (omega arith, (omega arith, (omega arith, tt))))))))

kids_small : (key kids : ℕ) (os : List ℕ) → AreOctants os → IsKey key → key < 8 ^ 21 → All IsItemInRange (kid_items key kids os)
unfolding kid_items
kids_small key kids [] below is above = all_none IsItemInRange
kids_small key kids (o ∷ os) below is above =
    All-append IsItemInRange (kid_items key kids os) _ (kids_small key kids os below.1 is above) (one (eqb (kids / 2 ^ o % 2) 1))
  where
    one : (t : Bool) → All IsItemInRange (cond t (item.Cell (8 * key + o) 0 ∷ []) [])
    one true = all_one IsItemInRange (item.Cell (8 * key + o) 0) (child_is key o is above below.0, omega arith)
    one false = all_none IsItemInRange

kids_few : (key kids : ℕ) (os : List ℕ) → length (kid_items key kids os) ≤ length os
unfolding kid_items
kids_few key kids [] = omega arith
kids_few key kids (o ∷ os) =
    let rest = kids_few key kids os in
    let here = one (eqb (kids / 2 ^ o % 2) 1) in
    omega (arith, length-append (kid_items key kids os) (cond (eqb (kids / 2 ^ o % 2) 1) (item.Cell (8 * key + o) 0 ∷ []) []))
  where
    one : (t : Bool) → length (cond t (item.Cell (8 * key + o) 0 ∷ []) []) ≤ 1
    one true = omega arith
    one false = omega arith

pub opened_small : (cell : Cell) → IsCell cell → All IsItemInRange (opened_items cell)
opened_small cell is = elim (cases_eq cell.kids 0) [
  | inl none ↦
      let opened = cond-true (eqb cell.kids 0) (item.Bodies cell.first cell.count ∷ []) (kid_items cell.key cell.kids octants) (eq-eqb cell.kids 0 none) in
      let low = is.first in
      let some = is.some_bodies in
      let few = is.count in
      subst (All IsItemInRange) (sym opened) (all_one IsItemInRange (item.Bodies cell.first cell.count) (omega arith, omega arith))
  | inr some ↦
      let opened = cond-false (eqb cell.kids 0) (item.Bodies cell.first cell.count ∷ []) (kid_items cell.key cell.kids octants) (ne_eqb cell.kids 0 some) in
      subst (All IsItemInRange) (sym opened) (kids_small cell.key cell.kids octants eight is.key (not_deepest cell.key is.key (divided_level cell cell.kids is refl some)))
]

pub opened_few : (cell : Cell) → length (opened_items cell) ≤ 8
opened_few cell = elim (cases_eq cell.kids 0) [
  | inl none ↦
      let opened = cond-true (eqb cell.kids 0) (item.Bodies cell.first cell.count ∷ []) (kid_items cell.key cell.kids octants) (eq-eqb cell.kids 0 none) in
      omega (arith, ap length opened)
  | inr some ↦
      let opened = cond-false (eqb cell.kids 0) (item.Bodies cell.first cell.count ∷ []) (kid_items cell.key cell.kids octants) (ne_eqb cell.kids 0 some) in
      omega (arith, ap length opened, kids_few cell.key cell.kids octants)
]
