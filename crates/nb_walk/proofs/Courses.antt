-- A step of a course, from that of the item that was taken.
use Rattle.std.proofs.Common.{◌≡◌, ℕ, ◌-◌, ◌↔◌, cond, eqb, Bool, true, false, List, [], ◌∷◌, ◌++◌, length, Option, Some, None, sym, ap, ◌∙◌, refl, arith, subst}
use Rattle.std.specs.Prelude.{◌≢◌}
use Rattle.std.proofs.lemmas.Bool.{cond-false, ne_eqb}
use Rattle.std.proofs.lemmas.List.Elements.{All-head, All-tail}
use Rattle.nb_model.specs.declared.body.Body.{Body}
use Rattle.nb_model.specs.declared.params.Params.{Params}
use Rattle.nb_model.specs.Leapfrog.{unescaped}
use Rattle.nb_host.specs.declared.page_name.PageName.{PageName}
use Rattle.nb_record.specs.declared.tree.Tree.{Tree}
use Rattle.nb_record.specs.Order.{by_key}
use Rattle.nb_record.specs.Cells.{in_cell}
use Rattle.nb_record.specs.Tree.{IsTreeOf}
use Rattle.nb_record.proofs.Callers.{length-sorted_by}
use Rattle.nb_walk.specs.declared.item.Item.{Item}
use Rattle.nb_walk.specs.declared.item.Item.TheVariants as item
use Rattle.nb_walk.specs.declared.step.Step.{Step}
use Rattle.nb_walk.specs.declared.step.Step.TheVariants as step
use Rattle.nb_walk.specs.Angle.{level_of}
use Rattle.nb_walk.specs.Terms.{Acceptance, terms_to_depth}
use Rattle.nb_walk.specs.Items.{in_order, page_for, last_item, item_terms, remaining_terms}
use Rattle.nb_walk.specs.Left.{IsItemOf, AreItemsOf}
use Rattle.nb_walk.specs.Shown.{shown_for, next_item, WaitsFor, BlamesNext}
use Rattle.nb_walk.specs.Course.{StepsAlong}
use Rattle.nb_walk.proofs.Rooms.{last_pushed}
use Rattle.nb_walk.proofs.Ways.{remaining-nil, remaining-cons, terms_none}

pub empty_list : {X : Type 0} (xs : List X) → length xs ≡ 0 → xs ≡ []
empty_list [] none = refl
empty_list (x ∷ xs) none = absurd (omega arith)

-- ---- the next item

module _ (cells bodies_shown : ℕ → Option (List ℕ)) (tree : Tree) (old : List Item) where
  pub nothing_next : length old ≡ 0 → next_item tree old ≡ None
  nothing_next none = ap (next_item tree) (empty_list old none) ∙ both (eqb tree.count 0) None where
    both : (t : Bool) (x : Option Item) → cond t x x ≡ x
    both true x = refl
    both false x = refl

  pub next_is : (front : List Item) (x : Item) → tree.count ≢ 0 → old ≡ front ++ x ∷ [] → next_item tree old ≡ Some x
  next_is front x some is = cond-false (eqb tree.count 0) None (last_item old) (ne_eqb tree.count 0 some) ∙ ap last_item is ∙ last_pushed front x

  pub waits : (front : List Item) (x : Item) → tree.count ≢ 0 → old ≡ front ++ x ∷ [] → (name : PageName) → ((name ≡ page_for tree x) × (shown_for cells bodies_shown tree x ≡ None)) ↔ WaitsFor cells bodies_shown tree old name
  waits front x some is name =
      let next = next_is front x some is in (
        λ both. record { item = x; next = next; page = sym both.0; unseen = both.1 },
        λ wait.
            let same : wait.item ≡ x = let two = sym wait.next ∙ next in cc in
            (sym wait.page ∙ ap (page_for tree) same, subst (λ y. shown_for cells bodies_shown tree y ≡ None) same wait.unseen),
      )

  pub no_wait : next_item tree old ≡ None → (name : PageName) → WaitsFor cells bodies_shown tree old name → ⊥
  no_wait none name wait = let both = sym wait.next ∙ none in cc

  pub looks : (front : List Item) (x : Item) (name : PageName) → tree.count ≢ 0 → old ≡ front ++ x ∷ [] → name ≡ page_for tree x → shown_for cells bodies_shown tree x ≢ None → BlamesNext cells bodies_shown tree old name
  looks front x name some is page shown = record { item = x; next = next_is front x some is; page = sym page; shown = shown }

-- ---- nothing left

module _ (w : Acceptance) (params : Params) (tree : Tree) (files : ℕ → List ℕ) (bodies : List Body) (of_tree : IsTreeOf tree files params bodies) where
  none_in_order : tree.count ≡ 0 → in_order bodies ≡ []
  none_in_order none = empty_list (in_order bodies) (length-sorted_by by_key (unescaped bodies) ∙ sym of_tree.count ∙ none)

  item_none : tree.count ≡ 0 → (x : Item) → IsItemOf params bodies tree (files tree.cells) x → item_terms w params.leaf bodies x ≡ []
  item_none none (item.Cell key page) is = ap (λ l. terms_to_depth w params.leaf (21 - level_of key) key (in_cell (level_of key) key l)) (none_in_order none) ∙ terms_none w params.leaf (21 - level_of key) key
  item_none none (item.Bodies from count) is = absurd (let size = of_tree.count in omega arith)

  pub none_left : tree.count ≡ 0 → (items : List Item) → AreItemsOf params bodies tree (files tree.cells) items → remaining_terms w params.leaf bodies items ≡ []
  none_left none [] are = remaining-nil w params.leaf bodies
  none_left none (x ∷ xs) are =
      remaining-cons w params.leaf bodies x xs
      ∙ ap (λ l. l ++ item_terms w params.leaf bodies x) (none_left none xs (All-tail (IsItemOf params bodies tree (files tree.cells)) x xs are))
      ∙ item_none none x (All-head (IsItemOf params bodies tree (files tree.cells)) x xs are)

  pub finished_empty : (old new : List Item) → old ≡ new → AreItemsOf params bodies tree (files tree.cells) old → remaining_terms w params.leaf bodies old ≡ [] → StepsAlong w params tree files bodies old new step.Finished
  finished_empty old new same are none = record { items = subst (AreItemsOf params bodies tree (files tree.cells)) same are; terms = (none, sym same) }

  pub nothing_left : (old : List Item) → length old ≡ 0 → remaining_terms w params.leaf bodies old ≡ []
  nothing_left old none = ap (remaining_terms w params.leaf bodies) (empty_list old none) ∙ remaining-nil w params.leaf bodies

-- the same step, told of the same lists
pub same_along : (v w : Acceptance) (params : Params) (tree : Tree) (files : ℕ → List ℕ) (bodies : List Body) (old was new now : List Item) (a b : Step) → v ≡ w → old ≡ was → new ≡ now → a ≡ b
    → StepsAlong v params tree files bodies old new a → StepsAlong w params tree files bodies was now b
same_along v w params tree files bodies old was new now a b vw olds news ab along =
    subst (λ u. StepsAlong u params tree files bodies was now b) vw
    (subst (λ l. StepsAlong v params tree files bodies l now b) olds
    (subst (λ l. StepsAlong v params tree files bodies old l b) news
    (subst (λ r. StepsAlong v params tree files bodies old new r) ab along)))
