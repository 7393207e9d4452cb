-- What a step at a cell, or at the bodies of a leaf, does over a tree.
use Rattle.std.proofs.Common.{◌≡◌, ℕ, suc, ◌+◌, ◌-◌, ◌/◌, ◌%◌, ◌<◌, ◌≤◌, ◌↔◌, true, false, not, Result, Ok, Err, List, [], ◌∷◌, ◌++◌, length, Option, Some, None, sym, ap, ◌∙◌, refl, arith, subst, inl, inr}
use Rattle.std.specs.Prelude.{◌≢◌, option_map, slice_get}
use Rattle.std.proofs.lemmas.List.Sums.{sum_by-append, sum_by-cons}
use Rattle.std.proofs.lemmas.List.Elements.{All-push, All-append, All-pop}
use Rattle.nb_model.specs.declared.body.At.{At}
use Rattle.nb_model.specs.declared.body.Body.{Body}
use Rattle.nb_model.specs.declared.params.Params.{Params}
use Rattle.nb_model.specs.Leapfrog.{unescaped}
use Rattle.nb_host.specs.declared.page_name.PageName.{PageName}
use Rattle.nb_record.specs.declared.cell.Cell.{Cell}
use Rattle.nb_record.specs.declared.tree.Tree.{Tree}
use Rattle.nb_record.specs.declared.header.PageError.{PageError}
use Rattle.nb_record.specs.Pages.{record_count, read_body_page}
use Rattle.nb_record.specs.Records.{body_record, body_of, IsBodyRecord}
use Rattle.nb_record.specs.Order.{by_key, sorted_by}
use Rattle.nb_record.specs.Cells.{in_cell}
use Rattle.nb_record.specs.declared.sizes.TheConstants.{BODIES_PER_PAGE}
use Rattle.nb_record.specs.Tree.{IsTreeOf}
use Rattle.nb_record.proofs.Callers.{bodies_checked, page_within, index_within, length-sorted_by}
use Rattle.nb_model.proofs.Facts.{length-filter-le}
use Rattle.nb_host.specs.Page.{page_of}
use Rattle.nb_walk.specs.declared.item.Item.{Item}
use Rattle.nb_walk.specs.declared.item.Item.TheVariants as item
use Rattle.nb_walk.specs.declared.sight.Sight.{Sight}
use Rattle.nb_walk.specs.declared.sight.Sight.TheVariants as sight
use Rattle.nb_walk.specs.declared.step.Step.{Step}
use Rattle.nb_walk.specs.declared.step.Step.TheVariants as step
use Rattle.nb_walk.specs.declared.term.Term.TheVariants as term
use Rattle.nb_walk.specs.Angle.{level_of}
use Rattle.nb_walk.specs.Terms.{Acceptance}
use Rattle.nb_walk.specs.Items.{bodies_under, remaining_terms}
use Rattle.nb_walk.specs.Left.{WorkCosts, item_work, IsCellItem, IsItemOf, AreItemsOf}
use Rattle.nb_walk.specs.Looks.{opened_items}
use Rattle.nb_walk.specs.Shown.{Shows}
use Rattle.nb_walk.specs.Sight.{SeesOver}
use Rattle.nb_walk.specs.Course.{StepsAlong}
use Rattle.nb_walk.proofs.Ways.{AtCell, among, remaining_last, remaining_one, way_accepted, way_opened, way_body}
use Rattle.nb_walk.proofs.Lefts.{left_among, left_next, left_accepted, left_opened}
use Rattle.nb_walk.proofs.TreeItems.{opened_are}

-- ---- which page is wanted

pub unwanted : (seen : Sight) (result : Step) (P : PageName → Type 0) → ((name : PageName) → (seen ≡ sight.Wants name) ↔ P name)
    → ((name : PageName) → seen ≡ sight.Wants name → ⊥) → ((name : PageName) → result ≡ step.Wants name → ⊥) → (name : PageName) → (result ≡ step.Wants name) ↔ P name
unwanted seen result P is not_seen not_result name = (λ e. absurd (not_result name e), λ p. absurd (not_seen name ((is name).1 p)))

pub wanted : (seen : Sight) (known : PageName) (P : PageName → Type 0) → ((name : PageName) → (seen ≡ sight.Wants name) ↔ P name)
    → seen ≡ sight.Wants known → (name : PageName) → (step.Wants known ≡ step.Wants name) ↔ P name
wanted seen known P is seen_is name = (
  λ e. let same : known ≡ name = cc in (is name).0 (seen_is ∙ ap (λ n. sight.Wants n) same),
  λ p. let same : sight.Wants known ≡ sight.Wants name = sym seen_is ∙ (is name).1 p in let names : known ≡ name = cc in ap (λ n. step.Wants n) names,
)

-- ---- at a cell

abbrev steps : WorkCosts
steps = record { of_leaf = λ from count. suc count; of_bodies = λ from count. count }

module _ (w : Acceptance) (params : Params) (tree : Tree) (files : ℕ → List ℕ) (bodies : List Body) (of_tree : IsTreeOf tree files params bodies) (front : List Item) where
  abbrev file : List ℕ
  file = files tree.cells

  -- the item that was taken, where the tree has bodies
  pub cell_item_of : (key page : ℕ) → tree.count ≢ 0 → AreItemsOf params bodies tree file (front ++ item.Cell key page ∷ []) → IsCellItem params bodies tree file key page
  cell_item_of key page some items =
      elim (All-pop (IsItemOf params bodies tree file) (front ++ item.Cell key page ∷ []) front (Some (item.Cell key page)) refl items).1 [
        | inl root ↦ absurd (some (of_tree.count ∙ ap length root.2))
        | inr cell ↦ cell
      ]

  pub front_items : (x : Item) → AreItemsOf params bodies tree file (front ++ x ∷ []) → AreItemsOf params bodies tree file front
  front_items x items = (All-pop (IsItemOf params bodies tree file) (front ++ x ∷ []) front (Some x) refl items).0

  abbrev Along : ℕ → ℕ → List Item → Step → Type 0
  Along key page new result = StepsAlong w params tree files bodies (front ++ item.Cell key page ∷ []) new result

  at_cell : (cell : Cell) (page : ℕ) → SeesOver params bodies tree file cell.key page (sight.Cell cell) → AtCell params bodies cell
  at_cell cell page seen = record { distinct = of_tree.distinct; is = seen.1 }

  pub step_accepted : (cell : Cell) (key page mass : ℕ) (centre : At) → AreItemsOf params bodies tree file (front ++ item.Cell key page ∷ []) → SeesOver params bodies tree file key page (sight.Cell cell)
      → w cell.key cell.mass cell.centre ≡ true → mass ≡ cell.mass → centre ≡ cell.centre → Along key page front (step.Term (term.Cell mass centre))
  step_accepted cell key page mass centre items seen whole same_mass same_centre =
      subst (λ m. Along key page front (step.Term (term.Cell m centre))) (sym same_mass)
      (subst (λ c. Along key page front (step.Term (term.Cell cell.mass c))) (sym same_centre)
      (subst (λ k. AreItemsOf params bodies tree file (front ++ item.Cell k page ∷ []) → SeesOver params bodies tree file k page (sight.Cell cell) → Along k page front (step.Term (term.Cell cell.mass cell.centre))) seen.0
      core items seen))
    where
      core : AreItemsOf params bodies tree file (front ++ item.Cell cell.key page ∷ []) → SeesOver params bodies tree file cell.key page (sight.Cell cell) → Along cell.key page front (step.Term (term.Cell cell.mass cell.centre))
      core items seen =
          let x = item.Cell cell.key page in
          let more = left_accepted steps file tree params bodies cell.key page seen.1.some seen.2 in
          let sum = sum_by-append (item_work steps file tree params.leaf bodies) front (x ∷ []) in
          let last = sum_by-cons (item_work steps file tree params.leaf bodies) x [] in
          record {
            items = front_items x items;
            terms = (
              remaining_last w params.leaf bodies front x ∙ ap (λ l. l ++ remaining_terms w params.leaf bodies front) (way_accepted params bodies w cell (at_cell cell page seen) whole page),
              omega arith,
            );
          }

  pub step_opened : (cell : Cell) (key page : ℕ) (new : List Item) → AreItemsOf params bodies tree file (front ++ item.Cell key page ∷ []) → SeesOver params bodies tree file key page (sight.Cell cell)
      → w cell.key cell.mass cell.centre ≡ false → new ≡ front ++ opened_items cell → Along key page new step.Moved
  step_opened cell key page new items seen opened is =
      subst (λ l. Along key page l step.Moved) (sym is)
      (subst (λ k. AreItemsOf params bodies tree file (front ++ item.Cell k page ∷ []) → SeesOver params bodies tree file k page (sight.Cell cell) → Along k page (front ++ opened_items cell) step.Moved) seen.0
      core items seen)
    where
      core : AreItemsOf params bodies tree file (front ++ item.Cell cell.key page ∷ []) → SeesOver params bodies tree file cell.key page (sight.Cell cell) → Along cell.key page (front ++ opened_items cell) step.Moved
      core items seen =
          let x = item.Cell cell.key page in
          record {
            items = All-append (IsItemOf params bodies tree file) front (opened_items cell) (front_items x items) (opened_are params bodies tree file of_tree.table (level_of cell.key) cell seen.1);
            terms = (
              among w params.leaf bodies front (opened_items cell) x [] (way_opened params bodies w cell (at_cell cell page seen) opened page),
              left_among steps file tree params bodies front (opened_items cell) x (left_opened steps file tree params bodies cell page seen.1 (λ from count. omega arith) seen.2),
            );
          }

  pub step_next : (key page next : ℕ) (new : List Item) → AreItemsOf params bodies tree file (front ++ item.Cell key page ∷ []) → SeesOver params bodies tree file key page (sight.Next next)
      → new ≡ front ++ item.Cell key next ∷ [] → Along key page new step.Moved
  step_next key page next new items seen is =
      let x = item.Cell key page in
      let y = item.Cell key next in
      let some : bodies_under key (unescaped bodies) ≢ [] = subst (λ k. in_cell (level_of key) k (unescaped bodies) ≢ []) seen.0.key_is seen.0.is.some in
      let less = left_next steps file tree params bodies key page next some seen.1 in
      let one = sum_by-cons (item_work steps file tree params.leaf bodies) y [] in
      subst (λ l. Along key page l step.Moved) (sym is)
      (record {
        items = All-push (IsItemOf params bodies tree file) front y (front_items x items) (inr seen.0);
        terms = (
          among w params.leaf bodies front (y ∷ []) x [] (sym (remaining_one w params.leaf bodies y)),
          left_among steps file tree params bodies front (y ∷ []) x (omega arith),
        );
      })

-- ---- at the bodies of a leaf

-- what the page of a body has at its index
pub record HasBody (bytes : List ℕ) (page i : ℕ) (body : Option Body) : Type 0 where
  pub checked : read_body_page page bytes ≡ Ok bytes
  pub within : i < record_count bytes
  pub form : IsBodyRecord (body_record i bytes)
  pub is : body ≡ Some (body_of (body_record i bytes))

pub body_here : (params : Params) (tree : Tree) (files : ℕ → List ℕ) (bodies : List Body) (cells_shown bodies_shown : ℕ → Option (List ℕ)) (from : ℕ) (bytes : List ℕ)
    → IsTreeOf tree files params bodies → Shows cells_shown bodies_shown tree files → from < length (unescaped bodies) → bodies_shown (from / BODIES_PER_PAGE) ≡ Some bytes
    → HasBody bytes (from / BODIES_PER_PAGE) (from % BODIES_PER_PAGE) (slice_get (sorted_by by_key bodies) from)
body_here params tree files bodies cells_shown bodies_shown from bytes of_tree shows inside shown =
    let order = sorted_by by_key bodies in
    let held = of_tree.ordered in
    let most = length-filter-le (λ (b : Body). not b.out) bodies in
    let within : from < length order = omega (arith, length-sorted_by by_key bodies) in
    let page = page_within (length order) from within in
    let theirs = shows.body (from / BODIES_PER_PAGE) bytes shown in
    let checked = (bodies_checked (from / BODIES_PER_PAGE) (page_of (files tree.bodies) (from / BODIES_PER_PAGE))).1 (held.pages (from / BODIES_PER_PAGE) page) in
    let counts = held.counts (from / BODIES_PER_PAGE) page in
    let index = index_within (length order) from within in
    subst (λ b. HasBody b (from / BODIES_PER_PAGE) (from % BODIES_PER_PAGE) (slice_get order from)) (sym theirs)
    (record { checked = checked; within = omega arith; form = held.records from within; is = held.held from within })

module _ (w : Acceptance) (params : Params) (tree : Tree) (files : ℕ → List ℕ) (bodies : List Body) (of_tree : IsTreeOf tree files params bodies) (front : List Item) where
  pub bodies_of_item : (from count : ℕ) → AreItemsOf params bodies tree (files tree.cells) (front ++ item.Bodies from count ∷ []) → (1 ≤ count) × (from + count ≤ length (unescaped bodies))
  bodies_of_item from count items = (All-pop (IsItemOf params bodies tree (files tree.cells)) (front ++ item.Bodies from count ∷ []) front (Some (item.Bodies from count)) refl items).1

  -- one body, and more behind it
  pub step_body : (from count : ℕ) (b : Body) (new : List Item) → AreItemsOf params bodies tree (files tree.cells) (front ++ item.Bodies from count ∷ []) → slice_get (sorted_by by_key bodies) from ≡ Some b
      → 1 < count → new ≡ front ++ item.Bodies (from + 1) (count - 1) ∷ [] → StepsAlong w params tree files bodies (front ++ item.Bodies from count ∷ []) new (step.Term (term.Body b))
  step_body from count b new items is more there =
      let x = item.Bodies from count in
      let y = item.Bodies (from + 1) (count - 1) in
      let own = bodies_of_item from count items in
      let one = sum_by-cons (item_work steps (files tree.cells) tree params.leaf bodies) y [] in
      subst (λ l. StepsAlong w params tree files bodies (front ++ x ∷ []) l (step.Term (term.Body b))) (sym there)
      (record {
        items = All-push (IsItemOf params bodies tree (files tree.cells)) front y (front_items w params tree files bodies of_tree front x items) (omega arith, omega arith);
        terms = (
          among w params.leaf bodies front (y ∷ []) x (term.Body b ∷ [])
              (way_body w params.leaf bodies from count (count - 1) b is (omega arith) ∙ ap (λ l. term.Body b ∷ l) (sym (remaining_one w params.leaf bodies y))),
          left_among steps (files tree.cells) tree params bodies front (y ∷ []) x (omega arith),
        );
      })

  -- the last body
  pub step_last : (from count : ℕ) (b : Body) (new : List Item) → AreItemsOf params bodies tree (files tree.cells) (front ++ item.Bodies from count ∷ []) → slice_get (sorted_by by_key bodies) from ≡ Some b
      → count ≤ 1 → new ≡ front → StepsAlong w params tree files bodies (front ++ item.Bodies from count ∷ []) new (step.Term (term.Body b))
  step_last from count b new items is last there =
      let x = item.Bodies from count in
      let own = bodies_of_item from count items in
      let left = item_work steps (files tree.cells) tree params.leaf bodies in
      let sum = sum_by-append left front (x ∷ []) in
      let one = sum_by-cons left x [] in
      subst (λ l. StepsAlong w params tree files bodies (front ++ x ∷ []) l (step.Term (term.Body b))) (sym there)
      (record {
        items = front_items w params tree files bodies of_tree front x items;
        terms = (
          remaining_last w params.leaf bodies front x
              ∙ ap (λ l. l ++ remaining_terms w params.leaf bodies front) (way_body w params.leaf bodies from count 0 b is (omega arith)),
          omega arith,
        );
      })

-- what is lent of the page, checked
pub lent : (page : ℕ) (shown : Option (List ℕ)) (lent : Option (Result (List ℕ) PageError)) (read : Result (List ℕ) PageError) → lent ≡ option_map (λ bytes. read_body_page page bytes) shown
    → lent ≡ Some read → (bytes : List ℕ) × (shown ≡ Some bytes) × (read_body_page page bytes ≡ read)
lent page None answer read is some = absurd (let no = sym is ∙ some in cc)
lent page (Some bytes) answer read is some = (bytes, refl, (let same = sym is ∙ some in cc))

pub page_has : (params : Params) (tree : Tree) (files : ℕ → List ℕ) (bodies : List Body) (cells_shown bodies_shown : ℕ → Option (List ℕ)) (from : ℕ) (answer : Option (Result (List ℕ) PageError)) (bytes : List ℕ)
    → IsTreeOf tree files params bodies → Shows cells_shown bodies_shown tree files → from < length (unescaped bodies)
    → answer ≡ option_map (λ b. read_body_page (from / BODIES_PER_PAGE) b) (bodies_shown (from / BODIES_PER_PAGE)) → answer ≡ Some (Ok bytes)
    → HasBody bytes (from / BODIES_PER_PAGE) (from % BODIES_PER_PAGE) (slice_get (sorted_by by_key bodies) from)
page_has params tree files bodies cells_shown bodies_shown from answer bytes of_tree shows inside is some =
    let got = lent (from / BODIES_PER_PAGE) (bodies_shown (from / BODIES_PER_PAGE)) answer (Ok bytes) is some in
    let has = body_here params tree files bodies cells_shown bodies_shown from got.0 of_tree shows inside got.1 in
    let same : got.0 ≡ bytes = let both = sym has.checked ∙ got.2 in cc in
    subst (λ b. HasBody b (from / BODIES_PER_PAGE) (from % BODIES_PER_PAGE) (slice_get (sorted_by by_key bodies) from)) same has

pub page_checks : (params : Params) (tree : Tree) (files : ℕ → List ℕ) (bodies : List Body) (cells_shown bodies_shown : ℕ → Option (List ℕ)) (from : ℕ) (answer : Option (Result (List ℕ) PageError)) (error : PageError)
    → IsTreeOf tree files params bodies → Shows cells_shown bodies_shown tree files → from < length (unescaped bodies)
    → answer ≡ option_map (λ b. read_body_page (from / BODIES_PER_PAGE) b) (bodies_shown (from / BODIES_PER_PAGE)) → answer ≡ Some (Err error) → ⊥
page_checks params tree files bodies cells_shown bodies_shown from answer error of_tree shows inside is some =
    let got = lent (from / BODIES_PER_PAGE) (bodies_shown (from / BODIES_PER_PAGE)) answer (Err error) is some in
    let has = body_here params tree files bodies cells_shown bodies_shown from got.0 of_tree shows inside got.1 in
    let both = sym has.checked ∙ got.2 in
    cc
