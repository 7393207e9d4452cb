-- What a visit takes over a tree.
use Rattle.std.proofs.Common.{◌≡◌, ℕ, zero, suc, ◌+◌, ◌-◌, ◌/◌, ◌%◌, ◌<◌, ◌≤◌, ◌↔◌, true, false, not, Result, Ok, List, [], ◌∷◌, ◌++◌, length, take, drop, Option, Some, append-nil, sym, ap, ◌∙◌, refl, arith, subst}
use Rattle.std.specs.Prelude.{◌≢◌, option_map, slice_get, sum_by}
use Rattle.std.proofs.lemmas.List.{map-append, same_lists, length-take, length-drop, get_or-take, get_or-drop}
use Rattle.std.proofs.lemmas.List.Sums.{sum_by-append, sum_by-cons}
use Rattle.std.proofs.lemmas.List.Elements.{All-push}
use Rattle.std.proofs.lemmas.Option.{get_or_from_slice_get}
use Rattle.nb_model.specs.declared.body.Body.{Body}
use Rattle.nb_model.specs.declared.params.Params.{Params}
use Rattle.nb_model.specs.Leapfrog.{unescaped}
use Rattle.nb_record.specs.declared.cell.Cell.{Cell}
use Rattle.nb_record.specs.declared.header.PageError.{PageError}
use Rattle.nb_record.specs.declared.sizes.TheConstants.{BODIES_PER_PAGE}
use Rattle.nb_record.specs.declared.tree.Tree.{Tree}
use Rattle.nb_record.specs.Cells.{in_cell}
use Rattle.nb_record.specs.Order.{by_key, sorted_by}
use Rattle.nb_record.specs.Pages.{record_count, read_body_page}
use Rattle.nb_record.specs.Records.{bodies_of, body_record, body_of}
use Rattle.nb_record.specs.Tree.{IsTreeOf}
use Rattle.nb_record.proofs.Callers.{body_at, length-bodies_of, length-sorted_by}
use Rattle.nb_model.proofs.Facts.{length-filter-le}
use Rattle.nb_walk.specs.declared.item.Item.{Item}
use Rattle.nb_walk.specs.declared.item.Item.TheVariants as item
use Rattle.nb_walk.specs.declared.sight.Sight.{Sight}
use Rattle.nb_walk.specs.declared.sight.Sight.TheVariants as sight
use Rattle.nb_walk.specs.declared.visit.Visit.{Visit}
use Rattle.nb_walk.specs.declared.visit.Visit.TheVariants as visit
use Rattle.nb_host.specs.declared.page_name.PageName.{PageName}
use Rattle.nb_walk.specs.declared.tally.Tally.{Tally}
use Rattle.nb_walk.specs.declared.term.Term.{Term}
use Rattle.nb_walk.specs.declared.term.Term.TheVariants as term
use Rattle.nb_walk.specs.Angle.{level_of, by_angle}
use Rattle.nb_walk.specs.Terms.{body_terms, term_mass}
use Rattle.nb_walk.specs.Items.{bodies_from, bodies_under, remaining_terms, remaining_mass}
use Rattle.nb_walk.specs.Left.{WorkCosts, pages_spanned, item_work, IsItemOf, AreItemsOf, remaining_pages}
use Rattle.nb_walk.specs.Looks.{opened_items}
use Rattle.nb_walk.specs.Shown.{Shows}
use Rattle.nb_walk.specs.Sight.{SeesOver}
use Rattle.nb_walk.specs.Taking.{Adds, page_terms, TakesAlong}
use Rattle.nb_walk.proofs.Ways.{among, remaining-nil, remaining_one, range_add}
use Rattle.nb_walk.proofs.Lefts.{left_among, left_next, left_accepted, left_opened}
use Rattle.nb_walk.proofs.Pulling.{angle}
use Rattle.nb_walk.proofs.Remaining.{remaining_terms_mass}
use Rattle.nb_walk.proofs.Stepping.{HasBody, page_has, bodies_of_item, front_items, step_accepted, step_opened, step_next}
use Rattle.nb_walk.proofs.Tallies.{adds_none}

-- more than is left is more than the tree has
pub too_heavy : (params : Params) (bodies : List Body) (tree : Tree) (old new : List Item) (a : Tally) (terms : List Term)
    → remaining_terms (angle params a.target) params.leaf bodies old ≡ terms ++ remaining_terms (angle params a.target) params.leaf bodies new
    → tree.mass < a.taken + sum_by term_mass terms → tree.mass < a.taken + remaining_mass bodies old
too_heavy params bodies tree old new a terms along heavy =
    let w = angle params a.target in
    let sum = ap (sum_by term_mass) along ∙ sum_by-append term_mass terms (remaining_terms w params.leaf bodies new) in
    let own = remaining_terms_mass w params.leaf bodies old in
    omega arith

abbrev paged : WorkCosts
paged = record { of_leaf = pages_spanned; of_bodies = pages_spanned }

module _ (params : Params) (tree : Tree) (files : ℕ → List ℕ) (bodies : List Body) (of_tree : IsTreeOf tree files params bodies) (front : List Item) where
  abbrev file : List ℕ
  file = files tree.cells

  abbrev Along : List Item → List Item → Tally → Tally → Type 0
  Along old new a b = TakesAlong params bodies tree file old new a b

  cell_some : (cell : Cell) (key page : ℕ) → SeesOver params bodies tree file key page (sight.Cell cell) → bodies_under key (unescaped bodies) ≢ []
  cell_some cell key page seen = subst (λ k. in_cell (level_of key) k (unescaped bodies) ≢ []) seen.0 seen.1.some

  -- a cell as one mass
  pub takes_accepted : (cell : Cell) (key page : ℕ) (a b : Tally) → AreItemsOf params bodies tree file (front ++ item.Cell key page ∷ []) → SeesOver params bodies tree file key page (sight.Cell cell)
      → by_angle params a.target cell.key cell.centre ≡ true → Adds params (term.Cell cell.mass cell.centre ∷ []) a b → Along (front ++ item.Cell key page ∷ []) front a b
  takes_accepted cell key page a b items seen whole added =
      let x = item.Cell key page in
      let steps = step_accepted (angle params a.target) params tree files bodies of_tree front cell key page cell.mass cell.centre items seen whole refl refl in
      let more = left_accepted paged file tree params bodies key page (cell_some cell key page seen) seen.2 in
      let less = left_among paged file tree params bodies front [] x more in
      record {
        terms = term.Cell cell.mass cell.centre ∷ [];
        added = added;
        items = steps.items;
        along = steps.terms.0;
        fewer = subst (λ l. remaining_pages file tree params.leaf bodies l < remaining_pages file tree params.leaf bodies (front ++ x ∷ [])) (append-nil front) less;
      }

  pub accepted_heavy : (cell : Cell) (key page : ℕ) (a : Tally) → AreItemsOf params bodies tree file (front ++ item.Cell key page ∷ []) → SeesOver params bodies tree file key page (sight.Cell cell)
      → by_angle params a.target cell.key cell.centre ≡ true → tree.mass < a.taken + cell.mass → tree.mass < a.taken + remaining_mass bodies (front ++ item.Cell key page ∷ [])
  accepted_heavy cell key page a items seen whole heavy =
      let t = term.Cell cell.mass cell.centre in
      let steps = step_accepted (angle params a.target) params tree files bodies of_tree front cell key page cell.mass cell.centre items seen whole refl refl in
      let one = sum_by-cons term_mass t [] in
      too_heavy params bodies tree (front ++ item.Cell key page ∷ []) front a (t ∷ []) steps.terms.0 (omega arith)

  -- a cell that is opened
  pub takes_opened : (cell : Cell) (key page : ℕ) (new : List Item) (a : Tally) → AreItemsOf params bodies tree file (front ++ item.Cell key page ∷ []) → SeesOver params bodies tree file key page (sight.Cell cell)
      → by_angle params a.target cell.key cell.centre ≡ false → new ≡ front ++ opened_items cell → Along (front ++ item.Cell key page ∷ []) new a a
  takes_opened cell key page new a items seen opened is =
      let steps = step_opened (angle params a.target) params tree files bodies of_tree front cell key page new items seen opened is in
      record {
        terms = [];
        added = adds_none params a;
        items = steps.items;
        along = steps.terms.0;
        fewer = subst (λ l. remaining_pages file tree params.leaf bodies l < remaining_pages file tree params.leaf bodies (front ++ item.Cell key page ∷ [])) (sym is)
            (subst (λ k. SeesOver params bodies tree file k page (sight.Cell cell) → remaining_pages file tree params.leaf bodies (front ++ opened_items cell) < remaining_pages file tree params.leaf bodies (front ++ item.Cell k page ∷ [])) seen.0
            core seen);
      }
    where
      core : SeesOver params bodies tree file cell.key page (sight.Cell cell) → remaining_pages file tree params.leaf bodies (front ++ opened_items cell) < remaining_pages file tree params.leaf bodies (front ++ item.Cell cell.key page ∷ [])
      core seen = left_among paged file tree params bodies front (opened_items cell) (item.Cell cell.key page) (left_opened paged file tree params bodies cell page seen.1 (λ from count. omega arith) seen.2)

  -- the next page of a chain
  pub takes_next : (key page next : ℕ) (new : List Item) (a : Tally) → AreItemsOf params bodies tree file (front ++ item.Cell key page ∷ []) → SeesOver params bodies tree file key page (sight.Next next)
      → new ≡ front ++ item.Cell key next ∷ [] → Along (front ++ item.Cell key page ∷ []) new a a
  takes_next key page next new a items seen is =
      let x = item.Cell key page in
      let y = item.Cell key next in
      let steps = step_next (angle params a.target) params tree files bodies of_tree front key page next new items seen is in
      let some : bodies_under key (unescaped bodies) ≢ [] = subst (λ k. in_cell (level_of key) k (unescaped bodies) ≢ []) seen.0.key_is seen.0.is.some in
      let less = left_next paged file tree params bodies key page next some seen.1 in
      let one = sum_by-cons (item_work paged file tree params.leaf bodies) y [] in
      let among_ = left_among paged file tree params bodies front (y ∷ []) x (omega arith) in
      record {
        terms = [];
        added = adds_none params a;
        items = steps.items;
        along = steps.terms.0;
        fewer = subst (λ l. remaining_pages file tree params.leaf bodies l < remaining_pages file tree params.leaf bodies (front ++ x ∷ [])) (sym is) among_;
      }

  -- ---- the bodies of a leaf on one page

  abbrev Pages : (ℕ → Option (List ℕ)) → (ℕ → Option (List ℕ)) → Type 0
  Pages cells_shown bodies_shown = Shows cells_shown bodies_shown tree files

  -- what is lent of the page of body `from`
  pub record Lent (bodies_shown : ℕ → Option (List ℕ)) (from : ℕ) (bytes : List ℕ) : Type 0 where
    pub answer : Option (Result (List ℕ) PageError)
    pub is : answer ≡ option_map (λ b. read_body_page (from / BODIES_PER_PAGE) b) (bodies_shown (from / BODIES_PER_PAGE))
    pub some : answer ≡ Some (Ok bytes)

  -- the page has the bodies that are to be taken
  pub has_body : (cells_shown bodies_shown : ℕ → Option (List ℕ)) (from count j : ℕ) (bytes : List ℕ) → Pages cells_shown bodies_shown → Lent bodies_shown from bytes
      → from + count ≤ length (unescaped bodies) → j < count → from % BODIES_PER_PAGE + j < BODIES_PER_PAGE
      → HasBody bytes (from / BODIES_PER_PAGE) (from % BODIES_PER_PAGE + j) (slice_get (sorted_by by_key bodies) (from + j))
  has_body cells_shown bodies_shown from count j bytes shows lent within below on_page =
      let same : (from + j) / BODIES_PER_PAGE ≡ from / BODIES_PER_PAGE = omega arith in
      let index : (from + j) % BODIES_PER_PAGE ≡ from % BODIES_PER_PAGE + j = omega arith in
      let is = subst (λ p. lent.answer ≡ option_map (λ b. read_body_page p b) (bodies_shown p)) (sym same) lent.is in
      let has = page_has params tree files bodies cells_shown bodies_shown (from + j) lent.answer bytes of_tree shows (omega arith) is lent.some in
      subst (λ p. HasBody bytes p (from % BODIES_PER_PAGE + j) (slice_get (sorted_by by_key bodies) (from + j))) same
      (subst (λ i. HasBody bytes ((from + j) / BODIES_PER_PAGE) i (slice_get (sorted_by by_key bodies) (from + j))) index has)

  same_range : (cells_shown bodies_shown : ℕ → Option (List ℕ)) (from count here : ℕ) (bytes : List ℕ) → Pages cells_shown bodies_shown → Lent bodies_shown from bytes
      → from + count ≤ length (unescaped bodies) → here ≤ count → from % BODIES_PER_PAGE + here ≤ BODIES_PER_PAGE → from % BODIES_PER_PAGE + here ≤ record_count bytes
      → take here (drop (from % BODIES_PER_PAGE) (bodies_of bytes)) ≡ bodies_from bodies from here
  same_range cells_shown bodies_shown from count here bytes shows lent within few on_page on_this =
      let order = sorted_by by_key bodies in
      let index = from % BODIES_PER_PAGE in
      let most = length-filter-le (λ (b : Body). not b.out) bodies in
      let long : length order ≡ length bodies = length-sorted_by by_key bodies in
      let left : length (take here (drop index (bodies_of bytes))) ≡ here = omega (arith, length-take here (drop index (bodies_of bytes)), length-drop index (bodies_of bytes), length-bodies_of bytes) in
      let right : length (take here (drop from order)) ≡ here = omega (arith, length-take here (drop from order), length-drop from order) in
      same_lists (take here (drop index (bodies_of bytes))) (take here (drop from order)) (left ∙ sym right)
      (λ j d below.
      let small : j < here = omega arith in
      let has = has_body cells_shown bodies_shown from count j bytes shows lent within (omega arith) (omega arith) in
      let body = body_of (body_record (index + j) bytes) in
      get_or-take here (drop index (bodies_of bytes)) j d small
      ∙ get_or-drop index (bodies_of bytes) j d
      ∙ get_or_from_slice_get (bodies_of bytes) (index + j) body d (body_at bytes (index + j) has.within)
      ∙ sym (get_or-take here (drop from order) j d small ∙ get_or-drop from order j d ∙ get_or_from_slice_get order (from + j) body d has.is))

  -- the terms of the page are those of the range
  pub page_range : (cells_shown bodies_shown : ℕ → Option (List ℕ)) (from count here : ℕ) (bytes : List ℕ) → Pages cells_shown bodies_shown → Lent bodies_shown from bytes
      → from + count ≤ length (unescaped bodies) → here ≤ count → from % BODIES_PER_PAGE + here ≤ BODIES_PER_PAGE → from % BODIES_PER_PAGE + here ≤ record_count bytes
      → page_terms bytes (from % BODIES_PER_PAGE) (from % BODIES_PER_PAGE + here) ≡ body_terms (bodies_from bodies from here)
  page_range cells_shown bodies_shown from count here bytes shows lent within few on_page on_this =
      let index = from % BODIES_PER_PAGE in
      let n : index + here - index ≡ here = omega arith in
      ap (λ k. body_terms (take k (drop index (bodies_of bytes)))) n
      ∙ ap body_terms (same_range cells_shown bodies_shown from count here bytes shows lent within few on_page on_this)

  -- the terms of the old items
  range_along : (a : Tally) (from count here : ℕ) (more : List Item) → here ≤ count → remaining_terms (angle params a.target) params.leaf bodies more ≡ body_terms (bodies_from bodies (from + here) (count - here))
      → remaining_terms (angle params a.target) params.leaf bodies (front ++ item.Bodies from count ∷ [])
      ≡ body_terms (bodies_from bodies from here) ++ remaining_terms (angle params a.target) params.leaf bodies (front ++ more)
  range_along a from count here more few left =
      let all : here + (count - here) ≡ count = omega arith in
      among (angle params a.target) params.leaf bodies front more (item.Bodies from count) (body_terms (bodies_from bodies from here))
      (ap (λ n. body_terms (bodies_from bodies from n)) (sym all)
      ∙ ap body_terms (range_add bodies from here (count - here))
      ∙ map-append (λ b. term.Body b) (bodies_from bodies from here) (bodies_from bodies (from + here) (count - here))
      ∙ ap (λ l. body_terms (bodies_from bodies from here) ++ l) (sym left))

  -- the bodies of a page, and more behind them
  pub takes_page : (from count here : ℕ) (new : List Item) (a b : Tally) → AreItemsOf params bodies tree file (front ++ item.Bodies from count ∷ [])
      → here < count → 1 ≤ here → from % BODIES_PER_PAGE + here ≡ BODIES_PER_PAGE → new ≡ front ++ item.Bodies (from + here) (count - here) ∷ []
      → Adds params (body_terms (bodies_from bodies from here)) a b → Along (front ++ item.Bodies from count ∷ []) new a b
  takes_page from count here new a b items more some to_end is added =
      let x = item.Bodies from count in
      let y = item.Bodies (from + here) (count - here) in
      let own = bodies_of_item (angle params a.target) params tree files bodies of_tree front from count items in
      let one = sum_by-cons (item_work paged file tree params.leaf bodies) y [] in
      let less = pages_less from count here more to_end in
      subst (λ l. Along (front ++ x ∷ []) l a b) (sym is)
      (record {
        terms = body_terms (bodies_from bodies from here);
        added = added;
        items = All-push (IsItemOf params bodies tree file) front y (front_items (angle params a.target) params tree files bodies of_tree front x items) (omega arith, omega arith);
        along = range_along a from count here (y ∷ []) (omega arith) (remaining_one (angle params a.target) params.leaf bodies y);
        fewer = left_among paged file tree params bodies front (y ∷ []) x (omega arith);
      })
    where
      pages_less : (from count here : ℕ) → here < count → from % BODIES_PER_PAGE + here ≡ BODIES_PER_PAGE → pages_spanned (from + here) (count - here) < pages_spanned from count
      pages_less from count here more to_end =
          let left = pages_are (from + here) (count - here) (omega arith) in
          let all = pages_are from count (omega arith) in
          omega arith
        where
          pages_are : (from count : ℕ) → 1 ≤ count → pages_spanned from count ≡ suc ((from + (count - 1)) / BODIES_PER_PAGE - from / BODIES_PER_PAGE)
          pages_are from zero some = absurd (omega arith)
          pages_are from (suc n) some = let less : suc n - 1 ≡ n = omega arith in ap (λ k. suc ((from + k) / BODIES_PER_PAGE - from / BODIES_PER_PAGE)) (sym less)

  -- all that are left
  pub takes_rest : (from count here : ℕ) (a b : Tally) → AreItemsOf params bodies tree file (front ++ item.Bodies from count ∷ [])
      → count ≤ here → here ≤ count → Adds params (body_terms (bodies_from bodies from here)) a b → Along (front ++ item.Bodies from count ∷ []) front a b
  takes_rest from count here a b items low high added =
      let x = item.Bodies from count in
      let own = bodies_of_item (angle params a.target) params tree files bodies of_tree front from count items in
      let none : count - here ≡ 0 = omega arith in
      let left : remaining_terms (angle params a.target) params.leaf bodies [] ≡ body_terms (bodies_from bodies (from + here) (count - here)) =
      remaining-nil (angle params a.target) params.leaf bodies ∙ sym (ap (λ n. body_terms (bodies_from bodies (from + here) n)) none) in
      let less = left_among paged file tree params bodies front [] x (some_pages from count own.0) in
      record {
        terms = body_terms (bodies_from bodies from here);
        added = added;
        items = front_items (angle params a.target) params tree files bodies of_tree front x items;
        along = range_along a from count here [] high left ∙ ap (λ l. body_terms (bodies_from bodies from here) ++ remaining_terms (angle params a.target) params.leaf bodies l) (append-nil front);
        fewer = subst (λ l. remaining_pages file tree params.leaf bodies l < remaining_pages file tree params.leaf bodies (front ++ x ∷ [])) (append-nil front) less;
      }
    where
      some_pages : (from count : ℕ) → 1 ≤ count → 0 < pages_spanned from count
      some_pages from zero some = absurd (omega arith)
      some_pages from (suc n) some = omega arith

  pub range_heavy : (from count here : ℕ) (a : Tally) → here ≤ count → tree.mass < a.taken + sum_by term_mass (body_terms (bodies_from bodies from here))
      → tree.mass < a.taken + remaining_mass bodies (front ++ item.Bodies from count ∷ [])
  range_heavy from count here a few heavy =
      let y = item.Bodies (from + here) (count - here) in
      too_heavy params bodies tree (front ++ item.Bodies from count ∷ []) (front ++ y ∷ []) a (body_terms (bodies_from bodies from here))
      (range_along a from count here (y ∷ []) few (remaining_one (angle params a.target) params.leaf bodies y)) heavy

-- ---- which page is wanted

pub visit_unwanted : (seen : Sight) (result : Visit) (P : PageName → Type 0) → ((name : PageName) → (seen ≡ sight.Wants name) ↔ P name)
    → ((name : PageName) → seen ≡ sight.Wants name → ⊥) → ((name : PageName) → result ≡ visit.Wants name → ⊥) → (name : PageName) → (result ≡ visit.Wants name) ↔ P name
visit_unwanted seen result P is not_seen not_result name = (λ e. absurd (not_result name e), λ p. absurd (not_seen name ((is name).1 p)))

pub visit_wanted : (seen : Sight) (known : PageName) (P : PageName → Type 0) → ((name : PageName) → (seen ≡ sight.Wants name) ↔ P name)
    → seen ≡ sight.Wants known → (name : PageName) → (visit.Wants known ≡ visit.Wants name) ↔ P name
visit_wanted seen known P is seen_is name = (
  λ e. let same : known ≡ name = cc in (is name).0 (seen_is ∙ ap (λ n. sight.Wants n) same),
  λ p. let same : sight.Wants known ≡ sight.Wants name = sym seen_is ∙ (is name).1 p in let names : known ≡ name = cc in ap (λ n. visit.Wants n) names,
)
