-- A table that gets a cell: on the last page of the cell's chain, or on a new page behind it.
use Rattle.std.proofs.Common.{◌≡◌, ℕ, ◌+◌, ◌%◌, ◌^◌, ◌<◌, ◌≤◌, List, [], ◌∷◌, ◌++◌, length, sym, ap, subst, ◌∙◌, inl, inr, arith}
use Rattle.std.specs.Prelude.{◌≢◌, All}
use Rattle.std.specs.List.{flat_map}
use Rattle.std.proofs.lemmas.Bool.{cases_eq, cases_lt}
use Rattle.std.proofs.lemmas.List.{append-nil}
use Rattle.std.proofs.lemmas.List.Elements.{All-nil, All-cons, All-push}
use Rattle.std.proofs.lemmas.Nat.{pow_pos}
use Rattle.nb_host.specs.Page.{page_of, page_start}
use Rattle.nb_record.specs.declared.cell.Cell.{Cell}
use Rattle.nb_record.specs.Pages.{page_next, IsCellPage}
use Rattle.nb_record.specs.Records.{cells_of, IsCell}
use Rattle.nb_record.specs.Table.{next_of, chain, cells_on_chain, IsNextOnce, IsCellTable}
use Rattle.nb_record.proofs.Callers.{LeadsOn, chain_ends, chain_follows}
use Rattle.nb_cell.specs.Chains.{IsLastOfChain, IsNewPage}
use Rattle.nb_cell.proofs.Growth.{HasCellMore, chains_grown, chain_grown}

-- page q of a file of so many pages has a cell more at its end, and every other page is as it was
pub record HasCellAdded (old new : List ℕ) (pages q : ℕ) (cell : Cell) : Type 0 where
  pub size : length new ≡ length old
  pub others : (r : ℕ) → r < pages → r ≢ q → page_of new r ≡ page_of old r
  pub form : IsCellPage q (page_of new q)
  pub next : next_of new q ≡ next_of old q
  pub cells_are : cells_of (page_of new q) ≡ cells_of (page_of old q) ++ cell ∷ []

-- a file of so many pages has a page more, to which page q leads, and every other page is as it was
pub record HasPageAdded (old new : List ℕ) (pages q : ℕ) (cell : Cell) : Type 0 where
  pub size : length new ≡ page_start (pages + 1)
  pub others : (r : ℕ) → r < pages → r ≢ q → page_of new r ≡ page_of old r
  pub form : IsCellPage q (page_of new q)
  pub next : next_of new q ≡ pages
  pub cells_are : cells_of (page_of new q) ≡ cells_of (page_of old q)
  pub added : IsNewPage pages cell (page_of new pages)

module _ (old : List ℕ) (bits pages : ℕ) (cells : List Cell) (is : IsCellTable old bits pages cells) (new : List ℕ) (q : ℕ) (cell : Cell) (fits : IsCell cell) (last : IsLastOfChain old pages (cell.key % 2 ^ bits) q) where
  module _ (has : HasCellAdded old new pages q cell) where
    -- the next pages are as they were
    next_stays : (r : ℕ) → r < pages → next_of new r ≡ next_of old r
    next_stays r within = elim (cases_eq r q) [
      | inl here ↦ subst (λ s. next_of new s ≡ next_of old s) (sym here) has.next
      | inr apart ↦ ap page_next (has.others r within apart)
    ]

    form_stays : (r : ℕ) → r < pages → IsCellPage r (page_of new r)
    form_stays r within = elim (cases_eq r q) [
      | inl here ↦ subst (λ s. IsCellPage s (page_of new s)) (sym here) has.form
      | inr apart ↦ subst (IsCellPage r) (sym (has.others r within apart)) (is.forms r within)
    ]

    records_stay : (r : ℕ) → r < pages → All IsCell (cells_of (page_of new r))
    records_stay r within = elim (cases_eq r q) [
      | inl here ↦ subst (λ s. All IsCell (cells_of (page_of new s))) (sym here)
          (subst (All IsCell) (sym has.cells_are) (All-push IsCell (cells_of (page_of old q)) cell (is.records q last.within) fits))
      | inr apart ↦ subst (λ l. All IsCell (cells_of l)) (sym (has.others r within apart)) (is.records r within)
    ]

    leads_stay : LeadsOn new pages
    leads_stay = record {
      later = λ r within some. (form_stays r within).next some;
      within = λ r within. subst (λ s. s < pages) (sym (next_stays r within)) (is.nexts r within);
    }

    has_more : HasCellMore old new pages pages q cell
    has_more = record {
      others = has.others;
      leads = leads_stay;
      more = omega arith;
      rest = ap (λ c. flat_map (λ r. cells_of (page_of new r)) c) (chain_ends new pages q last.within (has.next ∙ last.last))
          ∙ append-nil (cells_of (page_of new q)) ∙ has.cells_are;
    }

    pub cell_added : IsCellTable new bits pages (cells ++ cell ∷ [])
    cell_added = record {
      whole = has.size ∙ is.whole;
      begins = is.begins;
      forms = form_stays;
      records = records_stay;
      nexts = leads_stay.within;
      first = λ r within some. subst (λ s. 2 ^ bits ≤ s) (sym (next_stays r within)) (is.first r within (λ none. some (next_stays r within ∙ none)));
      follows = λ r from within.
          let once = is.follows r from within in
          record {
            before = once.before;
            within = once.within;
            is = next_stays once.before once.within ∙ once.is;
            one = λ p below leads. once.one p below (sym (next_stays p below) ∙ leads);
          };
      chains = chains_grown old bits pages cells is new pages q cell has_more last;
    }

    pub cell_appended : cells_on_chain new pages (cell.key % 2 ^ bits) ≡ cells_on_chain old pages (cell.key % 2 ^ bits) ++ cell ∷ []
    cell_appended = chain_grown old bits pages cells is new pages q cell has_more last

  module _ (has : HasPageAdded old new pages q cell) where
    -- a page of the larger file is the new one, the one that leads to it, or as it was
    data WhichPage (r : ℕ) : Type 0 where
      new_one : r ≡ pages → WhichPage r
      leading : r ≡ q → WhichPage r
      other : r < pages → r ≢ q → WhichPage r

    which : (r : ℕ) → r < pages + 1 → WhichPage r
    which r below = elim (cases_eq r q) [
      | inl here ↦ leading here
      | inr apart ↦ elim (cases_lt r pages) [
        | inl within ↦ other within apart
        | inr end ↦ new_one (omega arith)
      ]
    ]

    others_next : (r : ℕ) → r < pages → r ≢ q → next_of new r ≡ next_of old r
    others_next r within apart = ap page_next (has.others r within apart)

    form_now : (r : ℕ) → r < pages + 1 → IsCellPage r (page_of new r)
    form_now r below = elim (which r below) [
      | new_one end ↦ subst (λ s. IsCellPage s (page_of new s)) (sym end) has.added.form
      | leading here ↦ subst (λ s. IsCellPage s (page_of new s)) (sym here) has.form
      | other within apart ↦ subst (IsCellPage r) (sym (has.others r within apart)) (is.forms r within)
    ]

    records_now : (r : ℕ) → r < pages + 1 → All IsCell (cells_of (page_of new r))
    records_now r below = elim (which r below) [
      | new_one end ↦ subst (λ s. All IsCell (cells_of (page_of new s))) (sym end)
          (subst (All IsCell) (sym has.added.cells) (All-cons IsCell cell [] fits (All-nil IsCell)))
      | leading here ↦ subst (λ s. All IsCell (cells_of (page_of new s))) (sym here)
          (subst (All IsCell) (sym has.cells_are) (is.records q last.within))
      | other within apart ↦ subst (λ l. All IsCell (cells_of l)) (sym (has.others r within apart)) (is.records r within)
    ]

    next_within : (r : ℕ) → r < pages + 1 → next_of new r < pages + 1
    next_within r below = elim (which r below) [
      | new_one end ↦ subst (λ s. next_of new s < pages + 1) (sym end) (let none = has.added.next in omega arith)
      | leading here ↦ subst (λ s. next_of new s < pages + 1) (sym here) (let next = has.next in omega arith)
      | other within apart ↦ let next = others_next r within apart in let was = is.nexts r within in omega arith
    ]

    next_first : (r : ℕ) → r < pages + 1 → next_of new r ≢ 0 → 2 ^ bits ≤ next_of new r
    next_first r below some = elim (which r below) [
      | new_one end ↦ absurd (some (subst (λ s. next_of new s ≡ 0) (sym end) has.added.next))
      | leading here ↦ subst (λ s. 2 ^ bits ≤ next_of new s) (sym here) (subst (λ s. 2 ^ bits ≤ s) (sym has.next) is.begins)
      | other within apart ↦
          let next = others_next r within apart in
          subst (λ s. 2 ^ bits ≤ s) (sym next) (is.first r within (λ none. some (next ∙ none)))
    ]

    -- a page that the page before led to, other than the new one, is led to as it was
    one_before : (r : ℕ) (once : IsNextOnce old pages r) → 2 ^ bits ≤ r → r < pages → (p : ℕ) → p < pages + 1 → next_of new p ≡ r → p ≡ once.before
    one_before r once from within p below leads =
        let some : 0 < r = (let positive = pow_pos bits in omega arith) in
        elim (which p below) [
          | new_one end ↦ absurd (let none : next_of new p ≡ 0 = subst (λ s. next_of new s ≡ 0) (sym end) has.added.next in omega arith)
          | leading here ↦ absurd (let end : next_of new p ≡ pages = subst (λ s. next_of new s ≡ pages) (sym here) has.next in omega arith)
          | other inside apart ↦ once.one p inside (sym (others_next p inside apart) ∙ leads)
        ]

    one_last : (p : ℕ) → p < pages + 1 → next_of new p ≡ pages → p ≡ q
    one_last p below leads =
        let some : 0 < pages = (let within = last.within in omega arith) in
        elim (which p below) [
          | new_one end ↦ absurd (let none : next_of new p ≡ 0 = subst (λ s. next_of new s ≡ 0) (sym end) has.added.next in omega arith)
          | leading here ↦ here
          | other inside apart ↦ absurd (let next = others_next p inside apart in let was = is.nexts p inside in omega arith)
        ]

    follows_now : (r : ℕ) → 2 ^ bits ≤ r → r < pages + 1 → IsNextOnce new (pages + 1) r
    follows_now r from below = elim (cases_lt r pages) [
      | inl within ↦
          let once = is.follows r from within in
          let some : 0 < r = (let positive = pow_pos bits in omega arith) in
          let apart : once.before ≢ q = λ here. (let none = subst (λ s. next_of old s ≡ r) here once.is in let was = last.last in omega arith) in
          record {
            before = once.before;
            within = let inside = once.within in omega arith;
            is = others_next once.before once.within apart ∙ once.is;
            one = one_before r once from within;
          }
      | inr end ↦
          let here : r ≡ pages = omega arith in
          record {
            before = q;
            within = let inside = last.within in omega arith;
            is = has.next ∙ sym here;
            one = λ p under leads. one_last p under (leads ∙ here);
          }
    ]

    leads_now : LeadsOn new (pages + 1)
    leads_now = record { later = λ r below some. (form_now r below).next some; within = next_within }

    chain_now : chain new (pages + 1) q ≡ q ∷ pages ∷ []
    chain_now =
        let within = last.within in
        let some : next_of new q ≢ 0 = λ none. (let next = has.next in omega arith) in
        chain_follows new (pages + 1) q leads_now (omega arith) some
        ∙ ap (λ r. q ∷ chain new (pages + 1) r) has.next
        ∙ ap (λ c. q ∷ c) (chain_ends new (pages + 1) pages (omega arith) has.added.next)

    has_more_now : HasCellMore old new pages (pages + 1) q cell
    has_more_now = record {
      others = has.others;
      leads = leads_now;
      more = omega arith;
      rest = ap (λ c. flat_map (λ r. cells_of (page_of new r)) c) chain_now
          ∙ ap (λ l. cells_of (page_of new q) ++ l) (append-nil (cells_of (page_of new pages)) ∙ has.added.cells)
          ∙ ap (λ l. l ++ cell ∷ []) has.cells_are;
    }

    pub page_added : IsCellTable new bits (pages + 1) (cells ++ cell ∷ [])
    page_added = record {
      whole = has.size;
      begins = let starts = is.begins in omega arith;
      forms = form_now;
      records = records_now;
      nexts = next_within;
      first = next_first;
      follows = follows_now;
      chains = chains_grown old bits pages cells is new (pages + 1) q cell has_more_now last;
    }

    pub page_appended : cells_on_chain new (pages + 1) (cell.key % 2 ^ bits) ≡ cells_on_chain old pages (cell.key % 2 ^ bits) ++ cell ∷ []
    page_appended = chain_grown old bits pages cells is new (pages + 1) q cell has_more_now last
