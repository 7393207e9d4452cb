-- A table whose file got one cell more at the end of the cell's chain: the chain has the cell more, and every other chain is as
-- it was.
use Rattle.std.proofs.Common.{◌≡◌, ℕ, ◌%◌, ◌^◌, ◌<◌, ◌≤◌, eqb, List, [], ◌∷◌, ◌++◌, refl, sym, ap, subst, ◌∙◌, inl, inr, arith, append_assoc, Contains}
use Rattle.std.specs.Prelude.{◌≢◌, All, filter, IsPermutation}
use Rattle.std.specs.List.{flat_map}
use Rattle.std.proofs.lemmas.Bool.{cases_eq, cond-true, cond-false, eq-eqb, ne_eqb}
use Rattle.std.proofs.lemmas.Grind.{flat_map-append}
use Rattle.std.proofs.lemmas.List.{append-nil}
use Rattle.std.proofs.lemmas.Nat.{pow_pos, mod_below}
use Rattle.std.proofs.lemmas.List.Elements.{All-head, All-tail, All-weaker, All-contains, Contains-push, filter-append}
use Rattle.std.proofs.lemmas.List.Sorted.{IsPermutation-append_left}
use Rattle.nb_host.specs.Page.{page_of}
use Rattle.nb_record.specs.declared.cell.Cell.{Cell}
use Rattle.nb_record.specs.Pages.{page_next}
use Rattle.nb_record.specs.Records.{cells_of}
use Rattle.nb_record.specs.Table.{next_of, chain, cells_on_chain, IsCellTable}
use Rattle.nb_record.proofs.Callers.{LeadsOn, chain_ends}
use Rattle.nb_cell.specs.Chains.{IsLastOfChain}
use Rattle.nb_cell.proofs.Reach.{IsReached, Split, reached_within, one_start, chain_reaches, chain_stays, chain_splits}

-- Page q of a file has a cell more, or leads to a page that has it. Every other page is as it was.
pub record HasCellMore (old new : List ℕ) (pages new_pages q : ℕ) (cell : Cell) : Type 0 where
  pub others : (r : ℕ) → r < pages → r ≢ q → page_of new r ≡ page_of old r
  pub leads : LeadsOn new new_pages
  pub more : pages ≤ new_pages
  pub rest : cells_on_chain new new_pages q ≡ cells_of (page_of old q) ++ cell ∷ []

flat_map_same : (f g : ℕ → List Cell) (P : ℕ → Type 0) → ((r : ℕ) → P r → f r ≡ g r) → (rs : List ℕ) → All P rs → flat_map f rs ≡ flat_map g rs
flat_map_same f g P same [] all = refl
flat_map_same f g P same (r ∷ rs) all =
    ap (λ l. l ++ flat_map f rs) (same r (All-head P r rs all))
    ∙ ap (λ l. g r ++ l) (flat_map_same f g P same rs (All-tail P r rs all))

module _ (old : List ℕ) (bits pages : ℕ) (cells : List Cell) (is : IsCellTable old bits pages cells) (new : List ℕ) (new_pages q : ℕ) (cell : Cell) (has : HasCellMore old new pages new_pages q cell) where
  next_same : (r : ℕ) → r < pages → r ≢ q → next_of new r ≡ next_of old r
  next_same r within apart = ap page_next (has.others r within apart)

  cells_same : (r : ℕ) → (r < pages) × (r ≢ q) → cells_of (page_of new r) ≡ cells_of (page_of old r)
  cells_same r other = ap cells_of (has.others r other.0 other.1)

  -- a chain that doesn't reach the page
  other_chain : (h : ℕ) → h < 2 ^ bits → ¬ IsReached old h q → cells_on_chain new new_pages h ≡ cells_on_chain old pages h
  other_chain h begins apart =
      ap (λ c. flat_map (λ r. cells_of (page_of new r)) c)
      (chain_stays old bits pages cells is new new_pages q has.leads has.more next_same h begins apart)
      ∙ flat_map_same (λ r. cells_of (page_of new r)) (λ r. cells_of (page_of old r)) (λ r. (r < pages) × (r ≢ q)) cells_same
      (chain old pages h)
      (All-weaker (IsReached old h) (λ r. (r < pages) × (r ≢ q))
      (λ r reached. (reached_within old bits pages cells is h reached.0 r begins reached.1, λ here. apart (subst (IsReached old h) here reached)))
      (chain old pages h) (chain_reaches old bits pages cells is h begins))

  -- the chain of which the page is the last
  module _ (h : ℕ) (begins : h < 2 ^ bits) (last : IsLastOfChain old pages h q) where
    reached : IsReached old h q
    reached = All-contains (IsReached old h) (chain old pages h) q (chain_reaches old bits pages cells is h begins)
        (subst (λ c. Contains c q) (sym last.pages_are)
        (Contains-push last.before q))

    split : Split old bits pages cells is new new_pages q has.leads has.more next_same h q
    split = chain_splits old bits pages cells is new new_pages q has.leads has.more next_same h reached.0 q begins reached.1 (omega arith)

    front_same : flat_map (λ r. cells_of (page_of new r)) split.front ≡ flat_map (λ r. cells_of (page_of old r)) split.front
    front_same =
        flat_map_same (λ r. cells_of (page_of new r)) (λ r. cells_of (page_of old r)) (λ r. (r < pages) × (r ≢ q)) cells_same
        split.front
        (All-weaker (λ r. r < q) (λ r. (r < pages) × (r ≢ q)) (λ r below. (let within = last.within in omega arith, omega arith))
        split.front split.below)

    last_chain : cells_on_chain new new_pages h ≡ cells_on_chain old pages h ++ cell ∷ []
    last_chain =
        let front = flat_map (λ r. cells_of (page_of old r)) split.front in
        let before : cells_on_chain old pages h ≡ front ++ cells_of (page_of old q) =
        ap (λ c. flat_map (λ r. cells_of (page_of old r)) c) (split.old ∙ ap (λ l. split.front ++ l) (chain_ends old pages q last.within last.last))
        ∙ flat_map-append (λ r. cells_of (page_of old r)) split.front (q ∷ [])
        ∙ ap (λ l. front ++ l) (append-nil (cells_of (page_of old q))) in
        ap (λ c. flat_map (λ r. cells_of (page_of new r)) c) split.now
        ∙ flat_map-append (λ r. cells_of (page_of new r)) split.front (chain new new_pages q)
        ∙ ap (λ l. l ++ cells_on_chain new new_pages q) front_same
        ∙ ap (λ l. front ++ l) has.rest
        ∙ sym (append_assoc front (cells_of (page_of old q)) (cell ∷ []))
        ∙ ap (λ l. l ++ cell ∷ []) (sym before)

  -- each chain holds what it is to hold
  pub chains_grown : IsLastOfChain old pages (cell.key % 2 ^ bits) q → (h : ℕ) → h < 2 ^ bits
      → IsPermutation (cells_on_chain new new_pages h) (filter (λ c. eqb (c.key % 2 ^ bits) h) (cells ++ cell ∷ []))
  chains_grown last h begins =
      let test = λ (c : Cell). eqb (c.key % 2 ^ bits) h in
      let joined = filter-append test cells (cell ∷ []) in
      elim (cases_eq (cell.key % 2 ^ bits) h) [
        | inl here ↦
            let one : filter test (cell ∷ []) ≡ cell ∷ [] = cond-true (test cell) (cell ∷ []) [] (eq-eqb (cell.key % 2 ^ bits) h here) in
            subst (λ l. IsPermutation l (filter test (cells ++ cell ∷ [])))
            (sym (last_chain h begins (subst (λ k. IsLastOfChain old pages k q) here last)))
            (subst (IsPermutation (cells_on_chain old pages h ++ cell ∷ [])) (sym (joined ∙ ap (λ l. filter test cells ++ l) one))
            (IsPermutation-append_left (cell ∷ []) (cells_on_chain old pages h) (filter test cells) (is.chains h begins)))
        | inr apart ↦
            let none : filter test (cell ∷ []) ≡ [] = cond-false (test cell) (cell ∷ []) [] (ne_eqb (cell.key % 2 ^ bits) h apart) in
            let starts : cell.key % 2 ^ bits < 2 ^ bits = mod_below cell.key (2 ^ bits) (pow_pos bits) in
            let there = reached (cell.key % 2 ^ bits) starts last in
            subst (λ l. IsPermutation l (filter test (cells ++ cell ∷ [])))
            (sym (other_chain h begins (λ here. apart
            (one_start old bits pages cells is (cell.key % 2 ^ bits) h there.0 here.0 q starts begins there.1 here.1))))
            (subst (IsPermutation (cells_on_chain old pages h))
            (sym (joined ∙ ap (λ l. filter test cells ++ l) none ∙ append-nil (filter test cells))) (is.chains h begins))
      ]

  pub chain_grown : IsLastOfChain old pages (cell.key % 2 ^ bits) q
      → cells_on_chain new new_pages (cell.key % 2 ^ bits) ≡ cells_on_chain old pages (cell.key % 2 ^ bits) ++ cell ∷ []
  chain_grown last = last_chain (cell.key % 2 ^ bits) (mod_below cell.key (2 ^ bits) (pow_pos bits)) last
