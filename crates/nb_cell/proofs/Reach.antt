-- The pages that the chains of a table reach: no page is on two chains, and chains of two files are the same as far as the
-- next pages are.
use Rattle.std.proofs.Common.{◌≡◌, ℕ, zero, suc, ◌+◌, ◌^◌, ◌<◌, ◌≤◌, List, [], ◌∷◌, ◌++◌, refl, sym, ap, subst, ◌∙◌, inl, inr, arith, append_assoc}
use Rattle.std.specs.Prelude.{◌≢◌, All}
use Rattle.std.proofs.lemmas.Bool.{cases_eq}
use Rattle.std.proofs.lemmas.List.Elements.{All-nil, All-cons, All-push, All-weaker}
use Rattle.nb_record.specs.declared.cell.Cell.{Cell}
use Rattle.nb_record.specs.Table.{next_of, chain, IsCellTable}
use Rattle.nb_record.proofs.Callers.{LeadsOn, leads_on, chain_ends, chain_follows}

-- page q is reached from page h in so many steps, each to a next page
abbrev pub Reaches : List ℕ → ℕ → ℕ → ℕ → Type 0
Reaches file h zero q = h ≡ q
Reaches file h (suc n) q = (p : ℕ) × Reaches file h n p × (next_of file p ≡ q) × (q ≢ 0)

-- it is reached in some number of steps
abbrev pub IsReached : List ℕ → ℕ → ℕ → Type 0
IsReached file h q = (n : ℕ) × Reaches file h n q

module _ (file : List ℕ) (bits pages : ℕ) (cells : List Cell) (is : IsCellTable file bits pages cells) where
  leads : LeadsOn file pages
  leads = leads_on file bits pages cells is

  pub reached_within : (h n q : ℕ) → h < 2 ^ bits → Reaches file h n q → q < pages
  reached_within h zero q begins reached = let starts = is.begins in omega arith
  reached_within h (suc n) q begins reached =
      subst (λ r. r < pages) reached.2 (is.nexts reached.0 (reached_within h n reached.0 begins reached.1))

  -- a page that is a next page begins no chain
  no_start : (h n q : ℕ) → h < 2 ^ bits → Reaches file h (suc n) q → 2 ^ bits ≤ q
  no_start h n q begins reached =
      let within = reached_within h n reached.0 begins reached.1 in
      subst (λ r. 2 ^ bits ≤ r) reached.2 (is.first reached.0 within (λ none. reached.3 (sym reached.2 ∙ none)))

  -- no page is on two chains
  pub one_start : (h k n m q : ℕ) → h < 2 ^ bits → k < 2 ^ bits → Reaches file h n q → Reaches file k m q → h ≡ k
  one_start h k zero zero q left right from to = from ∙ sym to
  one_start h k zero (suc m) q left right from to = absurd (let late = no_start k m q right to in omega arith)
  one_start h k (suc n) zero q left right from to = absurd (let late = no_start h n q left from in omega arith)
  one_start h k (suc n) (suc m) q left right from to =
      let late = no_start h n q left from in
      let once = is.follows q late (reached_within h (suc n) q left from) in
      let a : from.0 ≡ once.before = once.one from.0 (reached_within h n from.0 left from.1) from.2 in
      let b : to.0 ≡ once.before = once.one to.0 (reached_within k m to.0 right to.1) to.2 in
      one_start h k n m from.0 left right from.1 (subst (Reaches file k m) (b ∙ sym a) to.1)

  -- every page of a chain is reached from its first
  reaches_on : (h fuel k p : ℕ) → h < 2 ^ bits → Reaches file h k p → pages ≤ fuel + p → All (IsReached file h) (chain file pages p)
  reaches_on h zero k p begins reached enough = absurd (let within = reached_within h k p begins reached in omega arith)
  reaches_on h (suc fuel) k p begins reached enough =
      let within = reached_within h k p begins reached in
      elim (cases_eq (next_of file p) 0) [
        | inl none ↦ subst (All (IsReached file h)) (sym (chain_ends file pages p within none))
            (All-cons (IsReached file h) p [] (k, reached) (All-nil (IsReached file h)))
        | inr some ↦
            let next = next_of file p in
            let later = leads.later p within some in
            subst (All (IsReached file h)) (sym (chain_follows file pages p leads within some))
            (All-cons (IsReached file h) p (chain file pages next) (k, reached)
            (reaches_on h fuel (suc k) next begins (p, reached, refl, some) (omega arith)))
      ]

  pub chain_reaches : (h : ℕ) → h < 2 ^ bits → All (IsReached file h) (chain file pages h)
  chain_reaches h begins = reaches_on h pages 0 h begins refl (omega arith)

  -- a file with as many pages or more, whose next pages are the same but that of page q
  module _ (new : List ℕ) (new_pages q : ℕ) (on : LeadsOn new new_pages) (more : pages ≤ new_pages) (same : (r : ℕ) → r < pages → r ≢ q → next_of new r ≡ next_of file r) where
    same_on : (h fuel k p : ℕ) → h < 2 ^ bits → ¬ IsReached file h q → Reaches file h k p → pages ≤ fuel + p → chain new new_pages p ≡ chain file pages p
    same_on h zero k p begins apart reached enough = absurd (let within = reached_within h k p begins reached in omega arith)
    same_on h (suc fuel) k p begins apart reached enough =
        let within = reached_within h k p begins reached in
        let next = next_of file p in
        let is_next = same p within (λ here. apart (k, subst (Reaches file h k) here reached)) in
        elim (cases_eq next 0) [
          | inl none ↦ chain_ends new new_pages p (omega arith) (is_next ∙ none) ∙ sym (chain_ends file pages p within none)
          | inr some ↦
              let later = leads.later p within some in
              chain_follows new new_pages p on (omega arith) (λ none. some (sym is_next ∙ none))
              ∙ ap (λ r. p ∷ chain new new_pages r) is_next
              ∙ ap (λ l. p ∷ l) (same_on h fuel (suc k) next begins apart (p, reached, refl, some) (omega arith))
              ∙ sym (chain_follows file pages p leads within some)
        ]

    -- a chain that doesn't reach page q stays
    pub chain_stays : (h : ℕ) → h < 2 ^ bits → ¬ IsReached file h q → chain new new_pages h ≡ chain file pages h
    chain_stays h begins apart = same_on h pages 0 h begins apart refl (omega arith)

    -- a chain down to a page that it reaches is the same in both files
    pub record Split (h r : ℕ) : Type 0 where
      pub front : List ℕ
      pub old : chain file pages h ≡ front ++ chain file pages r
      pub now : chain new new_pages h ≡ front ++ chain new new_pages r
      pub below : All (λ s. s < r) front

    pub chain_splits : (h n r : ℕ) → h < 2 ^ bits → Reaches file h n r → r ≤ q → Split h r
    chain_splits h zero r begins reached early = record {
      front = [];
      old = ap (chain file pages) reached;
      now = ap (chain new new_pages) reached;
      below = All-nil (λ s. s < r);
    }
    chain_splits h (suc n) r begins reached early =
        let p = reached.0 in
        let within = reached_within h n p begins reached.1 in
        let some : next_of file p ≢ 0 = λ none. reached.3 (sym reached.2 ∙ none) in
        let before : p < r = subst (λ s. p < s) reached.2 (leads.later p within some) in
        let is_next = same p within (omega arith) in
        let early_on = chain_splits h n p begins reached.1 (omega arith) in
        record {
          front = early_on.front ++ p ∷ [];
          old = early_on.old
              ∙ ap (λ l. early_on.front ++ l) (chain_follows file pages p leads within some ∙ ap (λ s. p ∷ chain file pages s) reached.2)
              ∙ sym (append_assoc early_on.front (p ∷ []) (chain file pages r));
          now = early_on.now
              ∙ ap (λ l. early_on.front ++ l) (chain_follows new new_pages p on (omega arith) (λ none. some (sym is_next ∙ none))
              ∙ ap (λ s. p ∷ chain new new_pages s) (is_next ∙ reached.2))
              ∙ sym (append_assoc early_on.front (p ∷ []) (chain new new_pages r));
          below = All-push (λ s. s < r) early_on.front p
              (All-weaker (λ s. s < p) (λ s. s < r) (λ s below. omega arith) early_on.front early_on.below) before;
        }
