-- The chains of a table: their pages rise, and they end.
use Rattle.std.proofs.Common.{◌≡◌, ℕ, zero, suc, ◌+◌, ◌-◌, ◌<◌, ◌≤◌, eqb, List, [], ◌∷◌, length, get_or, sym, ap, ◌∙◌, refl, subst, inl, inr, arith}
use Rattle.std.specs.Prelude.{◌≢◌, All}
use Rattle.std.specs.List.Sorted.{IsStrictlyIncreasing}
use Rattle.std.proofs.lemmas.Bool.{cond-true, cond-false, eq-eqb, ne_eqb, cases_eq}
use Rattle.std.proofs.lemmas.List.Elements.{All-nil, All-cons, All-weaker}
use Rattle.nb_record.specs.declared.cell.Cell.{Cell}
use Rattle.nb_record.specs.Table.{next_of, chain, IsCellTable}

-- a next page of a page of the file is a later one of the file's
pub record LeadsOn (file : List ℕ) (pages : ℕ) : Type 0 where
  pub later : (p : ℕ) → p < pages → next_of file p ≢ 0 → p < next_of file p
  pub within : (p : ℕ) → p < pages → next_of file p < pages

pub leads_on : (file : List ℕ) (bits pages : ℕ) (cells : List Cell) → IsCellTable file bits pages cells → LeadsOn file pages
leads_on file bits pages cells is = record { later = λ p below. (is.forms p below).next; within = is.nexts }

chain_none : (file : List ℕ) (p : ℕ) → chain file 0 p ≡ []
unfolding chain
chain_none file p = refl

chain_last : (file : List ℕ) (n p : ℕ) → next_of file p ≡ 0 → chain file (suc n) p ≡ p ∷ []
unfolding chain
chain_last file n p none = ap (λ l. p ∷ l) (cond-true (eqb (next_of file p) 0) [] (chain file n (next_of file p)) (eq-eqb (next_of file p) 0 none))

chain_on : (file : List ℕ) (n p : ℕ) → next_of file p ≢ 0 → chain file (suc n) p ≡ p ∷ chain file n (next_of file p)
unfolding chain
chain_on file n p some = ap (λ l. p ∷ l) (cond-false (eqb (next_of file p) 0) [] (chain file n (next_of file p)) (ne_eqb (next_of file p) 0 some))

-- two bounds that are enough give one chain
enough : (file : List ℕ) (pages n m p : ℕ) → LeadsOn file pages → p < pages → pages ≤ n + p → pages ≤ m + p → chain file n p ≡ chain file m p
enough file pages zero m p leads below from to = absurd (omega arith)
enough file pages (suc n) zero p leads below from to = absurd (omega arith)
enough file pages (suc n) (suc m) p leads below from to =
    elim (cases_eq (next_of file p) 0) [
      | inl none ↦ chain_last file n p none ∙ sym (chain_last file m p none)
      | inr some ↦
          let later = leads.later p below some in
          chain_on file n p some
          ∙ ap (λ l. p ∷ l) (enough file pages n m (next_of file p) leads (leads.within p below) (omega arith) (omega arith))
          ∙ sym (chain_on file m p some)
    ]

pub chain_whole : (file : List ℕ) (pages n p : ℕ) → LeadsOn file pages → p < pages → pages - p ≤ n → chain file n p ≡ chain file pages p
chain_whole file pages n p leads below long = enough file pages n pages p leads below (omega arith) (omega arith)

pub chain_ends : (file : List ℕ) (pages p : ℕ) → p < pages → next_of file p ≡ 0 → chain file pages p ≡ p ∷ []
chain_ends file zero p below none = absurd (omega arith)
chain_ends file (suc pages) p below none = chain_last file pages p none

pub chain_follows : (file : List ℕ) (pages p : ℕ) → LeadsOn file pages → p < pages → next_of file p ≢ 0 → chain file pages p ≡ p ∷ chain file pages (next_of file p)
chain_follows file zero p leads below some = absurd (omega arith)
chain_follows file (suc pages) p leads below some =
    let later = leads.later p below some in
    chain_on file pages p some
    ∙ ap (λ l. p ∷ l) (enough file (suc pages) pages (suc pages) (next_of file p) leads (leads.within p below) (omega arith) (omega arith))

pub chain_within : (file : List ℕ) (pages n p : ℕ) → LeadsOn file pages → p < pages → All (λ q. (p ≤ q) × (q < pages)) (chain file n p)
chain_within file pages zero p leads below = subst (All (λ q. (p ≤ q) × (q < pages))) (sym (chain_none file p)) (All-nil (λ q. (p ≤ q) × (q < pages)))
chain_within file pages (suc n) p leads below =
    elim (cases_eq (next_of file p) 0) [
      | inl none ↦ subst (All (λ q. (p ≤ q) × (q < pages))) (sym (chain_last file n p none))
          (All-cons (λ q. (p ≤ q) × (q < pages)) p [] (omega arith, below) (All-nil (λ q. (p ≤ q) × (q < pages))))
      | inr some ↦
          let next = next_of file p in
          let later = leads.later p below some in
          let rest = chain_within file pages n next leads (leads.within p below) in
          subst (All (λ q. (p ≤ q) × (q < pages))) (sym (chain_on file n p some))
          (All-cons (λ q. (p ≤ q) × (q < pages)) p (chain file n next) (omega arith, below)
          (All-weaker (λ q. (next ≤ q) × (q < pages)) (λ q. (p ≤ q) × (q < pages)) (λ q is. (omega (arith, is.0), is.1)) (chain file n next) rest))
    ]

rising_cons : (p : ℕ) (rest : List ℕ) → (0 < length rest → p < get_or rest 0 0) → IsStrictlyIncreasing rest → IsStrictlyIncreasing (p ∷ rest)
rising_cons p rest first rises zero within = first (omega arith)
rising_cons p rest first rises (suc k) within =
    let more : suc k + 1 ≡ suc (k + 1) = omega arith in
    subst (λ j. get_or rest k 0 < get_or (p ∷ rest) j 0) (sym more) (rises k (omega arith))

none_rises : IsStrictlyIncreasing []
none_rises k within = absurd (omega arith)

pub chain_rises : (file : List ℕ) (pages n p : ℕ) → LeadsOn file pages → p < pages → IsStrictlyIncreasing (chain file n p)
chain_rises file pages zero p leads below = subst IsStrictlyIncreasing (sym (chain_none file p)) none_rises
chain_rises file pages (suc n) p leads below =
    elim (cases_eq (next_of file p) 0) [
      | inl none ↦ subst IsStrictlyIncreasing (sym (chain_last file n p none)) (rising_cons p [] (λ some. absurd (omega arith)) none_rises)
      | inr some ↦
          let next = next_of file p in
          let later = leads.later p below some in
          let rest = chain_within file pages n next leads (leads.within p below) in
          subst IsStrictlyIncreasing (sym (chain_on file n p some))
          (rising_cons p (chain file n next) (λ more. omega (arith, (rest 0 0 more).0)) (chain_rises file pages n next leads (leads.within p below)))
    ]
