-- The way of a search for a key along its chain: page by page, in any file, and what a table makes of it.
use Rattle.std.proofs.Common.{◌≡◌, ℕ, zero, suc, ◌+◌, ◌^◌, ◌<◌, cond, eqb, List, [], ◌∷◌, ◌++◌, length, refl, sym, ap, subst, ◌∙◌, inl, inr, arith, append_assoc, Contains}
use Rattle.std.specs.Prelude.{◌≢◌, All}
use Rattle.std.specs.List.{flat_map}
use Rattle.std.proofs.lemmas.Bool.{cases_eq, cond-true, cond-false, eq-eqb, ne_eqb}
use Rattle.std.proofs.lemmas.List.{length_push}
use Rattle.std.proofs.lemmas.List.Elements.{All-nil, All-cons, All-head, All-tail, All-push, All-weaker, All-contains}
use Rattle.std.proofs.lemmas.Nat.{pow_pos, mod_below}
use Rattle.nb_host.specs.Page.{page_of}
use Rattle.nb_record.specs.declared.cell.Cell.{Cell}
use Rattle.nb_record.specs.Records.{cells_of}
use Rattle.nb_record.specs.Table.{next_of, chain, IsCellTable}
use Rattle.nb_record.proofs.Callers.{leads_on, chain_ends, chain_follows, chain_holds}
use Rattle.nb_cell.specs.Chains.{first_page, PassesOn, ComesTo, StopsAt, EndsAt, IsLastOfChain}
use Rattle.nb_cell.proofs.Reach.{Reaches, IsReached, Split, reached_within, chain_splits}

-- ---- in any file

module _ (file : List ℕ) where
  step : (n p : ℕ) → chain file (suc n) p ≡ p ∷ cond (eqb (next_of file p) 0) [] (chain file n (next_of file p))
  unfolding chain
  step n p = refl

  step_on : (n p : ℕ) → next_of file p ≢ 0 → chain file (suc n) p ≡ p ∷ chain file n (next_of file p)
  step_on n p some =
      step n p ∙ ap (λ l. p ∷ l) (cond-false (eqb (next_of file p) 0) [] (chain file n (next_of file p)) (ne_eqb (next_of file p) 0 some))

  step_last : (n p : ℕ) → next_of file p ≡ 0 → chain file (suc n) p ≡ p ∷ []
  step_last n p none =
      step n p ∙ ap (λ l. p ∷ l) (cond-true (eqb (next_of file p) 0) [] (chain file n (next_of file p)) (eq-eqb (next_of file p) 0 none))

  none : (p : ℕ) → chain file zero p ≡ []
  unfolding chain
  none p = refl

  one_page : (p : ℕ) → chain file 1 p ≡ p ∷ []
  one_page p = elim (cases_eq (next_of file p) 0) [
    | inl end ↦ step_last 0 p end
    | inr some ↦ step_on 0 p some ∙ ap (λ l. p ∷ l) (none (next_of file p))
  ]

  -- what is behind the first page of a chain that has more
  behind : (n h b p : ℕ) (before : List ℕ) → chain file (suc n) h ≡ b ∷ (before ++ p ∷ [])
      → (next_of file h ≢ 0) × (chain file n (next_of file h) ≡ before ++ p ∷ [])
  behind n h b p before way = elim (cases_eq (next_of file h) 0) [
    | inl end ↦
        let empty : before ++ p ∷ [] ≡ [] = (let two = sym way ∙ step_last n h end in cc) in
        let long : length (before ++ p ∷ []) ≡ 0 = ap length empty in
        absurd (omega (arith, length_push before p))
    | inr some ↦ (some, (let two = sym (step_on n h some) ∙ way in cc))
  ]

  -- it comes to the next page too
  goes_on : (n : ℕ) (before : List ℕ) (h p q : ℕ) → length before ≡ n → chain file (suc n) h ≡ before ++ p ∷ [] → next_of file p ≡ q → q ≢ 0
      → chain file (suc (suc n)) h ≡ before ++ p ∷ q ∷ []
  goes_on zero [] h p q long way next some =
      let here : h ≡ p = (let two = sym (one_page h) ∙ way in cc) in
      let leads : next_of file h ≡ q = subst (λ r. next_of file r ≡ q) (sym here) next in
      step_on 1 h (λ end. some (sym leads ∙ end)) ∙ ap (λ r. h ∷ chain file 1 r) leads ∙ ap (λ l. h ∷ l) (one_page q)
      ∙ ap (λ r. r ∷ q ∷ []) here
  goes_on zero (b ∷ before) h p q long way next some = absurd (omega arith)
  goes_on (suc n) [] h p q long way next some = absurd (omega arith)
  goes_on (suc n) (b ∷ before) h p q long way next some =
      let more = behind (suc n) h b p before way in
      let here : h ≡ b = (let two = sym (step_on (suc n) h more.0) ∙ way in cc) in
      step_on (suc (suc n)) h more.0
      ∙ ap (λ l. h ∷ l) (goes_on n before (next_of file h) p q (omega arith) more.1 next some)
      ∙ ap (λ r. r ∷ (before ++ p ∷ q ∷ [])) here

  -- a step at the front
  reaches_first : (n h k q : ℕ) → next_of file h ≡ k → k ≢ 0 → Reaches file k n q → Reaches file h (suc n) q
  reaches_first zero h k q next some reached = (h, refl, next ∙ reached, λ end. some (reached ∙ end))
  reaches_first (suc n) h k q next some reached =
      (reached.0, reaches_first n h k reached.0 next some reached.1, reached.2, reached.3)

  reaches : (n : ℕ) (before : List ℕ) (h p : ℕ) → length before ≡ n → chain file (suc n) h ≡ before ++ p ∷ [] → Reaches file h n p
  reaches zero [] h p long way = (let two = sym (one_page h) ∙ way in cc)
  reaches zero (b ∷ before) h p long way = absurd (omega arith)
  reaches (suc n) [] h p long way = absurd (omega arith)
  reaches (suc n) (b ∷ before) h p long way =
      let more = behind (suc n) h b p before way in
      reaches_first n h (next_of file h) p refl more.0 (reaches n before (next_of file h) p (omega arith) more.1)

pub comes_first : (file : List ℕ) (pages key h : ℕ) → ComesTo file pages key h h
comes_first file pages key h = record { before = []; way = one_page file h; past = All-nil (PassesOn file pages key) }

pub comes_on : {file : List ℕ} {pages key h p q : ℕ} → ComesTo file pages key h p → PassesOn file pages key p → next_of file p ≡ q
    → q ≢ 0 → ComesTo file pages key h q
comes_on {file = file} {pages = pages} {key = key} {h = h} {p = p} {q = q} comes leads next some =
    let before = comes.before in
    let at : suc (length before) ≡ length before + 1 = omega arith in
    let long : length (before ++ p ∷ []) + 1 ≡ suc (suc (length before)) = omega (arith, length_push before p) in
    record {
      before = before ++ p ∷ [];
      way = ap (λ n. chain file n h) long
          ∙ goes_on file (length before) before h p q refl (ap (λ n. chain file n h) at ∙ comes.way) next some
          ∙ sym (append_assoc before (p ∷ []) (q ∷ []));
      past = All-push (PassesOn file pages key) before p comes.past leads;
    }

reached : {file : List ℕ} {pages key h p : ℕ} → ComesTo file pages key h p → IsReached file h p
reached {file = file} {h = h} {p = p} comes =
    let at : suc (length comes.before) ≡ length comes.before + 1 = omega arith in
    (length comes.before, reaches file (length comes.before) comes.before h p refl (ap (λ n. chain file n h) at ∙ comes.way))

-- ---- lists in pieces

all_before : {X : Type 0} (P : X → Type 0) (xs ys : List X) → All P (xs ++ ys) → All P xs
all_before P [] ys all = All-nil P
all_before P (x ∷ xs) ys all = All-cons P x xs (All-head P x (xs ++ ys) all) (all_before P xs ys (All-tail P x (xs ++ ys) all))

all_behind : {X : Type 0} (P : X → Type 0) (xs ys : List X) → All P (xs ++ ys) → All P ys
all_behind P [] ys all = all
all_behind P (x ∷ xs) ys all = all_behind P xs ys (All-tail P x (xs ++ ys) all)

all_pieces : (f : ℕ → List Cell) (P : Cell → Type 0) (rs : List ℕ) → All P (flat_map f rs) → All (λ r. All P (f r)) rs
all_pieces f P [] all = All-nil (λ r. All P (f r))
all_pieces f P (r ∷ rs) all =
    All-cons (λ r. All P (f r)) r rs (all_before P (f r) (flat_map f rs) all) (all_pieces f P rs (all_behind P (f r) (flat_map f rs) all))

-- ---- in a table

module _ (file : List ℕ) (bits pages : ℕ) (cells : List Cell) (is : IsCellTable file bits pages cells) (h : ℕ) (begins : h < 2 ^ bits) (page : ℕ) (to : IsReached file h page) where
  is_within : page < pages
  is_within = reached_within file bits pages cells is h to.0 page begins to.1

  split : Split file bits pages cells is file pages page (leads_on file bits pages cells is) (omega arith) (λ r within apart. refl) h page
  split = chain_splits file bits pages cells is file pages page (leads_on file bits pages cells is) (omega arith) (λ r within apart. refl)
      h to.0 page begins to.1 (omega arith)

  last_reached : next_of file page ≡ 0 → IsLastOfChain file pages h page
  last_reached end = record {
    within = is_within;
    last = end;
    before = split.front;
    pages_are = split.old ∙ ap (λ l. split.front ++ l) (chain_ends file pages page is_within end);
  }

  -- the first page of the rest of the chain is the page
  is_page : (P : ℕ → Type 0) → All P (chain file pages page) → P page
  is_page P all = elim (cases_eq (next_of file page) 0) [
    | inl end ↦ All-head P page [] (subst (All P) (chain_ends file pages page is_within end) all)
    | inr some ↦ All-head P page (chain file pages (next_of file page))
        (subst (All P) (chain_follows file pages page (leads_on file bits pages cells is) is_within some) all)
  ]

  -- the page's cells are cells of the table
  cells_held : All (Contains cells) (cells_of (page_of file page))
  cells_held =
      is_page (λ r. All (Contains cells) (cells_of (page_of file r)))
      (all_behind (λ r. All (Contains cells) (cells_of (page_of file r))) split.front (chain file pages page)
      (subst (All (λ r. All (Contains cells) (cells_of (page_of file r)))) split.old
      (all_pieces (λ r. cells_of (page_of file r)) (Contains cells) (chain file pages h) (chain_holds file bits pages cells is h begins))))

  leads_past : (key : ℕ) → All (λ c. c.key ≢ key) cells → PassesOn file pages key page
  leads_past key lacks = record {
    within = is_within;
    whole = let whole = is.whole in let within = is_within in omega arith;
    form = is.forms page is_within;
    next = is.nexts page is_within;
    lacks = All-weaker (Contains cells) (λ c. c.key ≢ key) (λ c held. All-contains (λ c. c.key ≢ key) cells c lacks held)
        (cells_of (page_of file page)) cells_held;
  }

begins : (bits key : ℕ) → first_page bits key < 2 ^ bits
begins bits key = mod_below key (2 ^ bits) (pow_pos bits)

-- the search ends at the last page of the chain
pub ends_last : {file : List ℕ} {bits pages key p : ℕ} {cells : List Cell} → IsCellTable file bits pages cells
    → EndsAt file pages key (first_page bits key) p → IsLastOfChain file pages (first_page bits key) p
ends_last {file = file} {bits = bits} {pages = pages} {key = key} {p = p} {cells = cells} is ends =
    last_reached file bits pages cells is (first_page bits key) (begins bits key) p (reached ends.comes) ends.last

-- in a table that lacks the key it doesn't stop before
pub never_stops : {file : List ℕ} {bits pages key p : ℕ} {cells : List Cell} → StopsAt file pages key (first_page bits key) p
    → IsCellTable file bits pages cells → All (λ c. c.key ≢ key) cells → ⊥
never_stops {file = file} {bits = bits} {pages = pages} {key = key} {p = p} {cells = cells} stops is lacks =
    stops.stops (leads_past file bits pages cells is (first_page bits key) (begins bits key) p (reached stops.comes) key lacks)
