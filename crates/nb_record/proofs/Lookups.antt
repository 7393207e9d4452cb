-- A search for a key along its chain, against the cells of the table.
use Rattle.std.proofs.Common.{◌≡◌, ℕ, zero, suc, ◌%◌, ◌^◌, ◌<◌, ◌≤◌, Bool, true, false, eqb, List, [], ◌∷◌, ◌++◌, length, sym, ap, ◌∙◌, refl, subst, inl, inr, arith}
use Rattle.std.specs.Prelude.{◌≢◌, All, Contains, filter}
use Rattle.std.specs.List.{flat_map}
use Rattle.std.proofs.lemmas.Bool.{cond-true, cond-false, eq-eqb, cases_eq, cases_lt}
use Rattle.std.proofs.lemmas.Nat.{pow_pos, mod_below}
use Rattle.std.proofs.lemmas.List.{append-nil, take_at, drop_at}
use Rattle.std.proofs.lemmas.List.Elements.{All-nil, All-cons, All-head, All-tail, All-take, All-drop, All-filter, All-contains_itself}
use Rattle.std.proofs.lemmas.List.Sorted.{All-permutation, Contains-permutation, IsPermutation-sym}
use Rattle.nb_record.specs.declared.cell.Cell.{Cell}
use Rattle.nb_record.specs.Records.{cells_of}
use Rattle.nb_host.specs.Page.{page_of}
use Rattle.nb_record.specs.Table.{next_of, cells_on_chain, IsCellTable}
use Rattle.nb_record.proofs.Sorting.{either}
use Rattle.nb_record.proofs.Chains.{leads_on, chain_ends, chain_follows}

-- ---- the cells on a chain

pub cells_end : (file : List ℕ) (pages p : ℕ) → p < pages → next_of file p ≡ 0 → cells_on_chain file pages p ≡ cells_of (page_of file p)
cells_end file pages p below none =
    ap (λ c. flat_map (λ q. cells_of (page_of file q)) c) (chain_ends file pages p below none) ∙ append-nil (cells_of (page_of file p))

pub cells_follow : (file : List ℕ) (bits pages : ℕ) (cells : List Cell) → IsCellTable file bits pages cells → (p : ℕ) → p < pages → next_of file p ≢ 0
    → cells_on_chain file pages p ≡ cells_of (page_of file p) ++ cells_on_chain file pages (next_of file p)
cells_follow file bits pages cells is p below some =
    ap (λ c. flat_map (λ q. cells_of (page_of file q)) c) (chain_follows file pages p (leads_on file bits pages cells is) below some)

-- ---- the chain of a key

pub starts_within : (file : List ℕ) (bits pages : ℕ) (cells : List Cell) → IsCellTable file bits pages cells → (key : ℕ) → key % 2 ^ bits < pages
starts_within file bits pages cells is key = omega (arith, mod_below key (2 ^ bits) (pow_pos bits), is.begins)

pub chain_holds : (file : List ℕ) (bits pages : ℕ) (cells : List Cell) → IsCellTable file bits pages cells → (h : ℕ) → h < 2 ^ bits → All (λ c. Contains cells c) (cells_on_chain file pages h)
chain_holds file bits pages cells is h below =
    let test = λ (c : Cell). eqb (c.key % 2 ^ bits) h in
    All-permutation (λ c. Contains cells c) (filter test cells) (cells_on_chain file pages h)
    (IsPermutation-sym (cells_on_chain file pages h) (filter test cells) (is.chains h below))
    (All-filter test (λ c. Contains cells c) cells (All-contains_itself cells))

-- what holds of the elements that a test keeps, and of those that it doesn't keep, holds of each
all_from_filter : (P : Cell → Type 0) (test : Cell → Bool) (cs : List Cell) → ((c : Cell) → test c ≡ false → P c) → All P (filter test cs) → All P cs
all_from_filter P test [] others kept = All-nil P
all_from_filter P test (c ∷ cs) others kept =
    elim (either (test c)) [
      | inl is ↦
          let same : filter test (c ∷ cs) ≡ c ∷ filter test cs = cond-true (test c) (c ∷ filter test cs) (filter test cs) is in
          let all = subst (All P) same kept in
          All-cons P c cs (All-head P c (filter test cs) all) (all_from_filter P test cs others (All-tail P c (filter test cs) all))
      | inr is ↦
          let same : filter test (c ∷ cs) ≡ filter test cs = cond-false (test c) (c ∷ filter test cs) (filter test cs) is in
          All-cons P c cs (others c is) (all_from_filter P test cs others (subst (All P) same kept))
    ]

fails_not : (m n : ℕ) → eqb m n ≡ false → m ≡ n → ⊥
fails_not m n fails same =
    let passes = eq-eqb m n same in
    absurd (cc)

pub key_gone : (file : List ℕ) (bits pages : ℕ) (cells : List Cell) → IsCellTable file bits pages cells → (key : ℕ) → All (λ c. c.key ≢ key) (cells_on_chain file pages (key % 2 ^ bits)) → All (λ c. c.key ≢ key) cells
key_gone file bits pages cells is key gone =
    let h = key % 2 ^ bits in
    let below : h < 2 ^ bits = mod_below key (2 ^ bits) (pow_pos bits) in
    let test = λ (c : Cell). eqb (c.key % 2 ^ bits) h in
    all_from_filter (λ c. c.key ≢ key) test cells (λ c fails same. fails_not (c.key % 2 ^ bits) h fails (ap (λ k. k % 2 ^ bits) same))
    (All-permutation (λ c. c.key ≢ key) (cells_on_chain file pages h) (filter test cells) (is.chains h below) gone)

-- ---- the chain on which a cell stands

kept : (test : Cell → Bool) (x : Cell) (cs : List Cell) → test x ≡ true → Contains cs x → Contains (filter test cs) x
kept test x [] is (k, below, at) = absurd (omega arith)
kept test x (c ∷ cs) is (zero, below, at) =
    subst (λ l. Contains l x) (sym (cond-true (test c) (c ∷ filter test cs) (filter test cs) (ap test at ∙ is))) (0, omega arith, at)
kept test x (c ∷ cs) is (suc k, below, at) =
    let rest = kept test x cs is (k, omega arith, at) in
    elim (either (test c)) [
      | inl passes ↦ subst (λ l. Contains l x) (sym (cond-true (test c) (c ∷ filter test cs) (filter test cs) passes)) (suc rest.0, omega (arith, rest.1), rest.2)
      | inr fails ↦ subst (λ l. Contains l x) (sym (cond-false (test c) (c ∷ filter test cs) (filter test cs) fails)) rest
    ]

pub cell_stands : (file : List ℕ) (bits pages : ℕ) (cells : List Cell) → IsCellTable file bits pages cells → (cell : Cell) → Contains cells cell → Contains (cells_on_chain file pages (cell.key % 2 ^ bits)) cell
cell_stands file bits pages cells is cell within =
    let h = cell.key % 2 ^ bits in
    let below : h < 2 ^ bits = mod_below cell.key (2 ^ bits) (pow_pos bits) in
    let test = λ (c : Cell). eqb (c.key % 2 ^ bits) h in
    Contains-permutation (filter test cells) (cells_on_chain file pages h) cell
    (IsPermutation-sym (cells_on_chain file pages h) (filter test cells) (is.chains h below))
    (kept test cell cells (eq-eqb h h refl) within)

-- ---- a page in the middle of a chain

All-behind : (P : Cell → Type 0) (front rest : List Cell) → All P (front ++ rest) → All P rest
All-behind P front rest all = subst (All P) (drop_at front rest (length front) refl) (All-drop P (length front) (front ++ rest) all)

All-front : (P : Cell → Type 0) (front rest : List Cell) → All P (front ++ rest) → All P front
All-front P front rest all = subst (All P) (take_at front rest (length front) refl) (All-take P (length front) (front ++ rest) all)

-- A page from 2 ^ bits on follows one before it, so its chain is the end of another.
chain_holds_below : (file : List ℕ) (bits pages : ℕ) (cells : List Cell) → IsCellTable file bits pages cells → (n p : ℕ) → p ≤ n → p < pages → All (λ c. Contains cells c) (cells_on_chain file pages p)
chain_holds_below file bits pages cells is zero p most below = chain_holds file bits pages cells is p (omega (arith, pow_pos bits))
chain_holds_below file bits pages cells is (suc n) p most below =
    elim (cases_lt p (2 ^ bits)) [
      | inl begins ↦ chain_holds file bits pages cells is p begins
      | inr behind ↦
          let follows = is.follows p behind below in
          let before = follows.before in
          let some : next_of file before ≢ 0 = λ none. absurd (omega (arith, none, follows.is, behind, pow_pos bits)) in
          let later = (leads_on file bits pages cells is).later before follows.within some in
          let held = chain_holds_below file bits pages cells is n before (omega (arith, later, follows.is)) follows.within in
          subst (λ q. All (λ c. Contains cells c) (cells_on_chain file pages q)) follows.is
          (All-behind (λ c. Contains cells c) (cells_of (page_of file before)) (cells_on_chain file pages (next_of file before))
          (subst (All (λ c. Contains cells c)) (cells_follow file bits pages cells is before follows.within some) held))
    ]

pub chain_holds_from : (file : List ℕ) (bits pages : ℕ) (cells : List Cell) → IsCellTable file bits pages cells → (p : ℕ) → p < pages → All (λ c. Contains cells c) (cells_on_chain file pages p)
chain_holds_from file bits pages cells is p below = chain_holds_below file bits pages cells is p p (omega arith) below

pub page_holds : (file : List ℕ) (bits pages : ℕ) (cells : List Cell) → IsCellTable file bits pages cells → (p : ℕ) → p < pages → All (λ c. Contains cells c) (cells_of (page_of file p))
page_holds file bits pages cells is p below =
    let held = chain_holds_from file bits pages cells is p below in
    elim (cases_eq (next_of file p) 0) [
      | inl none ↦ subst (All (λ c. Contains cells c)) (cells_end file pages p below none) held
      | inr some ↦ All-front (λ c. Contains cells c) (cells_of (page_of file p)) (cells_on_chain file pages (next_of file p))
          (subst (All (λ c. Contains cells c)) (cells_follow file bits pages cells is p below some) held)
    ]
