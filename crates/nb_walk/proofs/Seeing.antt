-- What a look on the page of a cell's chain sees over a tree.
use Rattle.std.proofs.Common.{◌≡◌, ℕ, suc, ◌%◌, ◌^◌, ◌<◌, cond, eqb, is_some, List, [], ◌∷◌, ◌++◌, Option, Some, None, Ok, sym, ap, ◌∙◌, refl, arith, subst, inl, inr}
use Rattle.std.specs.Prelude.{◌≢◌, All, Contains}
use Rattle.std.proofs.lemmas.Bool.{cond-false, ne_eqb, cases_eq}
use Rattle.std.proofs.lemmas.List.Elements.{All-contains, All-cons, All-head, All-tail, Contains-append_cases, Contains-append_left}
use Rattle.std.proofs.lemmas.Option.{slice_get_within, get_or_from_slice_get}
use Rattle.nb_model.specs.declared.body.Body.{Body}
use Rattle.nb_model.specs.declared.params.Params.{Params}
use Rattle.nb_model.specs.Leapfrog.{unescaped}
use Rattle.nb_key.specs.Morton.{IsKeyAt}
use Rattle.nb_host.specs.Page.{page_of}
use Rattle.nb_record.specs.declared.answer.Look.{Look}
use Rattle.nb_record.specs.declared.answer.Look.TheVariants.{Found, Next, Wants, Gone, Bad}
use Rattle.nb_record.specs.declared.tree.Tree.{Tree}
use Rattle.nb_record.specs.Pages.{read_cell_page}
use Rattle.nb_record.specs.Records.{cell_record, cell_of, cells_of, IsCell}
use Rattle.nb_record.specs.Looking.{index_of_key, IsLook, IsLookAt, IsLookOn}
use Rattle.nb_record.specs.Cells.{tree_cells, IsTreeCell}
use Rattle.nb_record.specs.Table.{next_of, chain, cells_on_chain, IsCellTable}
use Rattle.nb_record.specs.Tree.{IsTreeOf}
use Rattle.nb_record.proofs.Callers.{cells_checked, cell_at, key_found, key_lacking, LeadsOn, leads_on, chain_ends, chain_follows, cells_end, cells_follow, at_its_level}
use Rattle.nb_walk.specs.Angle.{level_of}
use Rattle.nb_walk.specs.Items.{chain_page}
use Rattle.nb_walk.specs.Left.{pages_up_to, pages_to, IsCellItem}
use Rattle.nb_walk.specs.Shown.{Shows}

-- ---- lists

module _ {X : Type 0} where
  pub all_split : (P : X → Type 0) (xs ys : List X) → All P (xs ++ ys) → All P xs × All P ys
  all_split P [] ys all = (λ i d below. absurd (omega arith), all)
  all_split P (x ∷ xs) ys all =
      let rest = all_split P xs ys (All-tail P x (xs ++ ys) all) in
      (All-cons P x xs (All-head P x (xs ++ ys) all) rest.0, rest.1)

-- record i of a page is one of its cells
on_page : (bytes : List ℕ) (key i : ℕ) → index_of_key key bytes ≡ Some i → Contains (cells_of bytes) (cell_of (cell_record i bytes))
on_page bytes key i is =
    let there = cell_at bytes i (key_found bytes key i is).0 in
    (i, slice_get_within (cells_of bytes) i (cell_of (cell_record i bytes)) there, get_or_from_slice_get (cells_of bytes) i (cell_of (cell_record i bytes)) (cell_of (cell_record i bytes)) there)

-- ---- the pages up to a record

pages_here : (file : List ℕ) (key page : ℕ) (pages : List ℕ) (i : ℕ) → index_of_key key (page_of file page) ≡ Some i → pages_up_to file key (page ∷ pages) ≡ 1
unfolding pages_up_to
pages_here file key page pages i is = ap (λ o. cond (is_some o) 1 (suc (pages_up_to file key pages))) is

pages_past : (file : List ℕ) (key page : ℕ) (pages : List ℕ) → index_of_key key (page_of file page) ≡ None → pages_up_to file key (page ∷ pages) ≡ suc (pages_up_to file key pages)
unfolding pages_up_to
pages_past file key page pages is = ap (λ o. cond (is_some o) 1 (suc (pages_up_to file key pages))) is

module _ (file : List ℕ) (tree : Tree) (key page i : ℕ) (leads : LeadsOn file tree.pages) (within : page < tree.pages) where
  pub one_page : index_of_key key (page_of file page) ≡ Some i → pages_to file tree key page ≡ 1
  one_page is =
      elim (cases_eq (next_of file page) 0) [
        | inl none ↦ ap (pages_up_to file key) (chain_ends file tree.pages page within none) ∙ pages_here file key page [] i is
        | inr some ↦ ap (pages_up_to file key) (chain_follows file tree.pages page leads within some) ∙ pages_here file key page (chain file tree.pages (next_of file page)) i is
      ]

  pub more_pages : index_of_key key (page_of file page) ≡ None → next_of file page ≢ 0 → pages_to file tree key page ≡ suc (pages_to file tree key (next_of file page))
  more_pages is some = ap (pages_up_to file key) (chain_follows file tree.pages page leads within some) ∙ pages_past file key page (chain file tree.pages (next_of file page)) is

-- ---- what is seen

-- what the answer of a search says
abbrev pub Seen : Params → List Body → Tree → List ℕ → ℕ → ℕ → Look → Type 0
Seen params bodies tree file key page (Found cell) =
    (cell.key ≡ key) × IsTreeCell params (unescaped bodies) (level_of key) cell × (pages_to file tree key (chain_page tree.bits key page) ≡ 1)
Seen params bodies tree file key page (Next next) =
    (next < tree.pages) × IsCellItem params bodies tree file key next
    × (pages_to file tree key (chain_page tree.bits key page) ≡ suc (pages_to file tree key (chain_page tree.bits key next)))
Seen params bodies tree file key page (Wants name) = Unit {0}
Seen params bodies tree file key page Gone = ⊥
Seen params bodies tree file key page (Bad bad) = ⊥

module _ (params : Params) (bodies : List Body) (tree : Tree) (file : List ℕ) (table : IsCellTable file tree.bits tree.pages (tree_cells params bodies)) where
  seen_found : (key page i : ℕ) → IsCellItem params bodies tree file key page → index_of_key key (page_of file (chain_page tree.bits key page)) ≡ Some i
      → Seen params bodies tree file key page (Found (cell_of (cell_record i (page_of file (chain_page tree.bits key page)))))
  seen_found key page i item is =
      let at = chain_page tree.bits key page in
      let bytes = page_of file at in
      let cell = cell_of (cell_record i bytes) in
      let found = key_found bytes key i is in
      let leads = leads_on file tree.bits tree.pages (tree_cells params bodies) table in
      let here : Contains (cells_of bytes) cell = on_page bytes key i is in
      let on_chain : Contains (cells_on_chain file tree.pages at) cell = elim (cases_eq (next_of file at) 0) [
        | inl none ↦ subst (λ l. Contains l cell) (sym (cells_end file tree.pages at item.within none)) here
        | inr some ↦ subst (λ l. Contains l cell) (sym (cells_follow file tree.bits tree.pages (tree_cells params bodies) table at item.within some)) (Contains-append_left (cells_of bytes) (cells_on_chain file tree.pages (next_of file at)) cell here)
      ] in
      let in_tree : Contains (tree_cells params bodies) cell = All-contains (λ c. Contains (tree_cells params bodies) c) (cells_on_chain file tree.pages at) cell item.held on_chain in
      let at_level : IsKeyAt (level_of key) cell.key = subst (IsKeyAt (level_of key)) (item.key_is ∙ sym found.1) item.is.key in
      (found.1, at_its_level params (unescaped bodies) (level_of key) cell in_tree at_level, one_page file tree key at i leads item.within is)

  seen_next : (key page : ℕ) → IsCellItem params bodies tree file key page → index_of_key key (page_of file (chain_page tree.bits key page)) ≡ None
      → (next_of file (chain_page tree.bits key page) ≡ 0 → ⊥) × (next_of file (chain_page tree.bits key page) ≢ 0 → Seen params bodies tree file key page (Next (next_of file (chain_page tree.bits key page))))
  seen_next key page item is =
      let at = chain_page tree.bits key page in
      let bytes = page_of file at in
      let next = next_of file at in
      let cells = tree_cells params bodies in
      let leads = leads_on file tree.bits tree.pages cells table in
      let lacks = (key_lacking bytes key).0 is in
      let not_here : Contains (cells_of bytes) item.cell → ⊥ = λ here. All-contains (λ c. c.key ≢ key) (cells_of bytes) item.cell lacks here item.key_is in (
        λ none. not_here (subst (λ l. Contains l item.cell) (cells_end file tree.pages at item.within none) item.ahead),
        λ some.
            let later = leads.later at item.within some in
            let there : chain_page tree.bits key next ≡ next = cond-false (eqb next 0) (key % 2 ^ tree.bits) next (ne_eqb next 0 some) in
            let follow = cells_follow file tree.bits tree.pages cells table at item.within some in
            let ahead : Contains (cells_on_chain file tree.pages next) item.cell = elim (Contains-append_cases (cells_of bytes) (cells_on_chain file tree.pages next) item.cell (subst (λ l. Contains l item.cell) follow item.ahead)) [
              | inl here ↦ absurd (not_here here)
              | inr behind ↦ behind
            ] in
            let held = (all_split (λ c. Contains cells c) (cells_of bytes) (cells_on_chain file tree.pages next) (subst (All (λ c. Contains cells c)) follow item.held)).1 in
            let on : IsCellItem params bodies tree file key next = record {
              cell = item.cell;
              key_is = item.key_is;
              is = item.is;
              within = subst (λ p. p < tree.pages) (sym there) (leads.within at item.within);
              ahead = subst (λ p. Contains (cells_on_chain file tree.pages p) item.cell) (sym there) ahead;
              held = subst (λ p. All (λ c. Contains cells c) (cells_on_chain file tree.pages p)) (sym there) held;
            } in
            (leads.within at item.within, on, more_pages file tree key at 0 leads item.within is some ∙ ap (λ p. suc (pages_to file tree key p)) (sym there)),
      )

  pub seen : (key page : ℕ) (shown : Option (List ℕ)) (look : Look) → IsCellItem params bodies tree file key page
      → ((bytes : List ℕ) → shown ≡ Some bytes → bytes ≡ page_of file (chain_page tree.bits key page))
      → IsLook key (chain_page tree.bits key page) shown look → Seen params bodies tree file key page look
  seen key page None look item same is = subst (Seen params bodies tree file key page) (sym is) tt
  seen key page (Some bytes) look item same is =
      let at = chain_page tree.bits key page in
      let theirs = same bytes refl in
      let read : read_cell_page at bytes ≡ Ok bytes = subst (λ b. read_cell_page at b ≡ Ok b) (sym theirs) ((cells_checked at (page_of file at)).1 (table.forms at item.within)) in
      let looked : IsLookOn at bytes (index_of_key key bytes) look = subst (λ r. IsLookAt key at r look) read is in
      seen_on key page look item (index_of_key key (page_of file at)) refl (subst (λ b. IsLookOn at b (index_of_key key b) look) theirs looked)
    where
      seen_on : (key page : ℕ) (look : Look) (item : IsCellItem params bodies tree file key page) (index : Option ℕ) → index_of_key key (page_of file (chain_page tree.bits key page)) ≡ index
          → IsLookOn (chain_page tree.bits key page) (page_of file (chain_page tree.bits key page)) index look → Seen params bodies tree file key page look
      seen_on key page look item (Some i) there (inl found) = subst (Seen params bodies tree file key page) (sym found.1) (seen_found key page i item there)
      seen_on key page look item (Some i) there (inr bad) =
          let bytes = page_of file (chain_page tree.bits key page) in
          absurd (bad.0 (All-contains IsCell (cells_of bytes) (cell_of (cell_record i bytes)) (table.records (chain_page tree.bits key page) item.within) (on_page bytes key i there)))
      seen_on key page look item None there is =
          let at = chain_page tree.bits key page in
          let next = next_of file at in
          let both = seen_next key page item there in
          elim (cases_eq next 0) [
            | inl none ↦ absurd (both.0 none)
            | inr some ↦ subst (Seen params bodies tree file key page) (sym (is ∙ cond-false (eqb next 0) Gone (Next next) (ne_eqb next 0 some))) (both.1 some)
          ]

-- the same, over the tree's files, at the page that was looked at
pub shown_seen : (params : Params) (bodies : List Body) (tree : Tree) (files : ℕ → List ℕ) (cells_shown bodies_shown : ℕ → Option (List ℕ)) (key page at : ℕ) (look : Look)
    → IsTreeOf tree files params bodies → Shows cells_shown bodies_shown tree files → IsCellItem params bodies tree (files tree.cells) key page
    → at ≡ chain_page tree.bits key page → IsLook key at (cells_shown at) look → Seen params bodies tree (files tree.cells) key page look
shown_seen params bodies tree files cells_shown bodies_shown key page at look of_tree shows item there is =
    let look_is = subst (λ p. IsLook key p (cells_shown p) look) there is in
    seen params bodies tree (files tree.cells) of_tree.table key page (cells_shown (chain_page tree.bits key page)) look item
    (λ bytes shown. shows.cell (chain_page tree.bits key page) bytes shown) look_is
