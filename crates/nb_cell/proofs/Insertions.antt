-- A file in which a cell is inserted: its chain's last page is put with the cell, or a page with the cell is put and then the
-- last page, which leads to it.
use Rattle.std.proofs.Common.{◌≡◌, ℕ, ◌+◌, ◌<◌, eqb, List, [], ◌∷◌, ◌++◌, length, take, refl, sym, ap, subst, ◌∙◌, inl, inr, arith}
use Rattle.std.specs.Prelude.{◌≢◌}
use Rattle.std.proofs.Math.Seq.{take-append_seam}
use Rattle.std.proofs.lemmas.Bool.{cases_eq, cond-true, cond-false, eq-eqb, ne_eqb}
use Rattle.std.proofs.lemmas.List.{take_all, same_from_push}
use Rattle.nb_host.specs.Image.{overwritten}
use Rattle.nb_host.specs.Page.{HasPage, page_of, page_start}
use Rattle.nb_host.specs.declared.page_name.TheConstants.{PAGE_SIZE}
use Rattle.nb_host.proofs.Callers.{overwritten-at_end}
use Rattle.nb_record.specs.declared.cell.Cell.{Cell}
use Rattle.nb_record.specs.declared.sizes.TheConstants.{CELL_SIZE, CELLS_PER_PAGE}
use Rattle.nb_record.specs.Pages.{page_number, record_count, page_next, IsCellPage}
use Rattle.nb_record.specs.Records.{cells_of, IsCell}
use Rattle.nb_record.specs.Table.{IsCellTable}
use Rattle.nb_record.specs.Writing.{IsZeroPadded, IsZeroPaddedFile}
use Rattle.nb_cell.specs.declared.table.CellTable.{CellTable}
use Rattle.nb_cell.specs.Chains.{first_page, EndsAt, IsLastOfChain, IsNewPage, IsAppended}
use Rattle.nb_cell.specs.Insertions.{HasInserted, HasKept}
use Rattle.nb_cell.proofs.Additions.{cell_added, cell_appended, page_added, page_appended, HasCellAdded, HasPageAdded}
use Rattle.nb_cell.proofs.Pages.{page_put, HasPut}
use Rattle.nb_cell.proofs.Ways.{ends_last}

-- a chain has one last page
one_last_page : (file : List ℕ) (pages h p q : ℕ) → IsLastOfChain file pages h p → IsLastOfChain file pages h q → q ≡ p
one_last_page file pages h p q one other = (same_from_push other.before one.before q p (sym other.pages_are ∙ one.pages_are)).1

appended_at : {old new : List ℕ} {pages new_pages h p q : ℕ} {cell : Cell} → IsLastOfChain old pages h p → IsLastOfChain old pages h q
    → IsAppended old new pages new_pages h q cell → IsAppended old new pages new_pages h p cell
appended_at {old} {new} {pages} {new_pages} {h} {p} {q} {cell} one other is =
    subst (λ r. IsAppended old new pages new_pages h r cell) (one_last_page old pages h p q one other) is

-- A page of the page's number was written: bytes that have zeros behind their cells if the page has.
pub record IsWritten (page bytes : List ℕ) : Type 0 where
  pub full : length bytes ≡ PAGE_SIZE
  pub form : IsCellPage (page_number bytes) bytes
  pub number : page_number bytes ≡ page_number page
  pub padded : IsZeroPadded CELL_SIZE page → IsZeroPadded CELL_SIZE bytes

-- the page with a cell more
pub record IsWithCell (cell : Cell) (page bytes : List ℕ) : Type 0 where
  pub written : IsWritten page bytes
  pub room : record_count page ≢ CELLS_PER_PAGE
  pub next : page_next bytes ≡ page_next page
  pub cells : cells_of bytes ≡ cells_of page ++ cell ∷ []

-- the full page with this next page
pub record IsWithNext (other : ℕ) (page bytes : List ℕ) : Type 0 where
  pub written : IsWritten page bytes
  pub all : record_count page ≡ CELLS_PER_PAGE
  pub next : page_next bytes ≡ other
  pub cells : cells_of bytes ≡ cells_of page

module _ (t : CellTable) (old : List ℕ) (q : ℕ) (cell : Cell) (fits : IsCell cell) (ends : EndsAt old t.pages cell.key (first_page t.bits cell.key) q) (page : List ℕ) (copied : page ≡ page_of old q) (bytes : List ℕ) where
  numbered : IsWritten page bytes → IsCellPage q bytes
  numbered written = subst (λ n. IsCellPage n bytes) (written.number ∙ ap page_number copied ∙ ends.past.form.number) written.form

  padded_here : IsWritten page bytes → IsZeroPaddedFile CELL_SIZE old → IsZeroPadded CELL_SIZE bytes
  padded_here written was = written.padded (subst (IsZeroPadded CELL_SIZE) (sym copied) (was q ends.past.whole))

  -- ---- on the last page

  module _ (with : IsWithCell cell page bytes) where
    put_on : (cells : List Cell) → IsCellTable old t.bits t.pages cells → HasPut old (overwritten (page_start q) bytes old) t.pages q bytes
    put_on cells is = page_put t.pages q bytes old is.whole with.written.full

    added_on : (cells : List Cell) → IsCellTable old t.bits t.pages cells → HasCellAdded old (overwritten (page_start q) bytes old) t.pages q cell
    added_on cells is =
        let put = put_on cells is in
        record {
          size = put.within ends.past.within;
          others = put.others;
          form = subst (IsCellPage q) (sym put.here) (numbered with.written);
          next = ap page_next put.here ∙ with.next ∙ ap page_next copied;
          cells_are = ap cells_of put.here ∙ with.cells ∙ ap (λ l. cells_of l ++ cell ∷ []) copied;
        }

    appended_on : (cells : List Cell) → IsCellTable old t.bits t.pages cells
        → IsAppended old (overwritten (page_start q) bytes old) t.pages t.pages (first_page t.bits cell.key) q cell
    appended_on cells is =
        let has = added_on cells is in
        let count = record_count (page_of old q) in
        let not_all : count ≢ CELLS_PER_PAGE = λ all. with.room (ap record_count copied ∙ all) in
        record {
          chain_is = cell_appended old t.bits t.pages cells is (overwritten (page_start q) bytes old) q cell fits (ends_last is ends) has;
          grows = sym (cond-false (eqb count CELLS_PER_PAGE) (t.pages + 1) t.pages (ne_eqb count CELLS_PER_PAGE not_all));
          last = has.cells_are
              ∙ sym (cond-false (eqb count CELLS_PER_PAGE) (cells_of (page_of old q)) (cells_of (page_of old q) ++ cell ∷ [])
              (ne_eqb count CELLS_PER_PAGE not_all));
          others = has.others;
        }

    padded_on : (cells : List Cell) → IsCellTable old t.bits t.pages cells → IsZeroPaddedFile CELL_SIZE old
        → IsZeroPaddedFile CELL_SIZE (overwritten (page_start q) bytes old)
    padded_on cells is was p whole =
        let put = put_on cells is in
        let size = put.within ends.past.within in
        let before = is.whole in
        elim (cases_eq p q) [
          | inl here ↦ subst (λ r. IsZeroPadded CELL_SIZE (page_of (overwritten (page_start q) bytes old) r)) (sym here)
              (subst (IsZeroPadded CELL_SIZE) (sym put.here) (padded_here with.written was))
          | inr apart ↦
              let within : p < t.pages = omega arith in
              let had : HasPage old p = omega arith in
              subst (IsZeroPadded CELL_SIZE) (sym (put.others p within apart)) (was p had)
        ]

    pub inserted_on_last : HasInserted t t cell old (overwritten (page_start q) bytes old)
    inserted_on_last = record {
      table = λ cells is lacks.
          cell_added old t.bits t.pages cells is (overwritten (page_start q) bytes old) q cell fits (ends_last is ends) (added_on cells is);
      place = λ cells is p last. appended_at last (ends_last is ends) (appended_on cells is);
      padded = padded_on;
    }

  -- ---- on a page behind it

  module _ (added : List ℕ) (is_new : IsNewPage t.pages cell added) (with : IsWithNext t.pages page bytes) where
    first_put : (cells : List Cell) → IsCellTable old t.bits t.pages cells
        → HasPut old (overwritten (page_start t.pages) added old) t.pages t.pages added
    first_put cells is = page_put t.pages t.pages added old is.whole is_new.size

    second_put : (cells : List Cell) → IsCellTable old t.bits t.pages cells
        → HasPut (overwritten (page_start t.pages) added old) (overwritten (page_start q) bytes (overwritten (page_start t.pages) added old))
        (t.pages + 1) q bytes
    second_put cells is =
        page_put (t.pages + 1) q bytes (overwritten (page_start t.pages) added old) ((first_put cells is).behind refl) with.written.full

    others_stay : (cells : List Cell) → IsCellTable old t.bits t.pages cells → (r : ℕ) → r < t.pages → r ≢ q
        → page_of (overwritten (page_start q) bytes (overwritten (page_start t.pages) added old)) r ≡ page_of old r
    others_stay cells is r below apart = (second_put cells is).others r (omega arith) apart ∙ (first_put cells is).others r below (omega arith)

    new_stays : (cells : List Cell) → IsCellTable old t.bits t.pages cells
        → page_of (overwritten (page_start q) bytes (overwritten (page_start t.pages) added old)) t.pages ≡ added
    new_stays cells is =
        let within = ends.past.within in
        (second_put cells is).others t.pages (omega arith) (omega arith) ∙ (first_put cells is).here

    added_behind : (cells : List Cell) → IsCellTable old t.bits t.pages cells
        → HasPageAdded old (overwritten (page_start q) bytes (overwritten (page_start t.pages) added old)) t.pages q cell
    added_behind cells is =
        let within = ends.past.within in
        let second = second_put cells is in
        record {
          size = second.within (omega arith) ∙ (first_put cells is).behind refl;
          others = others_stay cells is;
          form = subst (IsCellPage q) (sym second.here) (numbered with.written);
          next = ap page_next second.here ∙ with.next;
          cells_are = ap cells_of second.here ∙ with.cells ∙ ap cells_of copied;
          added = subst (IsNewPage t.pages cell) (sym (new_stays cells is)) is_new;
        }

    appended_behind : (cells : List Cell) → IsCellTable old t.bits t.pages cells
        → IsAppended old (overwritten (page_start q) bytes (overwritten (page_start t.pages) added old)) t.pages (t.pages + 1)
        (first_page t.bits cell.key) q cell
    appended_behind cells is =
        let has = added_behind cells is in
        let count = record_count (page_of old q) in
        let all : count ≡ CELLS_PER_PAGE = sym (ap record_count copied) ∙ with.all in
        record {
          chain_is = page_appended old t.bits t.pages cells is (overwritten (page_start q) bytes (overwritten (page_start t.pages) added old)) q cell
              fits (ends_last is ends) has;
          grows = sym (cond-true (eqb count CELLS_PER_PAGE) (t.pages + 1) t.pages (eq-eqb count CELLS_PER_PAGE all));
          last = has.cells_are
              ∙ sym (cond-true (eqb count CELLS_PER_PAGE) (cells_of (page_of old q)) (cells_of (page_of old q) ++ cell ∷ [])
              (eq-eqb count CELLS_PER_PAGE all));
          others = has.others;
        }

    padded_behind : (cells : List Cell) → IsCellTable old t.bits t.pages cells → IsZeroPaddedFile CELL_SIZE old
        → IsZeroPaddedFile CELL_SIZE (overwritten (page_start q) bytes (overwritten (page_start t.pages) added old))
    padded_behind cells is was p whole =
        let size = (added_behind cells is).size in
        let before = is.whole in
        let now = λ (r : ℕ). page_of (overwritten (page_start q) bytes (overwritten (page_start t.pages) added old)) r in
        elim (cases_eq p q) [
          | inl here ↦ subst (λ r. IsZeroPadded CELL_SIZE (now r)) (sym here)
              (subst (IsZeroPadded CELL_SIZE) (sym (second_put cells is).here) (padded_here with.written was))
          | inr apart ↦ elim (cases_eq p t.pages) [
            | inl end ↦ subst (λ r. IsZeroPadded CELL_SIZE (now r)) (sym end)
                (subst (IsZeroPadded CELL_SIZE) (sym (new_stays cells is)) is_new.padded)
            | inr inside ↦
                let within : p < t.pages = omega arith in
                let had : HasPage old p = omega arith in
                subst (IsZeroPadded CELL_SIZE) (sym (others_stay cells is p within apart)) (was p had)
          ]
        ]

    pub inserted_behind : HasInserted t (record t { pages = t.pages + 1 }) cell old
        (overwritten (page_start q) bytes (overwritten (page_start t.pages) added old))
    inserted_behind = record {
      table = λ cells is lacks.
          page_added old t.bits t.pages cells is (overwritten (page_start q) bytes (overwritten (page_start t.pages) added old)) q cell fits
          (ends_last is ends) (added_behind cells is);
      place = λ cells is p last. appended_at last (ends_last is ends) (appended_behind cells is);
      padded = padded_behind;
    }

-- ---- what a refusal leaves

pub kept_all : (t : CellTable) {before now : List ℕ} → now ≡ before → HasKept t before now
kept_all t {before = before} same = record {
  kept = λ cells is. let whole = is.whole in ap (take (page_start t.pages)) same ∙ take_all (page_start t.pages) before (omega arith);
  behind = inl same;
}

pub kept_behind : (t : CellTable) (bytes : List ℕ) {before now : List ℕ} → length bytes ≡ PAGE_SIZE
    → now ≡ overwritten (page_start t.pages) bytes before → HasKept t before now
kept_behind t bytes {before = before} full added = record {
  kept = λ cells is.
      let whole = is.whole in
      ap (take (page_start t.pages)) (added ∙ ap (λ at. overwritten at bytes before) (sym whole) ∙ overwritten-at_end bytes before)
      ∙ ap (λ n. take n (before ++ bytes)) (sym whole) ∙ take-append_seam before bytes;
  behind = inr (record { bytes = bytes; size = full; added = added });
}
