-- A file of empty pages, put one after the other, and the table that it is.
use Rattle.std.proofs.Common.{◌≡◌, ℕ, ◌+◌, ◌^◌, ◌<◌, List, [], length, refl, sym, ap, subst, ◌∙◌, inl, inr, arith}
use Rattle.std.specs.Prelude.{All, IsPermutation}
use Rattle.std.proofs.lemmas.Bool.{cases_eq}
use Rattle.std.proofs.lemmas.List.Elements.{All-nil}
use Rattle.std.proofs.lemmas.List.Sorted.{IsPermutation-refl}
use Rattle.nb_host.specs.Image.{overwritten}
use Rattle.nb_host.specs.Page.{page_of, page_start}
use Rattle.nb_host.specs.declared.page_name.TheConstants.{PAGE_SIZE}
use Rattle.nb_record.specs.declared.sizes.TheConstants.{CELL_SIZE}
use Rattle.nb_record.specs.Pages.{page_next, IsCellPage}
use Rattle.nb_record.specs.Records.{cells_of, IsCell}
use Rattle.nb_record.specs.Table.{cells_on_chain, IsCellTable}
use Rattle.nb_record.specs.Writing.{IsZeroPadded, IsZeroPaddedFile}
use Rattle.nb_record.proofs.Callers.{cells_end}
use Rattle.nb_cell.proofs.Pages.{page_put}

-- a page of cells with this number, no cell and no next page, and zeros behind its header
pub record IsEmptyPage (p : ℕ) (bytes : List ℕ) : Type 0 where
  pub form : IsCellPage p bytes
  pub next : page_next bytes ≡ 0
  pub cells : cells_of bytes ≡ []
  pub padded : IsZeroPadded CELL_SIZE bytes

-- the file has so many pages, all of them empty
pub record HasEmptyPages (file : List ℕ) (count : ℕ) : Type 0 where
  pub size : length file ≡ page_start count
  pub pages : (p : ℕ) → p < count → IsEmptyPage p (page_of file p)

pub no_pages : (file : List ℕ) → file ≡ [] → HasEmptyPages file 0
no_pages file none = record { size = ap (λ l. length l) none; pages = λ p below. absurd (omega arith) }

pub one_page_more : (file bytes : List ℕ) (count : ℕ) → HasEmptyPages file count → IsEmptyPage count bytes → length bytes ≡ PAGE_SIZE
    → HasEmptyPages (overwritten (page_start count) bytes file) (count + 1)
one_page_more file bytes count has empty full =
    let put = page_put count count bytes file has.size full in
    record {
      size = put.behind refl;
      pages = λ p below. elim (cases_eq p count) [
        | inl here ↦ subst (λ q. IsEmptyPage q (page_of (overwritten (page_start count) bytes file) q)) (sym here)
            (subst (IsEmptyPage count) (sym put.here) empty)
        | inr apart ↦
            let before : p < count = omega arith in
            subst (IsEmptyPage p) (sym (put.others p before apart)) (has.pages p before)
      ];
    }

-- so many that each begins a chain
pub empty_table : (file : List ℕ) (bits : ℕ) → HasEmptyPages file (2 ^ bits) → IsCellTable file bits (2 ^ bits) []
empty_table file bits has = record {
  whole = has.size;
  begins = omega arith;
  forms = λ p below. (has.pages p below).form;
  records = λ p below. subst (All IsCell) (sym (has.pages p below).cells) (All-nil IsCell);
  nexts = λ p below. let none = (has.pages p below).next in omega arith;
  first = λ p below some. absurd (some (has.pages p below).next);
  follows = λ q from below. absurd (omega arith);
  chains = λ h below.
      let page = has.pages h below in
      let none : cells_on_chain file (2 ^ bits) h ≡ [] = cells_end file (2 ^ bits) h below page.next ∙ page.cells in
      subst (λ l. IsPermutation l []) (sym none) (IsPermutation-refl []);
}

pub empty_padded : (file : List ℕ) (count : ℕ) → HasEmptyPages file count → IsZeroPaddedFile CELL_SIZE file
empty_padded file count has p whole =
    let size = has.size in
    (has.pages p (omega arith)).padded
