-- Pages of the chain of a key in a table of cells.
use Rattle.std.specs.Prelude.{◌≡◌, ◌≢◌, ℕ, ◌+◌, ◌%◌, ◌^◌, ◌<◌, ◌==◌, if◌then◌else◌, List, [], ◌∷◌, ◌++◌, length, All}
use Rattle.nb_host.specs.Image.{overwritten}
use Rattle.nb_host.specs.Page.{HasPage, page_of, page_start}
use Rattle.nb_host.specs.declared.page_name.TheConstants.{PAGE_SIZE}
use Rattle.nb_record.specs.declared.cell.Cell.{Cell}
use Rattle.nb_record.specs.declared.sizes.TheConstants.{CELL_SIZE, CELLS_PER_PAGE}
use Rattle.nb_record.specs.Pages.{record_count, page_next, IsCellPage}
use Rattle.nb_record.specs.Records.{cells_of}
use Rattle.nb_record.specs.Table.{next_of, chain, cells_on_chain}
use Rattle.nb_record.specs.Writing.{IsZeroPadded}

-- the page at which the chain of a key begins, in a table where so many bits of a key name it
abbrev pub first_page : ℕ → ℕ → ℕ
first_page bits key = key % 2 ^ bits

-- A search for a key goes on past page p of a file with so many pages: the page is one of these, whole and of the form,
-- none of its cells has the key, and its next page, if it has one, is one of these too.
pub record PassesOn (file : List ℕ) (pages key p : ℕ) : Type 0 where
  pub within : p < pages
  pub whole : HasPage file p
  pub form : IsCellPage p (page_of file p)
  pub next : next_of file p < pages
  pub lacks : All (λ c. c.key ≢ key) (cells_of (page_of file p))

-- A search for a key that begins at page h comes to page p: each page of the chain before it leads past.
pub record ComesTo (file : List ℕ) (pages key h p : ℕ) : Type 0 where
  pub before : List ℕ
  pub way : chain file (length before + 1) h ≡ before ++ p ∷ []
  pub past : All (PassesOn file pages key) before

-- It can't go on at page p: that page doesn't lead past.
pub record StopsAt (file : List ℕ) (pages key h p : ℕ) : Type 0 where
  pub comes : ComesTo file pages key h p
  pub stops : PassesOn file pages key p → ⊥

-- It ends at page p, which leads past and has no next page.
pub record EndsAt (file : List ℕ) (pages key h p : ℕ) : Type 0 where
  pub comes : ComesTo file pages key h p
  pub past : PassesOn file pages key p
  pub last : next_of file p ≡ 0

-- Page p is the last of the chain that begins at page h, in a file with so many pages.
pub record IsLastOfChain (file : List ℕ) (pages h p : ℕ) : Type 0 where
  pub within : p < pages
  pub last : next_of file p ≡ 0
  pub before : List ℕ
  pub pages_are : chain file pages h ≡ before ++ p ∷ []

-- A new page with this number and this cell alone, with zeros behind it.
pub record IsNewPage (p : ℕ) (cell : Cell) (bytes : List ℕ) : Type 0 where
  pub size : length bytes ≡ PAGE_SIZE
  pub form : IsCellPage p bytes
  pub next : page_next bytes ≡ 0
  pub cells : cells_of bytes ≡ cell ∷ []
  pub padded : IsZeroPadded CELL_SIZE bytes

-- The file has such a page behind so many pages.
pub record HasNewPage (pages : ℕ) (cell : Cell) (before now : List ℕ) : Type 0 where
  pub bytes : List ℕ
  pub page : IsNewPage pages cell bytes
  pub added : now ≡ overwritten (page_start pages) bytes before

-- How a cell was added to the chain that begins at page h and has page p as its last: the cell stands at the chain's end, on
-- page p where that has room, and else on a new page. The cells that were on page p stay there, and every other page is as it
-- was.
pub record IsAppended (old new : List ℕ) (pages new_pages h p : ℕ) (cell : Cell) : Type 0 where
  pub chain_is : cells_on_chain new new_pages h ≡ cells_on_chain old pages h ++ cell ∷ []
  pub grows : new_pages ≡ (if record_count (page_of old p) == CELLS_PER_PAGE then pages + 1 else pages)
  pub last : cells_of (page_of new p)
      ≡ (if record_count (page_of old p) == CELLS_PER_PAGE then cells_of (page_of old p) else cells_of (page_of old p) ++ cell ∷ [])
  pub others : (q : ℕ) → q < pages → q ≢ p → page_of new q ≡ page_of old q
