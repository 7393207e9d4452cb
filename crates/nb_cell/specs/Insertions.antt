-- What an insertion of a cell makes of a table and of its file, and why it is refused.
use Rattle.std.specs.Prelude.{◌≡◌, ◌≢◌, ℕ, ◌+◌, ◌⊎◌, IsTrue, List, [], ◌∷◌, ◌++◌, length, take, All}
use Rattle.nb_host.specs.Image.{overwritten}
use Rattle.nb_host.specs.Meaning.{HostModel}
use Rattle.nb_host.specs.Page.{page_start}
use Rattle.nb_host.specs.declared.page_name.PageName.{PageName}
use Rattle.nb_host.specs.declared.page_name.TheConstants.{PAGE_SIZE}
use Rattle.nb_cache.specs.View.{CacheValue, seen}
use Rattle.nb_record.specs.declared.cell.Cell.{Cell}
use Rattle.nb_record.specs.declared.sizes.TheConstants.{CELL_SIZE}
use Rattle.nb_record.specs.Table.{IsCellTable}
use Rattle.nb_record.specs.Writing.{IsZeroPaddedFile}
use Rattle.nb_cell.specs.Chains.{first_page, StopsAt, IsLastOfChain, IsAppended}
use Rattle.nb_cell.specs.declared.table.CellTable.{CellTable}

-- the same file and bits, and a page more at most
pub record Grows (old new : CellTable) : Type 0 where
  pub file : new.file ≡ old.file
  pub bits : new.bits ≡ old.bits
  pub pages : (new.pages ≡ old.pages) ⊎ (new.pages ≡ old.pages + 1)

-- What the file holds once the cell was inserted. A table of some cells that lacks the key is the table of these and the
-- cell, which stands at the end of its key's chain. A table whose pages have zeros behind their cells stays so.
pub record HasInserted (old new : CellTable) (cell : Cell) (before now : List ℕ) : Type 0 where
  pub table : (cells : List Cell) → IsCellTable before old.bits old.pages cells → All (λ c. c.key ≢ cell.key) cells
      → IsCellTable now new.bits new.pages (cells ++ cell ∷ [])
  pub place : (cells : List Cell) → IsCellTable before old.bits old.pages cells → (page : ℕ)
      → IsLastOfChain before old.pages (first_page old.bits cell.key) page
      → IsAppended before now old.pages new.pages (first_page old.bits cell.key) page cell
  pub padded : (cells : List Cell) → IsCellTable before old.bits old.pages cells → IsZeroPaddedFile CELL_SIZE before
      → IsZeroPaddedFile CELL_SIZE now

-- one page was put behind so many pages of a file
pub record IsPageAdded (pages : ℕ) (before now : List ℕ) : Type 0 where
  pub bytes : List ℕ
  pub size : length bytes ≡ PAGE_SIZE
  pub added : now ≡ overwritten (page_start pages) bytes before

-- What a refusal leaves of the file, unless the device failed: the bytes of before, perhaps with a page behind the table's.
-- So the pages of a table are as they were.
pub record HasKept (table : CellTable) (before now : List ℕ) : Type 0 where
  pub kept : (cells : List Cell) → IsCellTable before table.bits table.pages cells → take (page_start table.pages) now ≡ before
  pub behind : (now ≡ before) ⊎ IsPageAdded table.pages before now

-- Why a page of the table's file is damaged: it is the one at which the search for the key can't go on. Then the file is a
-- table of no cells that lack the key.
pub record IsDamaged {H : Type 0} (m : HostModel H) (table : CellTable) (key : ℕ) (cache : CacheValue) (host : H) (name : PageName) : Type 0 where
  pub file : name.file ≡ table.file
  pub page : IsTrue m.tells
      → StopsAt (seen m cache host table.file) table.pages key (first_page table.bits key) name.page
  pub no_table : IsTrue m.tells → (cells : List Cell)
      → IsCellTable (seen m cache host table.file) table.bits table.pages cells → All (λ c. c.key ≢ key) cells → ⊥
