-- The form of a page's header: 32 bytes, and behind them the records.
--
--   0 to 7    the page's own number
--   8 to 15   the count of records
--   16 to 23  the number of the next page, greater than the page's own, or 0 for none; on a page of bodies 0
--   24 to 31  zeros
use Rattle.std.specs.Prelude.{◌≡◌, ◌≢◌, ℕ, ◌<◌, ◌≤◌, ◌==◌, nat_lt, nat_le, Bool, not, ◌||◌, if◌then◌else◌, List, Result, Ok, Err}
use Rattle.nb_record.specs.declared.header.PageError.{PageError}
use Rattle.nb_record.specs.declared.header.PageError.TheVariants.{Number, Count, Next}
use Rattle.nb_record.specs.declared.sizes.TheConstants.{BODIES_PER_PAGE, CELLS_PER_PAGE}
use Rattle.nb_record.specs.Fields.{u64_at}

abbrev pub page_number : List ℕ → ℕ
page_number bytes = u64_at 0 bytes

abbrev pub record_count : List ℕ → ℕ
record_count bytes = u64_at 8 bytes

abbrev pub page_next : List ℕ → ℕ
page_next bytes = u64_at 16 bytes

-- whether a page may have this next page
abbrev pub is_next : ℕ → ℕ → Bool
is_next page next = (next == 0) || nat_lt page next

-- What a check of a page of cells answers: the page, or the first field of the header that isn't of the form.
abbrev pub read_cell_page : ℕ → List ℕ → Result (List ℕ) PageError
read_cell_page page bytes =
    if not (page_number bytes == page) then Err Number
    else (if not (nat_le (record_count bytes) CELLS_PER_PAGE) then Err Count
    else (if not (is_next page (page_next bytes)) then Err Next
    else (if not (u64_at 24 bytes == 0) then Err Next else Ok bytes)))

-- the same for a page of bodies, which has no next page
abbrev pub read_body_page : ℕ → List ℕ → Result (List ℕ) PageError
read_body_page page bytes =
    if not (page_number bytes == page) then Err Number
    else (if not (nat_le (record_count bytes) BODIES_PER_PAGE) then Err Count
    else (if not (page_next bytes == 0) then Err Next
    else (if not (u64_at 24 bytes == 0) then Err Next else Ok bytes)))

-- the header of a page of cells with this number is of the form
pub record IsCellPage (page : ℕ) (bytes : List ℕ) : Type 0 where
  pub number : page_number bytes ≡ page
  pub count : record_count bytes ≤ CELLS_PER_PAGE
  pub next : page_next bytes ≢ 0 → page < page_next bytes
  pub zeros : u64_at 24 bytes ≡ 0

-- the header of a page of bodies with this number is of the form
pub record IsBodyPage (page : ℕ) (bytes : List ℕ) : Type 0 where
  pub number : page_number bytes ≡ page
  pub count : record_count bytes ≤ BODIES_PER_PAGE
  pub next : page_next bytes ≡ 0
  pub zeros : u64_at 24 bytes ≡ 0
