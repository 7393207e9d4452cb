-- What the writers leave of a page.
use Rattle.std.specs.Prelude.{◌≡◌, ℕ, ◌+◌, ◌-◌, ◌*◌, ◌<◌, List, drop, replicate, All}
use Rattle.nb_host.specs.declared.page_name.TheConstants.{PAGE_SIZE}
use Rattle.nb_record.specs.declared.sizes.TheConstants.{HEADER_SIZE}
use Rattle.nb_host.specs.Page.{page_of, HasPage}
use Rattle.nb_record.specs.Fields.{u64_bytes, written}
use Rattle.nb_record.specs.Pages.{record_count}

unfoldable pub zero_page : List ℕ
zero_page = replicate PAGE_SIZE 0

-- a page with this number, no record and no next page
abbrev pub empty_page : ℕ → List ℕ
empty_page page = written 0 (u64_bytes page) zero_page

-- The page with one more record of this size: the record stands behind the others, the count is one greater, and every
-- other byte is as it was.
abbrev pub with_record : ℕ → List ℕ → List ℕ → List ℕ
with_record size piece bytes =
    written 8 (u64_bytes (record_count bytes + 1)) (written (HEADER_SIZE + size * record_count bytes) piece bytes)

-- where the last of a page's records of this size ends
abbrev pub records_end : ℕ → List ℕ → ℕ
records_end size bytes = HEADER_SIZE + size * record_count bytes

-- the bytes behind the last of a page's records of this size are zeros
abbrev pub IsZeroPadded : ℕ → List ℕ → Type 0
IsZeroPadded size bytes = drop (records_end size bytes) bytes ≡ replicate (PAGE_SIZE - records_end size bytes) 0

-- each page of a file, with records of this size, is
abbrev pub IsZeroPaddedFile : ℕ → List ℕ → Type 0
IsZeroPaddedFile size file = (p : ℕ) → HasPage file p → IsZeroPadded size (page_of file p)

-- each number of a list is a byte
abbrev pub AreBytes : List ℕ → Type 0
AreBytes bytes = All (λ byte. byte < 256) bytes
