-- What a search for a key on one page answers.
use Rattle.std.specs.Prelude.{◌≡◌, ℕ, zero, suc, ◌==◌, if◌then◌else◌, ◌⊎◌, ⊤, List, Option, Some, None, Result, Ok, Err}
use Rattle.nb_record.specs.declared.answer.Look.{Look}
use Rattle.nb_record.specs.declared.answer.Look.TheVariants.{Found, Next, Wants, Gone, Bad}
use Rattle.nb_record.specs.declared.cell.Cell.{Cell}
use Rattle.nb_record.specs.declared.header.PageError.{PageError}
use Rattle.nb_record.specs.Fields.{u64_at}
use Rattle.nb_record.specs.Pages.{record_count, page_next, read_cell_page}
use Rattle.nb_record.specs.Records.{cell_record, cell_of, IsCell}

-- the index of the first of the n records from record i on that has this key
unfoldable pub find_key : ℕ → ℕ → ℕ → List ℕ → Option ℕ
find_key zero i key bytes = None
find_key (suc n) i key bytes = if u64_at 0 (cell_record i bytes) == key then Some i else find_key n (suc i) key bytes

-- the index of the first record of a page that has this key
abbrev pub index_of_key : ℕ → List ℕ → Option ℕ
index_of_key key bytes = find_key (record_count bytes) 0 key bytes

-- The page has the form. Where it has the key, its record is found, or is bad where it isn't of the form. Where it
-- lacks the key, the next page is to be looked at, or the key is gone where there is none.
abbrev pub IsLookOn : ℕ → List ℕ → Option ℕ → Look → Type 0
IsLookOn page bytes (Some i) look =
    (IsCell (cell_of (cell_record i bytes)) × (look ≡ Found (cell_of (cell_record i bytes))))
    ⊎ (¬ IsCell (cell_of (cell_record i bytes)) × (look ≡ Bad page))
IsLookOn page bytes None look = look ≡ (if page_next bytes == 0 then Gone else Next (page_next bytes))

-- a page whose header isn't of the form is bad
abbrev pub IsLookAt : ℕ → ℕ → Result (List ℕ) PageError → Look → Type 0
IsLookAt key page (Err _) look = look ≡ Bad page
IsLookAt key page (Ok bytes) look = IsLookOn page bytes (index_of_key key bytes) look

-- a page that isn't shown is wanted
abbrev pub IsLook : ℕ → ℕ → Option (List ℕ) → Look → Type 0
IsLook key page None look = look ≡ Wants page
IsLook key page (Some bytes) look = IsLookAt key page (read_cell_page page bytes) look

-- what holds of a cell that is found
abbrev pub IfFound : Look → (Cell → Type 0) → Type 0
IfFound (Found cell) P = P cell
IfFound (Next next) P = ⊤
IfFound (Wants page) P = ⊤
IfFound Gone P = ⊤
IfFound (Bad page) P = ⊤

-- what holds of a next page that is to be looked at
abbrev pub IfNext : Look → (ℕ → Type 0) → Type 0
IfNext (Found cell) P = ⊤
IfNext (Next next) P = P next
IfNext (Wants page) P = ⊤
IfNext Gone P = ⊤
IfNext (Bad page) P = ⊤
