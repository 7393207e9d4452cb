-- Where the parts of a journal stand in its file, in bytes, and the bytes of its gates. A gate is the commit byte of a
-- write-ahead journal: what stands behind it counts once it is open. A journal is clean where no gate of an old entry is
-- open behind its last one.
use Rattle.std.specs.Prelude.{◌≡◌, ℕ, ◌+◌, ◌*◌, ◌/◌, ◌<◌, ◌≤◌, List, length, slice_index}

-- the number of the journal's file
abbrev pub journal_file : ℕ
journal_file = 2

-- The length of a page: page 0 is the header, and entries stand on the pages behind it.
abbrev pub page_length : ℕ
page_length = 4096

abbrev pub entry_length : ℕ
entry_length = 32

abbrev pub entries_per_page : ℕ
entries_per_page = 128

-- byte 0 of a file that is started, S
abbrev pub started_gate : ℕ
started_gate = 83

-- byte 0 of an entry that counts, G
abbrev pub entry_gate : ℕ
entry_gate = 71

-- where entry n stands, counted from 0
abbrev pub offset_of : ℕ → ℕ
offset_of n = page_length + entry_length * n

-- the number of the first entry behind the page of entry n
abbrev pub page_end : ℕ → ℕ
page_end n = entries_per_page * (n / entries_per_page + 1)

-- The file begins with these bytes.
pub record BeginsWith (bytes file : List ℕ) : Type 0 where
  pub whole : length bytes ≤ length file
  pub each : (i : ℕ) → i < length bytes → slice_index file i ≡ slice_index bytes i

-- In this range of the file, all of which is there, the bytes are zeros.
pub record IsZeros (from len : ℕ) (file : List ℕ) : Type 0 where
  pub whole : from + len ≤ length file
  pub each : (i : ℕ) → i < len → slice_index file (from + i) ≡ 0
