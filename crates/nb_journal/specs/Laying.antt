-- How an entry is laid behind its gate, before the gate opens.
use Rattle.std.specs.Prelude.{◌≡◌, ℕ, ◌+◌, ◌<◌, ◌≤◌, max, List, length, slice_index}
use Rattle.nb_host.specs.Image.{Image, FileBecomes}
use Rattle.nb_journal.specs.declared.entry.Entry.{Entry}
use Rattle.nb_journal.specs.Form.{entry_bytes}
use Rattle.nb_journal.specs.Images.{HasBegunPage}
use Rattle.nb_journal.specs.Offsets.{journal_file, entry_length, offset_of, page_end}

-- Before the gate of entry n is written, the file may change behind that gate, within the entry, and on the page behind the
-- entry's, where it is the last of its page.
pub record KeepsCommitted (n : ℕ) (old new : List ℕ) : Type 0 where
  pub no_shorter : length old ≤ length new
  pub below : (i : ℕ) → i < length old → i ≤ offset_of n → slice_index new i ≡ slice_index old i
  pub above : (i : ℕ) → i < length old → offset_of (n + 1) ≤ i → i < offset_of (page_end n)
      → slice_index new i ≡ slice_index old i
  pub no_longer : length new ≤ max (length old) (offset_of (page_end (n + 1)))
  pub behind : (i : ℕ) → i < length old → offset_of (page_end (n + 1)) ≤ i → slice_index new i ≡ slice_index old i

abbrev pub Lays : ℕ → Image → Image → Type 0
Lays n = FileBecomes journal_file (KeepsCommitted n)

-- Entry n stands behind its gate, and the page behind it is zeros where it is the last of its page.
pub record IsEntryWritten (n : ℕ) (entry : Entry) (file : List ℕ) : Type 0 where
  pub slot : (i : ℕ) → 1 ≤ i → i < entry_length
      → slice_index file (offset_of n + i) ≡ slice_index (entry_bytes entry) i
  pub page : HasBegunPage n file
