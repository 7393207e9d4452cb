-- What the calls that write the journal make of its file, what they need of it, and what they do to each image.
use Rattle.std.specs.Prelude.{◌≡◌, ℕ, ◌+◌, ◌-◌, ◌%◌, ◌<◌, ◌≤◌, ◌⊎◌, ◌==◌, max, nat_lt, if◌then◌else◌, List, [], ◌∷◌, ◌++◌, length, drop, replicate, slice_index}
use Rattle.nb_host.specs.Crashes.{AgreesOutside}
use Rattle.nb_host.specs.Image.{Image, overwritten}
use Rattle.nb_host.specs.Meaning.{HostModel, FileIs}
use Rattle.nb_journal.specs.declared.entry.Entry.{Entry}
use Rattle.nb_journal.specs.Form.{Log, header, entry_bytes, IsFresh, IsCleanJournal, with_entry}
use Rattle.nb_journal.specs.Offsets.{journal_file, page_length, entries_per_page, entry_gate, offset_of, page_end, IsZeros}

-- What they make of the file.

-- how often what `prepare` cuts off is synced: once, where the file is longer than the header
abbrev pub syncs_of_cut : List ℕ → ℕ
syncs_of_cut file = if nat_lt page_length (length file) then 1 else 0

-- what `prepare` lays down: the header behind a shut gate, and zeros on the first page of entries
abbrev pub prepared : Log → List ℕ
prepared log = header 0 log ++ replicate page_length 0

-- the file with a page of zeros behind entry n, where that is the last of its page
unfoldable pub page_begun : ℕ → List ℕ → List ℕ
page_begun n file =
    if n % entries_per_page == entries_per_page - 1 then overwritten (offset_of (n + 1)) (replicate page_length 0) file
    else file

-- the file with entry n behind its gate, which isn't written yet
abbrev pub entry_laid : ℕ → Entry → List ℕ → List ℕ
entry_laid n entry file = page_begun n (overwritten (offset_of n + 1) (drop 1 (entry_bytes entry)) file)

-- what `append` leaves: the file with entry n, and else as it was
abbrev pub entry_added : ℕ → Entry → List ℕ → List ℕ
entry_added n entry file = overwritten (offset_of n) (entry_gate ∷ []) (entry_laid n entry file)

-- A file after entry n was added, perhaps in part: only the entry changed, and the page behind it where it is the last of its
-- page.
pub record IsEntryTorn (n : ℕ) (old new : List ℕ) : Type 0 where
  pub no_shorter : length old ≤ length new
  pub no_longer : length new ≤ max (length old) (offset_of (page_end (n + 1)))
  pub before : (i : ℕ) → i < length old → i < offset_of n → slice_index new i ≡ slice_index old i
  pub page : (i : ℕ) → i < length old → offset_of (n + 1) ≤ i → i < offset_of (page_end n)
      → slice_index new i ≡ slice_index old i
  pub behind : (i : ℕ) → i < length old → offset_of (page_end (n + 1)) ≤ i → slice_index new i ≡ slice_index old i

-- What they need of it: that it is as their last call left it, since it stays so through calls that spare it (`law_kept`).

-- what reads is durable
abbrev pub IsSame : List ℕ → List ℕ → Type 0
IsSame reads image = image ≡ reads

-- Before `prepare`: no journal is started, and that is durable.
abbrev pub IsFreshNow : {H : Type 0} → HostModel H → H → Type 0
IsFreshNow m host = FileIs m journal_file IsFresh IsSame host

-- Between `prepare` and `start_gate`: what reads is laid down, and no image is started. The first page of entries may not
-- be durable yet.
abbrev pub IsPrepared : {H : Type 0} → HostModel H → Log → H → Type 0
IsPrepared m log host = FileIs m journal_file (λ reads. reads ≡ prepared log) (λ reads image. IsFresh image) host

-- Before `append`: the file is a clean journal of the log, and durable. That it is clean follows of a journal that these
-- calls wrote (`law_ready`), and not from what `find` answers.
abbrev pub IsCleanNow : {H : Type 0} → HostModel H → Log → H → Type 0
IsCleanNow m log host = FileIs m journal_file (IsCleanJournal log) IsSame host

-- What an image may be. `start` is an image when the call began, and `before` is what read then.

-- `prepare`: no journal is started.
pub record StaysFresh (start image : Image) : Type 0 where
  pub others : AgreesOutside (journal_file ∷ []) start image
  pub fresh : IsFresh (image.file journal_file)

-- The journal is that of the log, and clean. Every other file is as it read when the call began: all that was written
-- before was durable when the gate opened.
pub record IsCommitted (log : Log) (before image : Image) : Type 0 where
  pub journal : IsCleanJournal log (image.file journal_file)
  pub others : AgreesOutside (journal_file ∷ []) before image

-- `start_gate`: no journal is started, or it is that of the log, which has no entries.
pub record Starts (log : Log) (before start image : Image) : Type 0 where
  pub others : AgreesOutside (journal_file ∷ []) start image
  pub either : IsFresh (image.file journal_file) ⊎ IsCommitted log before image

-- The page behind entry n is zeros where n is the last of its page.
abbrev pub HasBegunPage : ℕ → List ℕ → Type 0
HasBegunPage n file = n % entries_per_page ≡ entries_per_page - 1 → IsZeros (offset_of (n + 1)) page_length file

-- The journal has the new entry.
pub record HasEntry (log : Log) (entry : Entry) (before image : Image) : Type 0 where
  pub opened : IsCommitted (with_entry log entry) before image
  pub page : HasBegunPage (length log.entries) (image.file journal_file)

-- `append`: the journal has the old entries and is clean, or it has the new one too.
pub record Appends (log : Log) (entry : Entry) (before start image : Image) : Type 0 where
  pub others : AgreesOutside (journal_file ∷ []) start image
  pub either : IsCleanJournal log (image.file journal_file) ⊎ HasEntry log entry before image
