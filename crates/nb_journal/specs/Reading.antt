-- How far a journal was read, entry by entry.
use Rattle.std.specs.Prelude.{◌≡◌, ⊤, ℕ, ◌+◌, ◌*◌, ◌/◌, ◌^◌, ◌<◌, ◌≤◌, List, length, slice_index, Result, Ok, Err}
use Rattle.nb_journal.specs.declared.entry.Entry.{Entry}
use Rattle.nb_journal.specs.declared.entry.Entry.TheVariants.{Leg, Tick}
use Rattle.nb_journal.specs.declared.error.JournalError.{JournalError}
use Rattle.nb_journal.specs.declared.error.JournalError.TheVariants.{Fault, NoMemory, Damaged}
use Rattle.nb_journal.specs.Counters.{Counters, Answers}
use Rattle.nb_journal.specs.Finding.{IsFound}
use Rattle.nb_journal.specs.Form.{Log, IsLawful, IsDamagedAt, journal_bytes}
use Rattle.nb_journal.specs.Offsets.{page_length, entries_per_page, offset_of, page_end, BeginsWith}

-- The numbers of an entry fit its fields.
abbrev pub HasFields : Entry → Type 0
HasFields (Leg target) = target < 2 ^ 64
HasFields (Tick number gone) = (number < 2 ^ 64) × (gone < 2 ^ 64)

-- The page of entry n is whole in the file, and these are its bytes.
pub record HoldsPage (n : ℕ) (file page : List ℕ) : Type 0 where
  pub whole : offset_of (page_end n) ≤ length file
  pub bytes : (i : ℕ) → i < page_length
      → slice_index page i ≡ slice_index file (offset_of (entries_per_page * (n / entries_per_page)) + i)

-- The file begins with the text of a log that has these counters.
pub record IsReadTo (file : List ℕ) (counters : Counters) : Type 0 where
  pub log : Log
  pub lawful : IsLawful log
  pub begins : BeginsWith (journal_bytes log) file
  pub answers : Answers log counters

-- what is found behind the entries that were read
abbrev pub FindsRest : List ℕ → Result Counters JournalError → Type 0
FindsRest file (Ok counters) = IsFound counters file
FindsRest file (Err (Damaged offset)) = IsDamagedAt offset file
FindsRest file (Err Fault) = ⊤
FindsRest file (Err NoMemory) = ⊤
