-- What `find` and `entry` answer, and when they refuse.
use Rattle.std.specs.Prelude.{◌≡◌, ⊤, ℕ, Bool, IsTrue, Some, List, slice_get, Result, Ok, Err}
use Rattle.nb_host.specs.declared.host.HostError.{HostError}
use Rattle.nb_host.specs.declared.host.HostError.TheVariants as host
use Rattle.nb_journal.specs.declared.error.JournalError.{JournalError}
use Rattle.nb_journal.specs.declared.error.JournalError.TheVariants as journal
use Rattle.nb_journal.specs.declared.finding.Opened.{Opened}
use Rattle.nb_journal.specs.declared.finding.Opened.TheVariants.{Fresh, Made}
use Rattle.nb_journal.specs.Counters.{Counters, Answers}
use Rattle.nb_journal.specs.declared.entry.Entry.{Entry}
use Rattle.nb_journal.specs.Form.{Log, IsFresh, IsJournal, IsDamagedAt}
use Rattle.nb_journal.specs.Offsets.{offset_of}

-- a host's refusal, as a reader of the journal hands it on
abbrev pub of_host : HostError → JournalError
of_host host.Fault = journal.Fault
of_host host.NoMemory = journal.NoMemory

-- the counters are those of a log whose journal the file is
pub record IsFound (counters : Counters) (file : List ℕ) : Type 0 where
  pub log : Log
  pub journal : IsJournal log file
  pub answers : Answers log counters

-- What `find` answers of a file: nothing is said of it where the host refused.
abbrev pub Finds : List ℕ → Result Opened JournalError → Type 0
Finds file (Ok Fresh) = IsFresh file
Finds file (Ok (Made counters)) = IsFound counters file
Finds file (Err (journal.Damaged offset)) = IsDamagedAt offset file
Finds file (Err journal.Fault) = ⊤
Finds file (Err journal.NoMemory) = ⊤

-- What `entry` answers of a file whose journal is a log: the log's entry.
abbrev pub IsEntryAt : ℕ → Counters → List ℕ → Entry → Type 0
IsEntryAt index counters file entry = (log : Log) → Answers log counters → IsJournal log file
    → slice_get log.entries index ≡ Some entry

-- Why it refuses an entry at this offset: the file isn't a journal with these counters.
pub record LacksEntry (index : ℕ) (counters : Counters) (offset : ℕ) (tells : Bool) (file : List ℕ) : Type 0 where
  pub here : offset ≡ offset_of index
  pub cause : IsTrue tells → IsFound counters file → ⊥
