-- What a journal tells, and which bytes of its file tell it: a header of one page, and behind it an entry of 32 bytes
-- for each entry. Numbers are little-endian.
use Rattle.std.specs.Prelude.{◌≡◌, ◌≢◌, ℕ, ◌+◌, ◌%◌, ◌^◌, ◌<◌, ◌≤◌, ◌⊎◌, List, [], ◌∷◌, ◌++◌, length, replicate, slice_index}
use Rattle.std.specs.Int.{w64, to_le_bytes}
use Rattle.std.specs.List.{flat_map}
use Rattle.nb_model.specs.declared.edge.Edge.{Edge}
use Rattle.nb_model.specs.declared.edge.Edge.TheVariants.{Open, Wrap}
use Rattle.nb_model.specs.declared.params.Params.{Params}
use Rattle.nb_model.specs.Limits.{most_bodies}
use Rattle.nb_model.specs.Valid.{AreInRange}
use Rattle.nb_journal.specs.declared.entry.Entry.{Entry}
use Rattle.nb_journal.specs.declared.entry.Entry.TheVariants.{Leg, Tick}
use Rattle.nb_journal.specs.Entries.{Progress, IsNextEntry, AreLawful, after_all}
use Rattle.nb_journal.specs.Offsets.{page_length, entries_per_page, started_gate, entry_gate, offset_of, page_end, BeginsWith}

-- What a journal tells: the version of its form, the run's parameters, how many bodies there are, the time at the start,
-- how many bodies were out then, and the entries.
pub record Log : Type 0 where
  pub version : ℕ
  pub params : Params
  pub count : ℕ
  pub begin_time : ℕ
  pub begin_gone : ℕ
  pub entries : List Entry

-- what it comes to before its entries
abbrev pub initial_progress : Log → Progress
initial_progress log = record { ticks = 0; time = log.begin_time; target = log.begin_time; gone = log.begin_gone }

-- what it comes to
abbrev pub progress_of : Log → Progress
progress_of log = after_all log.entries (initial_progress log)

-- the log with one more entry
abbrev pub with_entry : Log → Entry → Log
with_entry log entry = record log { entries = log.entries ++ entry ∷ [] }

-- The form has two versions. The first knows open boxes only.
abbrev pub IsVersion : ℕ → Edge → Type 0
IsVersion version edge = ((version ≡ 1) × (edge ≡ Open)) ⊎ (version ≡ 2)

pub record IsLawful (log : Log) : Type 0 where
  pub version : IsVersion log.version log.params.edge
  pub params : AreInRange log.params
  pub count : log.count ≤ most_bodies
  pub time : log.begin_time < 2 ^ 64
  pub gone : log.begin_gone ≤ log.count
  pub entries : AreLawful log.count (initial_progress log) log.entries

abbrev pub edge_code : Edge → ℕ
edge_code Open = 0
edge_code Wrap = 1

-- The header up to its last number: the gate, the form's name and version, the parameters, how many bodies there are, the
-- time at the start, how many bodies were out then, and what the border of the box does.
abbrev pub header_fields : ℕ → Log → List ℕ
header_fields gate log =
    gate ∷ 78 ∷ 66 ∷ 74 ∷ 82 ∷ 78 ∷ 76 ∷ (48 + log.version)
    ∷ (to_le_bytes w64 log.params.grav ++ to_le_bytes w64 log.params.theta_num
    ++ to_le_bytes w64 log.params.theta_den ++ to_le_bytes w64 log.params.soft
    ++ to_le_bytes w64 log.params.leaf ++ to_le_bytes w64 log.params.every
    ++ to_le_bytes w64 log.count ++ to_le_bytes w64 log.begin_time ++ to_le_bytes w64 log.begin_gone
    ++ to_le_bytes w64 (edge_code log.params.edge))

-- page 0
unfoldable pub header : ℕ → Log → List ℕ
header gate log = header_fields gate log ++ replicate 4008 0

-- an entry that counts: the gate, a letter, and two numbers
abbrev pub lettered : ℕ → ℕ → ℕ → List ℕ
lettered letter first second =
    entry_gate ∷ letter ∷ (replicate 6 0 ++ to_le_bytes w64 first ++ to_le_bytes w64 second ++ replicate 8 0)

-- an entry that counts: L for a leg, and T for a tick
abbrev pub entry_bytes : Entry → List ℕ
entry_bytes (Leg target) = lettered 76 target 0
entry_bytes (Tick number gone) = lettered 84 number gone

-- the one spelling of a log
abbrev pub journal_bytes : Log → List ℕ
journal_bytes log = header started_gate log ++ flat_map entry_bytes log.entries

-- No journal is started: the file is no longer than the header, or its gate is shut.
abbrev pub IsFresh : List ℕ → Type 0
IsFresh file = (length file ≤ page_length) ⊎ (slice_index file 0 ≢ started_gate)

-- The file is the journal of this log, and of no other (`law_one_journal`): it begins with the log's text, all pages that
-- are looked at are whole, and the next entry's gate is shut. What stands behind that gate isn't looked at.
pub record IsJournal (log : Log) (file : List ℕ) : Type 0 where
  pub lawful : IsLawful log
  pub begins : BeginsWith (journal_bytes log) file
  pub pages : offset_of (page_end (length log.entries)) ≤ length file
  pub shut : slice_index file (offset_of (length log.entries)) ≢ entry_gate

-- No gate is open from the next entry on to the end of its page.
abbrev pub HasCleanTail : Log → List ℕ → Type 0
HasCleanTail log file = (i : ℕ) → length log.entries ≤ i → i < page_end (length log.entries)
    → slice_index file (offset_of i) ≢ entry_gate

pub record IsCleanJournal (log : Log) (file : List ℕ) : Type 0 where
  pub journal : IsJournal log file
  pub clean : HasCleanTail log file

-- Why a file is damaged.

pub record IsStarted (file : List ℕ) : Type 0 where
  pub long : page_length < length file
  pub gate : slice_index file 0 ≡ started_gate

-- no lawful log's header stands on page 0
abbrev pub HasNoHeader : List ℕ → Type 0
HasNoHeader file = (log : Log) → IsLawful log → BeginsWith (journal_bytes log) file → ⊥

-- the file ends within the page that begins with entry n
pub record LacksPage (n : ℕ) (file : List ℕ) : Type 0 where
  pub first : n % entries_per_page ≡ 0
  pub short : length file < offset_of n + page_length

-- The next entry's page is whole and its gate is open, and it is no lawful next one.
pub record HasBadEntry (log : Log) (file : List ℕ) : Type 0 where
  pub page : offset_of (page_end (length log.entries)) ≤ length file
  pub gate : slice_index file (offset_of (length log.entries)) ≡ entry_gate
  pub bad : (entry : Entry) → IsNextEntry log.count (progress_of log) entry
      → BeginsWith (journal_bytes (with_entry log entry)) file → ⊥

-- Behind the text of this log stands what is wrong: a page that is looked at, since the gates before it are open, or an
-- entry.
pub record StopsBehind (log : Log) (offset : ℕ) (file : List ℕ) : Type 0 where
  pub lawful : IsLawful log
  pub begins : BeginsWith (journal_bytes log) file
  pub here : offset ≡ offset_of (length log.entries)
  pub fault : LacksPage (length log.entries) file ⊎ HasBadEntry log file

-- The file is started, and this is the offset of the first thing in it that is wrong: the header, a page that isn't whole,
-- or an entry. No file has two (`law_one_damage`), and none is a journal too (`law_not_both`).
pub record IsDamagedAt (offset : ℕ) (file : List ℕ) : Type 0 where
  pub started : IsStarted file
  pub wrong : ((offset ≡ 0) × HasNoHeader file) ⊎ ((log : Log) × StopsBehind log offset file)
