-- What the commands `go` and `resume` do.
use Rattle.std.specs.Prelude.{◌≡◌, ◌≢◌, ◌⊎◌, ⊤, ℕ, ◌+◌, ◌^◌, ◌<◌, ◌≤◌, ◌==◌, if◌then◌else◌, Bool, IsTrue, List, ◌++◌, length}
use Rattle.std.specs.Int.{abs_diff}
use Rattle.nb_model.specs.declared.body.Body.{Body}
use Rattle.nb_model.specs.Leapfrog.{escaped_count}
use Rattle.nb_model.specs.Limits.{most_ticks}
use Rattle.nb_host.specs.declared.host.Channel.TheVariants as channels
use Rattle.nb_host.specs.declared.page_name.PageName.{PageName}
use Rattle.nb_host.specs.Image.{Image}
use Rattle.nb_host.specs.Meaning.{HostModel, IsDurable}
use Rattle.nb_format.specs.Snapshot.{IsFinishedSnapshot}
use Rattle.nb_journal.specs.Counters.{counters_of}
use Rattle.nb_journal.specs.Entries.{Progress}
use Rattle.nb_journal.specs.Form.{Log, IsJournal, progress_of}
use Rattle.nb_journal.specs.Offsets.{journal_file}
use Rattle.nb_tick.specs.Slots.{cell_file}
use Rattle.nb_tick.specs.State.{IsCellIndexOf}
use Rattle.nb_engine.specs.declared.refusal.Refusal.{Refusal}
use Rattle.nb_engine.specs.declared.refusal.Refusal.TheVariants as refusal
use Rattle.nb_engine.specs.declared.going.Pace.{Pace}
use Rattle.nb_engine.specs.declared.going.Done.{Done}
use Rattle.nb_engine.specs.Files.{init_file, IsPagedFile}
use Rattle.nb_engine.specs.Frame.{KeepsOutsideRun}
use Rattle.nb_engine.specs.Histories.{state_at, run_length, History, run_of, ticks_of, IsHistory, legged}
use Rattle.nb_engine.specs.Represents.{snap_of, HasDueSnapshots, RepresentsRun}
use Rattle.nb_engine.specs.Shown.{IsShowRefused}
use Rattle.nb_engine.specs.Snapshots.{FinishLeads}
use Rattle.nb_engine.specs.Steps.{lines_after, played, IsOutsideTicks, GoesOn, HasState, HoldsDueSnapshots}

-- a pace that a session can have: from 4 to 2 ^ 18 pages, and from 1 to 1024 walks at a time
pub record IsPace (pace : Pace) : Type 0 where
  pub least_pages : 4 ≤ pace.pages
  pub most_pages : pace.pages ≤ 2 ^ 18
  pub least_walks : 1 ≤ pace.walks
  pub most_walks : pace.walks ≤ 1024

-- how many ticks are left of the last leg
abbrev pub ticks_left : Progress → ℕ
ticks_left s = abs_diff s.time s.target

-- ---- where they lead

-- the history with a leg to this time, unless the run is there
abbrev pub aimed_at : ℕ → History → History
aimed_at target h = if target == (progress_of h.log).time then h else legged target h

-- the ticks from where a run is to this time
abbrev pub ticks_to : ℕ → History → ℕ
ticks_to target h = abs_diff (progress_of h.log).time target

-- So many ticks were taken from a history on, to the end of its last leg. The folder represents the history then, all
-- snapshots that are due are finished, those that were finished are as they were, as is what stands under the names of ticks
-- before and behind, the line of each tick was said, and where there was a tick the file of cells is the index of the last
-- list. The answer tells the time, the ticks and how many bodies are out. Where the run is back at the time of its begin, and
-- no body became out, the snapshot of the last tick is the initial one, byte for byte.
pub record IsLed (n : ℕ) (h : History) (before : Image) (done : Done) (image : Image) : Type 0 where
  pub is : IsHistory (played n h)
  pub represents : RepresentsRun (played n h) image
  pub ended : ticks_of (played n h) ≡ run_length (run_of (played n h))
  pub complete : HasDueSnapshots (run_of (played n h)) (ticks_of (played n h)) image
  pub kept : (j : ℕ) → j ≤ ticks_of h → IsFinishedSnapshot (length h.bodies) (before.file (snap_of j))
      → image.file (snap_of j) ≡ before.file (snap_of j)
  pub others : (j : ℕ) → IsOutsideTicks (ticks_of h) n j → image.file (snap_of j) ≡ before.file (snap_of j)
  pub said : image.said channels.Out ≡ before.said channels.Out ++ lines_after (run_of h) (ticks_of h) n
  pub cells : n ≢ 0
      → IsCellIndexOf h.log.params (state_at (run_of (played n h)) (ticks_of (played n h))) (image.file cell_file)
  pub time_is : done.time ≡ (progress_of (played n h).log).time
  pub ticks_is : done.ticks ≡ ticks_of (played n h)
  pub gone_is : done.gone ≡ escaped_count (state_at (run_of (played n h)) (ticks_of (played n h)))
  pub back : done.time ≡ h.log.begin_time → 1 ≤ done.ticks → done.gone ≡ h.log.begin_gone
      → image.file (snap_of done.ticks) ≡ image.file init_file

-- the journal allows no leg to this time: the last one isn't at its end, or the run would have too many ticks
abbrev pub IsNoLeg : ℕ → Progress → Refusal → Type 0
IsNoLeg target s why =
    ((s.time ≢ s.target) × (why ≡ refusal.LegOpen s.target s.time))
    ⊎ ((s.time ≡ s.target) × (most_ticks < s.ticks + abs_diff s.time target)
    × (why ≡ refusal.TickLimit (s.ticks + abs_diff s.time target)))

-- What a session may have changed at some moment, done or not: where there is no journal nothing, and else no file that is
-- apart, and nothing on Err.
pub record SessionLeads (old new : Image) : Type 0 where
  pub apart : KeepsOutsideRun old new
  pub idle : ((log : Log) → IsJournal log (old.file journal_file) → ⊥) → new ≡ old

-- What a session may have changed before its ticks: beside that the snapshot that is due, where there is a journal.
pub record OpenLeads (old new : Image) : Type 0 where
  pub session : SessionLeads old new
  pub snapshot : (log : Log) → IsJournal log (old.file journal_file)
      → FinishLeads log old new

-- No leg to this time is added: the journal allows none, or the run is there.
abbrev pub AddsNoLeg : ℕ → Progress → Type 0
AddsNoLeg target s = ((why : Refusal) × IsNoLeg target s why) ⊎ (target ≡ s.time)

-- What `go` may have changed: of an honest host it went on with what the folder represented, without a leg to the target, as
-- far as the snapshot that was due, or with it. Where no such leg is added, no more than the snapshot changes.
pub record GoLeads (honest : Bool) (target : ℕ) (old new : Image) : Type 0 where
  pub session : SessionLeads old new
  pub still : (log : Log) → IsJournal log (old.file journal_file) → AddsNoLeg target (progress_of log)
      → FinishLeads log old new
  pub goes : IsTrue honest → (h : History) → IsHistory h → RepresentsRun h old
      → GoesOn 0 h old new ⊎ (IsHistory (legged target h) × GoesOn (ticks_to target h) (legged target h) old new)

-- What `go` leaves where it refuses the leg: all that is durable, and what the folder represented, with each snapshot that is
-- due finished; and the count of syncs is no lower.
pub record IsBroughtUp {H : Type 0} (m : HostModel H) (old new : H) : Type 0 where
  pub durable : IsDurable m new
  pub stands : IsTrue m.tells → (h : History) → IsHistory h → RepresentsRun h (m.contents old)
      → RepresentsRun h (m.contents new) × HoldsDueSnapshots m h new
  pub synced : IsTrue m.tells → (m.tally old).syncs ≤ (m.tally new).syncs

-- What `resume` may have changed: of an honest host it went on with what the folder represented. Where the last leg is at its
-- end, no more than the snapshot that was due changes.
pub record ResumeLeads (honest : Bool) (old new : Image) : Type 0 where
  pub session : SessionLeads old new
  pub still : (log : Log) → IsJournal log (old.file journal_file) → (progress_of log).time ≡ (progress_of log).target
      → FinishLeads log old new
  pub goes : IsTrue honest → (h : History) → IsHistory h → RepresentsRun h old
      → GoesOn (ticks_left (progress_of h.log)) h old new

-- ---- when they refuse

-- The cause for which `go` refuses by what the files hold: there is no journal, or it allows no such leg. No folder has two.
abbrev pub IsGoRefused : ℕ → (ℕ → List ℕ) → Refusal → Type 0
IsGoRefused target files why =
    IsShowRefused (files journal_file) why
    ⊎ ((log : Log) × IsJournal log (files journal_file) × IsNoLeg target (progress_of log) why)

-- a refusal of a leg
abbrev pub IsOfLeg : Refusal → Type 0
IsOfLeg (refusal.LegOpen _ _) = ⊤
IsOfLeg (refusal.TickLimit _) = ⊤
IsOfLeg _ = ⊥

-- `go` can lead there, by the journal.
abbrev pub IsGoReady : ℕ → (ℕ → List ℕ) → Type 0
IsGoReady target files =
    (log : Log) × IsJournal log (files journal_file) × ((why : Refusal) → IsNoLeg target (progress_of log) why → ⊥)

-- and `resume` can
abbrev pub IsResumeReady : (ℕ → List ℕ) → Type 0
IsResumeReady files = (log : Log) × IsJournal log (files journal_file)

-- A page of a file of pages isn't what it has to be, and the slot of the last tick doesn't hold what its run needs to go on:
-- valid bodies in Morton order, as many as the journal tells, of which as many are out.
pub record IsSlotDamaged (files : ℕ → List ℕ) (why : Refusal) : Type 0 where
  pub log : Log
  pub journal : IsJournal log (files journal_file)
  pub page : PageName
  pub named : why ≡ refusal.Damaged page
  pub file : IsPagedFile page.file
  pub cause : (bodies : List Body) → HasState (counters_of log) bodies files → ⊥

-- a refusal that `go` gives, whatever the host tells
abbrev pub IsOfGo : Refusal → Type 0
IsOfGo refusal.NotStarted = ⊤
IsOfGo (refusal.LegOpen _ _) = ⊤
IsOfGo (refusal.TickLimit ticks) = ticks < 2 ^ 128
IsOfGo refusal.Device = ⊤
IsOfGo (refusal.Damaged _) = ⊤
IsOfGo refusal.NoMemory = ⊤
IsOfGo _ = ⊥

-- a refusal that `resume` gives, whatever the host tells
abbrev pub IsOfResume : Refusal → Type 0
IsOfResume refusal.NotStarted = ⊤
IsOfResume refusal.Device = ⊤
IsOfResume (refusal.Damaged _) = ⊤
IsOfResume refusal.NoMemory = ⊤
IsOfResume _ = ⊥
