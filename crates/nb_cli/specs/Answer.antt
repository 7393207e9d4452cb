-- What the program's one call answers.
use Rattle.std.specs.Prelude.{◌≡◌, ◌≢◌, ◌⊎◌, ⊤, ℕ, ◌+◌, ◌^◌, ◌<◌, ◌≤◌, Bool, IsTrue, IsOk, Result, Ok, Err, List, [], ◌∷◌, ◌++◌, length, Contains}
use Rattle.nb_model.specs.Leapfrog.{escaped_count}
use Rattle.nb_host.specs.declared.host.Channel.TheVariants as channels
use Rattle.nb_host.specs.declared.host.HostError.{HostError}
use Rattle.nb_host.specs.Crashes.{Stays}
use Rattle.nb_host.specs.Image.{Image}
use Rattle.nb_host.specs.Meaning.{HostModel, Leads, RanSaying, HaltedAtFault, IsDurable}
use Rattle.nb_format.specs.Lines.{once_line}
use Rattle.nb_format.specs.Snapshot.{IsSnapshot, IsFinishedSnapshot}
use Rattle.nb_journal.specs.Form.{Log, IsJournal, progress_of}
use Rattle.nb_journal.specs.Offsets.{journal_file}
use Rattle.nb_engine.specs.declared.refusal.Refusal.{Refusal}
use Rattle.nb_engine.specs.declared.refusal.Refusal.TheVariants as refusal
use Rattle.nb_engine.specs.Due.{IsLastDue}
use Rattle.nb_engine.specs.Refusal.{of_host, NeedsNoCause}
use Rattle.nb_engine.specs.Represents.{snap_of}
use Rattle.nb_engine.specs.Sessions.{GoLeads, ResumeLeads, IsBroughtUp, IsGoRefused, IsOfLeg, IsGoReady, IsResumeReady, IsSlotDamaged}
use Rattle.nb_engine.specs.Shown.{IsShowRefused}
use Rattle.nb_engine.specs.Steps.{SaidPrefixOf}
use Rattle.nb_cli.specs.declared.stop.Stop.{Stop}
use Rattle.nb_cli.specs.declared.stop.Stop.TheVariants as stop
use Rattle.nb_cli.specs.declared.words.Job.{Job}
use Rattle.nb_cli.specs.declared.words.Job.TheVariants as job
use Rattle.nb_cli.specs.Words.{IsJob, IsNoCommand}
use Rattle.nb_cli.specs.Stop.{stop_status, stop_line, IsWithoutCause}
use Rattle.nb_engine.specs.Snapshots.{snapshot_files}
use Rattle.nb_engine.specs.Start.{Start, IsStartReady, IsStartRefused, StartLeads}
use Rattle.nb_cli.specs.Once.{once_file, once_ticks, list_at, IsOnceReady, IsOnceRefused}
use Rattle.nb_cli.specs.Show.{show_text}
use Rattle.nb_cli.specs.Make.{IsMakeReady, IsMakeRefused, IsMakeDone, IsMakePartlyDone, make_syncs}
use Rattle.nb_cli.specs.Telling.{IsStartDone, IsGoDone, IsResumeDone, IsDoneThenSaid, LeadsThenSays}
use Rattle.nb_cli.specs.Demo.{IsDemoReady, IsDemoRefused, IsDemoDone, IsDemoPartlyDone}

-- the statuses of the program: 0 where the command was done, 1 where the words are none, and those of the refusals
abbrev pub statuses : List ℕ
statuses = 0 ∷ 1 ∷ 2 ∷ 3 ∷ 4 ∷ 5 ∷ 6 ∷ 7 ∷ 8 ∷ 9 ∷ 10 ∷ 11 ∷ 12 ∷ 13 ∷ []

-- The status is one of the two to which each status that has a cause yields: that of a fault of the device, 11, and that of
-- want of memory, 13.
abbrev pub Yields : ℕ → Type 0
Yields status = (status ≡ 11) ⊎ (status ≡ 13)

-- The status comes exactly where its cause holds.
pub record ComesWhere (expected status : ℕ) (Cause : Type 0) : Type 0 where
  pub only : status ≡ expected → Cause
  pub always : Cause → (status ≡ expected) ⊎ Yields status

-- A command can be done, by what the files hold: `start` where none was done and the files spell a start, `go` and `resume` by
-- the journal, `once` from a start, `show` of a journal, `make` where its two files are empty, and `demo` where they are, no run
-- is started and the target isn't too far away.
abbrev pub IsJobReady : (ℕ → List ℕ) → Job → Type 0
IsJobReady files (job.Start pages) = (start : Start) × IsStartReady files start
IsJobReady files (job.Go target pace) = IsGoReady target files
IsJobReady files (job.Resume pace) = IsResumeReady files
IsJobReady files (job.Once target) = (start : Start) × IsOnceReady files target start
IsJobReady files job.Show = (log : Log) × IsJournal log (files journal_file)
IsJobReady files (job.Make seed count) = IsMakeReady files
IsJobReady files (job.Demo seed count target pace) = IsDemoReady files target

-- The cause for which a command refuses by what its files hold.
abbrev pub IsJobRefused : (ℕ → List ℕ) → Job → Refusal → Type 0
IsJobRefused files (job.Start pages) why = IsStartRefused files why
IsJobRefused files (job.Go target pace) why = IsGoRefused target files why
IsJobRefused files (job.Resume pace) why = IsShowRefused (files journal_file) why
IsJobRefused files (job.Once target) why = IsOnceRefused files target why
IsJobRefused files job.Show why = IsShowRefused (files journal_file) why
IsJobRefused files (job.Make seed count) why = IsMakeRefused files why
IsJobRefused files (job.Demo seed count target pace) why = IsDemoRefused files target why

-- Why a command that can be done may still refuse, by what its files hold: the slot of the last tick is spoilt.
abbrev pub IsJobDamaged : (ℕ → List ℕ) → Job → Refusal → Type 0
IsJobDamaged files (job.Go target pace) why = IsSlotDamaged files why
IsJobDamaged files (job.Resume pace) why = IsSlotDamaged files why
IsJobDamaged files _ why = ⊥

-- The cause for which the program isn't done, by what the words are and what the files hold. At most one holds.
abbrev pub HasCause : List (List ℕ) → (ℕ → List ℕ) → Stop → Type 0
HasCause words files why =
    ((why ≡ stop.Words) × IsNoCommand words)
    ⊎ ((job : Job) × (refusal : Refusal) × (why ≡ stop.Refused refusal) × IsJob words job × IsJobRefused files job refusal)

-- A cause of this status holds.
abbrev pub HasCauseOf : List (List ℕ) → (ℕ → List ℕ) → ℕ → Type 0
HasCauseOf words files status = (why : Stop) × HasCause words files why × (stop_status why ≡ status)

-- The program isn't done, since a slot is spoilt.
abbrev pub HasDamage : List (List ℕ) → (ℕ → List ℕ) → Stop → Type 0
HasDamage words files why =
    (job : Job) × (refusal : Refusal) × (why ≡ stop.Refused refusal) × IsJob words job × IsJobDamaged files job refusal

-- A spoilt slot gives this status.
abbrev pub IsDamagedBy : List (List ℕ) → (ℕ → List ℕ) → ℕ → Type 0
IsDamagedBy words files status = (why : Stop) × HasDamage words files why × (stop_status why ≡ status)

-- The status comes where its cause holds, unless a slot is spoilt, and only where it does or a slot is.
pub record ComesByCause (words : List (List ℕ)) (files : ℕ → List ℕ) (expected status : ℕ) : Type 0 where
  pub only : status ≡ expected → HasCauseOf words files expected ⊎ IsDamagedBy words files expected
  pub always : HasCauseOf words files expected → (status ≡ expected) ⊎ Yields status ⊎ IsDamagedBy words files status

-- `once` is done: its file is the snapshot of the list at the target, its line was said, and nothing else changed.
pub record IsOnceDone (target : ℕ) (start : Start) (old new : Image) : Type 0 where
  pub snapshot : IsSnapshot (new.file once_file) (list_at target start) target
  pub others : (number : ℕ) → number ≢ once_file → new.file number ≡ old.file number
  pub out : new.said channels.Out ≡ old.said channels.Out ++ once_line target (once_ticks target start) (escaped_count (list_at target start))
  pub err : new.said channels.Err ≡ old.said channels.Err

-- What `once` may have changed at some moment, done or not: its own file, and a front of its line on Out, of which nothing
-- is said before the file is the snapshot.
pub record IsOncePartlyDone (target : ℕ) (start : Start) (old new : Image) : Type 0 where
  pub others : (number : ℕ) → number ≢ once_file → new.file number ≡ old.file number
  pub out : SaidPrefixOf (once_line target (once_ticks target start) (escaped_count (list_at target start))) (old.said channels.Out) (new.said channels.Out)
  pub said_last : (new.said channels.Out ≡ old.said channels.Out) ⊎ IsSnapshot (new.file once_file) (list_at target start) target

-- `show` is done: the journal's text was said, and nothing else changed.
pub record IsShowDone (log : Log) (old new : Image) : Type 0 where
  pub files : new.file ≡ old.file
  pub out : new.said channels.Out ≡ old.said channels.Out ++ show_text log
  pub err : new.said channels.Err ≡ old.said channels.Err

-- What `show` may have changed at some moment, done or not: no file, and a front of its text on Out.
pub record IsShowPartlyDone (log : Log) (old new : Image) : Type 0 where
  pub files : new.file ≡ old.file
  pub out : SaidPrefixOf (show_text log) (old.said channels.Out) (new.said channels.Out)

-- ---- all commands

-- A command is done. What `start`, `go`, `resume` and `demo` may change is said of an honest host in full.
abbrev pub IsJobDone : Bool → Job → Image → Image → Type 0
IsJobDone honest (job.Start pages) old new = IsDoneThenSaid (StartLeads honest) IsStartDone old new
IsJobDone honest (job.Go target pace) old new = IsDoneThenSaid (GoLeads honest target) (IsGoDone target) old new
IsJobDone honest (job.Resume pace) old new = IsDoneThenSaid (ResumeLeads honest) IsResumeDone old new
IsJobDone honest (job.Once target) old new = (start : Start) × IsOnceReady old.file target start × IsOnceDone target start old new
IsJobDone honest job.Show old new = (log : Log) × IsJournal log (old.file journal_file) × IsShowDone log old new
IsJobDone honest (job.Make seed count) old new = IsMakeDone seed count old new
IsJobDone honest (job.Demo seed count target pace) old new = IsDemoDone honest seed count target old new

-- What a command, where the files were these, may have changed at some moment, done or not.
abbrev pub IsJobPartlyDone : Bool → (ℕ → List ℕ) → Job → Image → Image → Type 0
IsJobPartlyDone honest files (job.Start pages) old new = LeadsThenSays (StartLeads honest) IsStartDone old new
IsJobPartlyDone honest files (job.Go target pace) old new = LeadsThenSays (GoLeads honest target) (IsGoDone target) old new
IsJobPartlyDone honest files (job.Resume pace) old new = LeadsThenSays (ResumeLeads honest) IsResumeDone old new
IsJobPartlyDone honest files (job.Once target) old new = (start : Start) × IsOnceReady files target start × IsOncePartlyDone target start old new
IsJobPartlyDone honest files job.Show old new = (log : Log) × IsJournal log (files journal_file) × IsShowPartlyDone log old new
IsJobPartlyDone honest files (job.Make seed count) old new = IsMakePartlyDone seed count old new
IsJobPartlyDone honest files (job.Demo seed count target pace) old new = IsDemoPartlyDone honest seed count target old new

-- Nothing changed but what was said on Err.
pub record IsUntouched (old new : Image) : Type 0 where
  pub files : new.file ≡ old.file
  pub out : new.said channels.Out ≡ old.said channels.Out

-- No file changed but these, and nothing was said on Out.
pub record KeepsAllBut (files : List ℕ) (old new : Image) : Type 0 where
  pub others : (number : ℕ) → (Contains files number → ⊥) → new.file number ≡ old.file number
  pub out : new.said channels.Out ≡ old.said channels.Out

-- No file changed but those that the snapshot of the last tick takes, and none where it wasn't due, or was finished.
pub record IsLeftFinishing (log : Log) (old new : Image) : Type 0 where
  pub others : KeepsAllBut (snapshot_files (progress_of log).ticks) old new
  pub due : (IsLastDue log → ⊥) → IsUntouched old new
  pub finished : IsFinishedSnapshot log.count (old.file (snap_of (progress_of log).ticks)) → IsUntouched old new

-- What a refusal by a cause leaves: all as it was; but `go` may have finished the snapshot that was due, or begun it.
abbrev pub IsLeftSo : Job → Image → Image → Type 0
IsLeftSo (job.Go target pace) old new =
    IsUntouched old new ⊎ ((log : Log) × IsJournal log (old.file journal_file) × IsLeftFinishing log old new)
IsLeftSo _ old new = IsUntouched old new

-- The same of the program: where the words are none nothing was done.
abbrev pub LeavesAll : List (List ℕ) → Image → Image → Type 0
LeavesAll words old new = IsUntouched old new ⊎ ((job : Job) × IsJob words job × IsLeftSo job old new)

-- What the program may have changed at some moment, where its words and the files were these: nothing, or what the command
-- may.
abbrev pub Touches : Bool → List (List ℕ) → (ℕ → List ℕ) → Image → Image → Type 0
Touches honest words files old new =
    IsUntouched old new ⊎ ((job : Job) × IsJob words job × IsJobPartlyDone honest files job old new)

-- What a command may have changed at some moment, where the files were these. It says nothing on Err.
pub record JobTouches (honest : Bool) (files : ℕ → List ℕ) (job : Job) (old new : Image) : Type 0 where
  pub touches : (new ≡ old) ⊎ IsJobPartlyDone honest files job old new
  pub err : new.said channels.Err ≡ old.said channels.Err

-- What an invocation may have changed at some moment. It says nothing on Err.
pub record CallTouches (honest : Bool) (words : List (List ℕ)) (files : ℕ → List ℕ) (old new : Image) : Type 0 where
  pub touches : Touches honest words files old new
  pub err : new.said channels.Err ≡ old.said channels.Err

-- How often `once` syncs, where it is done: behind the cut of its file, and twice each for the snapshot's begin and end.
abbrev pub once_syncs : ℕ
once_syncs = 5

-- How often the program syncs where a command is done.
pub data Syncs : Type 0 where
  -- so often
  exactly : ℕ → Syncs
  -- At least once: what each sync is for stands in what a crash may leave. A refusal by a cause comes behind the first.
  of_begin : Syncs
  -- The same of a command that leads a run which is there: it may have synced a snapshot before it refuses a leg, and where a
  -- page of bodies is damaged that it has read, it isn't said.
  of_run : Syncs

-- It syncs once before a command, so that what it reads is durable, and as often as the command does.
abbrev pub job_syncs : Job → Syncs
job_syncs (job.Start _) = of_begin
job_syncs (job.Go _ _) = of_run
job_syncs (job.Resume _) = of_run
job_syncs (job.Once _) = exactly (once_syncs + 1)
job_syncs job.Show = exactly 1
job_syncs (job.Make _ _) = exactly (make_syncs + 1)
job_syncs (job.Demo _ _ _ _) = of_begin

-- How often a command syncs that ends so, before and behind: the first sync alone where it can't be done, and, where that is said, at
-- most all where the device failed or memory is wanting.
abbrev pub SyncsJob : Syncs → Result (Unit {0}) Refusal → ℕ → ℕ → Type 0
SyncsJob (exactly syncs) (Ok _) before behind = behind ≡ before + syncs
SyncsJob (exactly syncs) (Err refusal.Device) before behind = behind ≤ before + syncs
SyncsJob (exactly syncs) (Err refusal.NoMemory) before behind = behind ≤ before + syncs
SyncsJob (exactly syncs) (Err why) before behind = behind ≡ before + 1
SyncsJob of_begin (Ok _) before behind = before + 1 ≤ behind
SyncsJob of_begin (Err refusal.Device) before behind = ⊤
SyncsJob of_begin (Err refusal.NoMemory) before behind = ⊤
SyncsJob of_begin (Err why) before behind = behind ≡ before + 1
SyncsJob of_run (Ok _) before behind = before + 1 ≤ behind
SyncsJob of_run (Err refusal.Device) before behind = ⊤
SyncsJob of_run (Err refusal.NoMemory) before behind = ⊤
SyncsJob of_run (Err (refusal.LegOpen _ _)) before behind = before + 1 ≤ behind
SyncsJob of_run (Err (refusal.TickLimit _)) before behind = before + 1 ≤ behind
SyncsJob of_run (Err (refusal.Damaged page)) before behind = page.file ≡ journal_file → behind ≡ before + 1
SyncsJob of_run (Err why) before behind = behind ≡ before + 1

-- What a command owes to the counts. Device stands for a fault: it comes where the command came to an end at one, and every other
-- answer where there was none. No say on Err was refused, and where it is done none at all.
pub record CountsJob {H : Type 0} (m : HostModel H) (all : Syncs) (old new : H) (result : Result (Unit {0}) Refusal) : Type 0 where
  pub count : m.faults old ≤ m.faults new
  pub rose : result ≡ Err refusal.Device → HaltedAtFault m old new
  pub spared : result ≢ Err refusal.Device → m.faults new ≡ m.faults old
  pub refused : IsTrue m.tells
      → (m.tally new).refused_says channels.Err ≡ (m.tally old).refused_says channels.Err
  pub heard : IsTrue m.tells → IsOk result
      → (m.tally new).refused_says channels.Out ≡ (m.tally old).refused_says channels.Out
  pub syncs : IsTrue m.tells → SyncsJob all result (m.tally old).syncs (m.tally new).syncs

-- The same of the program: where the words are no command, or memory is wanting to read them, no call was made at all.
abbrev pub CountsWords : {H : Type 0} → HostModel H → List (List ℕ) → H → H → Result (Unit {0}) Stop → Type 0
CountsWords m words old new (Ok _) = (job : Job) × IsJob words job × CountsJob m (job_syncs job) old new (Ok tt)
CountsWords m words old new (Err stop.Words) = new ≡ old
CountsWords m words old new (Err (stop.Refused why)) =
    ((why ≡ refusal.NoMemory) × (new ≡ old))
    ⊎ ((job : Job) × IsJob words job × CountsJob m (job_syncs job) old new (Err why))

-- The invocation began with a sync: nothing was done before what reads was durable.
pub record HasBegun {H : Type 0} (m : HostModel H) (words : List (List ℕ)) (old new : H) : Type 0 where
  pub synced : H
  pub before : Leads m Stays old synced
  pub durable : IsDurable m synced
  pub since : Leads m (CallTouches m.crashes.is_honest words (m.contents old).file) synced new

-- The same of a command.
pub record JobBegins {H : Type 0} (m : HostModel H) (job : Job) (old new : H) : Type 0 where
  pub synced : H
  pub before : Leads m Stays old synced
  pub durable : IsDurable m synced
  pub since : Leads m (JobTouches m.crashes.is_honest (m.contents old).file job) synced new

-- It did; or nothing was done at all, and the device failed or memory is wanting.
abbrev pub JobBeginsOrNot : {H : Type 0} → HostModel H → Job → H → H → Refusal → Type 0
JobBeginsOrNot m job old new why = (Leads m Stays old new × NeedsNoCause why) ⊎ JobBegins m job old new

-- The same of the program, where nothing was done also where the words are no command.
abbrev pub HasBegunOrNot : {H : Type 0} → HostModel H → List (List ℕ) → H → H → Stop → Type 0
HasBegunOrNot m words old new why =
    (Leads m Stays old new × ((why ≡ stop.Words) ⊎ IsWithoutCause why)) ⊎ HasBegun m words old new

-- The command was done: what it did is durable, and no fault was met.
pub record HasDone {H : Type 0} (m : HostModel H) (words : List (List ℕ)) (old new : H) : Type 0 where
  pub done : IsTrue m.tells → (job : Job) × IsJob words job × IsJobDone m.crashes.is_honest job (m.contents old) (m.contents new)
  pub durable : IsDurable m new
  pub begun : HasBegun m words old new
  pub counts : CountsWords m words old new (Ok tt)

-- the status, once its line was said on Err, or wasn't: a device fault, damage and want of memory stay what they are
abbrev pub status_after : Stop → Result (Unit {0}) HostError → ℕ
status_after why (Ok _) = stop_status why
status_after (stop.Refused refusal.Device) (Err _) = stop_status (stop.Refused refusal.Device)
status_after (stop.Refused (refusal.Damaged page)) (Err _) = stop_status (stop.Refused (refusal.Damaged page))
status_after (stop.Refused refusal.NoMemory) (Err _) = stop_status (stop.Refused refusal.NoMemory)
status_after why (Err error) = stop_status (stop.Refused (of_host error))

-- A refusal was told: its line was said on Err, by one call, and this is the status.
pub record WasReported {H : Type 0} (m : HostModel H) (why : Stop) (old new : H) (status : ℕ) : Type 0 where
  pub answer : Result (Unit {0}) HostError
  pub spoke : RanSaying m channels.Err (stop_line why) old new answer
  pub status_is : status ≡ status_after why answer

-- Where `go` refuses a leg, each snapshot that is due is finished.
abbrev pub BringsUp : {H : Type 0} → HostModel H → Job → H → H → Refusal → Type 0
BringsUp m (job.Go target pace) old new why = IsOfLeg why → IsBroughtUp m old new
BringsUp m _ old new why = ⊤

-- The same of the program.
abbrev pub BringsUpWords : {H : Type 0} → HostModel H → List (List ℕ) → H → H → Stop → Type 0
BringsUpWords m words old new why = (job : Job) (refusal : Refusal) → IsJob words job → why ≡ stop.Refused refusal
    → BringsUp m job old new refusal

-- The program was refused so: it ended for a cause, or with a device fault or want of memory, and where `go` refused a leg,
-- each snapshot that is due is finished; and then nothing was done but that this was told.
pub record WasRefused {H : Type 0} (m : HostModel H) (words : List (List ℕ)) (old new : H) (status : ℕ) : Type 0 where
  pub why : Stop
  pub ended : H
  pub cause : IsTrue m.tells → HasCause words (m.contents old).file why ⊎ HasDamage words (m.contents old).file why ⊎ IsWithoutCause why
  pub run : HasBegunOrNot m words old ended why
  pub brought : BringsUpWords m words old ended why
  pub counts : CountsWords m words old ended (Err why)
  pub told : WasReported m why ended new status
