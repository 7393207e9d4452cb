-- What invocations do to a folder, one after the other, whatever becomes of each: what it holds, with all that was told on standard
-- output since no run was started, is an image.
use Rattle.std.specs.Prelude.{◌≡◌, ◌≢◌, ◌⊎◌, ⊤, ℕ, ◌<◌, ◌≤◌, List, [], ◌∷◌, ◌++◌, length, Contains}
use Rattle.nb_host.specs.declared.host.Channel.TheVariants as channels
use Rattle.nb_host.specs.Crashes.{Stays}
use Rattle.nb_host.specs.Image.{Image}
use Rattle.nb_host.specs.Meaning.{HostModel, IsDurable, Leads}
use Rattle.nb_format.specs.Snapshot.{IsFinishedSnapshot}
use Rattle.nb_journal.specs.Form.{IsFresh}
use Rattle.nb_journal.specs.Offsets.{journal_file}
use Rattle.nb_engine.specs.Acknowledged.{IsAcknowledgedUpTo}
use Rattle.nb_engine.specs.Frame.{IsOutsideRun, EachImage}
use Rattle.nb_engine.specs.Histories.{legs_in, History, ticks_of, IsHistory}
use Rattle.nb_engine.specs.Represents.{snap_of, RepresentsRun, RepresentsHistory, IsSoundImage}
use Rattle.nb_engine.specs.Start.{Start, IsStartReady, started}
use Rattle.nb_cli.specs.declared.words.Job.{Job}
use Rattle.nb_cli.specs.declared.words.Job.TheVariants as job
use Rattle.nb_cli.specs.Answer.{Yields, IsUntouched}
use Rattle.nb_cli.specs.Make.{made_start, HasMade, IsMakeReady}
use Rattle.nb_cli.specs.Demo.{IsDemoReady}
use Rattle.nb_cli.specs.Once.{once_file}

-- ---- a run that goes on

-- Two histories are of one run, from its parameters, its first bodies and the time of its begin on; the later one has these legs
-- more, and no fewer ticks.
pub record IsLater (more : List ℕ) (h later : History) : Type 0 where
  pub params : later.log.params ≡ h.log.params
  pub bodies : later.bodies ≡ h.bodies
  pub begin : later.log.begin_time ≡ h.log.begin_time
  pub legs : legs_in later.log.entries ≡ legs_in h.log.entries ++ more
  pub ticks : ticks_of h ≤ ticks_of later

-- Each finished snapshot of a run so far stays as it is, byte for byte.
abbrev pub KeepsSnapshots : History → Image → Image → Type 0
KeepsSnapshots h old new = (j : ℕ) → j ≤ ticks_of h → IsFinishedSnapshot (length h.bodies) (old.file (snap_of j))
    → new.file (snap_of j) ≡ old.file (snap_of j)

-- ---- one invocation

-- Only `go` and `resume` take ticks of a run that is there: `demo` takes those of its own.
abbrev pub TakesTicks : Job → Type 0
TakesTicks (job.Go target pace) = ⊤
TakesTicks (job.Resume pace) = ⊤
TakesTicks _ = ⊥

-- the legs that a command may add to a run that is there: `go` the one that it was asked for, or none
abbrev pub MayAdd : Job → List ℕ → Type 0
MayAdd (job.Go target pace) legs = (legs ≡ []) ⊎ (legs ≡ target ∷ [])
MayAdd _ legs = legs ≡ []

-- What became of a run that the image represented.
pub record GoesFurther (job : Job) (h : History) (old new : Image) : Type 0 where
  pub legs : List ℕ
  pub asked : MayAdd job legs
  pub later : History
  pub is : IsHistory later
  pub represents : RepresentsRun later new
  pub is_later : IsLater legs h later
  pub still : (TakesTicks job → ⊥) → ticks_of later ≡ ticks_of h
  pub kept : KeepsSnapshots h old new

-- The run that the two files spell was started, and has no leg and no tick.
pub record StartsRun (old new : Image) : Type 0 where
  pub start : Start
  pub ready : IsStartReady old.file start
  pub is : IsHistory (started start)
  pub represents : RepresentsRun (started start) new

-- The run of the bodies that `demo` makes was started, where neither of the two files held anything. It has no leg, or the one
-- that was asked for, and any number of its ticks.
pub record StartsDemo (seed count target : ℕ) (old new : Image) : Type 0 where
  pub can : IsDemoReady old.file target
  pub made : HasMade seed count new.file
  pub legs : List ℕ
  pub asked : (legs ≡ []) ⊎ (legs ≡ target ∷ [])
  pub run : History
  pub is : IsHistory run
  pub represents : RepresentsRun run new
  pub is_later : IsLater legs (started (made_start seed count)) run

-- What run a command may start where there is none: `start` that of the two files, `demo` that of the bodies that it makes.
abbrev pub MayStart : Job → Image → Image → Type 0
MayStart (job.Start pages) old new = StartsRun old new
MayStart (job.Demo seed count target pace) old new = StartsDemo seed count target old new
MayStart _ old new = ⊥

-- the files that `start` writes: the journal, the slot of tick 0, and that in which it lays down the bodies
abbrev pub start_files : List ℕ
start_files = journal_file ∷ 3 ∷ 5 ∷ []

-- A command leaves this file alone, whatever becomes of it.
abbrev pub IsLeftAlone : Job → ℕ → Type 0
IsLeftAlone (job.Start pages) number = Contains start_files number → ⊥
IsLeftAlone (job.Go target pace) number = IsOutsideRun number
IsLeftAlone (job.Resume pace) number = IsOutsideRun number
IsLeftAlone job.Show number = ⊤
IsLeftAlone (job.Once target) number = number ≢ once_file
IsLeftAlone (job.Make seed count) number = 2 ≤ number
IsLeftAlone (job.Demo seed count target pace) number = (8 ≤ number) × (number < 16)

-- The folder extends what it was by an invocation of this command.
pub record Extends (job : Job) (old new : Image) : Type 0 where
  -- a run that is there goes on, and what is finished of it stays
  pub goes : (h : History) → IsHistory h → RepresentsRun h old → GoesFurther job h old new
  -- where none is there, none is, or it is the one that was asked for
  pub starts : IsFresh (old.file journal_file) → IsFresh (new.file journal_file) ⊎ MayStart job old new
  -- files that a command has nothing to do with stay
  pub others : (number : ℕ) → IsLeftAlone job number → new.file number ≡ old.file number
  -- parameters and initial bodies are written only where there are neither
  pub inputs : (IsMakeReady old.file → ⊥) → (number : ℕ) → number ≤ 1 → new.file number ≡ old.file number
  -- what was told stays told
  pub told : (more : List ℕ) × (new.said channels.Out ≡ old.said channels.Out ++ more)

-- Up to its first sync an invocation did nothing, and from there on each image, at every moment and within each call, extends what
-- read when it began.
pub record ExtendsSince {H : Type 0} (m : HostModel H) (job : Job) (old new : H) : Type 0 where
  pub synced : H
  pub before : Leads m Stays old synced
  pub durable : IsDurable m synced
  pub since : EachImage m (Extends job (m.contents old)) synced new

-- It did so; or it did nothing, but that it may have told on Err why, and the device failed or memory is wanting.
abbrev pub ExtendsOrNot : {H : Type 0} → HostModel H → Job → H → H → ℕ → Type 0
ExtendsOrNot m job old new status = (Leads m IsUntouched old new × Yields status) ⊎ ExtendsSince m job old new

-- ---- invocations, one after the other

-- An invocation: its command, and the folder as it left it, done or refused, or as a crash left it, at any moment behind its first
-- sync. One that a crash ended before has done nothing, and isn't counted: what the crash left, an earlier invocation had left.
pub record Invocation : Type 0 where
  pub job : Job
  pub after : Image

-- Each invocation left the folder sound, and extended what the one before it had left.
abbrev pub AreInvocations : Image → List Invocation → Type 0
AreInvocations first [] = ⊤
AreInvocations first (invocation ∷ invocations) =
    IsSoundImage invocation.after × Extends invocation.job first invocation.after × AreInvocations invocation.after invocations

-- the folder as the last of them left it
abbrev pub image_after : Image → List Invocation → Image
image_after first [] = first
image_after first (invocation ∷ invocations) = image_after invocation.after invocations

-- the target that a command asks for, where it is one that leads a run to a time
abbrev pub asked_by : Job → List ℕ
asked_by (job.Go target pace) = target ∷ []
asked_by (job.Demo seed count target pace) = target ∷ []
asked_by _ = []

-- those that were asked for, in order
abbrev pub asked_for : List Invocation → List ℕ
asked_for [] = []
asked_for (invocation ∷ invocations) = asked_by invocation.job ++ asked_for invocations

-- The numbers of one list stand in the other, in this order, perhaps with others between them.
abbrev pub IsAmong : List ℕ → List ℕ → Type 0
IsAmong [] all = ⊤
IsAmong (x ∷ xs) [] = ⊥
IsAmong (x ∷ xs) (y ∷ all) = ((x ≡ y) × IsAmong xs all) ⊎ IsAmong (x ∷ xs) all

-- No run is started, and no tick was told.
pub record IsNew (image : Image) : Type 0 where
  pub fresh : IsFresh (image.file journal_file)
  pub untold : IsAcknowledgedUpTo 0 (image.said channels.Out)

-- What invocations leave of a run that one before them had left.
pub record Lasts (h : History) (old new : Image) : Type 0 where
  pub legs : List ℕ
  pub later : History
  pub is : IsHistory later
  pub represents : RepresentsHistory later new
  pub is_later : IsLater legs h later
  pub kept : KeepsSnapshots h old new

-- What an invocation starts a run of, where these are the files: `start` of the two files, and `demo` of what it makes, where it can
-- be done.
abbrev pub IsStartOf : Job → (ℕ → List ℕ) → Start → Type 0
IsStartOf (job.Start pages) files start = IsStartReady files start
IsStartOf (job.Demo seed count target pace) files start = IsDemoReady files target × (start ≡ made_start seed count)
IsStartOf _ files start = ⊥

-- One of the invocations started this run, where none was there.
pub record WasStarted (first : Image) (invocations : List Invocation) (h : History) : Type 0 where
  pub before : List Invocation
  pub invocation : Invocation
  pub behind : List Invocation
  pub are : invocations ≡ before ++ invocation ∷ behind
  pub fresh : IsFresh ((image_after first before).file journal_file)
  pub start : Start
  pub is : IsStartOf invocation.job (image_after first before).file start
  pub params : h.log.params ≡ start.params
  pub bodies : h.bodies ≡ start.bodies
  pub begin : h.log.begin_time ≡ start.time
