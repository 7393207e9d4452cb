-- The command `demo`: parameters and bodies are made of a seed, and a run of them is started and led to a time.
use Rattle.std.specs.Prelude.{◌≡◌, ◌⊎◌, ⊤, ℕ, ◌+◌, ◌<◌, ◌≤◌, Bool, IsTrue, sum_by, List, ◌++◌}
use Rattle.nb_host.specs.declared.host.Channel.TheVariants as channels
use Rattle.nb_host.specs.declared.page_name.PageName.{PageName}
use Rattle.nb_host.specs.Image.{Image, Says}
use Rattle.nb_host.specs.Meaning.{HostModel}
use Rattle.nb_model.specs.declared.body.Body.{Body}
use Rattle.nb_model.specs.Leapfrog.{escaped_count}
use Rattle.nb_model.specs.Limits.{most_ticks}
use Rattle.nb_format.specs.Lines.{started_line, done_line, demo_line}
use Rattle.nb_format.specs.declared.snap_error.SnapError.{SnapError}
use Rattle.nb_format.specs.declared.snap_error.SnapError.TheVariants as snap
use Rattle.nb_journal.specs.Form.{Log, IsFresh, IsJournal, IsDamagedAt}
use Rattle.nb_journal.specs.Offsets.{journal_file}
use Rattle.nb_engine.specs.declared.refusal.Refusal.{Refusal}
use Rattle.nb_engine.specs.declared.refusal.Refusal.TheVariants as refusal
use Rattle.nb_engine.specs.Files.{params_file, init_file}
use Rattle.nb_engine.specs.Histories.{History, run_of}
use Rattle.nb_engine.specs.Refusal.{damaged_journal}
use Rattle.nb_engine.specs.Represents.{RepresentsRun}
use Rattle.nb_engine.specs.declared.going.Done.{Done}
use Rattle.nb_engine.specs.Sessions.{aimed_at, IsLed, GoLeads}
use Rattle.nb_engine.specs.Start.{started, StartLeads}
use Rattle.nb_engine.specs.Steps.{SaidPrefixOf, lines_after, played}
use Rattle.nb_cli.specs.Once.{list_at}
use Rattle.nb_cli.specs.Make.{made_start, IsMakeReady, IsMakeRefused, IsMadeFrom, IsMaking, HasMade}
use Rattle.nb_cli.specs.Telling.{IsStartDone, IsGoDone, IsDoneThenSaid, LeadsThenSays, SaysPrefix}

-- ---- when it can be done

-- `demo` can be done: no run is started, neither of the two files holds anything, and the target isn't too far away.
pub record IsDemoReady (files : ℕ → List ℕ) (target : ℕ) : Type 0 where
  pub fresh : IsFresh (files journal_file)
  pub can : IsMakeReady files
  pub few : target ≤ most_ticks

-- The first cause, in this order, for which it can't be: a run is started; the journal is damaged; one of the two files holds
-- something; the target is too far away.
abbrev pub IsDemoRefused : (ℕ → List ℕ) → ℕ → Refusal → Type 0
IsDemoRefused files target why =
    ((why ≡ refusal.Started) × ((log : Log) × IsJournal log (files journal_file)))
    ⊎ ((offset : ℕ) × (why ≡ damaged_journal offset) × IsDamagedAt offset (files journal_file))
    ⊎ (IsFresh (files journal_file) × IsMakeRefused files why)
    ⊎ (IsFresh (files journal_file) × IsMakeReady files × (most_ticks < target) × (why ≡ refusal.TickLimit target))

-- a refusal that `demo` gives, whatever the host tells
abbrev pub IsOfDemo : Refusal → Type 0
IsOfDemo refusal.Started = ⊤
IsOfDemo refusal.InitThere = ⊤
IsOfDemo (refusal.TickLimit _) = ⊤
IsOfDemo refusal.Device = ⊤
IsOfDemo (refusal.Damaged _) = ⊤
IsOfDemo refusal.NoMemory = ⊤
IsOfDemo _ = ⊥

-- ---- what it says

-- the list at the target
abbrev pub demo_list : ℕ → ℕ → ℕ → List Body
demo_list seed count target = list_at target (made_start seed count)

-- the history of the run when it is told where to go
abbrev pub demo_history : ℕ → ℕ → ℕ → History
demo_history seed count target = aimed_at target (started (made_start seed count))

-- the sum of the three coordinates of all bodies, those that are out too
abbrev pub coordinate_sum : List Body → ℕ
coordinate_sum bodies = sum_by (λ b. b.at.x + b.at.y + b.at.z) bodies

-- its last line
abbrev pub summary_line : ℕ → ℕ → ℕ → List ℕ
summary_line seed count target =
    demo_line count (escaped_count (demo_list seed count target)) (coordinate_sum (demo_list seed count target))

-- all that it says, where it is done: that the run is started, each tick from the first on, that it is at the target, and the
-- last line
abbrev pub demo_text : ℕ → ℕ → ℕ → List ℕ
demo_text seed count target =
    started_line count 0
    ++ lines_after (run_of (demo_history seed count target)) 0 target
    ++ done_line target target (escaped_count (demo_list seed count target))
    ++ summary_line seed count target

-- ---- what it does

-- The two files were made, and the next thing is done with them.
pub record MakesThen (seed count : ℕ) (Next : Image → Image → Type 0) (old new : Image) : Type 0 where
  pub made : Image
  pub makes : IsMadeFrom seed count old made
  pub next : Next made new

-- A session was done and told, and the next thing is done behind it.
pub record DoesThen (by : Image → Image → Type 0) (Did : Image → Image → List ℕ → Type 0) (Next : Image → Image → Type 0) (old new : Image) : Type 0 where
  pub between : Image
  pub does : IsDoneThenSaid by Did old between
  pub next : Next between new

-- The run was led to the target as `go` leads it, and no file changed behind that. So all snapshots that are due are finished, and
-- where there was a tick the file of cells is the index of the last list.
pub record IsDemoLed (seed count target : ℕ) (new : Image) : Type 0 where
  pub begun : Image
  pub ended : Image
  pub done : Done
  pub led : IsLed target (demo_history seed count target) begun done ended
  pub files : new.file ≡ ended.file

-- `demo` is done: it did what `make`, `start` and `go` do, with their lines but that of `make`, and said the last line. So the two
-- files are those that are made, and the folder represents the run at the target.
pub record IsDemoDone (honest : Bool) (seed count target : ℕ) (old new : Image) : Type 0 where
  pub can : IsDemoReady old.file target
  pub does : MakesThen seed count
      (DoesThen (StartLeads honest) IsStartDone
      (DoesThen (GoLeads honest target) (IsGoDone target)
      (Says channels.Out (summary_line seed count target)))) old new
  pub made : HasMade seed count new.file
  pub represents : RepresentsRun (played target (demo_history seed count target)) new
  pub led : IsDemoLed seed count target new
  pub out : new.said channels.Out ≡ old.said channels.Out ++ demo_text seed count target
  pub err : new.said channels.Err ≡ old.said channels.Err

-- What it may have changed at some moment, by how far it came: it was making the two files; or starting the run; or leading
-- it; or saying the last line. Each of these came behind what is before it.
abbrev pub LeadsOn : Bool → ℕ → ℕ → ℕ → Image → Image → Type 0
LeadsOn honest seed count target old new =
    LeadsThenSays (GoLeads honest target) (IsGoDone target) old new
    ⊎ DoesThen (GoLeads honest target) (IsGoDone target) (SaysPrefix (summary_line seed count target)) old new

abbrev pub StartsOn : Bool → ℕ → ℕ → ℕ → Image → Image → Type 0
StartsOn honest seed count target old new =
    LeadsThenSays (StartLeads honest) IsStartDone old new
    ⊎ DoesThen (StartLeads honest) IsStartDone (LeadsOn honest seed count target) old new

-- Of an honest host what was said is a front of the text.
pub record IsDemoPartlyDone (honest : Bool) (seed count target : ℕ) (old new : Image) : Type 0 where
  pub can : IsDemoReady old.file target
  pub does : IsMaking seed count old new ⊎ MakesThen seed count (StartsOn honest seed count target) old new
  pub out : IsTrue honest → SaidPrefixOf (demo_text seed count target) (old.said channels.Out) (new.said channels.Out)

-- What `demo` may have changed at some moment, done or not: nothing, or that, where it can be done. It says nothing on Err.
pub record DemoLeads (honest : Bool) (seed count target : ℕ) (old new : Image) : Type 0 where
  pub leads : (new ≡ old) ⊎ IsDemoPartlyDone honest seed count target old new
  pub err : new.said channels.Err ≡ old.said channels.Err

-- ---- over hosts that don't return what was written

-- the place of a refusal of a snapshot: a body, or 0 for the header
abbrev pub index_of_flaw : SnapError → ℕ
index_of_flaw (snap.IdOrder index) = index
index_of_flaw (snap.Mass index) = index
index_of_flaw (snap.Flag index) = index
index_of_flaw (snap.Place index) = index
index_of_flaw (snap.Speed index) = index
index_of_flaw _ = 0

-- why a snapshot can't be read back, at this body, or at its header where that is 0
abbrev pub of_reading_back : SnapError → ℕ → ℕ → Refusal
of_reading_back snap.Fault file index = refusal.Device
of_reading_back snap.NoMemory file index = refusal.NoMemory
of_reading_back error file index = refusal.Damaged (record { file = file; page = index })

-- What a refusal of `start` is to a command that has just made what it starts from: neither file reads as it was written, or the
-- journal doesn't read as it was found.
abbrev pub start_after_make : Refusal → Refusal
start_after_make (refusal.Params error) = refusal.Damaged (record { file = params_file; page = 0 })
start_after_make (refusal.Snapshot error) = refusal.Damaged (record { file = init_file; page = index_of_flaw error })
start_after_make (refusal.TooHeavy grav mass) = refusal.Damaged (record { file = init_file; page = 0 })
start_after_make refusal.Started = damaged_journal 0
start_after_make why = why

-- What a refusal of `go` is to a command that has just started the run: the journal doesn't read as it was written.
abbrev pub go_after_start : Refusal → Refusal
go_after_start refusal.NotStarted = damaged_journal 0
go_after_start (refusal.LegOpen target time) = damaged_journal 0
go_after_start (refusal.TickLimit ticks) = damaged_journal 0
go_after_start why = why

-- A file doesn't read as it was written: over a host that tells it isn't so.
pub record IsUnlike {H : Type 0} (m : HostModel H) (file : ℕ) (Written : Type 0) (why : Refusal) : Type 0 where
  pub page : PageName
  pub named : why ≡ refusal.Damaged page
  pub file_is : page.file ≡ file
  pub cause : IsTrue m.tells → Written → ⊥
