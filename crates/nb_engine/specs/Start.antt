-- What a run begins with, and when none can begin.
use Rattle.std.specs.Prelude.{◌≡◌, ◌⊎◌, ⊤, ℕ, ◌*◌, ◌<◌, nat_le, if◌then◌else◌, Bool, IsTrue, Option, None, Some, Ok, Err, List, [], ◌∷◌, length}
use Rattle.nb_host.specs.Crashes.{AgreesOutside}
use Rattle.nb_host.specs.declared.page_name.PageName.{PageName}
use Rattle.nb_host.specs.Image.{Image}
use Rattle.nb_host.specs.Meaning.{HostModel}
use Rattle.nb_model.specs.declared.body.Body.{Body}
use Rattle.nb_model.specs.declared.params.Params.{Params}
use Rattle.nb_model.specs.Leapfrog.{escaped_count}
use Rattle.nb_model.specs.Limits.{gm_limit}
use Rattle.nb_model.specs.Octree.{total_mass}
use Rattle.nb_format.specs.declared.params_error.ParamsError.{ParamsError}
use Rattle.nb_format.specs.declared.snap_error.SnapError.{SnapError}
use Rattle.nb_format.specs.declared.snap_reader.SnapReader.{SnapReader}
use Rattle.nb_format.specs.ParamsText.{params_of, NamesParameter}
use Rattle.nb_format.specs.Reader.{count_of, HasRead}
use Rattle.nb_format.specs.Snapshot.{IsSnapshot}
use Rattle.nb_format.specs.SnapshotRefusal.{snapshot_refusal, IsBySnapshot, IsOfRecord}
use Rattle.nb_journal.specs.Counters.{new_log}
use Rattle.nb_journal.specs.Form.{Log, IsFresh, IsJournal, IsDamagedAt}
use Rattle.nb_journal.specs.Offsets.{journal_file}
use Rattle.nb_engine.specs.declared.refusal.Refusal.{Refusal}
use Rattle.nb_engine.specs.declared.refusal.Refusal.TheVariants as refusal
use Rattle.nb_engine.specs.declared.run_start.Begun.{Begun}
use Rattle.nb_engine.specs.Histories.{History, run_of}
use Rattle.nb_engine.specs.Refusal.{damaged_journal}
use Rattle.nb_engine.specs.Files.{params_file, init_file}
use Rattle.nb_engine.specs.Represents.{Represents}
use Rattle.nb_cache.specs.View.{CacheValue, seen}
use Rattle.nb_order.specs.Files.{page_of_body}
use Rattle.nb_tick.specs.Slots.{slot_of, drifted_file}

-- what a run begins with: its parameters, and the bodies at a time
pub record Start : Type 0 where
  pub params : Params
  pub bodies : List Body
  pub time : ℕ

-- The parameter text and the initial snapshot spell this start.
pub record HasStart (files : ℕ → List ℕ) (start : Start) : Type 0 where
  pub parameters : params_of (files params_file) ≡ Ok start.params
  pub snapshot : IsSnapshot (files init_file) start.bodies start.time

-- the refusal of bodies with which no run can begin: the constant of gravity times their mass is too great
abbrev pub start_refusal : Params → List Body → Option Refusal
start_refusal params bodies =
    if nat_le gm_limit (params.grav * total_mass bodies) then Some (refusal.TooHeavy params.grav (total_mass bodies)) else None

-- No run can begin, since the parameter text is none.
pub record HasNoParams (files : ℕ → List ℕ) (error : ParamsError) : Type 0 where
  pub refused : params_of (files params_file) ≡ Err error

-- None can, since the initial snapshot is none.
pub record HasNoSnapshot (files : ℕ → List ℕ) (params : Params) (error : SnapError) : Type 0 where
  pub parameters : params_of (files params_file) ≡ Ok params
  pub refused : snapshot_refusal (files init_file) ≡ Some error

-- The first cause, in this order, for which no run can begin with what the files hold: the parameter text, the snapshot, and
-- the mass of what they spell.
abbrev pub IsNoStart : (ℕ → List ℕ) → Refusal → Type 0
IsNoStart files why =
    ((error : ParamsError) × HasNoParams files error × (why ≡ refusal.Params error))
    ⊎ ((params : Params) × (error : SnapError) × HasNoSnapshot files params error × (why ≡ refusal.Snapshot error))
    ⊎ ((start : Start) × HasStart files start × (start_refusal start.params start.bodies ≡ Some why))

-- ---- the command `start`

-- A run can be started in the folder: none is, and it can begin so.
pub record IsStartReady (files : ℕ → List ℕ) (start : Start) : Type 0 where
  pub fresh : IsFresh (files journal_file)
  pub starts : HasStart files start
  pub light : start_refusal start.params start.bodies ≡ None

-- Why none can be: one is started, or its journal is damaged, or none is and none can begin. No folder has two causes.
abbrev pub IsStartRefused : (ℕ → List ℕ) → Refusal → Type 0
IsStartRefused files why =
    ((why ≡ refusal.Started) × ((log : Log) × IsJournal log (files journal_file)))
    ⊎ ((offset : ℕ) × (why ≡ damaged_journal offset) × IsDamagedAt offset (files journal_file))
    ⊎ (IsFresh (files journal_file) × IsNoStart files why)

-- the history of a run that was started and has no leg
abbrev pub started : Start → History
started start = record {
  log = new_log start.params (length start.bodies) start.time (escaped_count start.bodies);
  bodies = start.bodies;
}

-- The image represents the run that starts so, without a tick.
abbrev pub RepresentsStart : Start → Image → Type 0
RepresentsStart start image = Represents (started start).log (run_of (started start)) 0 image

-- The answer tells how many bodies there are, and the time.
pub record TellsStart (start : Start) (begun : Begun) : Type 0 where
  pub count : begun.count ≡ length start.bodies
  pub time : begun.time ≡ start.time

-- What `start` may have changed at some moment, done or not: the journal and the files in which it lays down the bodies; it says
-- nothing. Of an honest host no run is started still, or it is this one, where it can be. Where none can, nothing changes.
pub record StartLeads (honest : Bool) (old new : Image) : Type 0 where
  pub others : AgreesOutside (journal_file ∷ slot_of 0 ∷ drifted_file ∷ []) old new
  pub idle : ((start : Start) → IsStartReady old.file start → ⊥) → new ≡ old
  pub begins : IsTrue honest → IsFresh (old.file journal_file) → IsFresh (new.file journal_file)
      ⊎ ((start : Start) × IsStartReady old.file start × RepresentsStart start new)

-- ---- what the second reading of the initial snapshot names as damaged

-- a place in the initial snapshot: the number of a body, counted from 0, or 0 for the header
abbrev pub init_record_name : ℕ → PageName
init_record_name index = record { file = init_file; page = index }

-- The first of what the bytes refuse is the record with this index.
pub record IsRefusedAt (index : ℕ) (file : List ℕ) : Type 0 where
  pub error : SnapError
  pub first : snapshot_refusal file ≡ Some error
  pub of_record : IsOfRecord index error

-- The bodies of a reader aren't copied on, from body `index`: the snapshot's record is refused, or the copy's page isn't what it has
-- to be, which over a host that tells is never so of a copy that was begun empty.
pub record IsCopyEnd {H : Type 0} (m : HostModel H) (reader : SnapReader) (cache : CacheValue) (host : H) (page : PageName) : Type 0 where
  pub index : ℕ
  pub below : index < count_of reader
  pub place : ((page ≡ init_record_name index) × (IsTrue m.tells → HasRead reader ((m.contents host).file init_file) []
      → IsRefusedAt index ((m.contents host).file init_file)))
      ⊎ ((page ≡ page_of_body drifted_file index) × (IsTrue m.tells → seen m cache host drifted_file ≡ [] → ⊥))

-- a place that the reading of so many bodies names: that of the header, which stands for all of them too, or that of one of them, in
-- the snapshot or in the copy
abbrev pub IsReadPlace : ℕ → PageName → Type 0
IsReadPlace count page =
    (page ≡ init_record_name 0)
    ⊎ ((index : ℕ) × (index < count) × ((page ≡ init_record_name index) ⊎ (page ≡ page_of_body drifted_file index)))

-- and one that the laying down of them names: such a place, or a page of the copy or of the first slot
abbrev pub IsLaidPlace : ℕ → PageName → Type 0
IsLaidPlace count page = IsReadPlace count page ⊎ (page.file ≡ drifted_file) ⊎ (page.file ≡ slot_of 0)

-- ---- refusals

-- a refusal of the parameters, whatever the host tells
abbrev pub IsOfParameters : Refusal → Type 0
IsOfParameters (refusal.Params error) = NamesParameter error
IsOfParameters refusal.Device = ⊤
IsOfParameters refusal.NoMemory = ⊤
IsOfParameters _ = ⊥

-- a refusal that `start` gives, whatever the host tells
abbrev pub IsOfStart : Refusal → Type 0
IsOfStart (refusal.Params error) = NamesParameter error
IsOfStart (refusal.Snapshot error) = IsBySnapshot error
IsOfStart (refusal.TooHeavy _ _) = ⊤
IsOfStart refusal.Started = ⊤
IsOfStart refusal.Device = ⊤
IsOfStart (refusal.Damaged _) = ⊤
IsOfStart refusal.NoMemory = ⊤
IsOfStart _ = ⊥
