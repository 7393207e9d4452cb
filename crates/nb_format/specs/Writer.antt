-- What a snapshot writer has filled.
use Rattle.std.specs.Prelude.{◌≡◌, ℕ, ◌+◌, ◌≤◌, ◌⊎◌, Option, Some, None, List, [], ◌∷◌, ◌++◌, length, drop, slice_index}
use Rattle.std.specs.List.{flat_map}
use Rattle.nb_model.specs.declared.body.Body.{Body}
use Rattle.nb_format.specs.declared.snap_writer.Fresh.{Fresh}
use Rattle.nb_format.specs.declared.snap_writer.Filling.{Filling}
use Rattle.nb_format.specs.declared.snap_writer.Closed.{Closed}
use Rattle.nb_model.specs.Bytes.{body_bytes}
use Rattle.nb_format.specs.Snapshot.{header_bytes, AreStoredBodies, IsSnapshot, IsUnfinished}
use Rattle.nb_format.specs.Reader.{last_of}

-- the number of the file, the count of bodies and the time of a snapshot that is to be written
pub record SnapshotPlan : Type 0 where
  pub file : ℕ
  pub count : ℕ
  pub time : ℕ

abbrev pub fresh_plan : Fresh → SnapshotPlan
fresh_plan fresh = record { file = fresh.file; count = fresh.count; time = fresh.time }

abbrev pub plan_of : Filling → SnapshotPlan
plan_of filling = record { file = filling.file; count = filling.count; time = filling.time }

-- how many bodies were added
abbrev pub added_count : Filling → ℕ
added_count filling = filling.added

-- the id of the body that was added last
abbrev pub last_added : Filling → Option ℕ
last_added filling = filling.last

-- the number of a finished file
abbrev pub closed_file : Closed → ℕ
closed_file closed = closed.file

-- A filling without a body, over any host.
pub record IsEmptyFilling (wanted : SnapshotPlan) (filling : Filling) : Type 0 where
  pub plan : plan_of filling ≡ wanted
  pub added : added_count filling ≡ 0
  pub last : last_added filling ≡ None

-- A filling with one more body, over any host.
pub record HasOneMore (body : Body) (old new : Filling) : Type 0 where
  pub plan : plan_of new ≡ plan_of old
  pub added : added_count new ≡ added_count old + 1
  pub last : last_added new ≡ Some body.id

-- the bytes of a snapshot with a shut gate, for a count of bodies of which these were added
abbrev pub shut_bytes : SnapshotPlan → List Body → List ℕ
shut_bytes plan bodies = 0 ∷ drop 1 (header_bytes plan.count plan.time) ++ flat_map body_bytes bodies

-- The file holds the bodies that were added, behind a shut gate.
pub record HasFilled (filling : Filling) (bytes : List ℕ) (bodies : List Body) : Type 0 where
  pub spelled : bytes ≡ shut_bytes (plan_of filling) bodies
  pub added : added_count filling ≡ length bodies
  pub last : last_added filling ≡ last_of bodies
  pub stored : AreStoredBodies bodies

-- An unfinished file stays unfinished.
abbrev pub StaysUnfinished : List ℕ → List ℕ → Type 0
StaysUnfinished old new = IsUnfinished old → IsUnfinished new

-- Nothing of the file is left but a shut gate.
abbrev pub IsGateAlone : List ℕ → List ℕ → Type 0
IsGateAlone old new = new ≡ 0 ∷ []

-- The file holds exactly the begun snapshot without a body.
abbrev pub IsBegun : SnapshotPlan → List ℕ → List ℕ → Type 0
IsBegun plan old new = new ≡ shut_bytes plan []

-- The gate byte is there, and is 0.
pub record HasShutGate (bytes : List ℕ) : Type 0 where
  pub there : 1 ≤ length bytes
  pub shut : slice_index bytes 0 ≡ 0

-- A file with a shut gate keeps it.
abbrev pub StaysShut : List ℕ → List ℕ → Type 0
StaysShut old new = HasShutGate old → HasShutGate new

-- The file becomes the snapshot of these bodies.
abbrev pub IsFinishedAs : List Body → ℕ → List ℕ → List ℕ → Type 0
IsFinishedAs bodies time old new = IsSnapshot new bodies time

-- A file with a shut gate becomes the snapshot of the bodies that were added, or is unfinished still. `read` is what it held
-- when `close` began.
abbrev pub Closes : Filling → List ℕ → List ℕ → List ℕ → Type 0
Closes filling read old new = (bodies : List Body) → HasFilled filling read bodies → HasShutGate old
    → IsSnapshot new bodies (plan_of filling).time ⊎ IsUnfinished new
