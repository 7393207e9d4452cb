-- What the calls of a snapshot writer need of their file between `begin` and `close`, and what they make of it in every
-- image.
use Rattle.std.specs.Prelude.{◌≡◌, ℕ, ⊤, ◌⊎◌, IsTrue, List, [], ◌∷◌, ◌++◌, length}
use Rattle.nb_model.specs.declared.body.Body.{Body}
use Rattle.nb_host.specs.Crashes.{AgreesOutside}
use Rattle.nb_host.specs.Image.{Image, FileBecomes}
use Rattle.nb_host.specs.Meaning.{HostModel, FileIs, Leads}
use Rattle.nb_format.specs.declared.snap_writer.Filling.{Filling}
use Rattle.nb_format.specs.Snapshot.{IsSnapshot, IsUnfinished}
use Rattle.nb_format.specs.Reader.{last_of}
use Rattle.nb_format.specs.Writer.{SnapshotPlan, plan_of, added_count, last_added, HasFilled, HasOneMore, HasShutGate, StaysShut, StaysUnfinished}

-- What a call needs of its file is that it is as the one before left it, since it stays so through calls that spare it
-- (`law_filling_kept`).

-- Before `begin`: the file is unfinished in every image.
abbrev pub IsUnfinishedNow : {H : Type 0} → HostModel H → ℕ → H → Type 0
IsUnfinishedNow m file host = FileIs m file (λ reads. ⊤) (λ reads image. IsUnfinished image) host

-- From `begin` to `close`: the file's gate is shut in every image.
abbrev pub IsShutNow : {H : Type 0} → HostModel H → ℕ → H → Type 0
IsShutNow m file host = FileIs m file (λ reads. ⊤) (λ reads image. HasShutGate image) host

-- The file is as the writer's last call left it: these bodies were added, over any host; the file holds them; and its gate is
-- shut in every image.
pub record IsFilledNow {H : Type 0} (m : HostModel H) (filling : Filling) (bodies : List Body) (host : H) : Type 0 where
  pub added : added_count filling ≡ length bodies
  pub last : last_added filling ≡ last_of bodies
  pub left : FileIs m (plan_of filling).file (λ reads. HasFilled filling reads bodies) (λ reads image. HasShutGate image) host

-- The writer's calls, one after the other, perhaps with calls on other files between them.

-- The file changes by this relation, and beside it only those others.
pub record ChangesWith (others : List ℕ) (number : ℕ) (P : List ℕ → List ℕ → Type 0) (old new : Image) : Type 0 where
  pub file : P (old.file number) (new.file number)
  pub kept : AgreesOutside (number ∷ others) old new

-- The file of a plan is being written since the host at the start, and these bodies were added: where it was unfinished, it
-- is so in every image since.
pub record IsBeingWritten {H : Type 0} (m : HostModel H) (others : List ℕ) (plan : SnapshotPlan) (filling : Filling) (bodies : List Body) (start now : H) : Type 0 where
  pub planned : plan_of filling ≡ plan
  pub since : Leads m (ChangesWith others plan.file StaysUnfinished) start now
  pub filled : IsFilledNow m filling bodies now

-- One `add`, by its clauses.
pub record AddsBody {H : Type 0} (m : HostModel H) (body : Body) (filling next : Filling) (old new : H) : Type 0 where
  pub added : HasOneMore body filling next
  pub filled : (bodies : List Body) → IsTrue m.tells
      → HasFilled filling ((m.contents old).file (plan_of filling).file) bodies
      → HasFilled next ((m.contents new).file (plan_of filling).file) (bodies ++ body ∷ [])
  pub leads : Leads m (FileBecomes (plan_of filling).file StaysShut) old new

-- An `add` for each body of a list.
abbrev pub AddsEach : {H : Type 0} → HostModel H → List Body → Filling → Filling → H → H → Type 0
AddsEach m [] filling last old new = (last ≡ filling) × (new ≡ old)
AddsEach {H} m (body ∷ bodies) filling last old new =
    (next : Filling) × (middle : H) × AddsBody m body filling next old middle × AddsEach m bodies next last middle new

-- An unfinished file becomes the snapshot of these bodies, or stays unfinished.
abbrev pub IsWritten : List Body → ℕ → List ℕ → List ℕ → Type 0
IsWritten bodies time old new = IsUnfinished old → IsSnapshot new bodies time ⊎ IsUnfinished new
