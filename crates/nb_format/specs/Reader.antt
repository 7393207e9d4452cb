-- What a snapshot reader has read.
use Rattle.std.specs.Prelude.{◌≡◌, ℕ, ⊤, ◌+◌, ◌<◌, ◌≤◌, if◌then◌else◌, nat_lt, Option, Some, None, Result, IfSome, IfOk, IfErr, OnOk, List, [], ◌∷◌, ◌++◌, length, take}
use Rattle.std.specs.List.{flat_map}
use Rattle.nb_model.specs.declared.body.Body.{Body}
use Rattle.nb_model.specs.Limits.{most_bodies}
use Rattle.nb_host.specs.Meaning.{HostModel, FileIs}
use Rattle.nb_format.specs.declared.snap_error.SnapError.{SnapError}
use Rattle.nb_format.specs.declared.snap_error.SnapError.TheVariants as snap
use Rattle.nb_format.specs.declared.snap_reader.SnapReader.{SnapReader}
use Rattle.nb_model.specs.Bytes.{body_bytes}
use Rattle.nb_format.specs.Snapshot.{header_bytes, snapshot_length, IsStoredBody, AreStoredBodies}
use Rattle.nb_format.specs.SnapshotRefusal.{record_refusal, record_at, IsBySnapshot}

-- the number of the reader's file
abbrev pub file_of : SnapReader → ℕ
file_of reader = reader.file

-- how many bodies the header tells
abbrev pub count_of : SnapReader → ℕ
count_of reader = reader.count

-- the time that the header tells
abbrev pub time_of : SnapReader → ℕ
time_of reader = reader.time

-- how many bodies were read
abbrev pub read_count : SnapReader → ℕ
read_count reader = reader.read

-- the id of the body that was read last
abbrev pub last_id : SnapReader → Option ℕ
last_id reader = reader.last

-- The reader of a file at its first record, over any host.
pub record IsAtStart (number : ℕ) (reader : SnapReader) : Type 0 where
  pub file : file_of reader ≡ number
  pub count : count_of reader ≤ most_bodies
  pub read : read_count reader ≡ 0
  pub last : last_id reader ≡ None

-- A body that may follow those that were read, over any host.
pub record MayFollow (reader : SnapReader) (body : Body) : Type 0 where
  pub stored : IsStoredBody body
  pub rises : IfSome (last_id reader) (λ id. id < body.id)

-- The reader is behind one more body, and about the same file.
pub record IsBehind (body : Body) (old new : SnapReader) : Type 0 where
  pub file : file_of new ≡ file_of old
  pub count : count_of new ≡ count_of old
  pub time : time_of new ≡ time_of old
  pub read : read_count new ≡ read_count old + 1
  pub last : last_id new ≡ Some body.id

-- The id of the last body of a list, which may be empty.
abbrev pub last_of : List Body → Option ℕ
last_of [] = None
last_of (b ∷ []) = Some b.id
last_of (b ∷ c ∷ bs) = last_of (c ∷ bs)

-- The file has the length that its header tells, and begins with the spelling of the header and of these bodies, which
-- are those that the reader has read.
pub record HasRead (reader : SnapReader) (bytes : List ℕ) (bodies : List Body) : Type 0 where
  pub whole : length bytes ≡ snapshot_length (count_of reader)
  pub read : read_count reader ≡ length bodies
  pub last : last_id reader ≡ last_of bodies
  pub stored : AreStoredBodies bodies
  pub begins : take (snapshot_length (length bodies)) bytes ≡ header_bytes (count_of reader) (time_of reader) ++ flat_map body_bytes bodies

-- The reader's file reads as when it was opened, or has become shorter since.
abbrev pub IsFrontOf : List ℕ → List ℕ → Type 0
IsFrontOf bytes now = (n : ℕ) × (now ≡ take n bytes)

-- The reader's file is as its reader needs it, and stays so through calls that spare it (`law_reading_kept`): these are the
-- bytes that it held when it was opened, and nothing is asked of what a crash may leave.
abbrev pub IsReadableNow : {H : Type 0} → HostModel H → SnapReader → List ℕ → H → Type 0
IsReadableNow m reader bytes host = FileIs m (file_of reader) (IsFrontOf bytes) (λ reads image. ⊤) host

-- What a reader that isn't at its end refuses of a file that holds these bytes: the next record, or that the file ends
-- before that record's end.
abbrev pub next_refusal : SnapReader → List ℕ → Option SnapError
next_refusal reader file =
    if nat_lt (length file) (snapshot_length (read_count reader + 1)) then Some snap.Length
    else record_refusal (read_count reader) (last_id reader) (record_at (read_count reader) file)

-- What a reader's `next` tells of a file that holds these bytes: a body only where nothing is refused, a refusal by the
-- snapshot only where it is that one, and neither a body nor the end where the file ends before the next record does.
pub record TellsNext (reader : SnapReader) (file : List ℕ) (result : Result (Option Body) SnapError) : Type 0 where
  pub accepted : IfOk result (λ found. IfSome found (λ _. next_refusal reader file ≡ None))
  pub reason : IfErr result (λ e. IsBySnapshot e → next_refusal reader file ≡ Some e)
  pub short : read_count reader < count_of reader → length file < snapshot_length (read_count reader + 1) → OnOk result ⊥
