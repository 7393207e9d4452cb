-- The snapshot form: a header of 32 bytes, and a record of 64 bytes for each body, which is the body's bytes. Numbers are
-- little-endian.
use Rattle.std.specs.Prelude.{◌≡◌, ◌≢◌, ℕ, ◌+◌, ◌*◌, ◌^◌, ◌<◌, ◌≤◌, List, ◌++◌, length, map, replicate, slice_index, codes, All, FitsSigned}
use Rattle.std.specs.Int.{w64, to_le_bytes}
use Rattle.std.specs.List.{flat_map}
use Rattle.std.specs.List.Sorted.{IsStrictlyIncreasing}
use Rattle.nb_model.specs.declared.body.V3.{V3}
use Rattle.nb_model.specs.declared.body.Body.{Body}
use Rattle.nb_model.specs.Bytes.{body_bytes}
use Rattle.nb_model.specs.Limits.{most_bodies}
use Rattle.nb_model.specs.Valid.{IsValidBody}

abbrev pub header_length : ℕ
header_length = 32

abbrev pub record_length : ℕ
record_length = 64

-- the first byte of a finished snapshot, F
abbrev pub snapshot_gate : ℕ
snapshot_gate = 70

-- The header: the gate and the form's name, the count of bodies, the time, and eight zeros.
unfoldable pub header_bytes : ℕ → ℕ → List ℕ
header_bytes count time = codes "FNBSNAP1" ++ to_le_bytes w64 count ++ to_le_bytes w64 time ++ replicate 8 0

-- the bytes are the header of so many bodies at a time
pub record IsHeader (bytes : List ℕ) (count time : ℕ) : Type 0 where
  pub spelled : bytes ≡ header_bytes count time
  pub few : count ≤ most_bodies
  pub fits : time < 2 ^ 64

-- the one spelling of a list of bodies at a time
abbrev pub snapshot_bytes : List Body → ℕ → List ℕ
snapshot_bytes bodies time = header_bytes (length bodies) time ++ flat_map body_bytes bodies

-- a velocity that fits its record: any, for a body that has left the box
pub record FitsRecord (v : V3) : Type 0 where
  pub x : FitsSigned w64 v.x
  pub y : FitsSigned w64 v.y
  pub z : FitsSigned w64 v.z

-- a body that a record spells
pub record IsStoredBody (b : Body) : Type 0 where
  pub valid : IsValidBody b
  pub id : b.id < 2 ^ 64
  pub velocity : FitsRecord b.v

-- bodies that the records of a snapshot spell
pub record AreStoredBodies (bodies : List Body) : Type 0 where
  pub each : All IsStoredBody bodies
  pub ids : IsStrictlyIncreasing (map (λ b. b.id) bodies)
  pub count : length bodies ≤ most_bodies

-- the bytes are the snapshot of these bodies at this time, and of no others (`law_one_snapshot`)
pub record IsSnapshot (bytes : List ℕ) (bodies : List Body) (time : ℕ) : Type 0 where
  pub spelled : bytes ≡ snapshot_bytes bodies time
  pub stored : AreStoredBodies bodies
  pub fits : time < 2 ^ 64

-- the bytes are no snapshot
abbrev pub IsNoSnapshot : List ℕ → Type 0
IsNoSnapshot bytes = (bodies : List Body) (time : ℕ) → IsSnapshot bytes bodies time → ⊥

-- how many bytes a snapshot of so many bodies has
abbrev pub snapshot_length : ℕ → ℕ
snapshot_length count = header_length + record_length * count

-- A file is finished for a count of bodies where it has that length and its gate is open. Nothing else is looked at.
pub record IsFinishedSnapshot (count : ℕ) (bytes : List ℕ) : Type 0 where
  pub whole : length bytes ≡ snapshot_length count
  pub opened : slice_index bytes 0 ≡ snapshot_gate

-- No more than the gate byte is there, or the gate is shut: nobody takes the file for a finished snapshot.
abbrev pub IsUnfinished : List ℕ → Type 0
IsUnfinished bytes = 1 < length bytes → slice_index bytes 0 ≢ snapshot_gate
