-- The first refusal of bytes that are no snapshot: of the header's fields in their order, and then of the records in
-- theirs. A field is a number at an offset in the bytes, its lowest byte first.
use Rattle.std.specs.Prelude.{◌≡◌, ℕ, zero, suc, ◌^◌, ◌<◌, ℤ, Bool, true, not, ◌&&◌, if◌then◌else◌, ◌==◌, nat_lt, ⊤, Option, Some, None, List, length, take, drop, slice_index, codes, All, unsigned_abs}
use Rattle.std.specs.Int.{w32, w64, from_le_bytes, cast_signed}
use Rattle.std.specs.Option.{option_or}
use Rattle.std.specs.Str.{bytes_eq}
use Rattle.nb_model.specs.declared.body.At.{At}
use Rattle.nb_model.specs.declared.body.V3.{V3}
use Rattle.nb_model.specs.Limits.{box_side, speed_limit, most_bodies}
use Rattle.nb_format.specs.declared.record.Fields.{Fields}
use Rattle.nb_format.specs.declared.snap_error.SnapError.{SnapError}
use Rattle.nb_format.specs.declared.snap_error.SnapError.TheVariants as snap
use Rattle.nb_format.specs.Snapshot.{header_length, record_length, snapshot_length, snapshot_gate}

-- the number of the four bytes from an offset on
unfoldable pub u32_at : ℕ → List ℕ → ℕ
u32_at at bytes = from_le_bytes w32 (take 4 (drop at bytes))

-- the number of the eight bytes from an offset on
unfoldable pub u64_at : ℕ → List ℕ → ℕ
u64_at at bytes = from_le_bytes w64 (take 8 (drop at bytes))

-- the same, in two's complement
abbrev pub i64_at : ℕ → List ℕ → ℤ
i64_at at bytes = cast_signed w64 (u64_at at bytes)

-- the first field of a header that isn't of the form
unfoldable pub header_field_refusal : List ℕ → Option SnapError
header_field_refusal bytes =
    if not (slice_index bytes 0 == snapshot_gate) then Some snap.Unfinished
    else if not (bytes_eq (take 7 (drop 1 bytes)) (codes "NBSNAP1")) then Some snap.Magic
    else if nat_lt most_bodies (u64_at 8 bytes) then Some snap.Count
    else if not (u64_at 24 bytes == 0) then Some snap.Zeros
    else None

-- A file shorter than a header is refused before its fields, and one of another length than its header tells after them.
unfoldable pub header_refusal : List ℕ → Option SnapError
header_refusal bytes =
    if nat_lt (length bytes) header_length then Some snap.Short
    else option_or (header_field_refusal bytes) (if length bytes == snapshot_length (u64_at 8 bytes) then None else Some snap.Length)

-- the fields that 64 bytes spell
abbrev pub fields_at : List ℕ → Fields
fields_at bytes = record {
  id = u64_at 0 bytes;
  mass = u32_at 8 bytes;
  flag = u32_at 12 bytes;
  at = record { x = u64_at 16 bytes; y = u64_at 24 bytes; z = u64_at 32 bytes };
  v = record { x = i64_at 40 bytes; y = i64_at 48 bytes; z = i64_at 56 bytes };
}

abbrev pub is_in_box : At → Bool
is_in_box p = nat_lt p.x box_side && nat_lt p.y box_side && nat_lt p.z box_side

-- below the limit of the speed, on each axis
abbrev pub is_slow : V3 → Bool
is_slow v = nat_lt (unsigned_abs v.x) speed_limit && nat_lt (unsigned_abs v.y) speed_limit && nat_lt (unsigned_abs v.z) speed_limit

-- The first field behind the id, of the record with this index, that no body has. The speed of a body that has left the
-- box is not looked at.
unfoldable pub field_refusal : ℕ → Fields → Option SnapError
field_refusal index fields =
    if fields.mass == 0 then Some (snap.Mass index)
    else if nat_lt 1 fields.flag then Some (snap.Flag index)
    else if not (is_in_box fields.at) then Some (snap.Place index)
    else if fields.flag == 0 && not (is_slow fields.v) then Some (snap.Speed index)
    else None

-- the id is above the one before, if there is one
abbrev pub is_above : Option ℕ → ℕ → Bool
is_above None id = true
is_above (Some last) id = nat_lt last id

-- the first bad field of the record with this index, behind one with this id
unfoldable pub record_refusal : ℕ → Option ℕ → List ℕ → Option SnapError
record_refusal index last bytes =
    if not (is_above last (u64_at 0 bytes)) then Some (snap.IdOrder index) else field_refusal index (fields_at bytes)

-- the record with this index
abbrev pub record_at : ℕ → List ℕ → List ℕ
record_at index bytes = take record_length (drop (snapshot_length index) bytes)

-- the id of the record before
abbrev pub id_before : ℕ → List ℕ → Option ℕ
id_before zero bytes = None
id_before (suc index) bytes = Some (u64_at 0 (record_at index bytes))

-- the first refusal of so many records
unfoldable pub records_refusal : ℕ → List ℕ → Option SnapError
records_refusal zero bytes = None
records_refusal (suc index) bytes =
    option_or (records_refusal index bytes) (record_refusal index (id_before index bytes) (record_at index bytes))

-- The first refusal of the bytes: None exactly at those of a snapshot (`law_snapshot_refusal`).
unfoldable pub snapshot_refusal : List ℕ → Option SnapError
snapshot_refusal bytes = option_or (header_refusal bytes) (records_refusal (u64_at 8 bytes) bytes)

-- what a file can hold
abbrev pub AreBytes : List ℕ → Type 0
AreBytes bytes = All (λ b. b < 2 ^ 8) bytes

-- The bytes are why: it is no refusal of the host's.
abbrev pub IsBySnapshot : SnapError → Type 0
IsBySnapshot snap.Fault = ⊥
IsBySnapshot snap.NoMemory = ⊥
IsBySnapshot error = ⊤

-- a refusal of a header
abbrev pub IsOfHeader : SnapError → Type 0
IsOfHeader snap.Short = ⊤
IsOfHeader snap.Unfinished = ⊤
IsOfHeader snap.Magic = ⊤
IsOfHeader snap.Count = ⊤
IsOfHeader snap.Zeros = ⊤
IsOfHeader snap.Length = ⊤
IsOfHeader error = ⊥

-- a refusal of the record with this index, or of a file that doesn't hold it whole
abbrev pub IsOfRecord : ℕ → SnapError → Type 0
IsOfRecord index snap.Length = ⊤
IsOfRecord index (snap.IdOrder i) = i ≡ index
IsOfRecord index (snap.Mass i) = i ≡ index
IsOfRecord index (snap.Flag i) = i ≡ index
IsOfRecord index (snap.Place i) = i ≡ index
IsOfRecord index (snap.Speed i) = i ≡ index
IsOfRecord index error = ⊥
