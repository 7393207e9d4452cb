-- The lines that are said on Err, in one table.
use Rattle.std.specs.Prelude.{⊤, ℕ, ◌^◌, ◌<◌, ◌≤◌, List}
use Rattle.nb_format.specs.declared.params_error.ParamsError.{ParamsError}
use Rattle.nb_format.specs.declared.params_error.ParamsError.TheVariants as params
use Rattle.nb_format.specs.declared.snap_error.SnapError.{SnapError}
use Rattle.nb_format.specs.declared.snap_error.SnapError.TheVariants as snap
use Rattle.nb_format.specs.Lines.{words_text, params_text, snapshot_text, heavy_text, not_started_text, already_text, leg_text, limit_text, there_text, many_text, device_text, damaged_text, memory_text}

-- a number of at most 128 bits
abbrev pub FitsU128 : ℕ → Type 0
FitsU128 n = n < 2 ^ 128

-- a refusal of a parameter text has a line: its number is of at most 128 bits, or is that of a name
abbrev pub HasParamsLine : ParamsError → Type 0
HasParamsLine params.Long = ⊤
HasParamsLine (params.Line n) = FitsU128 n
HasParamsLine (params.Twice n) = FitsU128 n
HasParamsLine (params.Range n) = FitsU128 n
HasParamsLine (params.Missing which) = which ≤ 6

-- a refusal of a snapshot has a line: it is one of the file's bytes, and its number is of at most 128 bits
abbrev pub HasSnapshotLine : SnapError → Type 0
HasSnapshotLine snap.Short = ⊤
HasSnapshotLine snap.Unfinished = ⊤
HasSnapshotLine snap.Magic = ⊤
HasSnapshotLine snap.Count = ⊤
HasSnapshotLine snap.Zeros = ⊤
HasSnapshotLine snap.Length = ⊤
HasSnapshotLine (snap.IdOrder i) = FitsU128 i
HasSnapshotLine (snap.Mass i) = FitsU128 i
HasSnapshotLine (snap.Flag i) = FitsU128 i
HasSnapshotLine (snap.Place i) = FitsU128 i
HasSnapshotLine (snap.Speed i) = FitsU128 i
HasSnapshotLine snap.Fault = ⊥
HasSnapshotLine snap.NoMemory = ⊥

-- the lines, each with the numbers that it tells
pub data IsRefusalLine : List ℕ → Type 0 where
  Words : IsRefusalLine words_text
  Params : (error : ParamsError) → HasParamsLine error → IsRefusalLine (params_text error)
  Snapshot : (error : SnapError) → HasSnapshotLine error → IsRefusalLine (snapshot_text error)
  Heavy : (grav mass : ℕ) → FitsU128 grav → FitsU128 mass → IsRefusalLine (heavy_text grav mass)
  NotStarted : IsRefusalLine not_started_text
  Already : IsRefusalLine already_text
  OpenLeg : (target time : ℕ) → FitsU128 target → FitsU128 time → IsRefusalLine (leg_text target time)
  Limit : (ticks : ℕ) → FitsU128 ticks → IsRefusalLine (limit_text ticks)
  There : IsRefusalLine there_text
  Many : (count : ℕ) → FitsU128 count → IsRefusalLine (many_text count)
  Device : IsRefusalLine device_text
  Damaged : (file place : ℕ) → FitsU128 file → FitsU128 place → IsRefusalLine (damaged_text file place)
  Memory : IsRefusalLine memory_text
