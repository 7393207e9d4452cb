-- Why the program ends without being done: its status and its line on Err.
use Rattle.std.specs.Prelude.{◌≡◌, ◌⊎◌, ⊤, ℕ, List}
use Rattle.nb_format.specs.ParamsText.{NamesParameter}
use Rattle.nb_format.specs.SnapshotRefusal.{IsBySnapshot}
use Rattle.nb_format.specs.Lines.{words_text, params_text, snapshot_text, heavy_text, not_started_text, already_text, leg_text, limit_text, there_text, many_text, device_text, damaged_text, memory_text}
use Rattle.nb_engine.specs.declared.refusal.Refusal.{Refusal}
use Rattle.nb_engine.specs.declared.refusal.Refusal.TheVariants as refusal
use Rattle.nb_cli.specs.declared.stop.Stop.{Stop}
use Rattle.nb_cli.specs.declared.stop.Stop.TheVariants as stop

-- the exit status of a refusal
abbrev pub status_of : Refusal → ℕ
status_of (refusal.Params _) = 2
status_of (refusal.Snapshot _) = 3
status_of (refusal.TooHeavy _ _) = 4
status_of refusal.NotStarted = 5
status_of refusal.Started = 6
status_of (refusal.LegOpen _ _) = 7
status_of (refusal.TickLimit _) = 8
status_of refusal.InitThere = 9
status_of (refusal.TooMany _) = 10
status_of refusal.Device = 11
status_of (refusal.Damaged _) = 12
status_of refusal.NoMemory = 13

-- the line of a refusal on Err
abbrev pub line_of_refusal : Refusal → List ℕ
line_of_refusal (refusal.Params error) = params_text error
line_of_refusal (refusal.Snapshot error) = snapshot_text error
line_of_refusal (refusal.TooHeavy grav mass) = heavy_text grav mass
line_of_refusal refusal.NotStarted = not_started_text
line_of_refusal refusal.Started = already_text
line_of_refusal (refusal.LegOpen target time) = leg_text target time
line_of_refusal (refusal.TickLimit ticks) = limit_text ticks
line_of_refusal refusal.InitThere = there_text
line_of_refusal (refusal.TooMany count) = many_text count
line_of_refusal refusal.Device = device_text
line_of_refusal (refusal.Damaged place) = damaged_text place.file place.page
line_of_refusal refusal.NoMemory = memory_text

-- the exit status
abbrev pub stop_status : Stop → ℕ
stop_status stop.Words = 1
stop_status (stop.Refused why) = status_of why

-- the line on Err
abbrev pub stop_line : Stop → List ℕ
stop_line stop.Words = words_text
stop_line (stop.Refused why) = line_of_refusal why

-- a device fault, or want of memory: neither needs a cause in the words and the files
abbrev pub IsWithoutCause : Stop → Type 0
IsWithoutCause why = (why ≡ stop.Refused refusal.Device) ⊎ (why ≡ stop.Refused refusal.NoMemory)

-- a refusal that a command gives, and that has a line
abbrev pub HasRefusalLine : Refusal → Type 0
HasRefusalLine (refusal.Params error) = NamesParameter error
HasRefusalLine (refusal.Snapshot error) = IsBySnapshot error
HasRefusalLine _ = ⊤

-- one that the program ends with
abbrev pub IsSayable : Stop → Type 0
IsSayable stop.Words = ⊤
IsSayable (stop.Refused why) = HasRefusalLine why
