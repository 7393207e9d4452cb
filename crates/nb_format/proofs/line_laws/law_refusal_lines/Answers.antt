use Rattle.std.proofs.Common.{ℕ, List, refl, codes}
use Rattle.nb_format.specs.declared.params_error.ParamsError.{ParamsError}
use Rattle.nb_format.specs.declared.params_error.ParamsError.TheVariants as params
use Rattle.nb_format.specs.declared.snap_error.SnapError.{SnapError}
use Rattle.nb_format.specs.declared.snap_error.SnapError.TheVariants as snap
use Rattle.nb_format.specs.LineEnds.{IsOneLine}
use Rattle.nb_format.specs.Lines.{words_text, params_text, snapshot_text, heavy_text, not_started_text, already_text, leg_text, limit_text, there_text, many_text, device_text, damaged_text, memory_text}
use Rattle.nb_format.specs.RefusalLines.{FitsU128, HasParamsLine, HasSnapshotLine, IsRefusalLine, Words, Params, Snapshot, Heavy, NotStarted, Already, OpenLeg, Limit, There, Many, Device, Damaged, Memory}
use Rattle.nb_format.proofs.SaidLines.{literal, number, word, ends, ends_word, missing-one_line, flawed-one_line}
use Rattle.nb_format.proofs.line_laws.law_refusal_lines.Goals as goal

params_line : (error : ParamsError) → HasParamsLine error → IsOneLine (params_text error)
unfolding params_text
params_line params.Long _ = ends (literal (codes "nbody: params: longer than 65536 bytes") refl)
params_line (params.Line n) few = ends (number (literal (codes "nbody: params: line ") refl) n few)
params_line (params.Twice n) few =
    ends_word (number (literal (codes "nbody: params: line ") refl) n few) (codes " repeats a name") refl
params_line (params.Range n) few =
    ends_word (number (literal (codes "nbody: params: line ") refl) n few) (codes " is out of range") refl
params_line (params.Missing which) within = missing-one_line which within

snapshot_line : (error : SnapError) → HasSnapshotLine error → IsOneLine (snapshot_text error)
unfolding snapshot_text
snapshot_line snap.Short _ = ends (literal (codes "nbody: snapshot: short") refl)
snapshot_line snap.Unfinished _ = ends (literal (codes "nbody: snapshot: unfinished") refl)
snapshot_line snap.Magic _ = ends (literal (codes "nbody: snapshot: magic") refl)
snapshot_line snap.Count _ = ends (literal (codes "nbody: snapshot: count") refl)
snapshot_line snap.Zeros _ = ends (literal (codes "nbody: snapshot: zeros") refl)
snapshot_line snap.Length _ = ends (literal (codes "nbody: snapshot: length") refl)
snapshot_line (snap.IdOrder i) few = flawed-one_line (codes "id order at body ") i refl few
snapshot_line (snap.Mass i) few = flawed-one_line (codes "mass at body ") i refl few
snapshot_line (snap.Flag i) few = flawed-one_line (codes "flag at body ") i refl few
snapshot_line (snap.Place i) few = flawed-one_line (codes "place at body ") i refl few
snapshot_line (snap.Speed i) few = flawed-one_line (codes "speed at body ") i refl few
snapshot_line snap.Fault never = absurd never
snapshot_line snap.NoMemory never = absurd never

words_line : IsOneLine words_text
unfolding words_text
words_line = ends (literal (codes "nbody: the words are not a command") refl)

heavy_line : (grav mass : ℕ) → FitsU128 grav → FitsU128 mass → IsOneLine (heavy_text grav mass)
unfolding heavy_text
heavy_line grav mass few_grav few_mass =
    ends_word (number (word (number (literal (codes "nbody: grav ") refl) grav few_grav) (codes " times mass ") refl) mass few_mass)
    (codes " is not below 2^60") refl

not_started_line : IsOneLine not_started_text
unfolding not_started_text
not_started_line = ends (literal (codes "nbody: not started") refl)

already_line : IsOneLine already_text
unfolding already_text
already_line = ends (literal (codes "nbody: already started") refl)

leg_line : (target time : ℕ) → FitsU128 target → FitsU128 time → IsOneLine (leg_text target time)
unfolding leg_text
leg_line target time few_target few_time =
    ends (number (word (number (literal (codes "nbody: the leg to ") refl) target few_target) (codes " is open at time ") refl) time few_time)

limit_line : (ticks : ℕ) → FitsU128 ticks → IsOneLine (limit_text ticks)
unfolding limit_text
limit_line ticks few =
    ends_word (number (literal (codes "nbody: ") refl) ticks few) (codes " ticks are more than 2^40") refl

there_line : IsOneLine there_text
unfolding there_text
there_line = ends (literal (codes "nbody: params or init.nbs is there") refl)

many_line : (count : ℕ) → FitsU128 count → IsOneLine (many_text count)
unfolding many_text
many_line count few =
    ends_word (number (literal (codes "nbody: ") refl) count few) (codes " bodies are more than 4096") refl

device_line : IsOneLine device_text
unfolding device_text
device_line = ends (literal (codes "nbody: a device fault") refl)

damaged_line : (file place : ℕ) → FitsU128 file → FitsU128 place → IsOneLine (damaged_text file place)
unfolding damaged_text
damaged_line file place few_file few_place =
    ends (number (word (number (literal (codes "nbody: damaged file ") refl) file few_file) (codes " at ") refl) place few_place)

memory_line : IsOneLine memory_text
unfolding memory_text
memory_line = ends (literal (codes "nbody: no memory") refl)

one_line : (line : List ℕ) → IsRefusalLine line → IsOneLine line
one_line line Words = words_line
one_line line (Params error has) = params_line error has
one_line line (Snapshot error has) = snapshot_line error has
one_line line (Heavy grav mass few_grav few_mass) = heavy_line grav mass few_grav few_mass
one_line line NotStarted = not_started_line
one_line line Already = already_line
one_line line (OpenLeg target time few_target few_time) = leg_line target time few_target few_time
one_line line (Limit ticks few) = limit_line ticks few
one_line line There = there_line
one_line line (Many count few) = many_line count few
one_line line Device = device_line
one_line line (Damaged file place few_file few_place) = damaged_line file place few_file few_place
one_line line Memory = memory_line

pub returns : goal.returns
returns c = one_line
