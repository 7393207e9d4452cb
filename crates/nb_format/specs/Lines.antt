-- The lines that a run says, by the numbers in them: those that tell what is done, and those that tell why not.
-- Numbers are decimal and have no leading zeros. Each line ends with a line feed.
use Rattle.std.specs.Prelude.{ℕ, List, [], ◌++◌, codes, decimal}
use Rattle.nb_format.specs.declared.params_error.ParamsError.{ParamsError}
use Rattle.nb_format.specs.declared.params_error.ParamsError.TheVariants as params
use Rattle.nb_format.specs.declared.snap_error.SnapError.{SnapError}
use Rattle.nb_format.specs.declared.snap_error.SnapError.TheVariants as snap
use Rattle.nb_format.specs.ParamsText.{name_at}

-- `start` is done
unfoldable pub started_line : (bodies time : ℕ) → List ℕ
started_line bodies time = codes "started bodies " ++ decimal bodies ++ codes " time " ++ decimal time ++ codes "\n"

-- a tick is durable: its number, the time behind it, and how many bodies are out
unfoldable pub tick_line : (k time out : ℕ) → List ℕ
tick_line k time out = codes "tick " ++ decimal k ++ codes " time " ++ decimal time ++ codes " out " ++ decimal out ++ codes "\n"

-- `go` or `resume` is done
unfoldable pub done_line : (time ticks out : ℕ) → List ℕ
done_line time ticks out =
    codes "done time " ++ decimal time ++ codes " ticks " ++ decimal ticks ++ codes " out " ++ decimal out ++ codes "\n"

-- the first line of `show`
unfoldable pub folder_line : (time ticks target bodies out : ℕ) → List ℕ
folder_line time ticks target bodies out =
    codes "folder time " ++ decimal time ++ codes " ticks " ++ decimal ticks ++ codes " target " ++ decimal target
    ++ codes " bodies " ++ decimal bodies ++ codes " out " ++ decimal out ++ codes "\n"

-- `once` is done
unfoldable pub once_line : (time ticks out : ℕ) → List ℕ
once_line time ticks out =
    codes "once time " ++ decimal time ++ codes " ticks " ++ decimal ticks ++ codes " out " ++ decimal out ++ codes "\n"

-- `make` is done
unfoldable pub made_line : (bodies : ℕ) → List ℕ
made_line bodies = codes "made bodies " ++ decimal bodies ++ codes "\n"

-- `demo` is done: the sum is that of all coordinates of all bodies
unfoldable pub demo_line : (bodies out sum : ℕ) → List ℕ
demo_line bodies out sum =
    codes "demo bodies " ++ decimal bodies ++ codes " out " ++ decimal out ++ codes " sum " ++ decimal sum ++ codes "\n"

unfoldable pub words_text : List ℕ
words_text = codes "nbody: the words are not a command\n"

-- why the parameters can't be read
unfoldable pub params_text : ParamsError → List ℕ
params_text params.Long = codes "nbody: params: longer than 65536 bytes\n"
params_text (params.Line n) = codes "nbody: params: line " ++ decimal n ++ codes "\n"
params_text (params.Twice n) = codes "nbody: params: line " ++ decimal n ++ codes " repeats a name\n"
params_text (params.Range n) = codes "nbody: params: line " ++ decimal n ++ codes " is out of range\n"
params_text (params.Missing which) = codes "nbody: params: " ++ name_at which ++ codes " is missing\n"

-- what is wrong with the snapshot; nothing is where the refusal isn't of its bytes
abbrev pub snapshot_flaw : SnapError → List ℕ
snapshot_flaw snap.Short = codes "short"
snapshot_flaw snap.Unfinished = codes "unfinished"
snapshot_flaw snap.Magic = codes "magic"
snapshot_flaw snap.Count = codes "count"
snapshot_flaw snap.Zeros = codes "zeros"
snapshot_flaw snap.Length = codes "length"
snapshot_flaw (snap.IdOrder i) = codes "id order at body " ++ decimal i
snapshot_flaw (snap.Mass i) = codes "mass at body " ++ decimal i
snapshot_flaw (snap.Flag i) = codes "flag at body " ++ decimal i
snapshot_flaw (snap.Place i) = codes "place at body " ++ decimal i
snapshot_flaw (snap.Speed i) = codes "speed at body " ++ decimal i
snapshot_flaw snap.Fault = []
snapshot_flaw snap.NoMemory = []

-- why the snapshot can't be read
unfoldable pub snapshot_text : SnapError → List ℕ
snapshot_text error = codes "nbody: snapshot: " ++ snapshot_flaw error ++ codes "\n"

-- the constant of gravity times the mass of all bodies is too great
unfoldable pub heavy_text : (grav mass : ℕ) → List ℕ
heavy_text grav mass =
    codes "nbody: grav " ++ decimal grav ++ codes " times mass " ++ decimal mass ++ codes " is not below 2^60\n"

unfoldable pub not_started_text : List ℕ
not_started_text = codes "nbody: not started\n"

unfoldable pub already_text : List ℕ
already_text = codes "nbody: already started\n"

-- the leg that was begun last isn't at its target yet
unfoldable pub leg_text : (target time : ℕ) → List ℕ
leg_text target time =
    codes "nbody: the leg to " ++ decimal target ++ codes " is open at time " ++ decimal time ++ codes "\n"

-- more ticks than a run may have
unfoldable pub limit_text : (ticks : ℕ) → List ℕ
limit_text ticks = codes "nbody: " ++ decimal ticks ++ codes " ticks are more than 2^40\n"

unfoldable pub there_text : List ℕ
there_text = codes "nbody: params or init.nbs is there\n"

-- more bodies than `once` takes
unfoldable pub many_text : (count : ℕ) → List ℕ
many_text count = codes "nbody: " ++ decimal count ++ codes " bodies are more than 4096\n"

unfoldable pub device_text : List ℕ
device_text = codes "nbody: a device fault\n"

-- a file that a run wrote is no longer of its form
unfoldable pub damaged_text : (file place : ℕ) → List ℕ
damaged_text file place = codes "nbody: damaged file " ++ decimal file ++ codes " at " ++ decimal place ++ codes "\n"

unfoldable pub memory_text : List ℕ
memory_text = codes "nbody: no memory\n"
