-- Runs of more than one tick. A run begins at a time and goes by legs, each of which is named by its target, the time at
-- which it ends.
use Rattle.std.specs.Prelude.{◌≡◌, ◌≢◌, ⊤, ◌⊎◌, ℕ, ◌+◌, ◌-◌, ◌%◌, ◌^◌, ◌<◌, ◌≤◌, Bool, true, false, not, List, [], ◌∷◌, ◌++◌, length, take, replicate, count_by, All}
use Rattle.nb_model.specs.declared.body.Body.{Body}
use Rattle.nb_model.specs.declared.params.Params.{Params}
use Rattle.nb_model.specs.declared.way.Way.{Way}
use Rattle.nb_model.specs.declared.way.Way.TheVariants.{Forward, Back}
use Rattle.nb_model.specs.Limits.{most_ticks}
use Rattle.nb_model.specs.Leapfrog.{steps}

-- The directions of the ticks from one time to another: forward to a later time, back to an earlier one, and none to the
-- time itself.
abbrev pub directions_to : ℕ → ℕ → List Way
directions_to from to = replicate (to - from) Forward ++ replicate (from - to) Back

-- the directions of the ticks of all legs, each from the time before it to its target
abbrev pub directions : ℕ → List ℕ → List Way
directions begin [] = []
directions begin (target ∷ legs) = directions_to begin target ++ directions target legs

-- each leg leads away from the time before it
abbrev pub EachMoves : ℕ → List ℕ → Type 0
EachMoves begin [] = ⊤
EachMoves begin (target ∷ legs) = (target ≢ begin) × EachMoves target legs

-- The legs are those of a run: each leads away from the time before it, to a time that the code can hold.
pub record AreLegs (begin : ℕ) (legs : List ℕ) : Type 0 where
  pub each : EachMoves begin legs
  pub targets : All (λ target. target < 2 ^ 64) legs
  pub count : length (directions begin legs) ≤ most_ticks

abbrev pub is_forward : Way → Bool
is_forward Forward = true
is_forward Back = false

-- the time after ticks in these directions, none of which goes back from time 0
abbrev pub time_by : ℕ → List Way → ℕ
time_by begin ways = (begin + count_by is_forward ways) - count_by (λ way. not (is_forward way)) ways

-- the time after the first k ticks of a run
abbrev pub time_after : ℕ → List ℕ → ℕ → ℕ
time_after begin legs k = time_by begin (take k (directions begin legs))

-- the list after the first k ticks of a run
abbrev pub state_after : Params → List Body → ℕ → List ℕ → ℕ → List Body
state_after params bodies begin legs k = steps params (take k (directions begin legs)) bodies

-- The first k ticks are exactly those of the first legs: of none at k = 0, and else to the end of one of them.
abbrev pub EndsLeg : ℕ → List ℕ → ℕ → Type 0
EndsLeg begin legs k = (n : ℕ) × (k ≡ length (directions begin (take n legs)))

-- A snapshot is due after tick k, which is one of the run's: at every so many ticks, and at the end of each leg.
pub record IsSnapshotDue (params : Params) (begin : ℕ) (legs : List ℕ) (k : ℕ) : Type 0 where
  pub some : 1 ≤ k
  pub within : k ≤ length (directions begin legs)
  pub due : (k % params.every ≡ 0) ⊎ EndsLeg begin legs k
