-- The command `once`: which files it takes, what it makes of them, and when it refuses.
use Rattle.std.specs.Prelude.{◌≡◌, ◌⊎◌, ⊤, ℕ, ◌+◌, ◌-◌, nat_lt, if◌then◌else◌, Option, None, Some, List, length}
use Rattle.std.specs.Option.{option_or}
use Rattle.nb_model.specs.declared.body.Body.{Body}
use Rattle.nb_model.specs.declared.params.Params.{Params}
use Rattle.nb_model.specs.Limits.{most_ticks}
use Rattle.nb_model.specs.Leapfrog.{steps}
use Rattle.nb_model.specs.Legs.{directions_to}
use Rattle.nb_format.specs.declared.params_error.ParamsError.{ParamsError}
use Rattle.nb_format.specs.declared.snap_error.SnapError.{SnapError}
use Rattle.nb_format.specs.ParamsText.{NamesParameter}
use Rattle.nb_format.specs.SnapshotRefusal.{IsBySnapshot}
use Rattle.nb_engine.specs.declared.refusal.Refusal.{Refusal}
use Rattle.nb_engine.specs.declared.refusal.Refusal.TheVariants as refusal
use Rattle.nb_engine.specs.Start.{Start, HasStart, start_refusal, HasNoParams, HasNoSnapshot}

-- the number of the file `once.nbs`
abbrev pub once_file : ℕ
once_file = 8

-- `once` takes at most so many bodies
abbrev pub most_once_bodies : ℕ
most_once_bodies = 4096

-- the ticks from the start to the target, forward or back
abbrev pub once_ticks : ℕ → Start → ℕ
once_ticks target start = (target - start.time) + (start.time - target)

-- the list at the target
abbrev pub list_at : ℕ → Start → List Body
list_at target start = steps start.params (directions_to start.time target) start.bodies

-- the refusal of a start that `once` doesn't take to the target: of too many bodies, of bodies with which no run can begin,
-- and of a target that is too far away, in this order
abbrev pub once_refusal : ℕ → Start → Option Refusal
once_refusal target start =
    if nat_lt most_once_bodies (length start.bodies) then Some (refusal.TooMany (length start.bodies))
    else option_or (start_refusal start.params start.bodies)
    (if nat_lt most_ticks (once_ticks target start) then Some (refusal.TickLimit (once_ticks target start)) else None)

-- `once` can be done: the files spell this start, which it takes to the target.
pub record IsOnceReady (files : ℕ → List ℕ) (target : ℕ) (start : Start) : Type 0 where
  pub starts : HasStart files start
  pub takes : once_refusal target start ≡ None

-- It can't, since it doesn't take the start to the target.
pub record IsNotTaken (files : ℕ → List ℕ) (target : ℕ) (start : Start) (why : Refusal) : Type 0 where
  pub starts : HasStart files start
  pub refused : once_refusal target start ≡ Some why

-- a refusal that `once` gives, whatever the host tells
abbrev pub IsOfOnce : Refusal → Type 0
IsOfOnce (refusal.Params error) = NamesParameter error
IsOfOnce (refusal.Snapshot error) = IsBySnapshot error
IsOfOnce (refusal.TooMany _) = ⊤
IsOfOnce (refusal.TooHeavy _ _) = ⊤
IsOfOnce (refusal.TickLimit _) = ⊤
IsOfOnce refusal.Device = ⊤
IsOfOnce refusal.NoMemory = ⊤
IsOfOnce _ = ⊥

-- The first cause, in this order, for which `once` refuses by what its files hold: the parameter text, the snapshot, and
-- what they spell.
abbrev pub IsOnceRefused : (ℕ → List ℕ) → ℕ → Refusal → Type 0
IsOnceRefused files target why =
    ((error : ParamsError) × HasNoParams files error × (why ≡ refusal.Params error))
    ⊎ ((params : Params) × (error : SnapError) × HasNoSnapshot files params error × (why ≡ refusal.Snapshot error))
    ⊎ ((start : Start) × IsNotTaken files target start why)
