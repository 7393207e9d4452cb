-- How the reason why the program isn't done was told on Err.
use Rattle.std.proofs.Common.{◌≡◌, ◌⊎◌, inl, inr, refl, arith, Result, Ok, Err}
use Rattle.nb_host.specs.declared.host.HostError.{HostError}
use Rattle.nb_host.specs.declared.host.HostError.TheVariants.{Fault, NoMemory}
use Rattle.nb_engine.specs.declared.refusal.Refusal.TheVariants as refusal
use Rattle.nb_engine.specs.Refusal.{of_host}
use Rattle.nb_cli.specs.declared.stop.Stop.{Stop}
use Rattle.nb_cli.specs.declared.stop.Stop.TheVariants as stop
use Rattle.nb_cli.specs.Stop.{status_of, stop_status}
use Rattle.nb_cli.specs.Answer.{Yields, status_after}

-- what a failed say turns the status into
yields_by : (error : HostError) → Yields (status_of (of_host error))
yields_by Fault = inl refl
yields_by NoMemory = inr refl

-- The status is that of the reason, or one of the two that each yields to.
pub behind_answer : (why : Stop) (answer : Result (Unit {0}) HostError)
    → (status_after why answer ≡ stop_status why) ⊎ Yields (status_after why answer)
behind_answer why (Ok tt) = inl refl
behind_answer stop.Words (Err error) = inr (yields_by error)
behind_answer (stop.Refused (refusal.Params _)) (Err error) = inr (yields_by error)
behind_answer (stop.Refused (refusal.Snapshot _)) (Err error) = inr (yields_by error)
behind_answer (stop.Refused (refusal.TooHeavy _ _)) (Err error) = inr (yields_by error)
behind_answer (stop.Refused refusal.NotStarted) (Err error) = inr (yields_by error)
behind_answer (stop.Refused refusal.Started) (Err error) = inr (yields_by error)
behind_answer (stop.Refused (refusal.LegOpen _ _)) (Err error) = inr (yields_by error)
behind_answer (stop.Refused (refusal.TickLimit _)) (Err error) = inr (yields_by error)
behind_answer (stop.Refused refusal.InitThere) (Err error) = inr (yields_by error)
behind_answer (stop.Refused (refusal.TooMany _)) (Err error) = inr (yields_by error)
behind_answer (stop.Refused refusal.Device) (Err error) = inl refl
behind_answer (stop.Refused (refusal.Damaged _)) (Err error) = inl refl
behind_answer (stop.Refused refusal.NoMemory) (Err error) = inl refl

-- A device fault and want of memory stay what they are.
pub behind_kept : (why : Stop) (answer : Result (Unit {0}) HostError) → Yields (stop_status why)
    → status_after why answer ≡ stop_status why
behind_kept why (Ok tt) yields = refl
behind_kept (stop.Refused refusal.Device) (Err error) yields = refl
behind_kept (stop.Refused refusal.NoMemory) (Err error) yields = refl
behind_kept stop.Words (Err error) (inl is) = absurd (omega arith)
behind_kept stop.Words (Err error) (inr is) = absurd (omega arith)
behind_kept (stop.Refused (refusal.Params _)) (Err error) (inl is) = absurd (omega arith)
behind_kept (stop.Refused (refusal.Params _)) (Err error) (inr is) = absurd (omega arith)
behind_kept (stop.Refused (refusal.Snapshot _)) (Err error) (inl is) = absurd (omega arith)
behind_kept (stop.Refused (refusal.Snapshot _)) (Err error) (inr is) = absurd (omega arith)
behind_kept (stop.Refused (refusal.TooHeavy _ _)) (Err error) (inl is) = absurd (omega arith)
behind_kept (stop.Refused (refusal.TooHeavy _ _)) (Err error) (inr is) = absurd (omega arith)
behind_kept (stop.Refused refusal.NotStarted) (Err error) (inl is) = absurd (omega arith)
behind_kept (stop.Refused refusal.NotStarted) (Err error) (inr is) = absurd (omega arith)
behind_kept (stop.Refused refusal.Started) (Err error) (inl is) = absurd (omega arith)
behind_kept (stop.Refused refusal.Started) (Err error) (inr is) = absurd (omega arith)
behind_kept (stop.Refused (refusal.LegOpen _ _)) (Err error) (inl is) = absurd (omega arith)
behind_kept (stop.Refused (refusal.LegOpen _ _)) (Err error) (inr is) = absurd (omega arith)
behind_kept (stop.Refused (refusal.TickLimit _)) (Err error) (inl is) = absurd (omega arith)
behind_kept (stop.Refused (refusal.TickLimit _)) (Err error) (inr is) = absurd (omega arith)
behind_kept (stop.Refused refusal.InitThere) (Err error) (inl is) = absurd (omega arith)
behind_kept (stop.Refused refusal.InitThere) (Err error) (inr is) = absurd (omega arith)
behind_kept (stop.Refused (refusal.TooMany _)) (Err error) (inl is) = absurd (omega arith)
behind_kept (stop.Refused (refusal.TooMany _)) (Err error) (inr is) = absurd (omega arith)
behind_kept (stop.Refused (refusal.Damaged _)) (Err error) (inl is) = absurd (omega arith)
behind_kept (stop.Refused (refusal.Damaged _)) (Err error) (inr is) = absurd (omega arith)
