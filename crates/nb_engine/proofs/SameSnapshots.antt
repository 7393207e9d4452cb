-- Finished snapshots of one time are the same bytes, where no body became out.
use Rattle.std.proofs.Common.{◌≡◌, ℕ, ◌≤◌, List, length, sym, ap, ◌∙◌, arith}
use Rattle.nb_host.specs.Image.{Image}
use Rattle.nb_model.specs.Laws.{StepIsUndone}
use Rattle.nb_model.specs.Leapfrog.{escaped_count}
use Rattle.nb_format.specs.Snapshot.{snapshot_bytes, IsFinishedSnapshot}
use Rattle.nb_engine.specs.Histories.{state_at, time_at, History, run_of, ticks_of, IsHistory}
use Rattle.nb_engine.specs.Files.{init_file}
use Rattle.nb_engine.specs.Represents.{snap_of, HasOpenGate, Represents}
use Rattle.nb_engine.proofs.Straight.{same_state}

opened_if_finished : (count : ℕ) (file : List ℕ) → IsFinishedSnapshot count file → HasOpenGate file
opened_if_finished count file finished = record { more = omega (arith, finished.whole); open_gate = finished.opened }

-- a finished snapshot of a tick that is done is the run's
pub finished_bytes : (h : History) (image : Image) (i : ℕ) → Represents h.log (run_of h) (ticks_of h) image → 1 ≤ i
    → i ≤ ticks_of h
    → IsFinishedSnapshot (length h.bodies) (image.file (snap_of i))
    → image.file (snap_of i) ≡ snapshot_bytes (state_at (run_of h) i) (time_at (run_of h) i)
finished_bytes h image i stands some within finished =
    (stands.right i some within (opened_if_finished (length h.bodies) (image.file (snap_of i)) finished)).bytes.spelled

same_bytes : StepIsUndone → (h : History) (i j : ℕ) → IsHistory h
    → escaped_count (state_at (run_of h) (ticks_of h)) ≡ escaped_count h.bodies → i ≤ ticks_of h → j ≤ ticks_of h
    → time_at (run_of h) i ≡ time_at (run_of h) j
    → snapshot_bytes (state_at (run_of h) i) (time_at (run_of h) i)
    ≡ snapshot_bytes (state_at (run_of h) j) (time_at (run_of h) j)
same_bytes undone h i j is none first second same =
    ap (λ bodies. snapshot_bytes bodies (time_at (run_of h) i))
    (same_state undone (run_of h) (ticks_of h) i j is.run none first second same)
    ∙ ap (snapshot_bytes (state_at (run_of h) j)) same

pub same_snapshots : StepIsUndone → (h : History) (image : Image) (i j : ℕ) → IsHistory h
    → Represents h.log (run_of h) (ticks_of h) image
    → escaped_count (state_at (run_of h) (ticks_of h)) ≡ escaped_count h.bodies
    → 1 ≤ i → i ≤ ticks_of h → 1 ≤ j → j ≤ ticks_of h → time_at (run_of h) i ≡ time_at (run_of h) j
    → IsFinishedSnapshot (length h.bodies) (image.file (snap_of i))
    → IsFinishedSnapshot (length h.bodies) (image.file (snap_of j))
    → image.file (snap_of i) ≡ image.file (snap_of j)
same_snapshots undone h image i j is stands none some_i within_i some_j within_j same finished_i finished_j =
    finished_bytes h image i stands some_i within_i finished_i
    ∙ same_bytes undone h i j is none within_i within_j same
    ∙ sym (finished_bytes h image j stands some_j within_j finished_j)

-- and those of the time at the begin are those of the initial snapshot
pub same_as_initial : StepIsUndone → (h : History) (image : Image) (i : ℕ) → IsHistory h
    → Represents h.log (run_of h) (ticks_of h) image
    → escaped_count (state_at (run_of h) (ticks_of h)) ≡ escaped_count h.bodies
    → 1 ≤ i → i ≤ ticks_of h → time_at (run_of h) i ≡ h.log.begin_time
    → IsFinishedSnapshot (length h.bodies) (image.file (snap_of i))
    → image.file (snap_of i) ≡ image.file init_file
same_as_initial undone h image i is stands none some within same finished =
    let begin : time_at (run_of h) 0 ≡ h.log.begin_time = omega arith in
    finished_bytes h image i stands some within finished
    ∙ same_bytes undone h i 0 is none within (omega arith) (same ∙ sym begin)
    ∙ ap (snapshot_bytes h.bodies) begin ∙ sym stands.start.spelled
