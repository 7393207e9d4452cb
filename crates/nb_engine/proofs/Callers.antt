-- What crates above may cite. Every other proof file of this crate is its own.
use Rattle.std.proofs.Common.{◌≡◌, ℕ, List, take, map, sym, subst}
use Rattle.std.specs.List.Sorted.{IsStrictlyIncreasing}
use Rattle.std.proofs.lemmas.List.Sorted.{IsPermutation-sym}
use Rattle.nb_model.specs.declared.body.Body.{Body}
use Rattle.nb_record.specs.Order.{by_key, by_id, sorted_by, IsSortedByRank}
use Rattle.nb_record.proofs.Callers.{permuted, sorted, only, different_ids, own_by_id}
use Rattle.nb_engine.proofs.Steps.{steps_valid}
-- a run, tick by tick
pub use Rattle.nb_engine.proofs.Steps.{steps_append, steps_valid, escaped_count-step, escaped_count-steps, escaped_count-fewer, length-steps}
pub use Rattle.nb_engine.proofs.Straight.{same_state}
-- what a journal tells of its run
pub use Rattle.nb_engine.proofs.Paths.{IsTold, told, ticks-within, time-now, state-forward, state-back}
pub use Rattle.nb_engine.proofs.LongerLogs.{run-ticked, ticks-ticked, history-ticked, run-legged, ticks-legged, history-legged}
-- what a folder represents
pub use Rattle.nb_engine.proofs.Representing.{spared, represents_kept, represents_ticked, represents_legged}
pub use Rattle.nb_engine.proofs.SameSnapshots.{finished_bytes}
-- what is said beside the lines of ticks
pub use Rattle.nb_engine.proofs.Played.{history-played}
-- images of calls that begin where what reads is durable
pub use Rattle.nb_engine.proofs.EachImages.{leads_from_durable, durable_said}
-- what acknowledges no tick, and which ticks the lines of a session do
pub use Rattle.nb_engine.proofs.Acknowledging.{IsSmall, small_log, LineTellsOne, told_goes}
pub use Rattle.nb_engine.proofs.OtherLines.{told_other}
pub use Rattle.nb_engine.proofs.OtherTexts.{append_is_other, once_is_other, started_is_other, done_is_other, folder_is_other, made_is_other, demo_is_other, params_are_other}
-- a run that was started
pub use Rattle.nb_engine.proofs.Started.{started_history}
-- what a reader of a snapshot has given so far
pub use Rattle.nb_engine.proofs.Reading.{HasGiven, HasGiven-none, HasGiven-more, IsFrontOf-same, file-same, IsBad, not_ended}

-- A list whose ids rise, put into Morton order and back.
pub sorted_back : (bodies : List Body) → IsStrictlyIncreasing (map (λ b. b.id) bodies)
    → sorted_by by_id (sorted_by by_key bodies) ≡ bodies
sorted_back bodies rises =
    let own = own_by_id bodies rises in
    let order = subst (IsSortedByRank by_id) own (sorted by_id bodies (different_ids bodies rises)) in
    let same = IsPermutation-sym bodies (sorted_by by_key bodies) (permuted by_key bodies) in
    sym (only by_id (sorted_by by_key bodies) bodies same order)
