-- When a snapshot is due, by the counters of a journal.
use Rattle.std.specs.Prelude.{◌≡◌, ◌⊎◌, ◌%◌, ◌≤◌, IsTrue, ◌↔◌, Bool}
use Rattle.nb_model.specs.Legs.{IsSnapshotDue}
use Rattle.nb_journal.specs.Counters.{Counters}
use Rattle.nb_journal.specs.Form.{Log, progress_of}
use Rattle.nb_engine.specs.Histories.{IsDueAfter, History, legs_in, run_of, ticks_of}

-- After a tick: at every so many of them, and where it ended its leg.
abbrev pub IsDueByCounters : Counters → Type 0
IsDueByCounters journal =
    (1 ≤ journal.progress.ticks)
    × ((journal.progress.ticks % journal.params.every ≡ 0) ⊎ (journal.progress.time ≡ journal.progress.target))

-- A snapshot is due after the last tick of a journal, which needs no bodies.
abbrev pub IsLastDue : Log → Type 0
IsLastDue log = IsSnapshotDue log.params log.begin_time (legs_in log.entries) (progress_of log).ticks

-- The answer says whether a snapshot is due after the last tick of this history.
abbrev pub TellsDue : History → Bool → Type 0
TellsDue h due = IsTrue due ↔ IsDueAfter (run_of h) (ticks_of h)
