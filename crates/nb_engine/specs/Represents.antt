-- What the files of a folder stand for.
use Rattle.std.specs.Prelude.{◌≡◌, ◌≢◌, ℕ, ◌+◌, ◌<◌, ◌≤◌, ◌⊎◌, List, length, slice_index}
use Rattle.nb_host.specs.declared.host.Channel.TheVariants as channels
use Rattle.nb_host.specs.Image.{Image}
use Rattle.nb_model.specs.Leapfrog.{half_kick}
use Rattle.nb_format.specs.Snapshot.{snapshot_gate, IsSnapshot, IsFinishedSnapshot}
use Rattle.nb_journal.specs.Form.{Log, IsFresh, IsCleanJournal}
use Rattle.nb_journal.specs.Offsets.{journal_file}
use Rattle.nb_record.specs.Order.{by_key, sorted_by, HoldsBodies, HoldsKickedBodies}
use Rattle.nb_tick.specs.Slots.{slot_of}
use Rattle.nb_engine.specs.Acknowledged.{IsAcknowledgedUpTo}
use Rattle.nb_engine.specs.Files.{init_file}
use Rattle.nb_engine.specs.Histories.{Run, state_at, time_at, IsDueAfter, History, run_of, ticks_of, IsHistory}

-- the file of the snapshot that is written after tick k
abbrev pub snap_of : ℕ → ℕ
snap_of k = 16 + k

-- the gate of a snapshot file is open, and more than the gate is there
pub record HasOpenGate (file : List ℕ) : Type 0 where
  pub more : 1 < length file
  pub open_gate : slice_index file 0 ≡ snapshot_gate

-- the file is the snapshot of a run after tick k, where one is due
pub record IsSnapshotOf (run : Run) (k : ℕ) (file : List ℕ) : Type 0 where
  pub due : IsDueAfter run k
  pub bytes : IsSnapshot file (state_at run k) (time_at run k)

-- The image represents the run up to tick k, and its journal is this one. The slot of tick k holds the list after it, in Morton
-- order, behind the first tick with the half kicks that the next one begins with. Each snapshot that was due before is
-- finished. What is opened under the name of a tick up to k is the run's snapshot, where one is due: so what an earlier run left
-- behind isn't taken for it.
pub record Represents (log : Log) (run : Run) (k : ℕ) (image : Image) : Type 0 where
  pub journal : IsCleanJournal log (image.file journal_file)
  pub start : IsSnapshot (image.file init_file) run.bodies run.begin
  pub slot : HoldsBodies (image.file (slot_of k)) (sorted_by by_key (state_at run k))
  pub kicks : k ≢ 0 → HoldsKickedBodies (image.file (slot_of k)) (half_kick run.params (state_at run k))
      (sorted_by by_key (state_at run k))
  pub finished : (j : ℕ) → IsDueAfter run j → j < k → IsFinishedSnapshot (length run.bodies) (image.file (snap_of j))
  pub right : (j : ℕ) → 1 ≤ j → j ≤ k → HasOpenGate (image.file (snap_of j)) → IsSnapshotOf run j (image.file (snap_of j))

-- It represents the run of a history, up to the last tick that is done.
abbrev pub RepresentsRun : History → Image → Type 0
RepresentsRun h image = Represents h.log (run_of h) (ticks_of h) image

-- It does, and no tick beyond was acknowledged.
pub record RepresentsHistory (h : History) (image : Image) : Type 0 where
  pub run : RepresentsRun h image
  pub acknowledged : IsAcknowledgedUpTo (ticks_of h) (image.said channels.Out)

-- Each snapshot that is due up to tick k is finished: that of tick k too, before a gate opens.
abbrev pub HasDueSnapshots : Run → ℕ → Image → Type 0
HasDueSnapshots run k image = (j : ℕ) → IsDueAfter run j → j ≤ k → IsFinishedSnapshot (length run.bodies) (image.file (snap_of j))

-- A sound image: no run is started, and no tick from 1 on was acknowledged, or it represents a run up to a tick, and none
-- beyond was acknowledged.
abbrev pub IsSoundImage : Image → Type 0
IsSoundImage image =
    (IsFresh (image.file journal_file) × IsAcknowledgedUpTo 0 (image.said channels.Out))
    ⊎ ((h : History) × IsHistory h × RepresentsHistory h image)
