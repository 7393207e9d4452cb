-- What the steps of a session need of a folder, and what they leave of it.
use Rattle.std.specs.Prelude.{◌≡◌, ◌≢◌, ◌⊎◌, ℕ, zero, suc, ◌+◌, ◌<◌, ◌≤◌, IsTrue, List, [], ◌∷◌, ◌++◌, length, take, Contains}
use Rattle.nb_model.specs.declared.body.Body.{Body}
use Rattle.nb_model.specs.Leapfrog.{escaped_count, half_kick}
use Rattle.nb_model.specs.Valid.{IsValidBodies}
use Rattle.nb_host.specs.declared.host.Channel.TheVariants as channels
use Rattle.nb_host.specs.declared.page_name.PageName.{PageName}
use Rattle.nb_host.specs.Image.{Image}
use Rattle.nb_host.specs.Meaning.{HostModel, IsDurable}
use Rattle.nb_format.specs.Lines.{tick_line}
use Rattle.nb_format.specs.Snapshot.{IsFinishedSnapshot}
use Rattle.nb_journal.specs.Counters.{Counters, Answers}
use Rattle.nb_record.specs.Order.{by_key, sorted_by, HoldsBodies, HoldsKickedBodies}
use Rattle.nb_cache.specs.InStep.{IsInStep}
use Rattle.nb_cache.specs.View.{CacheValue}
use Rattle.nb_tick.specs.Slots.{slot_of, drifted_file, sorted_file, cell_file}
use Rattle.nb_tick.specs.State.{IsCellIndexOf}
use Rattle.nb_engine.specs.declared.refusal.Refusal.{Refusal}
use Rattle.nb_engine.specs.declared.refusal.Refusal.TheVariants as refusal
use Rattle.nb_engine.specs.Histories.{Run, state_at, time_at, History, run_of, ticks_of, IsHistory, ticked}
use Rattle.nb_engine.specs.Files.{IsPagedFile}
use Rattle.nb_engine.specs.Represents.{snap_of, HasOpenGate, HasDueSnapshots, RepresentsRun}

-- ---- the lines of ticks

-- the line of a run's tick k
abbrev pub tick_line_of : Run → ℕ → List ℕ
tick_line_of run k = tick_line k (time_at run k) (escaped_count (state_at run k))

-- those of the n ticks behind tick k
abbrev pub lines_after : Run → ℕ → ℕ → List ℕ
lines_after run k zero = []
lines_after run k (suc n) = lines_after run k n ++ tick_line_of run (suc (k + n))

-- The bytes said on a channel are those of before and a front of this text.
abbrev pub SaidPrefixOf : List ℕ → List ℕ → List ℕ → Type 0
SaidPrefixOf text old new = (n : ℕ) × (n ≤ length text) × (new ≡ old ++ take n text)

-- What was said since tick k, when n ticks are done behind it: the lines of all but the last, and a front of the last one's.
abbrev pub SaidLinesOf : Run → ℕ → ℕ → List ℕ → List ℕ → Type 0
SaidLinesOf run k zero old new = new ≡ old
SaidLinesOf run k (suc n) old new = SaidPrefixOf (tick_line_of run (suc (k + n))) (old ++ lines_after run k n) new

-- ---- before and behind a step

-- the history n ticks later
abbrev pub played : ℕ → History → History
played zero h = h
played (suc n) h = ticked (played n h)

-- Of a host that tells: what reads is durable and represents this history, and the journal in hand tells it.
pub record IsCheckpoint {H : Type 0} (m : HostModel H) (h : History) (journal : Counters) (host : H) : Type 0 where
  pub tells : IsTrue m.tells
  pub durable : IsDurable m host
  pub is : IsHistory h
  pub answers : Answers h.log journal
  pub represents : RepresentsRun h (m.contents host)

-- The cache is in step with its host, and of its files only the scratch file of a snapshot may be unwritten.
pub record IsFlushed {H : Type 0} (m : HostModel H) (cache : CacheValue) (host : H) : Type 0 where
  pub in_step : IsInStep m cache host
  pub unwritten : (file : ℕ) → Contains cache.unwritten file → file ≡ sorted_file

-- What a folder has to hold so that its run can go on, whatever else it holds: valid bodies in the slot of the last tick, in
-- Morton order, as many as the journal tells, of which as many are out. Their kicks may be any.
pub record HasState (journal : Counters) (bodies : List Body) (files : ℕ → List ℕ) : Type 0 where
  pub valid : IsValidBodies journal.params bodies
  pub count : length bodies ≡ journal.count
  pub gone : escaped_count bodies ≡ journal.progress.gone
  pub slot : HoldsBodies (files (slot_of journal.progress.ticks)) (sorted_by by_key bodies)

-- A page isn't what it has to be: it is one of a file of pages, and over a host that tells the folder doesn't hold what its run
-- needs to go on.
pub record IsStateDamaged {H : Type 0} (m : HostModel H) (journal : Counters) (host : H) (why : Refusal) : Type 0 where
  pub page : PageName
  pub named : why ≡ refusal.Damaged page
  pub file : IsPagedFile page.file
  pub cause : IsTrue m.tells → (bodies : List Body) → HasState journal bodies (m.contents host).file → ⊥

-- ---- one tick

-- the files into which a tick writes, before its entry
abbrev pub fill_files : ℕ → List ℕ
fill_files k = slot_of (suc k) ∷ drifted_file ∷ sorted_file ∷ cell_file ∷ snap_of (suc k) ∷ []

-- Before the entry of the next tick: the other slot holds the list after it, in Morton order with its half kicks, the file of
-- cells is its index, and what stands under the name of its snapshot isn't opened.
pub record IsFilled (h : History) (image : Image) : Type 0 where
  pub slot : HoldsKickedBodies (image.file (slot_of (suc (ticks_of h))))
      (half_kick h.log.params (state_at (run_of h) (suc (ticks_of h))))
      (sorted_by by_key (state_at (run_of h) (suc (ticks_of h))))
  pub cells : IsCellIndexOf h.log.params (state_at (run_of h) (suc (ticks_of h))) (image.file cell_file)
  pub shut : HasOpenGate (image.file (snap_of (suc (ticks_of h)))) → ⊥

-- The other slot holds a list that the next tick can go on from, with so many bodies out.
pub record HasNextState (journal : Counters) (gone : ℕ) (files : ℕ → List ℕ) : Type 0 where
  pub bodies : List Body
  pub valid : IsValidBodies journal.params bodies
  pub count : length bodies ≡ journal.count
  pub gone_is : escaped_count bodies ≡ gone
  pub no_fewer : journal.progress.gone ≤ gone
  pub slot : HoldsBodies (files (slot_of (suc journal.progress.ticks))) (sorted_by by_key bodies)

-- ---- ticks

-- A tick whose snapshot's name isn't written while n ticks are taken behind tick k: it is before that, or behind them.
abbrev pub IsOutsideTicks : ℕ → ℕ → ℕ → Type 0
IsOutsideTicks k n j = (j < k) ⊎ (k + n < j)

-- What a folder that represented a history may hold at some moment since, when at most so many ticks came behind: it
-- represents the history some ticks later, each snapshot that was finished is as it was, as is what stands under the names
-- of ticks before the last one and behind the next, and what was said is the lines of all of them but the last, and a front of
-- the last one's: the whole of it before the snapshot of its tick is opened.
pub record GoesOn (most : ℕ) (h : History) (before image : Image) : Type 0 where
  pub done : ℕ
  pub few : done ≤ most
  pub represents : RepresentsRun (played done h) image
  pub kept : (j : ℕ) → j ≤ ticks_of h → IsFinishedSnapshot (length h.bodies) (before.file (snap_of j))
      → image.file (snap_of j) ≡ before.file (snap_of j)
  pub others : (j : ℕ) → IsOutsideTicks (ticks_of h) (suc done) j ⊎ IsOutsideTicks (ticks_of h) most j
      → image.file (snap_of j) ≡ before.file (snap_of j)
  pub said : SaidLinesOf (run_of h) (ticks_of h) done (before.said channels.Out) (image.said channels.Out)
  pub first : HasOpenGate (image.file (snap_of (ticks_of h + done)))
      → image.said channels.Out ≡ before.said channels.Out ++ lines_after (run_of h) (ticks_of h) done

-- So many ticks are done, and told: all of that is durable, and the journal in hand tells it.
pub record HasPlayed {H : Type 0} (m : HostModel H) (n : ℕ) (h : History) (before : Image) (journal : Counters) (host : H) : Type 0 where
  pub at : IsCheckpoint m (played n h) journal host
  pub kept : (j : ℕ) → j ≤ ticks_of h → IsFinishedSnapshot (length h.bodies) (before.file (snap_of j))
      → (m.contents host).file (snap_of j) ≡ before.file (snap_of j)
  pub others : (j : ℕ) → IsOutsideTicks (ticks_of h) n j → (m.contents host).file (snap_of j) ≡ before.file (snap_of j)
  pub said : (m.contents host).said channels.Out ≡ before.said channels.Out ++ lines_after (run_of h) (ticks_of h) n
  pub cells : n ≢ 0
      → IsCellIndexOf h.log.params (state_at (run_of (played n h)) (ticks_of (played n h))) ((m.contents host).file cell_file)

-- All snapshots that are due are finished.
abbrev pub HoldsDueSnapshots : {H : Type 0} → HostModel H → History → H → Type 0
HoldsDueSnapshots m h host = HasDueSnapshots (run_of h) (ticks_of h) (m.contents host)
