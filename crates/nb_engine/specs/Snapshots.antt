-- What the writing of a run's snapshot leaves.
use Rattle.std.specs.Prelude.{◌≡◌, ◌⊎◌, ℕ, suc, ◌<◌, ◌≤◌, List, [], ◌∷◌, IsTrue, length, map}
use Rattle.std.specs.List.Sorted.{IsStrictlyIncreasing}
use Rattle.nb_model.specs.declared.body.Body.{Body}
use Rattle.nb_host.specs.declared.page_name.PageName.{PageName}
use Rattle.nb_host.specs.Crashes.{AgreesOutside}
use Rattle.nb_host.specs.Image.{Image}
use Rattle.nb_host.specs.Meaning.{HostModel}
use Rattle.nb_format.specs.Snapshot.{IsFinishedSnapshot}
use Rattle.nb_journal.specs.Form.{Log, progress_of}
use Rattle.nb_cache.specs.View.{CacheValue, seen}
use Rattle.nb_record.specs.Order.{record_of, by_key, sorted_by, HoldsBodies}
use Rattle.nb_record.specs.Records.{body_of}
use Rattle.nb_order.specs.Files.{page_of_body, HasBody}
use Rattle.nb_tick.specs.Slots.{slot_of, sorted_file}
use Rattle.nb_engine.specs.declared.refusal.Refusal.{Refusal}
use Rattle.nb_engine.specs.declared.refusal.Refusal.TheVariants as refusal
use Rattle.nb_engine.specs.Due.{IsLastDue}
use Rattle.nb_engine.specs.Represents.{snap_of}

-- the files that the snapshot after tick k changes: the one in which the bodies are put into the order of their ids, and its own
abbrev pub snapshot_files : ℕ → List ℕ
snapshot_files k = sorted_file ∷ snap_of k ∷ []

-- What the finishing of the snapshot after the last tick of a journal may have changed at some moment, done or not: where it isn't
-- due, or is finished, nothing.
pub record FinishLeads (log : Log) (old new : Image) : Type 0 where
  pub others : AgreesOutside (snapshot_files (progress_of log).ticks) old new
  pub due : (IsLastDue log → ⊥) → new ≡ old
  pub finished : IsFinishedSnapshot log.count (old.file (snap_of (progress_of log).ticks)) → new ≡ old

-- The file holds these bodies, so many, in the order of their ids.
pub record HoldsByIds (count : ℕ) (bodies : List Body) (file : List ℕ) : Type 0 where
  pub holds : HoldsBodies file bodies
  pub count_is : length bodies ≡ count
  pub rises : IsStrictlyIncreasing (map (λ b. b.id) bodies)

-- The file holds these bodies, so many, in Morton order.
pub record HoldsByKeys (count : ℕ) (bodies : List Body) (file : List ℕ) : Type 0 where
  pub holds : HoldsBodies file (sorted_by by_key bodies)
  pub count_is : length bodies ≡ count
  pub rises : IsStrictlyIncreasing (map (λ b. b.id) bodies)

-- The bodies of a file don't go on, in the order of their ids, with body `index`: it isn't there, or its id isn't above that of the
-- one before.
abbrev pub EndsBefore : ℕ → List ℕ → Type 0
EndsBefore index file =
    (HasBody file index → ⊥)
    ⊎ ((before : ℕ) × (index ≡ suc before) × ((body_of (record_of file index)).id ≤ (body_of (record_of file before)).id))

-- The page of the sorted file on which body `index` stands, one of so many with which, over a host that tells, its bodies don't go
-- on.
pub record IsEnd {H : Type 0} (m : HostModel H) (count : ℕ) (cache : CacheValue) (host : H) (page : PageName) : Type 0 where
  pub index : ℕ
  pub below : index < count
  pub page_is : page ≡ page_of_body sorted_file index
  pub ends : IsTrue m.tells → EndsBefore index (seen m cache host sorted_file)

-- a page from which the snapshot after tick k is written: of that tick's slot, or of the file with its bodies in the order of ids
abbrev pub IsSnapshotPage : ℕ → PageName → Type 0
IsSnapshotPage k page = (page.file ≡ slot_of k) ⊎ (page.file ≡ sorted_file)

-- A page isn't what it has to be: it is one of these, and over a host that tells there are no bodies that are held as they have
-- to be.
pub record IsPageDamaged {H : Type 0} (m : HostModel H) (IsPage : PageName → Type 0) (Holds : List Body → Type 0) (why : Refusal) : Type 0 where
  pub page : PageName
  pub named : why ≡ refusal.Damaged page
  pub place : IsPage page
  pub cause : IsTrue m.tells → (bodies : List Body) → Holds bodies → ⊥
