-- What calls that take a cache leave alone, and what they owe to the counts.
use Rattle.std.specs.Prelude.{◌≡◌, ◌≢◌, ℕ, ◌≤◌, IsTrue, List, ◌++◌, Contains, Result, Err}
use Rattle.nb_host.specs.Crashes.{AgreesOutside}
use Rattle.nb_host.specs.Meaning.{HostModel, Leads, HaltedAtFault}
use Rattle.nb_cache.specs.View.{CacheValue, seen}
use Rattle.nb_cache.specs.InStep.{IsInStep}

-- Calls that take a cache write these files alone: a call of the cache itself, or of a crate above, whatever it answers.
-- What reads, and every image since the start, agrees with the start but in these files and in those that were unwritten
-- then. Only these files may become unwritten. The number of pages stays, and the view of every other file. The count of
-- faults never falls, no say is refused, and nothing is synced.
pub record Writes {H : Type 0} (m : HostModel H) (files : List ℕ) (old_cache : CacheValue) (old : H) (new_cache : CacheValue) (new : H) : Type 0 where
  pub leads : Leads m (AgreesOutside (files ++ old_cache.unwritten)) old new
  pub unwritten : (file : ℕ) → Contains new_cache.unwritten file → Contains (files ++ old_cache.unwritten) file
  pub pages : new_cache.pages ≡ old_cache.pages
  pub in_step : IsInStep m new_cache new
  pub view : IsTrue m.tells → (file : ℕ) → (Contains files file → ⊥)
      → seen m new_cache new file ≡ seen m old_cache old file
  pub count : m.faults old ≤ m.faults new
  pub tally : m.tally new ≡ m.tally old

-- The frame of a call that takes a cache: it writes these files alone, the answer that stands for a fault comes where its
-- calls of the host came to an end at one, and every other answer where there was none.
pub record RanCached {H T E : Type 0} (m : HostModel H) (fault : E) (files : List ℕ) (old_cache : CacheValue) (old : H) (new_cache : CacheValue) (new : H) (result : Result T E) : Type 0 where
  pub writes : Writes m files old_cache old new_cache new
  pub rose : result ≡ Err fault → HaltedAtFault m old new
  pub spared : result ≢ Err fault → m.faults new ≡ m.faults old
