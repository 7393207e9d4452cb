-- A file to which bodies are added. This crate's own.
use Rattle.std.specs.Prelude.{◌≡◌, ℕ, ◌+◌, ◌-◌, ◌<◌, ◌≤◌, IsTrue, List, [], ◌∷◌, ◌++◌, length, map, take, drop, Contains}
use Rattle.nb_host.specs.Meaning.{HostModel}
use Rattle.nb_host.specs.declared.page_name.PageName.{PageName}
use Rattle.nb_model.specs.Limits.{most_bodies}
use Rattle.nb_cache.specs.View.{CacheValue, seen}
use Rattle.nb_order.specs.declared.body_file.KickedBody.{KickedBody}
use Rattle.nb_record.specs.declared.sizes.TheConstants.{BODY_SIZE}
use Rattle.nb_record.specs.Writing.{IsZeroPaddedFile}
use Rattle.nb_tick.specs.Steps.{HoldsList}

-- the file, and how many bodies it has
pub record WriterValue : Type 0 where
  pub file : ℕ
  pub count : ℕ

-- Over files that are told: the writer's file holds these bodies with their kicks, as many as the writer counts, and zeros behind
-- the last record of each page.
pub record HasWritten (files : ℕ → List ℕ) (w : WriterValue) (list : List KickedBody) : Type 0 where
  pub count_is : length list ≡ w.count
  pub holds : HoldsList (files w.file) list
  pub padded : IsZeroPaddedFile BODY_SIZE (files w.file)

-- some bodies were written, and there is room for so many more
pub record CanAdd (files : ℕ → List ℕ) (w : WriterValue) (more : ℕ) : Type 0 where
  pub list : List KickedBody
  pub written : HasWritten files w list
  pub room : w.count + more ≤ most_bodies

-- a body was added behind those that were written
pub record HasAdded {H : Type 0} (m : HostModel H) (k : KickedBody) (old_cache : CacheValue) (old : H) (old_self : WriterValue) (new_cache : CacheValue) (new : H) (new_self : WriterValue) : Type 0 where
  pub count_is : new_self.count ≡ old_self.count + 1
  pub written : IsTrue m.tells → (list : List KickedBody) → HasWritten (seen m old_cache old) old_self list
      → HasWritten (seen m new_cache new) new_self (list ++ k ∷ [])

-- no body can be added: the file doesn't hold as many as were counted, or that is the most
pub record CantAdd {H : Type 0} (m : HostModel H) (cache : CacheValue) (host : H) (self : WriterValue) (name : PageName) : Type 0 where
  pub file : name.file ≡ self.file
  pub cause : IsTrue m.tells → (list : List KickedBody) → HasWritten (seen m cache host) self list
      → self.count < most_bodies → ⊥

-- The bodies of a file from an index on up to another were added, each as this makes it.
pub record HasCopied {H : Type 0} (m : HostModel H) (made : KickedBody → KickedBody) (from begin end : ℕ) (old_cache : CacheValue) (old : H) (old_self : WriterValue) (new_cache : CacheValue) (new : H) (new_self : WriterValue) : Type 0 where
  pub count_is : new_self.count ≡ old_self.count + (end - begin)
  pub written : IsTrue m.tells → (bodies : List KickedBody) → HoldsList (seen m old_cache old from) bodies
      → end ≤ length bodies → (list : List KickedBody) → HasWritten (seen m old_cache old) old_self list
      → HasWritten (seen m new_cache new) new_self (list ++ map made (take (end - begin) (drop begin bodies)))

-- they can't be added: the file doesn't hold so many, or there is no room for them
pub record CantCopy {H : Type 0} (m : HostModel H) (from begin end : ℕ) (cache : CacheValue) (host : H) (self : WriterValue) (name : PageName) : Type 0 where
  pub file : Contains (from ∷ self.file ∷ []) name.file
  pub cause : IsTrue m.tells → (bodies : List KickedBody) → HoldsList (seen m cache host from) bodies
      → end ≤ length bodies → (list : List KickedBody) → HasWritten (seen m cache host) self list
      → self.count + (end - begin) ≤ most_bodies → ⊥
