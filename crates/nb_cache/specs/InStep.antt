-- Which pages a cache may hold, and when it is in step with a host.
use Rattle.std.specs.Prelude.{◌≡◌, ℕ, ◌<◌, ◌≤◌, ◌^◌, ◌⊎◌, true, false, IsTrue, Contains}
use Rattle.nb_host.specs.Image.{Image}
use Rattle.nb_host.specs.Meaning.{HostModel}
use Rattle.nb_host.specs.Page.{HasPage, page_of}
use Rattle.nb_host.specs.declared.page_name.PageName.{PageName}
use Rattle.nb_cache.specs.View.{Held, CacheValue, IsWhole, IsDirty}
use Rattle.nb_cache.specs.declared.marks.TheConstants.{FIRST_CACHED_FILE, LAST_CACHED_FILE}

-- a file whose pages go through a cache
pub record IsCachedFile (file : ℕ) : Type 0 where
  pub least : FIRST_CACHED_FILE ≤ file
  pub greatest : file ≤ LAST_CACHED_FILE

-- a page that may go through a cache
pub record IsCacheable (name : PageName) : Type 0 where
  pub file : IsCachedFile name.file
  pub page : name.page < 2 ^ 48

-- Every resident page may be there, and a clean one is the host's. A file of which a page is dirty is unwritten. The
-- dirty pages leave no gap behind the end of the host's file: each whole page of the view is whole there, or dirty.
pub record IsCoherent (c : CacheValue) (image : Image) : Type 0 where
  pub places : (h : Held) → Contains c.held h → IsCacheable h.name
  pub pages : (h : Held) → Contains c.held h → h.dirty ≡ false
      → h.bytes ≡ page_of (image.file h.name.file) h.name.page
  pub marked : (h : Held) → Contains c.held h → h.dirty ≡ true → Contains c.unwritten h.name.file
  pub no_gap : (name : PageName) → IsCachedFile name.file → IsWhole c image name
      → HasPage (image.file name.file) name.page ⊎ IsDirty c.held name

-- The cache fits a host that tells. Each call of a cache takes this and keeps it, whatever it answers, and calls of the
-- host on files that don't go through a cache keep it.
abbrev pub IsInStep : {H : Type 0} → HostModel H → CacheValue → H → Type 0
IsInStep m c host = IsTrue m.tells → IsCoherent c (m.contents host)
