-- What a cache leaves alone where it writes a page that waits, and where it puts one.
use Rattle.std.proofs.Common.{◌≡◌, ℕ, ◌≤◌, true, IsTrue, List, [], length, refl, subst, Contains}
use Rattle.nb_host.specs.Image.{FileBecomes, IsOverwritten, IsTorn}
use Rattle.nb_host.specs.Meaning.{HostModel, Leads, Over}
use Rattle.nb_host.specs.Page.{page_start}
use Rattle.nb_host.specs.declared.page_name.PageName.{PageName}
use Rattle.nb_host.specs.declared.page_name.TheConstants.{PAGE_SIZE}
use Rattle.nb_cache.specs.InStep.{IsInStep}
use Rattle.nb_cache.specs.Names.{with_clean}
use Rattle.nb_cache.specs.Sound.{AreResident}
use Rattle.nb_cache.specs.View.{Held, CacheValue}
use Rattle.nb_cache.specs.Writes.{Writes}
use Rattle.nb_cache.proofs.Fitting.{fits_under, fits_settled, view_stays, settled_view}
use Rattle.nb_cache.proofs.Writing.{writes_late}

abbrev pub page : PageName → List ℕ → Held
page name bytes = record { name = name; bytes = bytes; dirty = true }

module _ {H : Type 0} (m : HostModel H) (cache : CacheValue) (old new : H) (k : PageName) (bytes : List ℕ) (has : Contains cache.held (page k bytes)) (sound : AreResident cache.pages cache.held) (in_step : IsInStep m cache old) (leads : Leads m (FileBecomes k.file (IsTorn (page_start k.page) (length bytes))) old new) (count : m.faults old ≤ m.faults new) (tally : m.tally new ≡ m.tally old) where
  torn : IsTrue m.tells → FileBecomes k.file (IsTorn (page_start k.page) PAGE_SIZE) (m.contents old) (m.contents new)
  torn tells =
      subst (λ n. FileBecomes k.file (IsTorn (page_start k.page) n) (m.contents old) (m.contents new))
      (sound.whole (page k bytes) has) (leads.contents tells)

  -- it wasn't written, or in part
  pub writes_under : Writes m [] cache old cache new
  writes_under =
      writes_late {m = m} cache {old = old} cache {new = new}
      (λ tells. fits_under cache (m.contents old) (m.contents new) k (torn tells) sound (in_step tells) (page k bytes) has refl refl)
      refl count tally k.file leads (λ tells. (in_step tells).marked (page k bytes) has refl) refl
      (λ tells file. view_stays cache (m.contents old) (m.contents new) k (torn tells) sound (in_step tells) (page k bytes) has
      refl refl file)

  -- it was written, and no longer waits
  pub writes_settled : (after : CacheValue) → after.held ≡ with_clean k cache.held → after.unwritten ≡ cache.unwritten
      → after.pages ≡ cache.pages
      → Over m (FileBecomes k.file (IsOverwritten (page_start k.page) bytes)) old new → Writes m [] cache old after new
  writes_settled after held unwritten pages wrote =
      writes_late {m = m} cache {old = old} after {new = new}
      (λ tells. fits_settled cache (m.contents old) (m.contents new) k (torn tells) sound (in_step tells) (page k bytes) has refl
      refl after held unwritten (wrote tells))
      pages count tally k.file leads (λ tells. (in_step tells).marked (page k bytes) has refl) unwritten
      (λ tells file. settled_view cache (m.contents old) (m.contents new) k (torn tells) sound (in_step tells) (page k bytes) has
      refl refl after held unwritten (wrote tells) file)
