-- What holds of every cache, whatever the host tells.
use Rattle.std.specs.Prelude.{◌≡◌, ℕ, ◌<◌, ◌≤◌, List, Contains, length}
use Rattle.std.specs.List.{IsDistinct}
use Rattle.nb_host.specs.Page.{same_page}
use Rattle.nb_host.specs.declared.page_name.TheConstants.{PAGE_SIZE}
use Rattle.nb_cache.specs.InStep.{IsCacheable}
use Rattle.nb_cache.specs.View.{Held, held_names}

-- the resident pages of a cache of so many pages
pub record AreResident (pages : ℕ) (held : List Held) : Type 0 where
  pub distinct : IsDistinct same_page (held_names held)
  pub bound : length (held_names held) ≤ pages
  pub positive : 0 < pages
  pub whole : (h : Held) → Contains held h → length h.bytes ≡ PAGE_SIZE
  pub places : (h : Held) → Contains held h → IsCacheable h.name
