-- The resident pages after a call, and the list of their names.
use Rattle.std.specs.Prelude.{◌≡◌, ◌≢◌, ℕ, not, false, if◌then◌else◌, ◌==◌, map, List, ◌∷◌, ◌++◌, ◌-◌, take, drop, reverse, Contains}
use Rattle.std.specs.List.{filter, list_any}
use Rattle.nb_host.specs.Page.{same_page}
use Rattle.nb_host.specs.declared.page_name.PageName.{PageName}
use Rattle.nb_cache.specs.View.{Held, overlaid}

-- the other names, in their order
abbrev pub without : List PageName → List PageName → List PageName
without gone names = filter (λ n. not (list_any (λ g. same_page g n) gone)) names

-- The resident names after these pages were used, one after the other, in a cache of so many pages: these from the last
-- to the first, then the other old names in their old order, cut to as many as there is room for.
abbrev pub used : ℕ → List PageName → List PageName → List PageName
used pages names old = take pages (reverse names ++ without names old)

-- the names of pages of other files, in their order
abbrev pub without_file : ℕ → List PageName → List PageName
without_file file names = filter (λ n. not (n.file == file)) names

-- the other resident pages, in their order
abbrev pub held_without : PageName → List Held → List Held
held_without name held = filter (λ h. not (same_page name h.name)) held

-- the page, written
abbrev pub cleaned_page : Held → Held
cleaned_page h = record { name = h.name; bytes = h.bytes; dirty = false }

-- the resident pages, where this one is written
abbrev pub with_clean : PageName → List Held → List Held
with_clean name held = map (λ h. if same_page name h.name then cleaned_page h else h) held

-- a resident page became the most recently used
pub record IsPromoted (name : PageName) (old new : List Held) : Type 0 where
  pub page : Held
  pub there : Contains old page
  pub named : page.name ≡ name
  pub now : new ≡ page ∷ held_without name old

-- pages of this file left, and the others stay
pub record IsWithoutFile (file : ℕ) (old new : List Held) : Type 0 where
  pub fewer : (h : Held) → Contains new h → Contains old h
  pub others : (h : Held) → Contains old h → h.name.file ≢ file → Contains new h
  pub view : (other : ℕ) (bytes : List ℕ) → other ≢ file → overlaid other new bytes ≡ overlaid other old bytes

-- In a cache of so many pages, no dirty page leaves for this one.
pub record SparesDirty (name : PageName) (pages : ℕ) (held : List Held) : Type 0 where
  pub leaves : (h : Held) → Contains (drop (pages - 1) (held_without name held)) h → h.dirty ≡ false
