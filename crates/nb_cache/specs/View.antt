-- What a cache is to its callers: how many pages it has, the resident pages, and the bytes that it shows over a host's.
use Rattle.std.specs.Prelude.{◌≡◌, ℕ, Bool, true, IsTrue, Contains, if◌then◌else◌, ◌&&◌, ◌==◌, List, [], ◌∷◌, map, take, slice_get, Option, None, Some}
use Rattle.std.specs.List.{AllByRecursion}
use Rattle.nb_host.specs.Image.{Image, overwritten}
use Rattle.nb_host.specs.Meaning.{HostModel}
use Rattle.nb_host.specs.Page.{HasPage, page_start, same_page}
use Rattle.nb_host.specs.declared.page_name.PageName.{PageName}

-- a resident page, and whether it is dirty: still to be written
pub record Held : Type 0 where
  pub name : PageName
  pub bytes : List ℕ
  pub dirty : Bool

-- The most pages, the resident ones, the most recently used first, and the files that were put into since they were last
-- flushed or emptied.
pub record CacheValue : Type 0 where
  pub pages : ℕ
  pub held : List Held
  pub unwritten : List ℕ

abbrev pub held_names : List Held → List PageName
held_names held = map (λ h. h.name) held

abbrev pub names_of : CacheValue → List PageName
names_of c = held_names c.held

-- the bytes of a resident page
abbrev pub resident_bytes : List Held → PageName → Option (List ℕ)
resident_bytes [] name = None
resident_bytes (h ∷ held) name = if same_page name h.name then Some h.bytes else resident_bytes held name

-- a page is dirty
pub record IsDirty (held : List Held) (name : PageName) : Type 0 where
  pub page : Held
  pub there : Contains held page
  pub named : page.name ≡ name
  pub dirty : page.dirty ≡ true

-- a file's bytes with its dirty pages laid over them
abbrev pub overlaid : ℕ → List Held → List ℕ → List ℕ
overlaid file [] bytes = bytes
overlaid file (h ∷ held) bytes =
    if h.dirty && (h.name.file == file) then overwritten (page_start h.name.page) h.bytes (overlaid file held bytes)
    else overlaid file held bytes

-- a file as the cache shows it: the host's, with the dirty pages laid over it
abbrev pub view_of : CacheValue → Image → ℕ → List ℕ
view_of c image file = overlaid file c.held (image.file file)

-- a file as the cache shows it over a host, where that tells its contents
abbrev pub seen : {H : Type 0} → HostModel H → CacheValue → H → ℕ → List ℕ
seen m c host = view_of c (m.contents host)

-- Over a host that tells, a file as the cache shows it changes by this relation of its old and new bytes.
pub record Seen {H : Type 0} (m : HostModel H) (file : ℕ) (R : List ℕ → List ℕ → Type 0) (old_cache : CacheValue) (old : H) (new_cache : CacheValue) (new : H) : Type 0 where
  pub told : IsTrue m.tells → R (seen m old_cache old file) (seen m new_cache new file)

-- bytes that stay as they are
abbrev pub Same : List ℕ → List ℕ → Type 0
Same old new = new ≡ old

-- the page is whole in the view
abbrev pub IsWhole : CacheValue → Image → PageName → Type 0
IsWhole c image name = HasPage (view_of c image name.file) name.page

-- the first of the names whose page isn't whole in the view
pub record IsFirstShort (c : CacheValue) (image : Image) (names : List PageName) (name : PageName) : Type 0 where
  pub at : ℕ
  pub there : slice_get names at ≡ Some name
  pub before : AllByRecursion (IsWhole c image) (take at names)
  pub short : IsWhole c image name → ⊥
