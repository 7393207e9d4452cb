-- The frames of a cache: those of the resident pages, and the spare ones, which hold none.
use Rattle.std.specs.Prelude.{◌≡◌, ℕ, ◌+◌, ◌<◌, List, map, length}
use Rattle.nb_host.specs.declared.page_name.PageName.{PageName}
use Rattle.nb_cache.specs.View.{Held}
use Rattle.nb_cache.specs.declared.frame.Frame.{Frame}

-- The most pages, the resident ones, the most recently used first, how many frames are spare, and for how many spare ones
-- there is room.
pub record Stock : Type 0 where
  pub pages : ℕ
  pub held : List Held
  pub spare : ℕ
  pub room : ℕ

-- There are so many frames, and all that a cache ever has could be spare.
pub record HasFrames (frames : ℕ) (s : Stock) : Type 0 where
  pub all : length s.held + s.spare ≡ frames
  pub room : s.pages < s.room

-- the resident pages, from the pairs of the map
abbrev pub held_of : List (PageName × Frame) → List Held
held_of es = map (λ e. record { name = e.0; bytes = e.1.bytes.items; dirty = e.1.dirty }) es
