-- What the walks of a pool do between two fetches. This crate's own.
use Rattle.std.specs.Prelude.{◌≡◌, ℕ, Bool, false, IsTrue, List, Option, All, Contains}
use Rattle.nb_host.specs.declared.page_name.PageName.{PageName}
use Rattle.nb_model.specs.declared.params.Params.{Params}
use Rattle.nb_cache.specs.View.{CacheValue, names_of, resident_bytes}
use Rattle.nb_record.specs.declared.tree.Tree.{Tree}
use Rattle.nb_walk.specs.Pool.{PoolValue, targets, AreSumsInRange, AreWithin, AreFinished, IsSettled, IsWanted, SomeWaits}

-- what a cache shows of a file
abbrev pub shown_of : CacheValue → ℕ → ℕ → Option (List ℕ)
shown_of cache file page = resident_bytes cache.held (record { file = file; page = page })

-- a pool has the walks that it had, which went on in range
pub record KeepsWalks (params : Params) (tree : Tree) (old new : PoolValue) : Type 0 where
  pub room : new.room ≡ old.room
  pub targets : targets new.walks ≡ targets old.walks
  pub range : AreSumsInRange params new.walks
  pub within : AreWithin tree.mass old.walks → AreWithin tree.mass new.walks

-- each walk waits for a page that isn't resident, or is finished
pub record HasPaused (cache : CacheValue) (tree : Tree) (pool : PoolValue) (done : Bool) : Type 0 where
  pub settled : All (IsSettled (shown_of cache tree.cells) (shown_of cache tree.bodies) tree) pool.walks
  pub wants : IsWanted tree pool.walks pool.wants
  pub finished : IsTrue done → AreFinished pool.walks
  pub waits : done ≡ false → SomeWaits pool.walks

-- one of these pages is resident
pub record HasOneOf (names : List PageName) (cache : CacheValue) : Type 0 where
  pub name : PageName
  pub there : Contains names name
  pub resident : Contains (names_of cache) name
