-- Why a build answers Damaged: the file over every host, and the page with its cause over one that tells its contents.
use Rattle.std.specs.Prelude.{◌≡◌, ◌⊎◌, ℕ, ◌*◌, ◌<◌, ◌≤◌, IsTrue, List, length}
use Rattle.nb_host.specs.Meaning.{HostModel}
use Rattle.nb_host.specs.declared.page_name.PageName.{PageName}
use Rattle.nb_model.specs.declared.body.Body.{Body}
use Rattle.nb_model.specs.declared.params.Params.{Params}
use Rattle.nb_model.specs.Limits.{gm_limit}
use Rattle.nb_model.specs.Octree.{total_mass}
use Rattle.nb_model.specs.Leapfrog.{unescaped}
use Rattle.nb_cache.specs.View.{CacheValue, seen}
use Rattle.nb_record.specs.Order.{by_key, IsSortedByRank, HoldsBodies}
use Rattle.nb_order.specs.Files.{page_of_body}
use Rattle.nb_tree.specs.Fronts.{IsInOrder, IsFront}

-- the page is that of the first index below `count` whose body doesn't stand in the file, or doesn't follow the one before it
pub record IsMisplaced (number count : ℕ) (file : List ℕ) (name : PageName) : Type 0 where
  pub index : ℕ
  pub below : index < count
  pub page : name ≡ page_of_body number index
  pub first : (j : ℕ) → j < index → IsInOrder file j
  pub cause : IsInOrder file index → ⊥

-- The unescaped bodies are too heavy, whatever front of the file they are. No page is the cause, and the file's first one stands for
-- all. This alone doesn't say that no body is misplaced, nor that there is a front.
pub record IsTooHeavy (params : Params) (number count : ℕ) (file : List ℕ) (name : PageName) : Type 0 where
  pub page : name ≡ page_of_body number 0
  pub heavy : (bodies : List Body) → IsFront file count bodies → gm_limit ≤ params.grav * total_mass bodies

-- There is no tree: a body is misplaced, or the bodies are too heavy. So the file of bodies holds no list of `count` bodies in
-- Morton order whose unescaped bodies are light enough.
pub record IsNoTree {H : Type 0} (m : HostModel H) (params : Params) (cache : CacheValue) (host : H) (bodies cells count : ℕ) (name : PageName) : Type 0 where
  pub file : (name.file ≡ bodies) ⊎ (name.file ≡ cells)
  pub shown : IsTrue m.tells → IsMisplaced bodies count (seen m cache host bodies) name ⊎ IsTooHeavy params bodies count (seen m cache host bodies) name
  pub listed : IsTrue m.tells → (list : List Body) → HoldsBodies (seen m cache host bodies) list → length list ≡ count
      → IsSortedByRank by_key list → gm_limit ≤ params.grav * total_mass (unescaped list)
