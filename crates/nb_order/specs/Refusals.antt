-- Why a call on a file of bodies answers Damaged: the page over every host, and its cause over one that tells its contents.
use Rattle.std.specs.Prelude.{◌≡◌, ◌≢◌, ◌⊎◌, ℕ, ◌≤◌, IsTrue, List, length}
use Rattle.nb_host.specs.Meaning.{HostModel}
use Rattle.nb_host.specs.declared.page_name.PageName.{PageName}
use Rattle.nb_model.specs.declared.body.Body.{Body}
use Rattle.nb_cache.specs.View.{CacheValue, seen}
use Rattle.nb_record.specs.Order.{HoldsBodies, HaveDifferentIds}
use Rattle.nb_order.specs.Files.{page_of_body, HasBody, HasRoomFor, IsUnsortable}

-- body `index` of the file isn't there, so the file holds no list that is so long
pub record IsNoBody {H : Type 0} (m : HostModel H) (cache : CacheValue) (host : H) (file index : ℕ) (name : PageName) : Type 0 where
  pub page : name ≡ page_of_body file index
  pub cause : IsTrue m.tells → HasBody (seen m cache host file) index → ⊥
  pub listed : IsTrue m.tells → (bodies : List Body) → HoldsBodies (seen m cache host file) bodies → length bodies ≤ index

-- a body can't be added to the file as number `index`, so the file doesn't hold so many bodies
pub record HasNoRoom {H : Type 0} (m : HostModel H) (cache : CacheValue) (host : H) (file index : ℕ) (name : PageName) : Type 0 where
  pub page : name ≡ page_of_body file index
  pub cause : IsTrue m.tells → HasRoomFor (seen m cache host file) index → ⊥
  pub listed : IsTrue m.tells → (bodies : List Body) → HoldsBodies (seen m cache host file) bodies → length bodies ≢ index

-- The first `count` bodies of a file can't be sorted into another: the page is one of the two files, and over a host that
-- tells that of the first file which `IsUnsortable` names. So that file doesn't hold so many bodies with different ids.
pub record IsSortRefused {H : Type 0} (m : HostModel H) (rank : Body → ℕ) (cache : CacheValue) (host : H) (from to count : ℕ) (name : PageName) : Type 0 where
  pub file : (name.file ≡ from) ⊎ (name.file ≡ to)
  pub shown : IsTrue m.tells → IsUnsortable rank from count (seen m cache host from) name
  pub listed : IsTrue m.tells → (bodies : List Body) → HoldsBodies (seen m cache host from) bodies
      → length bodies ≡ count → HaveDifferentIds bodies → ⊥
