-- The order of bodies in a file, and the file that holds them.
use Rattle.std.specs.Prelude.{◌≡◌, ◌≢◌, ℕ, ◌+◌, ◌-◌, ◌*◌, ◌/◌, ◌%◌, ◌^◌, ◌<◌, ◌==◌, min, Bool, true, ◌&&◌, ◌||◌, nat_lt, if◌then◌else◌, List, [], ◌∷◌, length, slice_get, Some, AllPairs}
use Rattle.nb_model.specs.declared.body.V3.{V3}
use Rattle.nb_model.specs.declared.body.Body.{Body}
use Rattle.nb_key.specs.Morton.{morton_key}
use Rattle.nb_host.specs.Page.{page_start, page_of}
use Rattle.nb_record.specs.declared.sizes.TheConstants.{BODIES_PER_PAGE}
use Rattle.nb_record.specs.Pages.{record_count, IsBodyPage}
use Rattle.nb_record.specs.Records.{body_record, body_of, kick_of, IsBodyRecord}

-- ---- the order

-- The rank of a body in Morton order. Bodies that have left the box come behind all others.
abbrev pub by_key : Body → ℕ
by_key b = (if b.out then 2 ^ 64 else 0) + morton_key b.at

-- The rank of a body in the order of ids: all are alike.
abbrev pub by_id : Body → ℕ
by_id b = 0

-- whether a body comes before another: by rank, and by id among bodies of one rank
abbrev pub precedes : (Body → ℕ) → Body → Body → Bool
precedes rank a b = nat_lt (rank a) (rank b) || (rank a == rank b && nat_lt a.id b.id)

-- a body put before the first that it precedes
unfoldable pub insert_by : (Body → ℕ) → Body → List Body → List Body
insert_by rank b [] = b ∷ []
insert_by rank b (c ∷ cs) = if precedes rank b c then b ∷ c ∷ cs else c ∷ insert_by rank b cs

-- The bodies, each once, in the order of their ranks. `law_sorted_by` says that, where their ids differ, this is the one
-- list of them in which each body precedes the next.
unfoldable pub sorted_by : (Body → ℕ) → List Body → List Body
sorted_by rank [] = []
sorted_by rank (b ∷ bs) = insert_by rank b (sorted_by rank bs)

-- no two bodies of the list have one id
abbrev pub HaveDifferentIds : List Body → Type 0
HaveDifferentIds bodies = AllPairs (λ a b. a.id ≢ b.id) bodies

-- each body of the list precedes the next
abbrev pub IsSortedByRank : (Body → ℕ) → List Body → Type 0
IsSortedByRank rank [] = Unit {0}
IsSortedByRank rank (b ∷ []) = Unit {0}
IsSortedByRank rank (b ∷ c ∷ cs) = (precedes rank b c ≡ true) × IsSortedByRank rank (c ∷ cs)

-- ---- the file

-- how many pages so many bodies fill
abbrev pub pages_for : ℕ → ℕ
pages_for count = (count + (BODIES_PER_PAGE - 1)) / BODIES_PER_PAGE

-- how many bodies stand on page p: all pages but the last are full
abbrev pub count_on : ℕ → ℕ → ℕ
count_on count p = min BODIES_PER_PAGE (count - BODIES_PER_PAGE * p)

-- the record of body j of a file, counted from 0
abbrev pub record_of : List ℕ → ℕ → List ℕ
record_of file j = body_record (j % BODIES_PER_PAGE) (page_of file (j / BODIES_PER_PAGE))

-- The file holds these bodies, in this order: it has exactly the pages for them, each of the form and with its count of
-- records, and record by record they say the bodies, with any kicks. Bytes behind the last record of a page may be any.
pub record HoldsBodies (file : List ℕ) (bodies : List Body) : Type 0 where
  pub whole : length file ≡ page_start (pages_for (length bodies))
  pub pages : (p : ℕ) → p < pages_for (length bodies) → IsBodyPage p (page_of file p)
  pub counts : (p : ℕ) → p < pages_for (length bodies) → record_count (page_of file p) ≡ count_on (length bodies) p
  pub records : (j : ℕ) → j < length bodies → IsBodyRecord (record_of file j)
  pub held : (j : ℕ) → j < length bodies → slice_get bodies j ≡ Some (body_of (record_of file j))

-- The file holds these bodies, in this order, each with the kick that it has here.
pub record HoldsKickedBodies (file : List ℕ) (kick : Body → V3) (list : List Body) : Type 0 where
  pub bodies : HoldsBodies file list
  pub kicks : (j : ℕ) (b : Body) → slice_get list j ≡ Some b → kick_of (record_of file j) ≡ kick b

-- The file holds n bodies, in Morton order.
pub record HoldsMortonOrder (file : List ℕ) (n : ℕ) : Type 0 where
  pub list : List Body
  pub bodies : HoldsBodies file list
  pub count : length list ≡ n
  pub sorted : IsSortedByRank by_key list
