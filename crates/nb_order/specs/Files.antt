-- What has to stand in a file of bodies, so that a body can be read from it or added to it, and what a call leaves of it.
use Rattle.std.specs.Prelude.{◌≡◌, ◌≢◌, ◌⊎◌, ℕ, ◌/◌, ◌%◌, ◌<◌, List, [], ◌∷◌, ◌++◌, length}
use Rattle.nb_host.specs.declared.page_name.PageName.{PageName}
use Rattle.nb_host.specs.Page.{page_of, HasPage}
use Rattle.nb_model.specs.declared.body.V3.{V3}
use Rattle.nb_model.specs.declared.body.Body.{Body}
use Rattle.nb_record.specs.declared.sizes.TheConstants.{BODIES_PER_PAGE, BODY_SIZE}
use Rattle.nb_record.specs.Pages.{record_count, IsBodyPage}
use Rattle.nb_record.specs.Records.{body_of, kick_of, IsBodyRecord}
use Rattle.nb_record.specs.Writing.{IsZeroPaddedFile}
use Rattle.nb_record.specs.Order.{record_of, sorted_by, HoldsBodies, HoldsKickedBodies}

-- the page of body j of a file, counted from 0
abbrev pub page_of_body : ℕ → ℕ → PageName
page_of_body file j = record { file = file; page = j / BODIES_PER_PAGE }

-- Body j stands in the file: its page is whole and its header of the form, and it has a record at the body's index, which
-- is that of a valid body.
pub record HasBody (file : List ℕ) (j : ℕ) : Type 0 where
  pub whole : HasPage file (j / BODIES_PER_PAGE)
  pub form : IsBodyPage (j / BODIES_PER_PAGE) (page_of file (j / BODIES_PER_PAGE))
  pub within : j % BODIES_PER_PAGE < record_count (page_of file (j / BODIES_PER_PAGE))
  pub body : IsBodyRecord (record_of file j)

-- this is body j of the file, with its kick
pub record IsBodyAt (file : List ℕ) (j : ℕ) (body : Body) (kick : V3) : Type 0 where
  pub has : HasBody file j
  pub body_is : body ≡ body_of (record_of file j)
  pub kick_is : kick ≡ kick_of (record_of file j)

-- A body can be added as number j: where it isn't the first of its page, that page is whole and its header of the form,
-- and it has as many records as come before.
pub record HasRoomFor (file : List ℕ) (j : ℕ) : Type 0 where
  pub whole : j % BODIES_PER_PAGE ≢ 0 → HasPage file (j / BODIES_PER_PAGE)
  pub form : j % BODIES_PER_PAGE ≢ 0 → IsBodyPage (j / BODIES_PER_PAGE) (page_of file (j / BODIES_PER_PAGE))
  pub count : j % BODIES_PER_PAGE ≢ 0 → record_count (page_of file (j / BODIES_PER_PAGE)) ≡ j % BODIES_PER_PAGE

-- The file that held these bodies holds one more behind them, with its kick. Each record before it stays, with its kick,
-- and where bytes behind the last record of a page were zeros they are.
pub record IsPushed (bodies : List Body) (body : Body) (kick : V3) (old new : List ℕ) : Type 0 where
  pub holds : HoldsBodies new (bodies ++ body ∷ [])
  pub records : (j : ℕ) → j < length bodies → record_of new j ≡ record_of old j
  pub last : kick_of (record_of new (length bodies)) ≡ kick
  pub padded : IsZeroPaddedFile BODY_SIZE old → IsZeroPaddedFile BODY_SIZE new

-- where a file holds so many bodies, it holds one more afterwards
abbrev pub HasPushed : ℕ → Body → V3 → List ℕ → List ℕ → Type 0
HasPushed index body kick old new =
    (bodies : List Body) → HoldsBodies old bodies → length bodies ≡ index → IsPushed bodies body kick old new

-- One file has the bodies of the other, of which there are so many, in order, each with the kick that it has there, and
-- zeros behind the last record of each page.
pub record IsSortedCopy (rank : Body → ℕ) (count : ℕ) (from to : List ℕ) : Type 0 where
  pub bodies : (list : List Body) → HoldsBodies from list → length list ≡ count → HoldsBodies to (sorted_by rank list)
  pub kicks : (kick : Body → V3) (list : List Body) → HoldsKickedBodies from kick list → length list ≡ count
      → HoldsKickedBodies to kick (sorted_by rank list)
  pub padded : IsZeroPaddedFile BODY_SIZE to

-- the rank and the id of body j of a file are those of an earlier one
pub record IsDouble (rank : Body → ℕ) (file : List ℕ) (j : ℕ) : Type 0 where
  pub earlier : ℕ
  pub before : earlier < j
  pub same_rank : rank (body_of (record_of file earlier)) ≡ rank (body_of (record_of file j))
  pub same_id : (body_of (record_of file earlier)).id ≡ (body_of (record_of file j)).id

-- The page of a file for which its first `count` bodies can't be sorted: that of an index below `count` which has no body
-- there, or whose rank and id stand at an earlier index.
pub record IsUnsortable (rank : Body → ℕ) (number count : ℕ) (file : List ℕ) (name : PageName) : Type 0 where
  pub index : ℕ
  pub below : index < count
  pub page : name ≡ page_of_body number index
  pub cause : (HasBody file index → ⊥) ⊎ IsDouble rank file index
