-- The indexes of some bodies of a file, by rank and id.
use Rattle.std.specs.Prelude.{◌≡◌, ℕ, ◌<◌, ◌≤◌, List, length, take, slice_get, Some}
use Rattle.std.specs.List.{AllZip}
use Rattle.nb_model.specs.declared.body.V3.{V3}
use Rattle.nb_model.specs.declared.body.Body.{Body}
use Rattle.nb_record.specs.declared.sizes.TheConstants.{BODY_SIZE}
use Rattle.nb_record.specs.Records.{body_of, kick_of}
use Rattle.nb_record.specs.Writing.{IsZeroPaddedFile}
use Rattle.nb_record.specs.Order.{sorted_by, record_of, HoldsBodies}
use Rattle.nb_order.specs.Files.{HasBody}

-- these are the first bodies of the file, and each stands there
pub record HasFirst (file : List ℕ) (bodies : List Body) : Type 0 where
  pub each : (j : ℕ) → j < length bodies → HasBody file j
  pub held : (j : ℕ) → j < length bodies → slice_get bodies j ≡ Some (body_of (record_of file j))

-- these are the kicks of the bodies in the file
abbrev pub HasKicks : List ℕ → (Body → V3) → List Body → Type 0
HasKicks file kick bodies = (j : ℕ) (b : Body) → slice_get bodies j ≡ Some b → kick_of (record_of file j) ≡ kick b

-- The file `to` holds a list, each body with the kick that it has among these bodies in the other file, and zeros behind
-- the last record of each page.
pub record IsCopyOf (from : List ℕ) (bodies : List Body) (to : List ℕ) (list : List Body) : Type 0 where
  pub holds : HoldsBodies to list
  pub kicks : (kick : Body → V3) → HasKicks from kick bodies → HasKicks to kick list
  pub padded : IsZeroPaddedFile BODY_SIZE to

-- The entry is that of a body of the list: its key is the body's rank and id, and its value the body's index.
pub record IsIndexEntry (rank : Body → ℕ) (bodies : List Body) (entry : (ℕ × ℕ) × ℕ) (body : Body) : Type 0 where
  pub key : entry.0 ≡ (rank body, body.id)
  pub number : slice_get bodies entry.1 ≡ Some body

-- the entries are those of the first n bodies of the list, in order
abbrev pub AreFirstIndexes : (Body → ℕ) → List Body → ℕ → List ((ℕ × ℕ) × ℕ) → Type 0
AreFirstIndexes rank bodies n entries = AllZip (IsIndexEntry rank bodies) entries (sorted_by rank (take n bodies))

-- these are the indexes of some of the bodies
abbrev pub AreIndexesOf : List Body → List ℕ → List Body → Type 0
AreIndexesOf bodies numbers some = AllZip (λ number body. slice_get bodies number ≡ Some body) numbers some

-- The first n bodies of the file stand there, and these are their entries, in order.
pub record AreReadTo (rank : Body → ℕ) (file : List ℕ) (n : ℕ) (entries : List ((ℕ × ℕ) × ℕ)) : Type 0 where
  pub has : (j : ℕ) → j < n → HasBody file j
  pub indexes : (bodies : List Body) → HasFirst file bodies → n ≤ length bodies → AreFirstIndexes rank bodies n entries
