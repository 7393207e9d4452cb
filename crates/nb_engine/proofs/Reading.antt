-- What a snapshot reader has given so far.
use Rattle.std.proofs.Common.{◌≡◌, ◌≢◌, ℕ, ◌<◌, ◌≤◌, List, [], ◌∷◌, ◌++◌, length, length-append, refl, sym, ap, subst, ◌∙◌, arith, IsTrue, Bool, Option, Some, None, Result, Ok}
use Rattle.std.specs.Prelude.{IfSome}
use Rattle.std.proofs.lemmas.List.{take_all}
use Rattle.nb_model.specs.declared.body.Body.{Body}
use Rattle.nb_model.specs.Limits.{most_bodies}
use Rattle.nb_host.specs.Image.{Image}
use Rattle.nb_format.specs.declared.snap_error.SnapError.{SnapError}
use Rattle.nb_format.specs.declared.snap_reader.SnapReader.{SnapReader}
use Rattle.nb_format.specs.Snapshot.{AreStoredBodies}
use Rattle.nb_format.specs.SnapshotRefusal.{snapshot_refusal, IsBySnapshot}
use Rattle.nb_format.specs.Reader.{file_of, count_of, time_of, read_count, last_id, last_of, IsAtStart, MayFollow, IsBehind, HasRead, IsFrontOf}
use Rattle.nb_format.proofs.Reading.{last_of-push, stored-push}

-- The reader has given these bodies since its start, over any host; and they are what it has read of these bytes,
-- where it read its header from them.
pub record HasGiven (tells : Bool) (bytes : List ℕ) (start reader : SnapReader) (bodies : List Body) : Type 0 where
  pub file : file_of reader ≡ file_of start
  pub count : count_of reader ≡ count_of start
  pub time : time_of reader ≡ time_of start
  pub read : read_count reader ≡ length bodies
  pub within : length bodies ≤ count_of start
  pub few : count_of start ≤ most_bodies
  pub last : last_id reader ≡ last_of bodies
  pub stored : AreStoredBodies bodies
  pub has : IsTrue tells → HasRead start bytes [] → HasRead reader bytes bodies

pub HasGiven-none : (number : ℕ) (tells : Bool) (bytes : List ℕ) (start : SnapReader) → IsAtStart number start
    → HasGiven tells bytes start start []
HasGiven-none number tells bytes start begun = record {
  file = refl;
  count = refl;
  time = refl;
  read = begun.read;
  within = omega arith;
  few = begun.count;
  last = begun.last;
  stored = record { each = λ k d below. absurd (omega arith); ids = λ k below. absurd (omega arith); count = omega arith };
  has = λ told has. has;
}

pub HasGiven-more : {tells : Bool} {bytes : List ℕ} {start reader next : SnapReader} {bodies : List Body} {body : Body}
    → HasGiven tells bytes start reader bodies → read_count reader ≢ count_of reader → MayFollow reader body
    → IsBehind body reader next → (IsTrue tells → HasRead reader bytes bodies → HasRead next bytes (bodies ++ body ∷ []))
    → HasGiven tells bytes start next (bodies ++ body ∷ [])
HasGiven-more {tells} {bytes} {start} {reader} {next} {bodies} {body} given unended follows behind has = record {
  file = behind.file ∙ given.file;
  count = behind.count ∙ given.count;
  time = behind.time ∙ given.time;
  read = omega (arith, length-append bodies (body ∷ []));
  within = omega (arith, length-append bodies (body ∷ []));
  few = given.few;
  last = behind.last ∙ sym (last_of-push bodies body);
  stored = let P : Option ℕ → Type 0 = λ o. IfSome o (λ id. id < body.id) in stored-push bodies body given.stored follows.stored (subst P given.last follows.rises) (omega arith);
  has = λ told begun. has told (given.has told begun);
}

pub IsFrontOf-same : {bytes : List ℕ} (now : List ℕ) → bytes ≡ now → IsFrontOf bytes now
IsFrontOf-same {bytes} now same = (length bytes, sym (take_all (length bytes) bytes (omega arith) ∙ same))

pub file-same : {old now : Image} {first second : ℕ} → now ≡ old → first ≡ second → now.file first ≡ old.file second
file-same {old} {now} {first} {second} same number = ap (λ (image : Image). image.file first) same ∙ ap old.file number

-- why a reader of a file that begins with these bytes refuses it
abbrev pub IsBad : Bool → SnapReader → List ℕ → SnapError → Type 0
IsBad tells start bytes error = IsBySnapshot error → IsTrue tells → HasRead start bytes [] → snapshot_refusal bytes ≡ Some error

-- An answer with a body isn't the end.
pub not_ended : {X E : Type 0} {found : Option X} {x : X} → found ≡ Some x
    → ◌≡◌ {A = Result (Option X) E} (Ok found) (Ok None) → ⊥
not_ended is ended = cc
