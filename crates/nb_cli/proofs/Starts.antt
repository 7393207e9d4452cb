-- What `once` finds in its files, and why it refuses it.
use Rattle.std.proofs.Common.{◌≡◌, ◌⊎◌, inl, inr, ℕ, ◌<◌, Bool, true, false, Ok, None, Some, List, [], length, refl, sym, ap, subst, ◌∙◌, arith}
use Rattle.std.specs.Prelude.{nat_lt, if◌then◌else◌, ◌*◌}
use Rattle.std.specs.Option.{option_or}
use Rattle.std.proofs.lemmas.Bool.Decides.{nat_tests}
use Rattle.nb_model.specs.declared.body.Body.{Body}
use Rattle.nb_model.specs.declared.params.Params.{Params}
use Rattle.nb_model.specs.declared.way.Way.{Way}
use Rattle.nb_model.specs.Leapfrog.{steps}
use Rattle.nb_model.specs.Legs.{directions_to}
use Rattle.nb_host.specs.Image.{Image, FileBecomes}
use Rattle.nb_format.specs.declared.snap_error.SnapError.{SnapError}
use Rattle.nb_format.specs.declared.snap_error.SnapError.TheVariants as snap
use Rattle.nb_format.specs.declared.snap_reader.SnapReader.{SnapReader}
use Rattle.nb_format.specs.ParamsText.{params_of}
use Rattle.nb_format.specs.Reader.{HasRead}
use Rattle.nb_format.specs.Snapshot.{IsSnapshot}
use Rattle.nb_format.specs.SnapshotRefusal.{snapshot_refusal, IsBySnapshot}
use Rattle.nb_format.specs.Writer.{IsFinishedAs}
use Rattle.nb_engine.specs.declared.refusal.Refusal.{Refusal}
use Rattle.nb_engine.specs.declared.refusal.Refusal.TheVariants as refusal
use Rattle.nb_engine.specs.Refusal.{NeedsNoCause, of_snapshot}
use Rattle.nb_engine.specs.Start.{Start, HasStart, IsOfParameters}
use Rattle.nb_engine.specs.Files.{params_file, init_file}
use Rattle.nb_cli.specs.Once.{once_file, most_once_bodies, list_at, once_refusal, IsOfOnce, IsOnceRefused}

snapshot_refused : {files : ℕ → List ℕ} {target : ℕ} {params : Params} {error : SnapError} → params_of (files params_file) ≡ Ok params
    → snapshot_refusal (files init_file) ≡ Some error → NeedsNoCause (refusal.Snapshot error) ⊎ IsOnceRefused files target (refusal.Snapshot error)
snapshot_refused {params = params} {error = error} parameters refused =
    inr (inr (inl (params, error, record { parameters = parameters; refused = refused }, refl)))

-- what a refusal of the reader is to the program
pub refused_by_reader : {files : ℕ → List ℕ} {target : ℕ} {params : Params} (error : SnapError) → params_of (files params_file) ≡ Ok params
    → (IsBySnapshot error → snapshot_refusal (files init_file) ≡ Some error)
    → NeedsNoCause (of_snapshot error) ⊎ IsOnceRefused files target (of_snapshot error)
refused_by_reader snap.Fault parameters why = inl (inl refl)
refused_by_reader snap.NoMemory parameters why = inl (inr refl)
refused_by_reader snap.Short parameters why = snapshot_refused parameters (why tt)
refused_by_reader snap.Unfinished parameters why = snapshot_refused parameters (why tt)
refused_by_reader snap.Magic parameters why = snapshot_refused parameters (why tt)
refused_by_reader snap.Count parameters why = snapshot_refused parameters (why tt)
refused_by_reader snap.Zeros parameters why = snapshot_refused parameters (why tt)
refused_by_reader snap.Length parameters why = snapshot_refused parameters (why tt)
refused_by_reader (snap.IdOrder i) parameters why = snapshot_refused parameters (why tt)
refused_by_reader (snap.Mass i) parameters why = snapshot_refused parameters (why tt)
refused_by_reader (snap.Flag i) parameters why = snapshot_refused parameters (why tt)
refused_by_reader (snap.Place i) parameters why = snapshot_refused parameters (why tt)
refused_by_reader (snap.Speed i) parameters why = snapshot_refused parameters (why tt)

-- a start of too many bodies
pub once_refusal-many : (target : ℕ) (start : Start) (count : ℕ) → length start.bodies ≡ count → most_once_bodies < count
    → once_refusal target start ≡ Some (refusal.TooMany count)
once_refusal-many target start count is many = rw (sym is) (grind (arith, nat_tests))

-- the header that was read of an image that didn't change
pub header_read : {old now : Image} {reader : SnapReader} → now ≡ old → HasRead reader (old.file init_file) [] → HasRead reader (now.file init_file) []
header_read {reader = reader} same read = let P : Image → Type 0 = λ image. HasRead reader (image.file init_file) [] in subst P (sym same) read

-- what a reader refuses of an image that didn't change
pub refused_still : {old now : Image} {error : SnapError} → now ≡ old → snapshot_refusal (now.file init_file) ≡ Some error → snapshot_refusal (old.file init_file) ≡ Some error
refused_still {error = error} same refused = let P : Image → Type 0 = λ image. snapshot_refusal (image.file init_file) ≡ Some error in subst P same refused

-- a start, from what was read of an image that didn't change
pub start_read : {old now : Image} {params : Params} {bodies items : List Body} {time when : ℕ} → now ≡ old
    → params_of (old.file params_file) ≡ Ok params → IsSnapshot (now.file init_file) items when → bodies ≡ items → time ≡ when
    → HasStart old.file (record { params = params; bodies = bodies; time = time })
start_read {old} {now} {params} {bodies} {items} {time} {when} same parameters read listed timed = record {
  parameters = parameters;
  snapshot =
      let P : Image → Type 0 = λ image. IsSnapshot (image.file init_file) items when in
      let Q : List Body → Type 0 = λ xs. IsSnapshot (old.file init_file) xs when in
      let R : ℕ → Type 0 = λ t. IsSnapshot (old.file init_file) bodies t in
      subst R (sym timed) (subst Q (sym listed) (subst P same read));
}

-- the list after the ticks of the leg to the target
pub list_at-taken : (params : Params) (bodies : List Body) (time target : ℕ) {taken : List Body} {ways : List Way} → ways ≡ directions_to time target
    → taken ≡ steps params ways bodies → taken ≡ list_at target (record { params = params; bodies = bodies; time = time })
list_at-taken params bodies time target leg is = is ∙ ap (λ (ways : List Way). steps params ways bodies) leg

-- the snapshot that was written of a list
pub written_list : {old middle now : Image} {listed list : List Body} {target : ℕ} → middle ≡ old → listed ≡ list
    → FileBecomes once_file (IsFinishedAs listed target) middle now → FileBecomes once_file (IsFinishedAs list target) old now
written_list {old} {middle} {now} {listed} {list} {target} same is written =
    let P : Image → Type 0 = λ image. FileBecomes once_file (IsFinishedAs listed target) image now in
    let Q : List Body → Type 0 = λ xs. FileBecomes once_file (IsFinishedAs xs target) old now in
    subst Q is (subst P same written)

-- ---- which refusals `once` gives

pub parameters_of_once : (why : Refusal) → IsOfParameters why → IsOfOnce why
parameters_of_once (refusal.Params error) of_parameters = of_parameters
parameters_of_once refusal.Device of_parameters = tt
parameters_of_once refusal.NoMemory of_parameters = tt
parameters_of_once _ of_parameters = absurd of_parameters

pub snapshot_of_once : (error : SnapError) → IsOfOnce (of_snapshot error)
snapshot_of_once snap.Fault = tt
snapshot_of_once snap.NoMemory = tt
snapshot_of_once snap.Short = tt
snapshot_of_once snap.Unfinished = tt
snapshot_of_once snap.Magic = tt
snapshot_of_once snap.Count = tt
snapshot_of_once snap.Zeros = tt
snapshot_of_once snap.Length = tt
snapshot_of_once (snap.IdOrder i) = tt
snapshot_of_once (snap.Mass i) = tt
snapshot_of_once (snap.Flag i) = tt
snapshot_of_once (snap.Place i) = tt
snapshot_of_once (snap.Speed i) = tt

-- the three tests of a start, by what each of them is
chosen_of_once : (many heavy far : Bool) (a b c d : ℕ) {why : Refusal}
    → (if many then Some (refusal.TooMany a) else option_or (if heavy then Some (refusal.TooHeavy b c) else None)
    (if far then Some (refusal.TickLimit d) else None)) ≡ Some why
    → IsOfOnce why
chosen_of_once true heavy far a b c d is = subst IsOfOnce (inside is) tt where
  inside : {x y : Refusal} → Some x ≡ Some y → x ≡ y
  inside same = cc
chosen_of_once false true far a b c d is = subst IsOfOnce (inside is) tt where
  inside : {x y : Refusal} → Some x ≡ Some y → x ≡ y
  inside same = cc
chosen_of_once false false true a b c d is = subst IsOfOnce (inside is) tt where
  inside : {x y : Refusal} → Some x ≡ Some y → x ≡ y
  inside same = cc
chosen_of_once false false false a b c d is = absurd (cc)

pub start_of_once : (target : ℕ) (start : Start) {why : Refusal} → once_refusal target start ≡ Some why → IsOfOnce why
start_of_once target start is = chosen_of_once _ _ _ _ _ _ _ is
