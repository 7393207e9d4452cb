-- What a run is to begin with by the files, and why none can begin.
use Rattle.std.proofs.Common.{◌≡◌, ◌⊎◌, inl, inr, ℕ, ◌*◌, ◌<◌, ◌≤◌, IsOk, Result, Ok, Err, Some, None, List, [], refl, sym, ap, subst, ◌∙◌}
use Rattle.std.proofs.lemmas.Bool.{cond-true, cond-false, le-leb, lt-leb}
use Rattle.nb_model.specs.declared.body.Body.{Body}
use Rattle.nb_model.specs.declared.params.Params.{Params}
use Rattle.nb_model.specs.Limits.{gm_limit}
use Rattle.nb_model.specs.Octree.{total_mass}
use Rattle.nb_host.specs.Crashes.{Stays}
use Rattle.nb_host.specs.Image.{Image}
use Rattle.nb_host.specs.Meaning.{HostModel, Ran}
use Rattle.nb_host.proofs.Callers.{stays_both, ok_is_no_error, counts_after, counts_as, counts_of_ran, ran_by}
use Rattle.nb_format.specs.declared.params_error.ParamsError.{ParamsError}
use Rattle.nb_format.specs.declared.snap_error.SnapError.{SnapError}
use Rattle.nb_format.specs.declared.snap_error.SnapError.TheVariants as snap
use Rattle.nb_format.specs.declared.snap_reader.SnapReader.{SnapReader}
use Rattle.nb_format.specs.ParamsText.{params_of}
use Rattle.nb_format.specs.Reader.{HasRead}
use Rattle.nb_format.specs.Snapshot.{IsSnapshot}
use Rattle.nb_format.specs.SnapshotRefusal.{snapshot_refusal, IsBySnapshot}
use Rattle.nb_journal.specs.Form.{IsFresh}
use Rattle.nb_journal.specs.Offsets.{journal_file}
use Rattle.nb_engine.specs.declared.refusal.Refusal.{Refusal}
use Rattle.nb_engine.specs.declared.refusal.Refusal.TheVariants as refusal
use Rattle.nb_engine.specs.Files.{params_file, init_file}
use Rattle.nb_engine.specs.Refusal.{NeedsNoCause, of_snapshot}
use Rattle.nb_engine.specs.Start.{Start, HasStart, HasNoParams, start_refusal, IsStartRefused, IsOfParameters, IsOfStart}

-- ---- calls that only read, one after the other

pub reads_then : {H T U D E : Type 0} {m : HostModel H} {early : D} {fault : E} {old middle new : H} {one : Result T D}
    {two : Result U E} → Ran m early Stays old middle one → IsOk one → Ran m fault Stays middle new two
    → Ran m fault Stays old new two
reads_then first ok second =
    ran_by (stays_both first.leads second.leads)
    (counts_after (first.spared (ok_is_no_error ok)) first.tally (counts_of_ran second))

-- another answer, which stands for a fault exactly where this one does
pub reads_as : {H T U D E : Type 0} {m : HostModel H} {early : D} {fault : E} {old new : H} {one : Result T D}
    {other : Result U E} → Ran m early Stays old new one → (other ≡ Err fault → one ≡ Err early)
    → (one ≡ Err early → other ≡ Err fault) → Ran m fault Stays old new other
reads_as ran there back = ran_by ran.leads (counts_as (counts_of_ran ran) there back)

pub snapshot_is_fault : (error : SnapError) → of_snapshot error ≡ refusal.Device → error ≡ snap.Fault
snapshot_is_fault snap.Fault is = refl
snapshot_is_fault snap.NoMemory is = absurd (cc)
snapshot_is_fault snap.Short is = absurd (cc)
snapshot_is_fault snap.Unfinished is = absurd (cc)
snapshot_is_fault snap.Magic is = absurd (cc)
snapshot_is_fault snap.Count is = absurd (cc)
snapshot_is_fault snap.Zeros is = absurd (cc)
snapshot_is_fault snap.Length is = absurd (cc)
snapshot_is_fault (snap.IdOrder i) is = absurd (cc)
snapshot_is_fault (snap.Mass i) is = absurd (cc)
snapshot_is_fault (snap.Flag i) is = absurd (cc)
snapshot_is_fault (snap.Place i) is = absurd (cc)
snapshot_is_fault (snap.Speed i) is = absurd (cc)

-- ---- what was read of an image that didn't change

pub fresh_still : {old now : Image} → now ≡ old → IsFresh (now.file journal_file) → IsFresh (old.file journal_file)
fresh_still same fresh = subst (λ (image : Image). IsFresh (image.file journal_file)) same fresh

pub header_now : {old now : Image} {reader : SnapReader} → now ≡ old → HasRead reader (old.file init_file) []
    → HasRead reader (now.file init_file) []
header_now {reader = reader} same read = subst (λ (image : Image). HasRead reader (image.file init_file) []) (sym same) read

pub refused_then : {old now : Image} {error : SnapError} → now ≡ old → snapshot_refusal (now.file init_file) ≡ Some error
    → snapshot_refusal (old.file init_file) ≡ Some error
refused_then {error = error} same refused =
    subst (λ (image : Image). snapshot_refusal (image.file init_file) ≡ Some error) same refused

pub params_then : {old now : Image} {params : Params} → now ≡ old → params_of (now.file params_file) ≡ Ok params
    → params_of (old.file params_file) ≡ Ok params
params_then {params = params} same spelled =
    subst (λ (image : Image). params_of (image.file params_file) ≡ Ok params) same spelled

pub start_then : {old now : Image} {params : Params} {bodies : List Body} {time : ℕ} → now ≡ old
    → params_of (old.file params_file) ≡ Ok params → IsSnapshot (now.file init_file) bodies time
    → HasStart old.file (record { params = params; bodies = bodies; time = time })
start_then {bodies = bodies} {time = time} same parameters read = record {
  parameters = parameters;
  snapshot = subst (λ (image : Image). IsSnapshot (image.file init_file) bodies time) same read;
}

-- ---- the parameters

pub no_params_then : {old now : Image} {why : Refusal} → now ≡ old → IsFresh (old.file journal_file)
    → NeedsNoCause why ⊎ ((error : ParamsError) × HasNoParams now.file error × (why ≡ refusal.Params error))
    → NeedsNoCause why ⊎ IsStartRefused old.file why
no_params_then {old} {now} {why} same fresh cause = elim cause [
  | inl needless ↦ inl needless
  | inr found ↦
      inr (inr (inr (
        fresh,
        inl (subst (λ (image : Image). (error : ParamsError) × HasNoParams image.file error × (why ≡ refusal.Params error))
            same found),
      )))
]

-- ---- the snapshot

snapshot_refused : {files : ℕ → List ℕ} {params : Params} {error : SnapError} → IsFresh (files journal_file)
    → params_of (files params_file) ≡ Ok params → snapshot_refusal (files init_file) ≡ Some error
    → NeedsNoCause (refusal.Snapshot error) ⊎ IsStartRefused files (refusal.Snapshot error)
snapshot_refused {params = params} {error = error} fresh parameters refused =
    inr (inr (inr (fresh, inr (inl (params, error, record { parameters = parameters; refused = refused }, refl)))))

-- what a refusal of the reader is to a session
pub refused_by_snapshot : {files : ℕ → List ℕ} {params : Params} (error : SnapError) → IsFresh (files journal_file)
    → params_of (files params_file) ≡ Ok params → (IsBySnapshot error → snapshot_refusal (files init_file) ≡ Some error)
    → NeedsNoCause (of_snapshot error) ⊎ IsStartRefused files (of_snapshot error)
refused_by_snapshot snap.Fault fresh parameters why = inl (inl refl)
refused_by_snapshot snap.NoMemory fresh parameters why = inl (inr refl)
refused_by_snapshot snap.Short fresh parameters why = snapshot_refused fresh parameters (why tt)
refused_by_snapshot snap.Unfinished fresh parameters why = snapshot_refused fresh parameters (why tt)
refused_by_snapshot snap.Magic fresh parameters why = snapshot_refused fresh parameters (why tt)
refused_by_snapshot snap.Count fresh parameters why = snapshot_refused fresh parameters (why tt)
refused_by_snapshot snap.Zeros fresh parameters why = snapshot_refused fresh parameters (why tt)
refused_by_snapshot snap.Length fresh parameters why = snapshot_refused fresh parameters (why tt)
refused_by_snapshot (snap.IdOrder i) fresh parameters why = snapshot_refused fresh parameters (why tt)
refused_by_snapshot (snap.Mass i) fresh parameters why = snapshot_refused fresh parameters (why tt)
refused_by_snapshot (snap.Flag i) fresh parameters why = snapshot_refused fresh parameters (why tt)
refused_by_snapshot (snap.Place i) fresh parameters why = snapshot_refused fresh parameters (why tt)
refused_by_snapshot (snap.Speed i) fresh parameters why = snapshot_refused fresh parameters (why tt)

-- What the parameters are refused by is one that `start` gives.
pub parameters_of_start : (why : Refusal) → IsOfParameters why → IsOfStart why
parameters_of_start (refusal.Params error) of_parameters = of_parameters
parameters_of_start refusal.Device of_parameters = tt
parameters_of_start refusal.NoMemory of_parameters = tt
parameters_of_start _ of_parameters = absurd of_parameters

-- ---- the mass

pub too_heavy : {files : ℕ → List ℕ} (start : Start) {mass : ℕ} → IsFresh (files journal_file) → HasStart files start
    → mass ≡ total_mass start.bodies → gm_limit ≤ start.params.grav * mass
    → IsStartRefused files (refusal.TooHeavy start.params.grav mass)
too_heavy start {mass = mass} fresh starts is heavy =
    let refused : start_refusal start.params start.bodies ≡ Some (refusal.TooHeavy start.params.grav (total_mass start.bodies)) =
    cond-true _ _ _ (le-leb gm_limit (start.params.grav * total_mass start.bodies)
    (subst (λ (n : ℕ). gm_limit ≤ start.params.grav * n) is heavy)) in
    let same = ap (λ (n : ℕ). Some (refusal.TooHeavy start.params.grav n)) (sym is) in
    inr (inr (fresh, inr (inr (start, starts, refused ∙ same))))

pub light_enough : (start : Start) {mass : ℕ} → mass ≡ total_mass start.bodies → start.params.grav * mass < gm_limit
    → start_refusal start.params start.bodies ≡ None
light_enough start is light =
    cond-false _ _ _ (lt-leb gm_limit (start.params.grav * total_mass start.bodies)
    (subst (λ (n : ℕ). start.params.grav * n < gm_limit) is light))
