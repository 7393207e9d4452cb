-- Calls through a cache, one after the other, with calls of the host between them that only read.
use Rattle.std.proofs.Common.{◌≡◌, ◌≢◌, ℕ, zero, suc, IsOk, List, [], ◌∷◌, ◌++◌, Result, Ok, Err, refl, sym, ap, subst, arith}
use Rattle.std.specs.Prelude.{Contains}
use Rattle.std.proofs.lemmas.List.Elements.{Contains-append_right}
use Rattle.nb_host.specs.Crashes.{Stays, AgreesOutside}
use Rattle.nb_host.specs.Image.{Image}
use Rattle.nb_host.specs.Meaning.{HostModel, Ran}
use Rattle.nb_host.proofs.Callers.{agrees_itself, leads_more, ok_is_no_error}
use Rattle.nb_cache.specs.InStep.{IsInStep}
use Rattle.nb_cache.specs.View.{CacheValue, view_of}
use Rattle.nb_cache.specs.Writes.{RanCached}
use Rattle.nb_cache.proofs.Callers.{no_file, writes_begins, ran_again, ran_as, step_stays}
use Rattle.nb_engine.specs.declared.refusal.Refusal.{Refusal}
use Rattle.nb_engine.specs.declared.refusal.Refusal.TheVariants as refusal

-- the answer of calls that went well
abbrev pub well : Result (Unit {0}) Refusal
well = Ok tt

-- Calls that wrote these files alone, all of which went well.
abbrev pub WentWell : {H : Type 0} → HostModel H → List ℕ → CacheValue → H → CacheValue → H → Type 0
WentWell m files old_cache old new_cache new = RanCached m refusal.Device files old_cache old new_cache new well

pub well_isnt : (error : Refusal) → well ≡ Err error → ⊥
well_isnt error is = cc

pub went_none : {H : Type 0} (m : HostModel H) (files : List ℕ) (cache : CacheValue) (host : H) → IsInStep m cache host
    → WentWell m files cache host cache host
went_none m files cache host in_step = record {
  writes = writes_begins m files cache host in_step;
  rose = λ faulted. absurd (well_isnt refusal.Device faulted);
  spared = λ _. refl;
}

-- a call that went well
pub as_well : {H T E : Type 0} {m : HostModel H} {fault : E} {files : List ℕ} {old_cache new_cache : CacheValue}
    {old new : H} {one : Result T E} → RanCached m fault files old_cache old new_cache new one → IsOk one
    → WentWell m files old_cache old new_cache new
as_well ran ok =
    ran_as ran (λ faulted. absurd (well_isnt refusal.Device faulted)) (λ error. absurd (ok_is_no_error ok error))

-- a call of the host that only reads
pub ran_reading : {H T E : Type 0} {m : HostModel H} {fault : E} (files : List ℕ) (cache : CacheValue) {old new : H}
    {result : Result T E} → Ran m fault Stays old new result → IsInStep m cache old
    → RanCached m fault files cache old cache new result
ran_reading files cache ran in_step = record {
  writes = record {
    leads = leads_more ran.leads
        (λ start image same. subst (λ (i : Image). AgreesOutside (files ++ cache.unwritten) start i) (sym same)
        (agrees_itself (files ++ cache.unwritten) start));
    unwritten = λ file has. Contains-append_right files cache.unwritten file has;
    pages = refl;
    in_step = step_stays cache ran.leads in_step;
    view = λ tells file spared. ap (λ (i : Image). view_of cache i file) (ran.leads.contents tells);
    count = ran.count;
    tally = ran.tally;
  };
  rose = ran.rose;
  spared = ran.spared;
}

-- one more call, which went well
pub went_on : {H T E : Type 0} {m : HostModel H} {fault : E} {files : List ℕ} {old_cache cache new_cache : CacheValue}
    {old host new : H} {one : Result T E} → WentWell m files old_cache old cache host → RanCached m fault files cache host new_cache new one
    → IsOk one → WentWell m files old_cache old new_cache new
went_on went ran ok = ran_again went refl (as_well ran ok)

-- one more call, and the answer that is made of its own
pub went_to : {H T U E : Type 0} {m : HostModel H} {fault : E} {files : List ℕ} {old_cache cache new_cache : CacheValue}
    {old host new : H} {one : Result T E} {result : Result U Refusal} → WentWell m files old_cache old cache host
    → RanCached m fault files cache host new_cache new one → (result ≡ Err refusal.Device → one ≡ Err fault)
    → (one ≡ Err fault → result ≡ Err refusal.Device) → RanCached m refusal.Device files old_cache old new_cache new result
went_to went ran there back = ran_again went refl (ran_as ran there back)

-- an answer that stands for no fault
pub went_as : {H U : Type 0} {m : HostModel H} {files : List ℕ} {old_cache cache : CacheValue} {old host : H}
    {result : Result U Refusal} → WentWell m files old_cache old cache host → result ≢ Err refusal.Device
    → RanCached m refusal.Device files old_cache old cache host result
went_as went never =
    ran_as went (λ faulted. absurd (never faulted)) (λ faulted. absurd (well_isnt refusal.Device faulted))

-- each of these files is one of those
abbrev pub AreAmong : List ℕ → List ℕ → Type 0
AreAmong few more = (file : ℕ) → Contains few file → Contains more file

pub among_none : (more : List ℕ) → AreAmong [] more
among_none more file has = absurd (no_file file has)

pub among_of : {one : ℕ} (files : List ℕ) → Contains files one → AreAmong (one ∷ []) files
among_of files there file (zero, below, is) = subst (Contains files) is there
among_of files there file (suc k, below, is) = absurd (omega arith)
