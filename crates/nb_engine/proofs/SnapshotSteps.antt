-- The calls that write the snapshot of a tick, one after the other: what they leave alone, and what its file is like at each
-- moment.
use Rattle.std.proofs.Common.{◌≡◌, ◌≢◌, ℕ, zero, suc, ◌+◌, ◌<◌, ◌≤◌, inl, inr, IsTrue, IsOk, Option, Some, None, Result, Ok, Err, List, [], ◌∷◌, ◌++◌, length, take, get_or, refl, sym, ap, subst, ◌∙◌, arith, rules, map}
use Rattle.std.specs.Prelude.{◌⊎◌, Contains, IfSome, slice_get}
use Rattle.std.specs.Option.{ForSome}
use Rattle.std.specs.List.Sorted.{IsStrictlyIncreasing}
use Rattle.std.proofs.lemmas.Bool.{cases_lt}
use Rattle.std.proofs.lemmas.List.{take_more, take_all}
use Rattle.std.proofs.lemmas.List.Elements.{Contains-append_cases, Contains-append_right}
use Rattle.std.proofs.lemmas.Option.{get_or_from_slice_get, slice_get_within}
use Rattle.nb_host.specs.declared.page_name.PageName.{PageName}
use Rattle.nb_host.specs.declared.host.HostError.{HostError}
use Rattle.nb_host.specs.declared.host.HostError.TheVariants as host
use Rattle.nb_host.specs.Crashes.{Stays, AgreesOutside}
use Rattle.nb_host.specs.Image.{Image, FileBecomes}
use Rattle.nb_host.specs.Meaning.{HostModel, Leads, Over, Ran, RanSyncing}
use Rattle.nb_host.proofs.Callers.{agrees_itself, agrees_more, becomes_more, leads_more, leads_then, leads_again, ok_is_no_error}
use Rattle.nb_model.specs.declared.body.Body.{Body}
use Rattle.nb_format.specs.declared.snap_writer.Filling.{Filling}
use Rattle.nb_format.specs.Images.{IsShutNow, IsBeingWritten, ChangesWith, IsWritten}
use Rattle.nb_format.specs.Reader.{last_of}
use Rattle.nb_format.specs.Snapshot.{IsSnapshot, IsFinishedSnapshot}
use Rattle.nb_format.specs.Writer.{SnapshotPlan, plan_of, added_count, last_added, IsEmptyFilling, HasOneMore, HasFilled, IsBegun, StaysShut, StaysUnfinished, IsFinishedAs, Closes}
use Rattle.nb_format.proofs.Callers.{being_begun, add_leads, being_added, being_kept, close_leads}
use Rattle.nb_format.proofs.Reading.{last_of-push}
use Rattle.nb_cache.specs.InStep.{IsCachedFile}
use Rattle.nb_cache.specs.View.{CacheValue, overlaid, seen}
use Rattle.nb_cache.specs.Writes.{Writes, RanCached}
use Rattle.nb_cache.proofs.Callers.{no_file, step_file}
use Rattle.nb_record.specs.Order.{record_of, by_key, by_id, sorted_by, HoldsBodies}
use Rattle.nb_record.specs.Records.{body_of}
use Rattle.nb_record.proofs.Callers.{permuted, length-sorted_by, different_ids, different_permuted}
use Rattle.nb_order.specs.declared.order_error.OrderError.{OrderError}
use Rattle.nb_order.specs.declared.order_error.OrderError.TheVariants as order
use Rattle.nb_order.specs.Files.{page_of_body, HasBody, IsSortedCopy}
use Rattle.nb_order.specs.Refusals.{IsNoBody, IsSortRefused}
use Rattle.nb_tick.specs.Slots.{slot_of, sorted_file}
use Rattle.nb_tick.proofs.Callers.{seen_written}
use Rattle.nb_journal.specs.Counters.{Counters}
use Rattle.nb_engine.specs.declared.refusal.Refusal.{Refusal}
use Rattle.nb_engine.specs.declared.refusal.Refusal.TheVariants as refusal
use Rattle.nb_engine.specs.Frame.{RanSession}
use Rattle.nb_engine.specs.Refusal.{of_host, of_order, NeedsNoCause}
use Rattle.nb_engine.specs.Represents.{snap_of}
use Rattle.nb_engine.specs.Snapshots.{snapshot_files, HoldsByIds, HoldsByKeys, EndsBefore, IsEnd, IsSnapshotPage, IsPageDamaged}
use Rattle.nb_engine.specs.Steps.{IsFlushed}
use Rattle.nb_engine.proofs.Callers.{sorted_back}
use Rattle.nb_engine.proofs.Frames.{session_none, session_ran, session_syncing, session_cached, session_then, session_as, session_by}

-- ---- answers

order_device : (error : OrderError) → of_order error ≡ refusal.Device → error ≡ order.Fault
order_device order.Fault is = refl
order_device order.NoMemory is = cc
order_device (order.Damaged name) is = cc

host_device : (error : HostError) → of_host error ≡ refusal.Device → error ≡ host.Fault
host_device host.Fault is = refl
host_device host.NoMemory is = cc

-- a refusal of a file of bodies, handed on, stands for a fault exactly where it is one
pub order_rose : {T U : Type 0} {one : Result T OrderError} {result : Result U Refusal} (error : OrderError) → one ≡ Err error
    → result ≡ Err (of_order error) → result ≡ Err refusal.Device → one ≡ Err order.Fault
order_rose error was is faulted =
    let same : of_order error ≡ refusal.Device = cc in was ∙ ap Err (order_device error same)

pub order_fell : {T U : Type 0} {one : Result T OrderError} {result : Result U Refusal} (error : OrderError) → one ≡ Err error
    → result ≡ Err (of_order error) → one ≡ Err order.Fault → result ≡ Err refusal.Device
order_fell error was is fault =
    let same : error ≡ order.Fault = cc in is ∙ ap (λ (e : OrderError). Err (of_order e)) same

-- and one of the host
pub host_rose : {T U : Type 0} {one : Result T HostError} {result : Result U Refusal} (error : HostError) → one ≡ Err error
    → result ≡ Err (of_host error) → result ≡ Err refusal.Device → one ≡ Err host.Fault
host_rose error was is faulted =
    let same : of_host error ≡ refusal.Device = cc in was ∙ ap Err (host_device error same)

pub host_fell : {T U : Type 0} {one : Result T HostError} {result : Result U Refusal} (error : HostError) → one ≡ Err error
    → result ≡ Err (of_host error) → one ≡ Err host.Fault → result ≡ Err refusal.Device
host_fell error was is fault =
    let same : error ≡ host.Fault = cc in is ∙ ap (λ (e : HostError). Err (of_host e)) same

-- A refusal of the host needs no cause.
pub host_cause : (error : HostError) → NeedsNoCause (of_host error)
host_cause host.Fault = inl refl
host_cause host.NoMemory = inr refl

-- One of a file of bodies needs none, unless it names a page.
pub order_cause : {Q : Type 0} (error : OrderError) → ((name : PageName) → error ≡ order.Damaged name → Q)
    → NeedsNoCause (of_order error) ⊎ Q
order_cause order.Fault named = inl (inl refl)
order_cause order.NoMemory named = inl (inr refl)
order_cause (order.Damaged name) named = inr (named name refl)

-- ---- files

-- the file of a snapshot is neither one that goes through a cache nor the sorted one
never_cached : (file : ℕ) → 16 ≤ file → IsCachedFile file → ⊥
never_cached file high cached = absurd (omega (arith, cached.greatest))

sorted_apart : (file : ℕ) → 16 ≤ file → sorted_file ≢ file
sorted_apart file high same = absurd (omega (arith, same))

pub spares_file : (file : ℕ) → 16 ≤ file → Contains (sorted_file ∷ []) file → ⊥
spares_file file high (zero, below, is) = absurd (omega (arith, is))
spares_file file high (suc k, below, is) = absurd (omega arith)

-- no file, and the sorted file, are at most the sorted one
pub none_but : (file : ℕ) → Contains [] file → file ≡ sorted_file
none_but file has = absurd (no_file file has)

pub sorted_but : (file : ℕ) → Contains (sorted_file ∷ []) file → file ≡ sorted_file
sorted_but file (zero, below, is) = sym is
sorted_but file (suc k, below, is) = absurd (omega arith)

either_but : (files unwritten : List ℕ) → ((file : ℕ) → Contains files file → file ≡ sorted_file)
    → ((file : ℕ) → Contains unwritten file → file ≡ sorted_file) → (file : ℕ) → Contains (files ++ unwritten) file
    → file ≡ sorted_file
either_but files unwritten first second file has =
    elim (Contains-append_cases files unwritten file has) [ inl one ↦ first file one | inr two ↦ second file two ]

-- ---- what calls leave alone

agrees_again : {files : List ℕ} {start between image : Image} → AgreesOutside files start between
    → AgreesOutside files between image → AgreesOutside files start image
agrees_again before after = record {
  others = λ number spared. after.others number spared ∙ before.others number spared;
  said = after.said ∙ before.said;
}

-- a call that takes a cache and writes at most the sorted file
pub settled_leads : {H : Type 0} {m : HostModel H} {files : List ℕ} {old_cache new_cache : CacheValue} {old new : H}
    → ((file : ℕ) → Contains files file → file ≡ sorted_file) → IsFlushed m old_cache old
    → Writes m files old_cache old new_cache new → Leads m (AgreesOutside (sorted_file ∷ [])) old new
settled_leads {files = files} {old_cache = old_cache} only settled writes =
    leads_more writes.leads (λ start image agrees. agrees_more
    (λ file has. (0, omega arith, sym (either_but files old_cache.unwritten only settled.unwritten file has))) agrees)

pub settled_after : {H : Type 0} {m : HostModel H} {files : List ℕ} {old_cache new_cache : CacheValue} {old new : H}
    → ((file : ℕ) → Contains files file → file ≡ sorted_file) → IsFlushed m old_cache old
    → Writes m files old_cache old new_cache new → IsFlushed m new_cache new
settled_after {files = files} {old_cache = old_cache} only settled writes = record {
  in_step = writes.in_step;
  unwritten = λ file has. either_but files old_cache.unwritten only settled.unwritten file (writes.unwritten file has);
}

-- a call of the host itself on the file of a snapshot
pub settled_file : {H : Type 0} {m : HostModel H} {cache : CacheValue} {file : ℕ} {P : List ℕ → List ℕ → Type 0} {old new : H}
    → 16 ≤ file → Leads m (FileBecomes file P) old new → IsFlushed m cache old → IsFlushed m cache new
settled_file {cache = cache} {file = file} high leads settled = record {
  in_step = step_file cache (never_cached file high) leads settled.in_step;
  unwritten = settled.unwritten;
}

seen_file : {H : Type 0} {m : HostModel H} (cache : CacheValue) {file : ℕ} {P : List ℕ → List ℕ → Type 0} {old new : H}
    → 16 ≤ file → Leads m (FileBecomes file P) old new → IsTrue m.tells
    → seen m cache new sorted_file ≡ seen m cache old sorted_file
seen_file cache {file = file} high leads tells =
    ap (λ (l : List ℕ). overlaid sorted_file cache.held l) ((leads.contents tells).others sorted_file (sorted_apart file high))

-- each is among the files that are changed
pub sorted_agrees : {H : Type 0} {m : HostModel H} (files : List ℕ) {old new : H} → Contains files sorted_file
    → Leads m (AgreesOutside (sorted_file ∷ [])) old new → Leads m (AgreesOutside files) old new
sorted_agrees files there leads = leads_more leads (λ start image agrees. agrees_more
    (λ number has. subst (λ (n : ℕ). Contains files n) (sym (sorted_but number has)) there) agrees)

pub file_agrees : {H : Type 0} {m : HostModel H} (files : List ℕ) {file : ℕ} {P : List ℕ → List ℕ → Type 0} {old new : H}
    → Contains files file → Leads m (FileBecomes file P) old new → Leads m (AgreesOutside files) old new
file_agrees files there leads = leads_more leads (λ start image step. record {
  others = λ number spared. step.others number (λ same. spared (subst (λ (n : ℕ). Contains files n) (sym same) there));
  said = step.said;
})

pub stays_agrees : {H : Type 0} {m : HostModel H} (files : List ℕ) {old new : H} → Leads m Stays old new
    → Leads m (AgreesOutside files) old new
stays_agrees files leads = leads_more leads (λ start image same.
    subst (λ (i : Image). AgreesOutside files start i) (sym same) (agrees_itself files start))

-- what leads somewhere where the host tells leads there
pub leads_told : {H : Type 0} {m : HostModel H} {S : Image → Image → Type 0} {old new : H} → (IsTrue m.tells → Leads m S old new)
    → Leads m S old new
leads_told {m = m} told = record {
  contents = λ tells. (told tells).contents tells;
  images = record { follows = λ honest. (told (m.tells_if_honest honest)).images.follows honest };
}

-- ---- the frame of a session

-- calls that all succeeded
abbrev pub WentWell : {H : Type 0} → HostModel H → List ℕ → H → H → Type 0
WentWell m files old new = RanSession {T = Unit {0}} m (AgreesOutside files) old new (Ok tt)

fine : {T : Type 0} {E : Type 0} {one : Result T E} {error : E} → IsOk one → one ≡ Err error
    → ◌≡◌ {A = Result (Unit {0}) Refusal} (Ok tt) (Err refusal.Device)
fine ok faulted = absurd (ok_is_no_error ok faulted)

never_device : ◌≡◌ {A = Result (Unit {0}) Refusal} (Ok tt) (Err refusal.Device) → ⊥
never_device same = cc

pub well_cached : {H T E : Type 0} {m : HostModel H} {fault : E} {files written : List ℕ} {old_cache new_cache : CacheValue}
    {old new : H} {one : Result T E} → RanCached m fault written old_cache old new_cache new one → IsOk one
    → Leads m (AgreesOutside files) old new → WentWell m files old new
well_cached ran ok leads = session_cached ran leads (λ same. absurd (never_device same)) (fine ok)

pub well_ran : {H T E : Type 0} {m : HostModel H} {fault : E} {files : List ℕ} {by : Image → Image → Type 0} {old new : H}
    {one : Result T E} → Ran m fault by old new one → IsOk one → Leads m (AgreesOutside files) old new
    → WentWell m files old new
well_ran ran ok leads = session_by (session_ran ran (λ same. absurd (never_device same)) (fine ok)) leads

pub well_syncing : {H T E : Type 0} {m : HostModel H} {syncs : ℕ} {fault : E} {files : List ℕ} {by : Image → Image → Type 0}
    {old new : H} {one : Result T E} → RanSyncing m syncs fault by old new one → IsOk one
    → Leads m (AgreesOutside files) old new → WentWell m files old new
well_syncing ran ok leads = session_by (session_syncing ran (λ same. absurd (never_device same)) (fine ok) (λ _. ok)) leads

-- others after them, among the same files
pub well_then : {H T U : Type 0} {m : HostModel H} {files : List ℕ} {old middle new : H} {one : Result T Refusal}
    {two : Result U Refusal} → RanSession m (AgreesOutside files) old middle one → IsOk one
    → RanSession m (AgreesOutside files) middle new two → RanSession m (AgreesOutside files) old new two
well_then first ok second =
    session_then ok first second (leads_again (λ a b c one two. agrees_again one two) first.leads second.leads)

pub is_ok : IsOk {T = Unit {0}} {E = Refusal} (Ok tt)
is_ok = search rules

-- ---- changes of the file of a snapshot, with calls on the sorted file between them

changes_more : {file : ℕ} {P Q : List ℕ → List ℕ → Type 0} {start image : Image} → ((old new : List ℕ) → P old new → Q old new)
    → ChangesWith (sorted_file ∷ []) file P start image → ChangesWith (sorted_file ∷ []) file Q start image
changes_more more step = record { file = more _ _ step.file; kept = step.kept }

becomes_changes : {file : ℕ} {P : List ℕ → List ℕ → Type 0} {start image : Image} → FileBecomes file P start image
    → ChangesWith (sorted_file ∷ []) file P start image
becomes_changes step = record {
  file = step.file;
  kept = record { others = λ other spared. step.others other (λ same. spared (0, omega arith, sym same)); said = step.said };
}

behind_file : (file number : ℕ) → Contains (sorted_file ∷ []) number → Contains (file ∷ sorted_file ∷ []) number
behind_file file number has = Contains-append_right (file ∷ []) (sorted_file ∷ []) number has

-- the sorted file alone
agrees_changes : (file : ℕ) (P : List ℕ → List ℕ → Type 0) {start image : Image} → 16 ≤ file → ((old : List ℕ) → P old old)
    → AgreesOutside (sorted_file ∷ []) start image → ChangesWith (sorted_file ∷ []) file P start image
agrees_changes file P {start = start} high itself agrees = record {
  file = subst (λ (l : List ℕ). P (start.file file) l) (sym (agrees.others file (spares_file file high))) (itself (start.file file));
  kept = agrees_more (behind_file file) agrees;
}

pub sorted_changes : {H : Type 0} {m : HostModel H} (file : ℕ) (P : List ℕ → List ℕ → Type 0) {old new : H} → 16 ≤ file
    → ((bytes : List ℕ) → P bytes bytes) → Leads m (AgreesOutside (sorted_file ∷ [])) old new
    → Leads m (ChangesWith (sorted_file ∷ []) file P) old new
sorted_changes file P high itself leads = leads_more leads (λ start image agrees. agrees_changes file P high itself agrees)

-- first the sorted file, then the snapshot's
sorted_before : {H : Type 0} {m : HostModel H} (file : ℕ) (P : List ℕ → List ℕ → Type 0) {old middle new : H} → 16 ≤ file
    → ((bytes : List ℕ) → P bytes bytes) → Leads m (AgreesOutside (sorted_file ∷ [])) old middle
    → Leads m (ChangesWith (sorted_file ∷ []) file P) middle new → Leads m (ChangesWith (sorted_file ∷ []) file P) old new
sorted_before file P high itself first second =
    leads_then first second (λ start image agrees. agrees_changes file P high itself agrees)
    (λ start between image before after. record {
      file = subst (λ (l : List ℕ). P l (image.file file)) (before.others file (spares_file file high)) after.file;
      kept = record {
        others = λ number spared.
            after.kept.others number spared ∙ before.others number (λ has. spared (behind_file file number has));
        said = after.kept.said ∙ before.said;
      };
    })

being_before : {H : Type 0} {m : HostModel H} {plan : SnapshotPlan} {filling : Filling} {bodies : List Body} {old middle new : H}
    → 16 ≤ plan.file → Leads m (AgreesOutside (sorted_file ∷ [])) old middle
    → IsBeingWritten m (sorted_file ∷ []) plan filling bodies middle new
    → IsBeingWritten m (sorted_file ∷ []) plan filling bodies old new
being_before {plan = plan} high leads being = record {
  planned = being.planned;
  since = sorted_before plan.file StaysUnfinished high (λ bytes stays. stays) leads being.since;
  filled = being.filled;
}

-- ---- bodies whose ids rise

abbrev Rise : List Body → Type 0
Rise bodies = IsStrictlyIncreasing (map (λ b. b.id) bodies)

Rise-tail : (c : Body) (bodies : List Body) → Rise (c ∷ bodies) → Rise bodies
Rise-tail c bodies rises k below =
    let next : suc k + 1 ≡ suc (k + 1) = omega arith in rw next at (rises (suc k) (omega arith))

last_of-take : (bodies : List Body) (i : ℕ) (d : Body) → i < length bodies → Rise bodies
    → IfSome (last_of (take i bodies)) (λ id. id < (get_or bodies i d).id)
last_of-take bodies zero d below rises = tt
last_of-take [] (suc i) d below rises = tt
last_of-take (b ∷ []) (suc i) d below rises = absurd (omega arith)
last_of-take (b ∷ c ∷ bodies) (suc zero) d below rises = rises 0 (omega arith)
last_of-take (b ∷ c ∷ bodies) (suc (suc i)) d below rises =
    last_of-take (c ∷ bodies) (suc i) d (omega arith) (Rise-tail b (c ∷ bodies) rises)

-- so each has an id above that of the one before it
behind_last : (bodies : List Body) (i : ℕ) (body : Body) (last : Option ℕ) → slice_get bodies i ≡ Some body → Rise bodies
    → last ≡ last_of (take i bodies) → ForSome last (λ before. before < body.id)
behind_last bodies i body last there rises is before some =
    let here = ap (λ (b : Body). b.id) (get_or_from_slice_get bodies i body body there) in
    let above = last_of-take bodies i body (slice_get_within bodies i body there) rises in
    let same : last_of (take i bodies) ≡ Some before = sym is ∙ some in
    subst (λ (n : ℕ). before < n) here
    (subst (λ (o : Option ℕ). IfSome o (λ id. id < (get_or bodies i body).id)) same above)

take_next : (bodies : List Body) (i : ℕ) (body : Body) → slice_get bodies i ≡ Some body
    → take (i + 1) bodies ≡ take i bodies ++ body ∷ []
take_next bodies i body there =
    take_more bodies i body (slice_get_within bodies i body there)
    ∙ ap (λ (b : Body). take i bodies ++ b ∷ []) (get_or_from_slice_get bodies i body body there)

-- ---- bodies, one after the other

-- Some bodies were added to a file that is being written, the first ones of any list that the sorted file holds by ids.
pub record HasAdded {H : Type 0} (m : HostModel H) (old_cache : CacheValue) (old : H) (count index : ℕ) (plan : SnapshotPlan) (filling : Filling) (start now : H) : Type 0 where
  pub bodies : List Body
  pub being : IsBeingWritten m (sorted_file ∷ []) plan filling bodies start now
  pub first_ones : IsTrue m.tells → (list : List Body) → HoldsByIds count list (seen m old_cache old sorted_file)
      → bodies ≡ take index list

-- The last id, if there is one, is that of the body before this one.
abbrev pub IsBefore : ℕ → Option ℕ → List ℕ → Type 0
IsBefore index last file =
    (id : ℕ) → last ≡ Some id → (before : ℕ) × (index ≡ suc before) × (id ≡ (body_of (record_of file before)).id)

-- So many bodies of the sorted file were added to a snapshot since, and no call failed.
pub record Adding {H : Type 0} (m : HostModel H) (first : Filling) (old_cache : CacheValue) (old : H) (count index : ℕ) (last : Option ℕ) (filling : Filling) (cache : CacheValue) (now : H) : Type 0 where
  pub planned : plan_of filling ≡ plan_of first
  pub added : added_count filling ≡ index
  pub last_is : last ≡ last_added filling
  pub settled : IsFlushed m cache now
  pub pages : cache.pages ≡ old_cache.pages
  pub view : IsTrue m.tells → seen m cache now sorted_file ≡ seen m old_cache old sorted_file
  pub went : WentWell m (sorted_file ∷ (plan_of first).file ∷ []) old now
  pub listed : IsTrue m.tells → (list : List Body) → HoldsByIds count list (seen m old_cache old sorted_file)
      → last ≡ last_of (take index list)
  pub before : IsTrue m.tells → IsBefore index last (seen m old_cache old sorted_file)
  pub being : (plan : SnapshotPlan) (start : H) → IsBeingWritten m (sorted_file ∷ []) plan first [] start old
      → HasAdded m old_cache old count index plan filling start now

well_none : {H : Type 0} (m : HostModel H) (files : List ℕ) (now : H) → WentWell m files now now
well_none m files now = session_none m now (agrees_itself files) (λ same. never_device same)

pub adding_none : {H : Type 0} (m : HostModel H) (first : Filling) (cache : CacheValue) (now : H) (count : ℕ)
    → added_count first ≡ 0 → last_added first ≡ None → IsFlushed m cache now
    → Adding m first cache now count 0 None first cache now
adding_none m first cache now count none none_last settled = record {
  planned = refl;
  added = none;
  last_is = sym none_last;
  settled = settled;
  pages = refl;
  view = λ tells. refl;
  went = well_none m (sorted_file ∷ (plan_of first).file ∷ []) now;
  listed = λ tells list holds. refl;
  before = λ tells id some. absurd (cc);
  being = λ plan start is. record { bodies = []; being = is; first_ones = λ tells list holds. refl };
}

-- the file of a plan that is being written
plan_file : {H : Type 0} {m : HostModel H} {plan : SnapshotPlan} {filling : Filling} {bodies : List Body} {start now : H}
    → 16 ≤ (plan_of filling).file → IsBeingWritten m (sorted_file ∷ []) plan filling bodies start now → 16 ≤ plan.file
plan_file high being = subst (λ (p : SnapshotPlan). 16 ≤ p.file) being.planned high

-- a body was read, and the sorted file may have been written
pub adding_read : {H T E : Type 0} {m : HostModel H} {fault : E} {first filling : Filling} {old_cache cache new_cache : CacheValue}
    {count index : ℕ} {last : Option ℕ} {old now new : H} {one : Result T E} → 16 ≤ (plan_of first).file
    → Adding m first old_cache old count index last filling cache now → RanCached m fault [] cache now new_cache new one
    → IsOk one → Adding m first old_cache old count index last filling new_cache new
adding_read {first = first} high adding ran ok =
    let leads = settled_leads none_but adding.settled ran.writes in
    record {
      planned = adding.planned;
      added = adding.added;
      last_is = adding.last_is;
      settled = settled_after none_but adding.settled ran.writes;
      pages = ran.writes.pages ∙ adding.pages;
      view = λ tells. ran.writes.view tells sorted_file (no_file sorted_file) ∙ adding.view tells;
      went = well_then adding.went is_ok
          (well_cached ran ok (sorted_agrees (sorted_file ∷ (plan_of first).file ∷ []) (0, omega arith, refl) leads));
      listed = adding.listed;
      before = adding.before;
      being = λ plan start is.
          let has = adding.being plan start is in
          record {
            bodies = has.bodies;
            being = being_kept (spares_file plan.file (plan_file high is)) leads has.being;
            first_ones = has.first_ones;
          };
    }

-- read or not, the file stays unfinished
pub unfinished_read : {H T E : Type 0} {m : HostModel H} {fault : E} {first filling : Filling}
    {old_cache cache new_cache : CacheValue} {count index : ℕ} {last : Option ℕ} {old now new : H} {one : Result T E}
    → 16 ≤ (plan_of first).file → Adding m first old_cache old count index last filling cache now
    → RanCached m fault [] cache now new_cache new one → (plan : SnapshotPlan) (start : H)
    → IsBeingWritten m (sorted_file ∷ []) plan first [] start old
    → Leads m (ChangesWith (sorted_file ∷ []) plan.file StaysUnfinished) start new
unfinished_read high adding ran plan start is =
    (being_kept (spares_file plan.file (plan_file high is)) (settled_leads none_but adding.settled ran.writes)
    (adding.being plan start is).being).since

-- what was read is the body of this number of any list that the sorted file held by ids
pub read_there : {H : Type 0} {m : HostModel H} {first filling : Filling} {old_cache cache : CacheValue} {count index : ℕ}
    {last : Option ℕ} {old now : H} (body : Body) → Adding m first old_cache old count index last filling cache now
    → (IsTrue m.tells → (list : List Body) → HoldsBodies (seen m cache now sorted_file) list → slice_get list index ≡ Some body)
    → IsTrue m.tells → (list : List Body) → HoldsByIds count list (seen m old_cache old sorted_file)
    → slice_get list index ≡ Some body
read_there body adding listed tells list holds =
    listed tells list (subst (λ (file : List ℕ). HoldsBodies file list) (sym (adding.view tells)) holds.holds)

-- and it is what the file's record says
pub record_there : {H : Type 0} {m : HostModel H} {first filling : Filling} {old_cache cache : CacheValue} {count index : ℕ}
    {last : Option ℕ} {old now : H} (body : Body) → Adding m first old_cache old count index last filling cache now
    → (IsTrue m.tells → HasBody (seen m cache now sorted_file) index
    × (body ≡ body_of (record_of (seen m cache now sorted_file) index)))
    → IsTrue m.tells → body ≡ body_of (record_of (seen m old_cache old sorted_file) index)
record_there {index = index} body adding read tells =
    subst (λ (file : List ℕ). body ≡ body_of (record_of file index)) (adding.view tells) (read tells).1

-- where its id isn't above the last one, the bodies end before it
ends_low : (index : ℕ) (last : Option ℕ) (file : List ℕ) (body : Body) → body ≡ body_of (record_of file index)
    → (ForSome last (λ before. before < body.id) → ⊥) → IsBefore index last file → EndsBefore index file
ends_low index None file body is low before = absurd (low (λ id some. absurd (cc)))
ends_low index (Some last) file body is low before =
    let at = before last refl in
    let id = ap (λ (b : Body). b.id) is in
    elim (cases_lt last body.id) [
      | inl above ↦ absurd (low (λ other same. let one : last ≡ other = cc in subst (λ (n : ℕ). n < body.id) one above))
      | inr below ↦ inr (at.0, at.1, omega (arith, below, id, at.2))
    ]

-- and the sorted file held none
pub not_behind : {H : Type 0} {m : HostModel H} {first filling : Filling} {old_cache cache : CacheValue} {count index : ℕ}
    {last : Option ℕ} {old now : H} (body : Body) → Adding m first old_cache old count index last filling cache now
    → index < count
    → (IsTrue m.tells → (list : List Body) → HoldsByIds count list (seen m old_cache old sorted_file)
    → slice_get list index ≡ Some body)
    → (IsTrue m.tells → body ≡ body_of (record_of (seen m old_cache old sorted_file) index))
    → (ForSome last (λ before. before < body.id) → ⊥) → (why : Refusal) (name : PageName) → why ≡ refusal.Damaged name
    → name ≡ page_of_body sorted_file index
    → IsPageDamaged m (IsEnd m count old_cache old) (λ list. HoldsByIds count list (seen m old_cache old sorted_file)) why
not_behind {index = index} {last = last} body adding below there read low why name shown page = record {
  page = name;
  named = shown;
  place = record {
    index = index;
    below = below;
    page_is = page;
    ends = λ tells. ends_low index last _ body (read tells) low (adding.before tells);
  };
  cause = λ tells list holds.
      low (behind_last list index body last (there tells list holds) holds.rises (adding.listed tells list holds));
}

-- nor where there is no body of this number
pub no_body : {H : Type 0} {m : HostModel H} {first filling : Filling} {old_cache cache : CacheValue} {count index : ℕ}
    {last : Option ℕ} {old now : H} → Adding m first old_cache old count index last filling cache now → index < count
    → (name : PageName) → IsNoBody m cache now sorted_file index name
    → IsPageDamaged m (IsEnd m count old_cache old) (λ list. HoldsByIds count list (seen m old_cache old sorted_file))
    (refusal.Damaged name)
no_body {index = index} adding below name none = record {
  page = name;
  named = refl;
  place = record {
    index = index;
    below = below;
    page_is = none.page;
    ends = λ tells.
        inl (λ has. none.cause tells (subst (λ (file : List ℕ). HasBody file index) (sym (adding.view tells)) has));
  };
  cause = λ tells list holds.
      let few = none.listed tells list (subst (λ (file : List ℕ). HoldsBodies file list) (sym (adding.view tells)) holds.holds) in
      absurd (omega (arith, few, holds.count_is));
}

-- its file is among those that are changed
pub adding_file : {H : Type 0} {m : HostModel H} {first filling : Filling} {old_cache cache : CacheValue} {count index : ℕ}
    {last : Option ℕ} {old now : H} → Adding m first old_cache old count index last filling cache now
    → Contains (sorted_file ∷ (plan_of first).file ∷ []) (plan_of filling).file
adding_file adding = (1, omega arith, ap (λ (p : SnapshotPlan). p.file) (sym adding.planned))

-- a body was added
pub adding_added : {H T E : Type 0} {m : HostModel H} {fault : E} {first filling next : Filling} {old_cache cache : CacheValue}
    {count index : ℕ} {last : Option ℕ} {old now new : H} {one : Result T E} (body : Body) → 16 ≤ (plan_of first).file
    → Adding m first old_cache old count index last filling cache now
    → (IsTrue m.tells → (list : List Body) → HoldsByIds count list (seen m old_cache old sorted_file)
    → slice_get list index ≡ Some body)
    → (IsTrue m.tells → body ≡ body_of (record_of (seen m old_cache old sorted_file) index))
    → HasOneMore body filling next
    → ((bodies : List Body) → IsTrue m.tells → HasFilled filling ((m.contents now).file (plan_of filling).file) bodies
    → HasFilled next ((m.contents new).file (plan_of filling).file) (bodies ++ body ∷ []))
    → Ran m fault (FileBecomes (plan_of filling).file StaysShut) now new one → IsOk one
    → Adding m first old_cache old count (index + 1) (Some body.id) next cache new
adding_added {first = first} {filling = filling} {cache = cache} {index = index} body high adding there read more filled ran ok =
    let here = subst (λ (p : SnapshotPlan). 16 ≤ p.file) (sym adding.planned) high in
    let files = sorted_file ∷ (plan_of first).file ∷ [] in
    record {
      planned = more.plan ∙ adding.planned;
      added = more.added ∙ ap (λ (n : ℕ). n + 1) adding.added;
      last_is = sym more.last;
      settled = settled_file here ran.leads adding.settled;
      pages = adding.pages;
      view = λ tells. seen_file cache here ran.leads tells ∙ adding.view tells;
      went = well_then adding.went is_ok
          (well_ran ran ok
          (file_agrees files (adding_file adding) ran.leads));
      listed = λ tells list holds.
          sym (ap last_of (take_next list index body (there tells list holds)) ∙ last_of-push (take index list) body);
      before = λ tells id some.
          let here : body.id ≡ id = cc in (index, omega arith, sym here ∙ ap (λ (b : Body). b.id) (read tells));
      being = λ plan start is.
          let has = adding.being plan start is in
          record {
            bodies = has.bodies ++ body ∷ [];
            being = being_added body has.being (record { added = more; filled = filled; leads = ran.leads });
            first_ones = λ tells list holds.
                ap (λ (l : List Body). l ++ body ∷ []) (has.first_ones tells list holds)
                ∙ sym (take_next list index body (there tells list holds));
          };
    }

-- added or not, the file stays unfinished
pub unfinished_added : {H T E : Type 0} {m : HostModel H} {fault : E} {first filling : Filling} {old_cache cache : CacheValue}
    {count index : ℕ} {last : Option ℕ} {old now new : H} {one : Result T E}
    → Adding m first old_cache old count index last filling cache now
    → Ran m fault (FileBecomes (plan_of filling).file StaysShut) now new one → (plan : SnapshotPlan) (start : H)
    → IsBeingWritten m (sorted_file ∷ []) plan first [] start old
    → Leads m (ChangesWith (sorted_file ∷ []) plan.file StaysUnfinished) start new
unfinished_added adding ran plan start is = add_leads (adding.being plan start is).being ran.leads

-- all were added
pub all_added : {H : Type 0} {m : HostModel H} {first filling : Filling} {old_cache cache : CacheValue} {count index : ℕ}
    {last : Option ℕ} {old now : H} → index ≡ count → Adding m first old_cache old count index last filling cache now
    → IsTrue m.tells → (plan : SnapshotPlan) (list : List Body) (start : H)
    → HoldsByIds count list (seen m old_cache old sorted_file) → IsBeingWritten m (sorted_file ∷ []) plan first [] start old
    → IsBeingWritten m (sorted_file ∷ []) plan filling list start now
all_added {m = m} {filling = filling} {index = index} {now = now} all adding tells plan list start holds is =
    let has = adding.being plan start is in
    let whole = has.first_ones tells list holds ∙ take_all index list (omega (arith, all, holds.count_is)) in
    subst (λ (l : List Body). IsBeingWritten m (sorted_file ∷ []) plan filling l start now) whole has.being

-- ---- the snapshot of a slot

-- what is to be written after the last tick
abbrev pub snap_plan : Counters → SnapshotPlan
snap_plan journal = record { file = snap_of journal.progress.ticks; count = journal.count; time = journal.progress.time }

pub planned_of : (journal : Counters) {ticks file count time : ℕ} {plan : SnapshotPlan}
    → plan ≡ record { file = file; count = count; time = time } → file ≡ snap_of ticks → ticks ≡ journal.progress.ticks
    → count ≡ journal.count → time ≡ journal.progress.time → plan ≡ snap_plan journal
planned_of journal is number done many when =
    is ∙ (λ i. record { file = (number ∙ ap snap_of done) i; count = many i; time = when i })

-- a snapshot that is finished, by what its file and its count are read from
pub finished_at : (files : ℕ → List ℕ) {file number count many : ℕ} → file ≡ number → count ≡ many
    → IsFinishedSnapshot many (files number) → IsFinishedSnapshot count (files file)
finished_at files {file = file} {many = many} same many_is finished =
    subst (λ (n : ℕ). IsFinishedSnapshot n (files file)) (sym many_is)
    (subst (λ (n : ℕ). IsFinishedSnapshot many (files n)) (sym same) finished)

-- the slot of the last tick holds these bodies
abbrev pub SlotHolds : {H : Type 0} → HostModel H → Counters → H → List Body → Type 0
SlotHolds m journal host bodies =
    HoldsByKeys journal.count bodies ((m.contents host).file (slot_of journal.progress.ticks))

slot_apart : (slot k : ℕ) → slot ≡ slot_of k → slot ≢ sorted_file
slot_apart slot k is same = absurd (omega (arith, is, same))

-- what a settled cache shows of the slot is the host's
slot_seen : {H : Type 0} {m : HostModel H} {cache : CacheValue} {now : H} (slot k : ℕ) → slot ≡ slot_of k → IsFlushed m cache now
    → IsTrue m.tells → seen m cache now slot ≡ (m.contents now).file (slot_of k)
slot_seen {m = m} {cache = cache} {now = now} slot k is settled tells =
    seen_written m cache now slot (λ has. slot_apart slot k is (settled.unwritten slot has)) settled.in_step tells
    ∙ ap (m.contents now).file is

-- The bodies of the slot stand in the sorted file, in the order of their ids.
pub record Ordered {H : Type 0} (m : HostModel H) (journal : Counters) (old : H) (cache : CacheValue) (now : H) : Type 0 where
  pub settled : IsFlushed m cache now
  pub leads : Leads m (AgreesOutside (sorted_file ∷ [])) old now
  pub holds : IsTrue m.tells → (bodies : List Body) → SlotHolds m journal old bodies
      → HoldsByIds journal.count bodies (seen m cache now sorted_file)

pub ordered : {H T E : Type 0} {m : HostModel H} {fault : E} (journal : Counters) {old_cache cache : CacheValue} {old now : H}
    {one : Result T E} {slot count : ℕ} → slot ≡ slot_of journal.progress.ticks → count ≡ journal.count
    → IsFlushed m old_cache old → RanCached m fault (sorted_file ∷ []) old_cache old cache now one
    → (IsTrue m.tells → IsSortedCopy by_id count (seen m old_cache old slot) (seen m cache now sorted_file))
    → Ordered m journal old cache now
ordered {m = m} journal {cache = cache} {now = now} {slot = slot} here many settled ran sorted = record {
  settled = settled_after sorted_but settled ran.writes;
  leads = settled_leads sorted_but settled ran.writes;
  holds = λ tells bodies keys.
      let list = sorted_by by_key bodies in
      let same = slot_seen slot journal.progress.ticks here settled tells in
      let copy = (sorted tells).bodies list (subst (λ (file : List ℕ). HoldsBodies file list) (sym same) keys.holds)
      (length-sorted_by by_key bodies ∙ keys.count_is ∙ sym many) in
      record {
        holds = subst (HoldsBodies (seen m cache now sorted_file)) (sorted_back bodies keys.rises) copy;
        count_is = keys.count_is;
        rises = keys.rises;
      };
}

-- where they can't be put into that order, the slot holds none
pub unordered : {H : Type 0} {m : HostModel H} (journal : Counters) {cache : CacheValue} {old : H} {slot count : ℕ}
    → slot ≡ slot_of journal.progress.ticks → count ≡ journal.count → IsFlushed m cache old → (name : PageName)
    → IsSortRefused m by_id cache old slot sorted_file count name
    → IsPageDamaged m (IsSnapshotPage journal.progress.ticks) (SlotHolds m journal old) (refusal.Damaged name)
unordered {m = m} journal {slot = slot} here many settled name none = record {
  page = name;
  named = refl;
  place = elim none.file [ inl one ↦ inl (one ∙ here) | inr other ↦ inr other ];
  cause = λ tells bodies keys.
      let list = sorted_by by_key bodies in
      let same = slot_seen slot journal.progress.ticks here settled tells in
      none.listed tells list (subst (λ (file : List ℕ). HoldsBodies file list) (sym same) keys.holds)
      (length-sorted_by by_key bodies ∙ keys.count_is ∙ sym many)
      (different_permuted bodies list (different_ids bodies keys.rises) (permuted by_key bodies));
}

-- The snapshot is begun, and its bodies stand in the sorted file.
pub record Begun {H : Type 0} (m : HostModel H) (journal : Counters) (old : H) (filling : Filling) (cache : CacheValue) (now : H) : Type 0 where
  pub settled : IsFlushed m cache now
  pub being : IsBeingWritten m (sorted_file ∷ []) (snap_plan journal) filling [] old now
  pub holds : IsTrue m.tells → (bodies : List Body) → SlotHolds m journal old bodies
      → HoldsByIds journal.count bodies (seen m cache now sorted_file)

pub high_plan : (journal : Counters) {plan : SnapshotPlan} → plan ≡ snap_plan journal → 16 ≤ plan.file
high_plan journal is = let number = ap (λ (p : SnapshotPlan). p.file) is in omega (arith, number)

pub begun : {H : Type 0} {m : HostModel H} {journal : Counters} {old middle now : H} {cache : CacheValue} {plan : SnapshotPlan}
    {filling : Filling} → plan ≡ snap_plan journal → Ordered m journal old cache middle → IsEmptyFilling plan filling
    → Over m (FileBecomes plan.file (IsBegun plan)) middle now → IsShutNow m plan.file now
    → Leads m (FileBecomes plan.file StaysUnfinished) middle now → Begun m journal old filling cache now
begun {m = m} {journal = journal} {old = old} {now = now} {cache = cache} {filling = filling} is order' empty over shut leads =
    let high = high_plan journal is in
    record {
      settled = settled_file high leads order'.settled;
      being = subst (λ (p : SnapshotPlan). IsBeingWritten m (sorted_file ∷ []) p filling [] old now) is
          (being_before high order'.leads (being_begun (sorted_file ∷ []) empty over shut leads));
      holds = λ tells bodies keys.
          subst (HoldsByIds journal.count bodies) (sym (seen_file cache high leads tells)) (order'.holds tells bodies keys);
    }

-- What stands in its file where a call failed, and where it is written.

still : (bodies : List Body) (time : ℕ) (old new : List ℕ) → StaysUnfinished old new → IsWritten bodies time old new
still bodies time old new stays before = inr (stays before)

same_file : (bodies : List Body) (time : ℕ) (bytes : List ℕ) → IsWritten bodies time bytes bytes
same_file bodies time bytes before = inr before

pub images_unordered : {H : Type 0} {m : HostModel H} (journal : Counters) (bodies : List Body) {old now : H}
    → Leads m (AgreesOutside (sorted_file ∷ [])) old now
    → Leads m (ChangesWith (sorted_file ∷ []) (snap_of journal.progress.ticks) (IsWritten bodies journal.progress.time)) old now
images_unordered journal bodies leads =
    sorted_changes (snap_of journal.progress.ticks) (IsWritten bodies journal.progress.time) (omega arith)
    (same_file bodies journal.progress.time) leads

pub images_not_begun : {H : Type 0} {m : HostModel H} (journal : Counters) (bodies : List Body) {plan : SnapshotPlan} {old middle now : H}
    → plan ≡ snap_plan journal → Leads m (AgreesOutside (sorted_file ∷ [])) old middle
    → Leads m (FileBecomes plan.file StaysUnfinished) middle now
    → Leads m (ChangesWith (sorted_file ∷ []) (snap_of journal.progress.ticks) (IsWritten bodies journal.progress.time)) old now
images_not_begun {m = m} journal bodies {old = old} {now = now} is leads begin =
    let P = IsWritten bodies journal.progress.time in
    subst (λ (p : SnapshotPlan). Leads m (ChangesWith (sorted_file ∷ []) p.file P) old now) is
    (sorted_before _ P (high_plan journal is) (same_file bodies journal.progress.time) leads
    (leads_more begin (λ start image step. becomes_changes (becomes_more step (still bodies journal.progress.time)))))

pub images_unfinished : {H : Type 0} {m : HostModel H} (journal : Counters) (bodies : List Body) {old now : H}
    → Leads m (ChangesWith (sorted_file ∷ []) (snap_of journal.progress.ticks) StaysUnfinished) old now
    → Leads m (ChangesWith (sorted_file ∷ []) (snap_of journal.progress.ticks) (IsWritten bodies journal.progress.time)) old now
images_unfinished journal bodies leads =
    leads_more leads (λ start image step. changes_more (still bodies journal.progress.time) step)

-- all bodies of the slot were added
pub filled : {H : Type 0} {m : HostModel H} {journal : Counters} {old now next : H} {cache : CacheValue} {count : ℕ}
    {filling full : Filling} → count ≡ journal.count → Begun m journal old filling cache now
    → (IsTrue m.tells → (plan : SnapshotPlan) (bodies : List Body) (start : H)
    → HoldsByIds count bodies (seen m cache now sorted_file) → IsBeingWritten m (sorted_file ∷ []) plan filling [] start now
    → IsBeingWritten m (sorted_file ∷ []) plan full bodies start next)
    → IsTrue m.tells → (bodies : List Body) → SlotHolds m journal old bodies
    → IsBeingWritten m (sorted_file ∷ []) (snap_plan journal) full bodies old next
filled {m = m} {journal = journal} {old = old} {now = now} {cache = cache} many start added tells bodies keys =
    added tells (snap_plan journal) bodies old
    (subst (λ (n : ℕ). HoldsByIds n bodies (seen m cache now sorted_file)) (sym many) (start.holds tells bodies keys)) start.being

pub images_closed : {H : Type 0} {m : HostModel H} (journal : Counters) (bodies : List Body) {full : Filling} {old next new : H}
    → (IsTrue m.tells → IsBeingWritten m (sorted_file ∷ []) (snap_plan journal) full bodies old next)
    → Leads m (FileBecomes (plan_of full).file (Closes full ((m.contents next).file (plan_of full).file))) next new
    → Leads m (ChangesWith (sorted_file ∷ []) (snap_of journal.progress.ticks) (IsWritten bodies journal.progress.time)) old new
images_closed journal bodies being close = leads_told (λ tells. close_leads (being tells) close)

pub closed_snapshot : {H : Type 0} {m : HostModel H} (journal : Counters) {bodies : List Body} {full : Filling} {old next new : H}
    → IsTrue m.tells → IsBeingWritten m (sorted_file ∷ []) (snap_plan journal) full bodies old next
    → ((list : List Body) → IsTrue m.tells → HasFilled full ((m.contents next).file (plan_of full).file) list
    → FileBecomes (plan_of full).file (IsFinishedAs list (plan_of full).time) (m.contents next) (m.contents new))
    → IsSnapshot ((m.contents new).file (snap_of journal.progress.ticks)) bodies journal.progress.time
closed_snapshot {m = m} journal {bodies = bodies} {new = new} tells being finished =
    subst (λ (p : SnapshotPlan). IsSnapshot ((m.contents new).file p.file) bodies p.time) being.planned
    (finished bodies tells (being.filled.left.reads tells)).file

-- Where the sorted file was said to hold none by ids, the slot holds none.
pub broken_slot : {H : Type 0} {m : HostModel H} {journal : Counters} {old now : H} {cache : CacheValue} {count : ℕ}
    {filling : Filling} → count ≡ journal.count → Begun m journal old filling cache now → (why : Refusal)
    → NeedsNoCause why
    ⊎ IsPageDamaged m (IsEnd m count cache now) (λ list. HoldsByIds count list (seen m cache now sorted_file)) why
    → NeedsNoCause why ⊎ IsPageDamaged m (IsSnapshotPage journal.progress.ticks) (SlotHolds m journal old) why
broken_slot {m = m} {now = now} {cache = cache} many start why cause =
    elim cause [
      | inl none ↦ inl none
      | inr broken ↦
          inr (record {
            page = broken.page;
            named = broken.named;
            place = inr (ap (λ (n : PageName). n.file) broken.place.page_is);
            cause = λ tells bodies keys.
                broken.cause tells bodies
                (subst (λ (n : ℕ). HoldsByIds n bodies (seen m cache now sorted_file)) (sym many) (start.holds tells bodies keys));
          })
    ]

-- ---- the frame of its calls

-- an answer of the same error
pub refused_as : {H T U : Type 0} {m : HostModel H} {by : Image → Image → Type 0} {old new : H} {one : Result T Refusal}
    {result : Result U Refusal} (error : Refusal) → one ≡ Err error → result ≡ Err error → RanSession m by old new one
    → RanSession m by old new result
refused_as error was is ran =
    session_as ran (λ faulted. let same : error ≡ refusal.Device = cc in was ∙ ap Err same)
    (λ faulted. let same : error ≡ refusal.Device = cc in is ∙ ap Err same) (λ ok. absurd (ok_is_no_error ok is))

-- the sorted file and the snapshot's are those that it changes
pub sorted_among : (k : ℕ) → Contains (snapshot_files k) sorted_file
sorted_among k = (0, omega arith, refl)

pub plan_among : (journal : Counters) {plan : SnapshotPlan} → plan ≡ snap_plan journal
    → Contains (snapshot_files journal.progress.ticks) plan.file
plan_among journal is = (1, omega arith, ap (λ (p : SnapshotPlan). p.file) (sym is))

pub session_adds : {H T : Type 0} {m : HostModel H} (journal : Counters) (filling : Filling) {old new : H}
    {result : Result T Refusal} → plan_of filling ≡ snap_plan journal
    → RanSession m (AgreesOutside (sorted_file ∷ (plan_of filling).file ∷ [])) old new result
    → RanSession m (AgreesOutside (snapshot_files journal.progress.ticks)) old new result
session_adds {m = m} journal filling {old = old} {new = new} {result = result} is ran =
    subst (λ (p : SnapshotPlan). RanSession m (AgreesOutside (sorted_file ∷ p.file ∷ [])) old new result) is ran
