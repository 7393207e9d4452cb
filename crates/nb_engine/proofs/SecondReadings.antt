-- The second reading of the initial snapshot, which copies its bodies into a file: what was copied so far, and why the copy is
-- refused.
use Rattle.std.proofs.Common.{◌≡◌, ◌≢◌, ◌⊎◌, inl, inr, ℕ, zero, suc, ◌+◌, ◌^◌, ◌<◌, ◌≤◌, ◌==◌, ◌&&◌, true, false, not, cond, IsTrue, Some, List, [], ◌∷◌, ◌++◌, length, take, refl, sym, ap, subst, ◌∙◌, arith}
use Rattle.std.specs.Prelude.{Contains}
use Rattle.std.proofs.lemmas.Bool.Decides.{nat_tests}
use Rattle.std.proofs.lemmas.List.Elements.{Contains-append_cases}
use Rattle.nb_model.specs.declared.body.Body.{Body}
use Rattle.nb_model.specs.declared.body.V3.{V3}
use Rattle.nb_model.specs.Limits.{most_bodies}
use Rattle.nb_host.specs.Crashes.{Stays}
use Rattle.nb_host.specs.Image.{Image}
use Rattle.nb_host.specs.Meaning.{HostModel, Leads}
use Rattle.nb_host.specs.declared.page_name.PageName.{PageName}
use Rattle.nb_host.proofs.Callers.{stays_contents}
use Rattle.nb_format.specs.declared.snap_error.SnapError.{SnapError}
use Rattle.nb_format.specs.declared.snap_error.SnapError.TheVariants as snap
use Rattle.nb_format.specs.declared.snap_reader.SnapReader.{SnapReader}
use Rattle.nb_format.specs.Reader.{file_of, count_of, time_of, read_count, IsAtStart, MayFollow, IsBehind, HasRead, IsReadableNow}
use Rattle.nb_format.specs.Snapshot.{IsHeader, IsSnapshot}
use Rattle.nb_format.specs.SnapshotRefusal.{snapshot_refusal, IsBySnapshot}
use Rattle.nb_format.proofs.Reading.{read_header}
use Rattle.nb_format.proofs.Snapshots.{snapshot_whole, snapshot_header, one_header, one_snapshot}
use Rattle.nb_format.proofs.SnapshotRefusals.{no_snapshot}
use Rattle.nb_cache.specs.declared.cache_error.CacheError.{CacheError}
use Rattle.nb_cache.specs.declared.cache_error.CacheError.TheVariants as cache
use Rattle.nb_cache.specs.View.{CacheValue, view_of, seen, Seen}
use Rattle.nb_cache.specs.Writes.{Writes}
use Rattle.nb_cache.proofs.Callers.{no_file}
use Rattle.nb_record.specs.Order.{HoldsBodies}
use Rattle.nb_order.specs.declared.order_error.OrderError.{OrderError}
use Rattle.nb_order.specs.declared.order_error.OrderError.TheVariants as order
use Rattle.nb_order.specs.Files.{HasPushed}
use Rattle.nb_order.specs.Refusals.{HasNoRoom}
use Rattle.nb_tick.specs.Slots.{drifted_file}
use Rattle.nb_engine.specs.declared.init_file.Census.{Census}
use Rattle.nb_engine.specs.declared.refusal.Refusal.{Refusal}
use Rattle.nb_engine.specs.declared.refusal.Refusal.TheVariants as refusal
use Rattle.nb_engine.specs.declared.run_start.StartPlan.{StartPlan}
use Rattle.nb_engine.specs.Files.{init_file}
use Rattle.nb_engine.specs.Reading.{census_of, IsPlanned}
use Rattle.nb_engine.specs.Refusal.{NeedsNoCause, of_second_reading, of_cache, of_order}
use Rattle.nb_engine.specs.Snapshots.{IsPageDamaged}
use Rattle.nb_engine.specs.Start.{init_record_name, IsCopyEnd, IsReadPlace}
use Rattle.nb_engine.proofs.CachedCalls.{WentWell}
use Rattle.nb_engine.proofs.Reading.{HasGiven, HasGiven-more, IsFrontOf-same}
use Rattle.nb_engine.proofs.Surveys.{census-more}

-- ---- refusals, as they are handed on

pub second_fault : (error : SnapError) (index : ℕ) → of_second_reading error index ≡ refusal.Device → error ≡ snap.Fault
second_fault snap.Fault index is = refl
second_fault snap.NoMemory index is = absurd (cc)
second_fault snap.Short index is = absurd (cc)
second_fault snap.Unfinished index is = absurd (cc)
second_fault snap.Magic index is = absurd (cc)
second_fault snap.Count index is = absurd (cc)
second_fault snap.Zeros index is = absurd (cc)
second_fault snap.Length index is = absurd (cc)
second_fault (snap.IdOrder i) index is = absurd (cc)
second_fault (snap.Mass i) index is = absurd (cc)
second_fault (snap.Flag i) index is = absurd (cc)
second_fault (snap.Place i) index is = absurd (cc)
second_fault (snap.Speed i) index is = absurd (cc)

pub order_is_fault : (error : OrderError) → of_order error ≡ refusal.Device → error ≡ order.Fault
order_is_fault order.Fault is = refl
order_is_fault order.NoMemory is = absurd (cc)
order_is_fault (order.Damaged name) is = absurd (cc)

pub cache_is_fault : (error : CacheError) → of_cache error ≡ refusal.Device → error ≡ cache.Fault
cache_is_fault cache.Fault is = refl
cache_is_fault cache.NoMemory is = absurd (cc)
cache_is_fault (cache.Short name) is = absurd (cc)

-- the initial snapshot isn't what it was
pub init_broken : {H : Type 0} {m : HostModel H} (IsPage : PageName → Type 0) (Holds : List Body → Type 0) (index : ℕ)
    → IsPage (init_record_name index) → (IsTrue m.tells → (bodies : List Body) → Holds bodies → ⊥)
    → IsPageDamaged m IsPage Holds (refusal.Damaged (init_record_name index))
init_broken IsPage Holds index place never = record {
  page = init_record_name index;
  named = refl;
  place = place;
  cause = never;
}

-- one of these pages is one of those, and who holds more holds less
pub cause_more : {H : Type 0} {m : HostModel H} (These Those : PageName → Type 0) (Few More : List Body → Type 0) {why : Refusal}
    → NeedsNoCause why ⊎ IsPageDamaged m These Few why → ((page : PageName) → These page → Those page)
    → (IsTrue m.tells → (bodies : List Body) → More bodies → Few bodies) → NeedsNoCause why ⊎ IsPageDamaged m Those More why
cause_more These Those Few More cause those more = elim cause [
  | inl needless ↦ inl needless
  | inr broken ↦
      inr (record {
        page = broken.page;
        named = broken.named;
        place = those broken.page broken.place;
        cause = λ tells bodies holds. broken.cause tells bodies (more tells bodies holds);
      })
]

-- why a reader's refusal of a second reading is one
pub second_cause : {H : Type 0} {m : HostModel H} (IsPage : PageName → Type 0) (Holds : List Body → Type 0) (error : SnapError)
    (index : ℕ) → (IsBySnapshot error → IsPage (init_record_name index))
    → (IsBySnapshot error → IsTrue m.tells → (bodies : List Body) → Holds bodies → ⊥)
    → NeedsNoCause (of_second_reading error index) ⊎ IsPageDamaged m IsPage Holds (of_second_reading error index)
second_cause IsPage Holds snap.Fault index place never = inl (inl refl)
second_cause IsPage Holds snap.NoMemory index place never = inl (inr refl)
second_cause IsPage Holds snap.Short index place never = inr (init_broken IsPage Holds index (place tt) (never tt))
second_cause IsPage Holds snap.Unfinished index place never = inr (init_broken IsPage Holds index (place tt) (never tt))
second_cause IsPage Holds snap.Magic index place never = inr (init_broken IsPage Holds index (place tt) (never tt))
second_cause IsPage Holds snap.Count index place never = inr (init_broken IsPage Holds index (place tt) (never tt))
second_cause IsPage Holds snap.Zeros index place never = inr (init_broken IsPage Holds index (place tt) (never tt))
second_cause IsPage Holds snap.Length index place never = inr (init_broken IsPage Holds index (place tt) (never tt))
second_cause IsPage Holds (snap.IdOrder i) index place never = inr (init_broken IsPage Holds index (place tt) (never tt))
second_cause IsPage Holds (snap.Mass i) index place never = inr (init_broken IsPage Holds index (place tt) (never tt))
second_cause IsPage Holds (snap.Flag i) index place never = inr (init_broken IsPage Holds index (place tt) (never tt))
second_cause IsPage Holds (snap.Place i) index place never = inr (init_broken IsPage Holds index (place tt) (never tt))
second_cause IsPage Holds (snap.Speed i) index place never = inr (init_broken IsPage Holds index (place tt) (never tt))

-- what is refused is no snapshot
pub refused_never : {file : List ℕ} {error : SnapError} → snapshot_refusal file ≡ Some error
    → (bodies : List Body) (time : ℕ) → IsSnapshot file bodies time → ⊥
refused_never {file} {error} refused = no_snapshot file error refused

-- why a refusal of a file of bodies is one, where the damaged page is one of these
pub order_cause : {H : Type 0} {m : HostModel H} (IsPage : PageName → Type 0) (Holds : List Body → Type 0) (error : OrderError)
    → ((name : PageName) → error ≡ order.Damaged name
    → IsPage name × (IsTrue m.tells → (bodies : List Body) → Holds bodies → ⊥))
    → NeedsNoCause (of_order error) ⊎ IsPageDamaged m IsPage Holds (of_order error)
order_cause IsPage Holds order.Fault damaged = inl (inl refl)
order_cause IsPage Holds order.NoMemory damaged = inl (inr refl)
order_cause IsPage Holds (order.Damaged name) damaged =
    let known = damaged name refl in
    inr (record { page = name; named = refl; place = known.0; cause = known.1 })

-- a body at which a copy ends is one of those that are read
pub end_read : {H : Type 0} {m : HostModel H} {reader : SnapReader} {cache : CacheValue} {host : H} {count : ℕ}
    → count_of reader ≡ count → (page : PageName) → IsCopyEnd m reader cache host page → IsReadPlace count page
end_read {count = count} same page end =
    let below : end.index < count = subst (λ (n : ℕ). end.index < n) same end.below in
    elim end.place [ inl one ↦ inr (end.index, below, inl one.0) | inr other ↦ inr (end.index, below, inr other.0) ]

-- ---- the file of the snapshot, while the bodies are copied

-- no file but that of the copy is unwritten
abbrev pub IsReadOnly : CacheValue → Type 0
IsReadOnly cache = (file : ℕ) → Contains cache.unwritten file → file ≡ drifted_file

only_one : (file other : ℕ) → Contains (file ∷ []) other → other ≡ file
only_one file other (zero, below, is) = sym is
only_one file other (suc k, below, is) = absurd (omega arith)

pub read_only_none : (cache : CacheValue) → cache.unwritten ≡ [] → IsReadOnly cache
read_only_none cache none file has = absurd (no_file file (subst (λ (l : List ℕ). Contains l file) none has))

-- and none becomes so
pub read_only_kept : {H : Type 0} {m : HostModel H} {old_cache new_cache : CacheValue} {old new : H} → IsReadOnly old_cache
    → Writes m (drifted_file ∷ []) old_cache old new_cache new → IsReadOnly new_cache
read_only_kept {old_cache = old_cache} only writes file has =
    elim (Contains-append_cases (drifted_file ∷ []) old_cache.unwritten file (writes.unwritten file has)) [
      | inl there ↦ only_one drifted_file file there
      | inr unwritten ↦ only file unwritten
    ]

init_spared : (cache : CacheValue) → IsReadOnly cache → Contains ((drifted_file ∷ []) ++ cache.unwritten) init_file → ⊥
init_spared cache only has = elim (Contains-append_cases (drifted_file ∷ []) cache.unwritten init_file has) [
  | inl there ↦ let same = only_one drifted_file init_file there in absurd (omega (arith, same))
  | inr unwritten ↦ let same = only init_file unwritten in absurd (omega (arith, same))
]

-- the calls of the copy leave it alone
pub init_stays : {H : Type 0} {m : HostModel H} {old_cache new_cache : CacheValue} {old new : H} → IsReadOnly old_cache
    → Writes m (drifted_file ∷ []) old_cache old new_cache new → IsTrue m.tells
    → (m.contents new).file init_file ≡ (m.contents old).file init_file
init_stays {old_cache = old_cache} only writes tells =
    (writes.leads.contents tells).others init_file (init_spared old_cache only)

-- ---- what was copied so far

-- an empty file holds no bodies
pub holds_nothing : (file : List ℕ) → file ≡ [] → HoldsBodies file []
holds_nothing file is = record {
  whole = omega (arith, ap (λ (l : List ℕ). length l) is);
  pages = λ p below. absurd (omega arith);
  counts = λ p below. absurd (omega arith);
  records = λ j below. absurd (omega arith);
  held = λ j below. absurd (omega arith);
}

-- The reader has given these bodies, the census is theirs, and where the file of the copy was empty it holds them.
pub record HasCopied {H : Type 0} (m : HostModel H) (start : SnapReader) (old_cache : CacheValue) (old : H) (reader : SnapReader) (census : Census) (cache : CacheValue) (host : H) : Type 0 where
  pub bodies : List Body
  pub given : HasGiven m.tells ((m.contents old).file init_file) start reader bodies
  pub counted : census ≡ census_of bodies
  pub holds : IsTrue m.tells → seen m old_cache old drifted_file ≡ [] → HoldsBodies (seen m cache host drifted_file) bodies
  pub went : WentWell m (drifted_file ∷ []) old_cache old cache host

-- the reader's file reads as it did at the start
pub open_still : {H : Type 0} {m : HostModel H} {start reader : SnapReader} {census : Census}
    {old_cache cache : CacheValue} {old host : H}
    → IsReadOnly old_cache → IsAtStart init_file start → HasCopied m start old_cache old reader census cache host
    → IsTrue m.tells → (m.contents host).file (file_of reader) ≡ (m.contents old).file init_file
open_still {m = m} {host = host} only begun copied tells =
    ap (λ (number : ℕ). (m.contents host).file number) (copied.given.file ∙ begun.file) ∙ init_stays only copied.went.writes tells

pub open_now : {H : Type 0} {m : HostModel H} {start reader : SnapReader} {census : Census}
    {old_cache cache : CacheValue} {old host : H}
    → IsReadOnly old_cache → IsAtStart init_file start → HasCopied m start old_cache old reader census cache host
    → IsReadableNow m reader ((m.contents old).file init_file) host
open_now only begun copied = record {
  reads = λ tells. IsFrontOf-same _ (sym (open_still only begun copied tells));
  images = λ image honest is. tt;
}

-- what a cache shows over a host that reads as before
pub seen_still : {H : Type 0} {m : HostModel H} (cache : CacheValue) {old new : H} (file : ℕ) → Leads m Stays old new
    → seen m cache new file ≡ seen m cache old file
seen_still cache file leads = ap (λ (i : Image). view_of cache i file) (stays_contents leads)

-- The reader isn't at its end, so its next body is one of those that the header tells.
pub next_below : {H : Type 0} {m : HostModel H} {start reader : SnapReader} {census : Census}
    {old_cache cache : CacheValue} {old host : H} → HasCopied m start old_cache old reader census cache host
    → read_count reader ≢ count_of reader → census.count < count_of start
next_below {start = start} {reader = reader} {census = census} copied unended =
    let given = copied.given in
    let count : census.count ≡ length copied.bodies = ap (λ (c : Census). c.count) copied.counted in
    let more : length copied.bodies ≢ count_of start = λ all. unended (given.read ∙ all ∙ sym given.count) in
    omega (arith, given.within)

-- and its number is how many were counted
pub next_number : {H : Type 0} {m : HostModel H} {start reader : SnapReader} {census : Census}
    {old_cache cache : CacheValue} {old host : H} → HasCopied m start old_cache old reader census cache host
    → read_count reader ≡ census.count
next_number copied = copied.given.read ∙ sym (ap (λ (c : Census). c.count) copied.counted)

-- where so many bodies were copied, there is room for one more
pub room_left : {H : Type 0} {m : HostModel H} {start reader : SnapReader} {census : Census}
    {old_cache cache : CacheValue} {old host middle : H}
    {name : PageName} → HasCopied m start old_cache old reader census cache host → Leads m Stays host middle
    → HasNoRoom m cache middle drifted_file census.count name → IsTrue m.tells → seen m old_cache old drifted_file ≡ [] → ⊥
room_left {cache = cache} copied leads none tells empty =
    none.listed tells copied.bodies
    (subst (λ file. HoldsBodies file copied.bodies) (sym (seen_still cache drifted_file leads)) (copied.holds tells empty))
    (sym (ap (λ (c : Census). c.count) copied.counted))

-- one body more
pub copied_more : {H : Type 0} {m : HostModel H} {start reader next : SnapReader} {census after : Census}
    {old_cache cache new_cache : CacheValue} {old host middle new : H} (body : Body) {kick : V3} → IsReadOnly old_cache
    → IsAtStart init_file start → (copied : HasCopied m start old_cache old reader census cache host)
    → read_count reader ≢ count_of reader → MayFollow reader body → IsBehind body reader next
    → ((bytes : List ℕ) (bodies : List Body) → IsTrue m.tells → HasRead reader bytes bodies → IsReadableNow m reader bytes host
    → HasRead next bytes (bodies ++ body ∷ []))
    → Leads m Stays host middle → Seen m drifted_file (HasPushed census.count body kick) cache middle new_cache new
    → WentWell m (drifted_file ∷ []) old_cache old new_cache new
    → after.count ≡ census.count + 1 → after.mass ≡ census.mass + body.mass → after.gone ≡ census.gone + cond body.out 1 0
    → HasCopied m start old_cache old next after new_cache new
copied_more {cache = cache} body only begun copied unended follows behind has leads pushed went count mass gone = record {
  bodies = copied.bodies ++ body ∷ [];
  given = HasGiven-more copied.given unended follows behind
      (λ tells read. has _ copied.bodies tells read (open_now only begun copied));
  counted = census-more copied.bodies body copied.counted count mass gone;
  holds = λ tells empty.
      let before = subst (λ file. HoldsBodies file copied.bodies) (sym (seen_still cache drifted_file leads))
      (copied.holds tells empty) in
      let one = pushed.told tells copied.bodies before (sym (ap (λ (c : Census). c.count) copied.counted)) in
      one.holds;
  went = went;
}

-- ---- the second reading

-- the header of a snapshot tells how many bodies there are, and the time
pub same_count : {file : List ℕ} {bodies : List Body} {time : ℕ} {reader : SnapReader} → HasRead reader file []
    → IsSnapshot file bodies time → count_of reader ≡ length bodies
same_count read is = omega (arith, read.whole, snapshot_whole is)

pub same_time : {file : List ℕ} {bodies : List Body} {time : ℕ} {reader : SnapReader} → time_of reader < 2 ^ 64
    → count_of reader ≤ most_bodies → HasRead reader file [] → IsSnapshot file bodies time → time_of reader ≡ time
same_time {file = file} {reader = reader} fits few read is =
    let mine : IsHeader (take 32 file) (count_of reader) (time_of reader) =
    record { spelled = read_header reader file [] read; few = few; fits = fits } in
    (one_header mine (snapshot_header is)).1

-- After the file of the copy was emptied, and the header was read again, the snapshot reads as it did.
pub init_again : {H : Type 0} {m : HostModel H} {old_cache new_cache : CacheValue} {old middle new : H} → IsReadOnly old_cache
    → Writes m (drifted_file ∷ []) old_cache old new_cache middle → Leads m Stays middle new → IsTrue m.tells
    → (m.contents new).file init_file ≡ (m.contents old).file init_file
init_again only writes leads tells =
    ap (λ (i : Image). i.file init_file) (stays_contents leads) ∙ init_stays only writes tells

-- What is read of a file that reads as it did is what the run is planned with.
pub read_same : {plan : StartPlan} {bodies copied : List Body} {first second : List ℕ} {time : ℕ} → second ≡ first
    → IsPlanned plan bodies first → IsSnapshot second copied time → copied ≡ bodies
read_same {copied = copied} {time = time} same planned read =
    (one_snapshot (subst (λ file. IsSnapshot file copied time) same read) planned.snapshot).0

-- so the census is the plan's
pub census_same : {plan : StartPlan} {bodies copied : List Body} {census : Census} {first second : List ℕ} {time : ℕ} → second ≡ first
    → IsPlanned plan bodies first → IsSnapshot second copied time → census ≡ census_of copied → census ≡ plan.census
census_same same planned read is = is ∙ ap census_of (read_same same planned read) ∙ sym planned.census

-- what a test tells of two
pub censuses_same : (a b : Census) → false ≡ not ((a.count == b.count) && ((a.mass == b.mass) && (a.gone == b.gone))) → a ≡ b
censuses_same a b test =
    let count : a.count ≡ b.count = grind (arith, nat_tests) in
    let mass : a.mass ≡ b.mass = grind (arith, nat_tests) in
    let gone : a.gone ≡ b.gone = grind (arith, nat_tests) in
    ap (λ (n : ℕ). record a { count = n }) count ∙ ap (λ (n : ℕ). record a { count = b.count; mass = n }) mass
    ∙ ap (λ (n : ℕ). record b { gone = n }) gone

pub censuses_differ : (a b : Census) → a ≡ b → true ≡ not ((a.count == b.count) && ((a.mass == b.mass) && (a.gone == b.gone))) → ⊥
censuses_differ a b same differ =
    let count : a.count ≡ b.count = ap (λ (c : Census). c.count) same in
    let mass : a.mass ≡ b.mass = ap (λ (c : Census). c.mass) same in
    let gone : a.gone ≡ b.gone = ap (λ (c : Census). c.gone) same in
    grind (arith, nat_tests)
