-- Snapshots that are read back: what was read so far, and why it isn't what was written.
use Rattle.std.proofs.Common.{ℤ, Bool, true, false, not, ◌&&◌, ◌==◌, ◌≡◌, ◌≢◌, ◌⊎◌, inl, inr, ℕ, zero, suc, ◌+◌, ◌*◌, ◌^◌, ◌<◌, ◌≤◌, IsTrue, Option, Some, Result, Err, List, [], ◌∷◌, ◌++◌, length, take, refl, sym, ap, subst, ◌∙◌, arith}
use Rattle.std.proofs.Math.Bool.{beq}
use Rattle.std.specs.List.{flat_map}
use Rattle.std.specs.Ordering.{int_eq}
use Rattle.std.specs.Cmp.{booleans_Decides}
use Rattle.std.proofs.lemmas.Bool.{cases_lt}
use Rattle.std.proofs.lemmas.Bool.Decides.{Decides-eqb, Decides-int_eq}
use Rattle.std.proofs.lemmas.List.{take_all, take-append-le, append_cancel_left, length_push}
use Rattle.std.proofs.lemmas.List.Sums.{sum_by_push}
use Rattle.std.proofs.lemmas.List.Elements.{recursion_from_All}
use Rattle.nb_model.specs.declared.body.At.{At}
use Rattle.nb_model.specs.declared.body.Body.{Body}
use Rattle.nb_model.specs.declared.body.V3.{V3}
use Rattle.nb_model.specs.Bytes.{body_bytes}
use Rattle.nb_model.specs.Limits.{most_bodies}
use Rattle.nb_host.specs.Crashes.{Stays}
use Rattle.nb_host.specs.Meaning.{HostModel, Leads, Ran}
use Rattle.nb_host.proofs.Callers.{stays_contents, stays_both, stopped_after}
use Rattle.nb_format.specs.declared.snap_error.SnapError.{SnapError}
use Rattle.nb_format.specs.declared.snap_error.SnapError.TheVariants as snap
use Rattle.nb_format.specs.declared.snap_reader.SnapReader.{SnapReader}
use Rattle.nb_format.specs.Reader.{file_of, count_of, time_of, read_count, IsAtStart, MayFollow, IsBehind, HasRead, IsReadableNow}
use Rattle.nb_format.specs.Snapshot.{header_bytes, snapshot_length, IsHeader, IsStoredBody, IsSnapshot}
use Rattle.nb_format.specs.SnapshotRefusal.{snapshot_refusal, IsBySnapshot}
use Rattle.nb_format.proofs.Reading.{read_header, read_records}
use Rattle.nb_format.proofs.Snapshots.{records_front, snapshot_whole, snapshot_header, snapshot_records, one_header}
use Rattle.nb_format.proofs.SnapshotRefusals.{no_snapshot}
use Rattle.nb_engine.specs.declared.refusal.Refusal.{Refusal}
use Rattle.nb_engine.specs.declared.refusal.Refusal.TheVariants as refusal
use Rattle.nb_engine.specs.Refusal.{NeedsNoCause}
use Rattle.nb_engine.proofs.Callers.{HasGiven, HasGiven-none, HasGiven-more, IsFrontOf-same, file-same}
use Rattle.nb_cli.specs.Make.{body_at, made_bodies}
use Rattle.nb_cli.specs.Demo.{of_reading_back, coordinate_sum, IsUnlike}
use Rattle.nb_cli.proofs.MadeStarts.{length-made}

-- ---- refusals

-- a file isn't as it was written, at this place
pub unlike : {H : Type 0} {m : HostModel H} (Written : Type 0) (file place : ℕ) → (IsTrue m.tells → Written → ⊥)
    → IsUnlike m file Written (refusal.Damaged (record { file = file; page = place }))
unlike Written file place never = record {
  page = record { file = file; page = place };
  named = refl;
  file_is = refl;
  cause = never;
}

pub unlike_more : {H : Type 0} {m : HostModel H} {file : ℕ} (Few More : Type 0) {why : Refusal} → IsUnlike m file Few why
    → (IsTrue m.tells → More → Few) → IsUnlike m file More why
unlike_more Few More unlike more = record {
  page = unlike.page;
  named = unlike.named;
  file_is = unlike.file_is;
  cause = λ tells written. unlike.cause tells (more tells written);
}

pub cause_more : {H : Type 0} {m : HostModel H} {file : ℕ} (Few More : Type 0) {why : Refusal}
    → NeedsNoCause why ⊎ IsUnlike m file Few why → (IsTrue m.tells → More → Few)
    → NeedsNoCause why ⊎ IsUnlike m file More why
cause_more Few More cause more = elim cause [ inl needless ↦ inl needless | inr unlike ↦ inr (unlike_more Few More unlike more) ]

-- why a refusal of a snapshot that is read back is one
pub read_back_cause : {H : Type 0} {m : HostModel H} (Written : Type 0) (error : SnapError) (file place : ℕ)
    → (IsBySnapshot error → IsTrue m.tells → Written → ⊥)
    → NeedsNoCause (of_reading_back error file place) ⊎ IsUnlike m file Written (of_reading_back error file place)
read_back_cause Written snap.Fault file place never = inl (inl refl)
read_back_cause Written snap.NoMemory file place never = inl (inr refl)
read_back_cause Written snap.Short file place never = inr (unlike Written file place (never tt))
read_back_cause Written snap.Unfinished file place never = inr (unlike Written file place (never tt))
read_back_cause Written snap.Magic file place never = inr (unlike Written file place (never tt))
read_back_cause Written snap.Count file place never = inr (unlike Written file place (never tt))
read_back_cause Written snap.Zeros file place never = inr (unlike Written file place (never tt))
read_back_cause Written snap.Length file place never = inr (unlike Written file place (never tt))
read_back_cause Written (snap.IdOrder i) file place never = inr (unlike Written file place (never tt))
read_back_cause Written (snap.Mass i) file place never = inr (unlike Written file place (never tt))
read_back_cause Written (snap.Flag i) file place never = inr (unlike Written file place (never tt))
read_back_cause Written (snap.Place i) file place never = inr (unlike Written file place (never tt))
read_back_cause Written (snap.Speed i) file place never = inr (unlike Written file place (never tt))

-- a fault is none of the snapshot's
pub read_back_fault : (error : SnapError) (file place : ℕ) → of_reading_back error file place ≡ refusal.Device → error ≡ snap.Fault
read_back_fault snap.Fault file place is = refl
read_back_fault snap.NoMemory file place is = absurd (cc)
read_back_fault snap.Short file place is = absurd (cc)
read_back_fault snap.Unfinished file place is = absurd (cc)
read_back_fault snap.Magic file place is = absurd (cc)
read_back_fault snap.Count file place is = absurd (cc)
read_back_fault snap.Zeros file place is = absurd (cc)
read_back_fault snap.Length file place is = absurd (cc)
read_back_fault (snap.IdOrder i) file place is = absurd (cc)
read_back_fault (snap.Mass i) file place is = absurd (cc)
read_back_fault (snap.Flag i) file place is = absurd (cc)
read_back_fault (snap.Place i) file place is = absurd (cc)
read_back_fault (snap.Speed i) file place is = absurd (cc)

-- what is refused is no snapshot
pub refused_never : {file : List ℕ} {error : SnapError} → snapshot_refusal file ≡ Some error
    → (bodies : List Body) (time : ℕ) → IsSnapshot file bodies time → ⊥
refused_never {file} {error} refused = no_snapshot file error refused

-- ---- what was read

-- the header of a snapshot tells how many bodies there are, and the time
pub same_count : {file : List ℕ} {bodies read : List Body} {time : ℕ} {reader : SnapReader} → HasRead reader file read
    → IsSnapshot file bodies time → count_of reader ≡ length bodies
same_count has is = omega (arith, has.whole, snapshot_whole is)

pub same_time : {file : List ℕ} {bodies read : List Body} {time : ℕ} {reader : SnapReader} → time_of reader < 2 ^ 64
    → count_of reader ≤ most_bodies → HasRead reader file read → IsSnapshot file bodies time → time_of reader ≡ time
same_time {file = file} {read = read} {reader = reader} fits few has is =
    let mine : IsHeader (take 32 file) (count_of reader) (time_of reader) =
    record { spelled = read_header reader file read has; few = few; fits = fits } in
    (one_header mine (snapshot_header is)).1

-- what was read of a snapshot is a front of its bodies
pub read_front : {file : List ℕ} {bodies read : List Body} {time : ℕ} {reader : SnapReader} → HasRead reader file read
    → length read ≤ length bodies → IsSnapshot file bodies time → take (length read) bodies ≡ read
read_front {file = file} {bodies = bodies} {read = read} {reader = reader} has fewer is =
    records_front read bodies (recursion_from_All IsStoredBody read has.stored.each)
    (recursion_from_All IsStoredBody bodies is.stored.each) fewer
    (ap (take (64 * length read)) (sym (snapshot_records is)) ∙ read_records reader file read has)

-- and behind the last one all of them
pub read_whole : {file : List ℕ} {bodies read : List Body} {time : ℕ} {reader : SnapReader} → HasRead reader file read
    → length read ≡ count_of reader → IsSnapshot file bodies time → bodies ≡ read
read_whole {bodies = bodies} {read = read} has all is =
    let count = same_count has is in
    sym (take_all (length read) bodies (omega (arith, count, all))) ∙ read_front has (omega (arith, count, all)) is

-- Where as many were read as the header tells, the file is their snapshot.
pub read_all : {file : List ℕ} {bodies : List Body} {reader : SnapReader} → HasRead reader file bodies
    → length bodies ≡ count_of reader → time_of reader < 2 ^ 64 → IsSnapshot file bodies (time_of reader)
read_all {file = file} {bodies = bodies} {reader = reader} has all fits = record {
  spelled =
      sym (take_all (snapshot_length (length bodies)) file (omega (arith, has.whole, all))) ∙ has.begins
      ∙ ap (λ (n : ℕ). header_bytes n (time_of reader) ++ flat_map body_bytes bodies) (sym all);
  stored = has.stored;
  fits = fits;
}

-- ---- what was read back so far

-- The reader has given these bodies since the start of the file, and the calls changed nothing.
pub record HasReadBack {H : Type 0} (m : HostModel H) (file : ℕ) (start : SnapReader) (old : H) (reader : SnapReader) (host : H) (bodies : List Body) : Type 0 where
  pub given : HasGiven m.tells ((m.contents old).file file) start reader bodies
  pub begun : file_of start ≡ file
  pub header : IsTrue m.tells → HasRead start ((m.contents old).file file) []
  pub stays : Leads m Stays old host
  pub faults : m.faults host ≡ m.faults old
  pub tally : m.tally host ≡ m.tally old

module _ {H : Type 0} {m : HostModel H} {file : ℕ} {start : SnapReader} {old : H} where
  -- none
  pub read_back_none : {host : H} {result : Result SnapReader Refusal} → IsAtStart file start
      → (IsTrue m.tells → HasRead start ((m.contents old).file file) []) → Ran m refusal.Device Stays old host result
      → result ≢ Err refusal.Device → HasReadBack m file start old start host []
  read_back_none begun header ran never = record {
    given = HasGiven-none file m.tells ((m.contents old).file file) start begun;
    begun = begun.file;
    header = header;
    stays = ran.leads;
    faults = ran.spared never;
    tally = ran.tally;
  }

  -- what they are, over a host that tells
  pub read_back_told : {reader : SnapReader} {host : H} {bodies : List Body} → HasReadBack m file start old reader host bodies
      → IsTrue m.tells → HasRead reader ((m.contents old).file file) bodies
  read_back_told kept told = kept.given.has told (kept.header told)

  -- the file reads as it did
  pub reads_still : {reader : SnapReader} {host : H} {bodies : List Body} → HasReadBack m file start old reader host bodies
      → (m.contents host).file (file_of reader) ≡ (m.contents old).file file
  reads_still kept = file-same (stays_contents kept.stays) (kept.given.file ∙ kept.begun)

  pub open_still : {reader : SnapReader} {host : H} {bodies : List Body} → HasReadBack m file start old reader host bodies
      → IsReadableNow m reader ((m.contents old).file file) host
  open_still kept = record {
    reads = λ told. IsFrontOf-same _ (sym (reads_still kept));
    images = λ image honest is. tt;
  }

  -- one body more
  pub read_back_more : {reader next : SnapReader} {host new : H} {bodies : List Body} (body : Body) {result : Result (Option Body) SnapError}
      → HasReadBack m file start old reader host bodies → read_count reader ≢ count_of reader → MayFollow reader body
      → IsBehind body reader next
      → (IsTrue m.tells → HasRead next ((m.contents old).file file) (bodies ++ body ∷ []))
      → Ran m snap.Fault Stays host new result → result ≢ Err snap.Fault
      → HasReadBack m file start old next new (bodies ++ body ∷ [])
  read_back_more body kept unended follows behind has ran never = record {
    given = HasGiven-more kept.given unended follows behind (λ told read. has told);
    begun = kept.begun;
    header = kept.header;
    stays = stays_both kept.stays ran.leads;
    faults = ran.spared never ∙ kept.faults;
    tally = ran.tally ∙ kept.tally;
  }

  -- the calls with one more, which gave no body
  pub read_back_ran : {T : Type 0} {reader : SnapReader} {host new : H} {bodies : List Body} {one : Result (Option Body) SnapError}
      {result : Result T Refusal} → HasReadBack m file start old reader host bodies → Ran m snap.Fault Stays host new one
      → (result ≡ Err refusal.Device → one ≡ Err snap.Fault) → (one ≡ Err snap.Fault → result ≡ Err refusal.Device)
      → Ran m refusal.Device Stays old new result
  read_back_ran {new = new} kept ran there back = record {
    leads = stays_both kept.stays ran.leads;
    count = subst (λ n. n ≤ m.faults new) kept.faults ran.count;
    rose = λ faulted. stopped_after kept.faults (ran.rose (there faulted));
    spared = λ never. ran.spared (λ faulted. never (back faulted)) ∙ kept.faults;
    tally = ran.tally ∙ kept.tally;
  }

  -- the calls alone
  pub read_back_still : {T : Type 0} {reader : SnapReader} {host : H} {bodies : List Body} {result : Result T Refusal}
      → HasReadBack m file start old reader host bodies → result ≢ Err refusal.Device → Ran m refusal.Device Stays old host result
  read_back_still kept never = record {
    leads = kept.stays;
    count = omega (arith, kept.faults);
    rose = λ faulted. absurd (never faulted);
    spared = λ _. kept.faults;
    tally = kept.tally;
  }

-- ---- the sum of coordinates

pub coordinate_sum-push : (bodies : List Body) (body : Body)
    → coordinate_sum (bodies ++ body ∷ []) ≡ coordinate_sum bodies + (body.at.x + body.at.y + body.at.z)
coordinate_sum-push bodies body = sum_by_push (λ b. b.at.x + b.at.y + b.at.z) bodies body

-- ---- the bodies that are made

-- a front of them is the first ones
made_front : (seed i n : ℕ) → i ≤ n → take i (made_bodies seed n) ≡ made_bodies seed i
made_front seed i zero fewer =
    let none : i ≡ 0 = omega arith in
    ap (λ (k : ℕ). take k (made_bodies seed 0)) none ∙ ap (made_bodies seed) (sym none)
made_front seed i (suc n) fewer = elim (cases_lt i (suc n)) [
  | inl below ↦
      let within : i ≤ length (made_bodies seed n) = omega (arith, length-made seed n) in
      take-append-le i (made_bodies seed n) (body_at seed n ∷ []) within ∙ made_front seed i n (omega arith)
  | inr above ↦
      let same : i ≡ suc n = omega arith in
      take_all i (made_bodies seed (suc n)) (omega (arith, length-made seed (suc n))) ∙ ap (made_bodies seed) (sym same)
]

-- so the next body that is read of them is the next one
pub made_next : {file : List ℕ} {reader : SnapReader} {body : Body} (seed count index : ℕ)
    → HasRead reader file (made_bodies seed index ++ body ∷ []) → index < count → IsSnapshot file (made_bodies seed count) 0
    → body ≡ body_at seed index
made_next {body = body} seed count index has below is =
    let read = made_bodies seed index ++ body ∷ [] in
    let long : length read ≡ suc index = omega (arith, length_push (made_bodies seed index) body, length-made seed index) in
    let front : made_bodies seed (suc index) ≡ read =
    sym (made_front seed (suc index) count (omega arith)) ∙ ap (λ (k : ℕ). take k (made_bodies seed count)) (sym long)
    ∙ read_front has (omega (arith, long, length-made seed count)) is in
    let last = append_cancel_left (made_bodies seed index) (body_at seed index ∷ []) (body ∷ []) front in
    only last where
      only : {a b : Body} → a ∷ [] ≡ b ∷ [] → b ≡ a
      only same = cc

-- ---- whether two bodies are one

-- the test of the code
abbrev pub body_test : Body → Body → Bool
body_test a b =
    (a.id == b.id) && ((a.mass == b.mass) && (beq a.out b.out
    && (((a.at.x == b.at.x) && ((a.at.y == b.at.y) && (a.at.z == b.at.z)))
    && (int_eq a.v.x b.v.x && (int_eq a.v.y b.v.y && int_eq a.v.z b.v.z)))))

passed : (test : Bool) → false ≡ not test → test ≡ true
passed true is = refl
passed false is = absurd (cc)

parts : (one two : Bool) → (one && two) ≡ true → (one ≡ true) × (two ≡ true)
parts true two is = (refl, is)
parts false two is = absurd (cc)

whole : (one two : Bool) → one ≡ true → two ≡ true → (one && two) ≡ true
whole true two first second = second
whole false two first second = absurd (cc)

same_at : (a b : At) → a.x ≡ b.x → a.y ≡ b.y → a.z ≡ b.z → a ≡ b
same_at a b x y z =
    ap (λ (n : ℕ). record a { x = n }) x ∙ ap (λ (n : ℕ). record a { x = b.x; y = n }) y ∙ ap (λ (n : ℕ). record b { z = n }) z

same_v : (a b : V3) → a.x ≡ b.x → a.y ≡ b.y → a.z ≡ b.z → a ≡ b
same_v a b x y z =
    ap (λ (n : ℤ). record a { x = n }) x ∙ ap (λ (n : ℤ). record a { x = b.x; y = n }) y ∙ ap (λ (n : ℤ). record b { z = n }) z

same_fields : (a b : Body) → a.id ≡ b.id → a.mass ≡ b.mass → a.out ≡ b.out → a.at ≡ b.at → a.v ≡ b.v → a ≡ b
same_fields a b id mass out at v =
    ap (λ (n : ℕ). record a { id = n }) id ∙ ap (λ (n : ℕ). record a { id = b.id; mass = n }) mass
    ∙ ap (λ (o : Bool). record a { id = b.id; mass = b.mass; out = o }) out
    ∙ ap (λ (p : At). record b { at = p; v = a.v }) at ∙ ap (λ (w : V3). record b { v = w }) v

pub bodies_same : (a b : Body) → false ≡ not (body_test a b) → a ≡ b
bodies_same a b test =
    let id = parts _ _ (passed _ test) in
    let mass = parts _ _ id.1 in
    let out = parts _ _ mass.1 in
    let places = parts _ _ out.1 in
    let x = parts _ _ places.0 in
    let y = parts _ _ x.1 in
    let v_x = parts _ _ places.1 in
    let v_y = parts _ _ v_x.1 in
    same_fields a b ((Decides-eqb a.id b.id).0 id.0) ((Decides-eqb a.mass b.mass).0 mass.0) ((booleans_Decides a.out b.out).0 out.0)
    (same_at a.at b.at ((Decides-eqb a.at.x b.at.x).0 x.0) ((Decides-eqb a.at.y b.at.y).0 y.0) ((Decides-eqb a.at.z b.at.z).0 y.1))
    (same_v a.v b.v ((Decides-int_eq a.v.x b.v.x).0 v_x.0) ((Decides-int_eq a.v.y b.v.y).0 v_y.0) ((Decides-int_eq a.v.z b.v.z).0 v_y.1))

itself : (a : Body) → body_test a a ≡ true
itself a =
    whole _ _ ((Decides-eqb a.id a.id).1 refl) (whole _ _ ((Decides-eqb a.mass a.mass).1 refl)
    (whole _ _ ((booleans_Decides a.out a.out).1 refl) (whole _ _
    (whole _ _ ((Decides-eqb a.at.x a.at.x).1 refl) (whole _ _ ((Decides-eqb a.at.y a.at.y).1 refl) ((Decides-eqb a.at.z a.at.z).1 refl)))
    (whole _ _ ((Decides-int_eq a.v.x a.v.x).1 refl)
    (whole _ _ ((Decides-int_eq a.v.y a.v.y).1 refl) ((Decides-int_eq a.v.z a.v.z).1 refl))))))

pub bodies_differ : (a b : Body) → a ≡ b → true ≡ not (body_test a b) → ⊥
bodies_differ a b same test =
    let other : true ≡ not (body_test a a) = subst (λ (c : Body). true ≡ not (body_test a c)) (sym same) test in
    let not_so : true ≡ not true = other ∙ ap not (itself a) in
    absurd (apart not_so) where
      apart : true ≡ false → ⊥
      apart is = cc
