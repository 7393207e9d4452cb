-- The first refusal of a file: none of a snapshot, and that of the record at which a reader stops.
use Rattle.std.proofs.Common.{◌≡◌, ℕ, false, pos, get_or, zero, suc, ◌+◌, ◌*◌, ◌^◌, ◌<◌, ◌≤◌, Option, Some, None, List, [], ◌∷◌, ◌++◌, length, take, drop, refl, sym, ap, subst, ◌∙◌, arith}
use Rattle.std.specs.Prelude.{IfSome}
use Rattle.std.specs.Option.{option_or}
use Rattle.std.specs.List.{flat_map}
use Rattle.std.specs.List.Sorted.{IsStrictlyIncreasing}
use Rattle.std.proofs.lemmas.Bool.{cases_eq}
use Rattle.std.proofs.lemmas.List.{take_at, drop_at, take_all, take_more, drop-drop, length-take, length-drop, append-nil}
use Rattle.std.proofs.lemmas.List.Elements.{All-nil, All-take, All-drop}
use Rattle.std.proofs.lemmas.List.Concat.{flat_map-append}
use Rattle.std.proofs.Math.Seq.{split_at}
use Rattle.std.proofs.Math.Logic.{⊎_elim}
use Rattle.nb_model.specs.declared.body.Body.{Body}
use Rattle.nb_model.specs.Limits.{most_bodies}
use Rattle.nb_format.specs.declared.snap_error.SnapError.{SnapError}
use Rattle.nb_format.specs.declared.snap_reader.SnapReader.{SnapReader}
use Rattle.nb_model.specs.Bytes.{body_bytes}
use Rattle.nb_format.specs.Snapshot.{header_bytes, snapshot_length, IsStoredBody, AreStoredBodies, IsSnapshot, IsNoSnapshot}
use Rattle.nb_format.specs.Reader.{count_of, time_of, read_count, last_id, last_of, HasRead}
use Rattle.nb_format.specs.SnapshotRefusal.{u64_at, header_refusal, record_refusal, record_at, id_before, records_refusal, snapshot_refusal, AreBytes, IsBySnapshot}
use Rattle.nb_format.proofs.HeaderRefusals.{option_or_none, option_or_some, option_or_second, header_none, file_count, header_accepted, header_by, none_by, option_or_by, HasForm, IsOfBytes}
use Rattle.nb_format.proofs.Offsets.{part-take}
use Rattle.nb_format.proofs.RecordBytes.{length-body_bytes}
use Rattle.nb_format.proofs.RecordRefusals.{record_none, record_id, record_accepted, record_by}
use Rattle.nb_format.proofs.Snapshots.{length-records, snapshot_header, snapshot_records, snapshot_whole}
use Rattle.nb_format.proofs.Reading.{ids, last_of-push, rises_behind, read_header, read_records, read_more}

-- ---- the records of a list

-- the records of these bodies stand in the file
pub record HasRecords (bytes : List ℕ) (bodies : List Body) : Type 0 where
  pub stored : AreStoredBodies bodies
  pub spelled : take (64 * length bodies) (drop 32 bytes) ≡ flat_map body_bytes bodies

-- the body that fills a list where there is none
abbrev no_body : Body
no_body = record { id = 0; mass = 0; out = false; at = record { x = 0; y = 0; z = 0 }; v = record { x = pos 0; y = pos 0; z = pos 0 } }

abbrev body_at : List Body → ℕ → Body
body_at bodies n = get_or bodies n no_body

-- the list, cut around one of its bodies
parted : (bodies : List Body) (n : ℕ) → n < length bodies → bodies ≡ take n bodies ++ body_at bodies n ∷ drop (suc n) bodies
parted bodies n inside = split_at bodies n no_body inside

-- a record of the list stands at its offset
record_at-is : (bytes : List ℕ) (bodies : List Body) (n : ℕ) → HasRecords bytes bodies → n < length bodies
    → record_at n bytes ≡ body_bytes (body_at bodies n)
record_at-is bytes bodies n has inside =
    let front = take n bodies in
    let b = body_at bodies n in
    let rest = flat_map body_bytes (drop (suc n) bodies) in
    let long : length (flat_map body_bytes front) ≡ 64 * n = omega (arith, length-records front, length-take n bodies) in
    let records : take (64 * length bodies) (drop 32 bytes) ≡ flat_map body_bytes front ++ (body_bytes b ++ rest) =
    has.spelled ∙ ap (flat_map body_bytes) (parted bodies n inside) ∙ flat_map-append body_bytes front (b ∷ drop (suc n) bodies) in
    ap (take 64) (sym (drop-drop (64 * n) 32 bytes)) ∙ sym (part-take (drop 32 bytes) (64 * n) 64 (64 * length bodies) (omega arith))
    ∙ ap (λ (w : List ℕ). take 64 (drop (64 * n) w)) records
    ∙ ap (take 64) (drop_at (flat_map body_bytes front) (body_bytes b ++ rest) (64 * n) long)
    ∙ take_at (body_bytes b) rest 64 (length-body_bytes b)

body_stored : (bodies : List Body) (n : ℕ) → AreStoredBodies bodies → n < length bodies → IsStoredBody (body_at bodies n)
body_stored bodies n stored inside = stored.each n no_body inside

-- the id before a record of the list, or behind its last, is that of the body before
pub id_before-is : (bytes : List ℕ) (bodies : List Body) (n : ℕ) → HasRecords bytes bodies → n ≤ length bodies
    → id_before n bytes ≡ last_of (take n bodies)
id_before-is bytes bodies zero has within = refl
id_before-is bytes bodies (suc n) has within =
    let b = body_at bodies n in
    let id : u64_at 0 (record_at n bytes) ≡ b.id =
    ap (u64_at 0) (record_at-is bytes bodies n has (omega arith)) ∙ record_id b (body_stored bodies n has.stored (omega arith)) in
    let more : suc n ≡ n + 1 = omega arith in
    ap (λ (m : ℕ). Some m) id ∙ sym (last_of-push (take n bodies) b)
    ∙ ap last_of (sym (take_more bodies n no_body (omega arith)) ∙ ap (λ (m : ℕ). take m bodies) (sym more))

-- nothing of a record of the list is refused
record_none-at : (bytes : List ℕ) (bodies : List Body) (n : ℕ) → HasRecords bytes bodies → n < length bodies
    → record_refusal n (id_before n bytes) (record_at n bytes) ≡ None
record_none-at bytes bodies n has inside =
    let b = body_at bodies n in
    let rises = rises_behind (take n bodies) b (drop (suc n) bodies)
    (subst (λ (xs : List Body). IsStrictlyIncreasing (ids xs)) (parted bodies n inside) has.stored.ids) in
    ap (λ (last : Option ℕ). record_refusal n last (record_at n bytes)) (id_before-is bytes bodies n has (omega arith))
    ∙ ap (record_refusal n (last_of (take n bodies))) (record_at-is bytes bodies n has inside)
    ∙ record_none n (last_of (take n bodies)) b (body_stored bodies n has.stored inside) rises

pub records_none : (bytes : List ℕ) (bodies : List Body) (n : ℕ) → HasRecords bytes bodies → n ≤ length bodies → records_refusal n bytes ≡ None
unfolding records_refusal
records_none bytes bodies zero has within = refl
records_none bytes bodies (suc n) has within =
    option_or_second _ _ (records_none bytes bodies n has (omega arith)) ∙ record_none-at bytes bodies n has (omega arith)

-- a refusal of the first records is one of more of them
records_more : (bytes : List ℕ) (e : SnapError) (n m : ℕ) → n ≤ m → records_refusal n bytes ≡ Some e → records_refusal m bytes ≡ Some e
unfolding records_refusal
records_more bytes e n zero fewer is = let none : n ≡ 0 = omega arith in subst (λ (k : ℕ). records_refusal k bytes ≡ Some e) none is
records_more bytes e n (suc m) fewer is =
    ⊎_elim (λ same. subst (λ (k : ℕ). records_refusal k bytes ≡ Some e) same is)
    (λ other. option_or_some _ _ e (records_more bytes e n m (omega arith) is)) (cases_eq n (suc m))

-- the first bad record behind those of a list is the first of the file
records_stop : (bytes : List ℕ) (bodies : List Body) (e : SnapError) (count : ℕ) → HasRecords bytes bodies → length bodies < count
    → record_refusal (length bodies) (last_of bodies) (record_at (length bodies) bytes) ≡ Some e → records_refusal count bytes ≡ Some e
unfolding records_refusal
records_stop bytes bodies e count has more is =
    let n = length bodies in
    let last : id_before n bytes ≡ last_of bodies = id_before-is bytes bodies n has (omega arith) ∙ ap last_of (take_all n bodies (omega arith)) in
    records_more bytes e (suc n) count (omega arith)
    (option_or_second _ _ (records_none bytes bodies n has (omega arith))
    ∙ ap (λ (o : Option ℕ). record_refusal n o (record_at n bytes)) last ∙ is)

-- ---- a reader

pub header_refused : (bytes : List ℕ) (e : SnapError) → header_refusal bytes ≡ Some e → snapshot_refusal bytes ≡ Some e
unfolding snapshot_refusal
header_refused bytes e is = option_or_some _ _ e is

-- the record at which a reader stops is the first bad one
pub record_refused : (reader : SnapReader) (bytes : List ℕ) (bodies : List Body) (e : SnapError) → HasRead reader bytes bodies
    → count_of reader ≤ most_bodies → read_count reader < count_of reader
    → record_refusal (read_count reader) (last_id reader) (record_at (read_count reader) bytes) ≡ Some e → snapshot_refusal bytes ≡ Some e
unfolding snapshot_refusal
record_refused reader bytes bodies e has few more is =
    let header = read_header reader bytes bodies has in
    let records : HasRecords bytes bodies = record { stored = has.stored; spelled = read_records reader bytes bodies has } in
    let at_read : record_refusal (length bodies) (last_of bodies) (record_at (length bodies) bytes) ≡ Some e =
    ap (λ (o : Option ℕ). record_refusal (length bodies) o (record_at (length bodies) bytes)) (sym has.last)
    ∙ ap (λ (n : ℕ). record_refusal n (last_id reader) (record_at n bytes)) (sym has.read) ∙ is in
    option_or_second _ _ (header_none bytes (count_of reader) (time_of reader) header few has.whole)
    ∙ ap (λ (n : ℕ). records_refusal n bytes) (file_count bytes (count_of reader) (time_of reader) header few)
    ∙ records_stop bytes bodies e (count_of reader) records (omega (arith, has.read)) at_read

-- ---- the law

-- nothing of a snapshot is refused
pub snapshot_none : (bytes : List ℕ) (bodies : List Body) (time : ℕ) → IsSnapshot bytes bodies time → snapshot_refusal bytes ≡ None
unfolding snapshot_refusal
snapshot_none bytes bodies time is =
    let header = snapshot_header is in
    let all = flat_map body_bytes bodies in
    let records : HasRecords bytes bodies = record {
      stored = is.stored;
      spelled = ap (take (64 * length bodies)) (snapshot_records is) ∙ take_all (64 * length bodies) all (omega (arith, length-records bodies));
    } in
    option_or_second _ _ (header_none bytes (length bodies) time header.spelled header.few (snapshot_whole is))
    ∙ ap (λ (n : ℕ). records_refusal n bytes) (file_count bytes (length bodies) time header.spelled header.few)
    ∙ records_none bytes bodies (length bodies) records (omega arith)

-- a reader behind so many records of bytes whose header was accepted
reader_behind : (bytes : List ℕ) (n : ℕ) → HasForm bytes → n ≤ u64_at 8 bytes → SnapReader
reader_behind bytes n form within = record {
  file = 0;
  count = u64_at 8 bytes;
  time = u64_at 16 bytes;
  read = n;
  last = id_before n bytes;
  number = omega arith;
  few = form.header.few;
  within = within;
}

record_long : (bytes : List ℕ) (n : ℕ) → snapshot_length n + 64 ≤ length bytes → length (record_at n bytes) ≡ 64
record_long bytes n inside = omega (arith, length-take 64 (drop (snapshot_length n) bytes), length-drop (snapshot_length n) bytes)

-- so many records of which none is refused are those of a list
list_read : (bytes : List ℕ) (n : ℕ) (form : HasForm bytes) (within : n ≤ u64_at 8 bytes) → AreBytes bytes → records_refusal n bytes ≡ None
    → (bodies : List Body) × HasRead (reader_behind bytes n form within) bytes bodies
unfolding records_refusal reader_behind
list_read bytes zero form within all none = (
  [],
  record {
    whole = form.whole;
    read = refl;
    last = refl;
    stored = record { each = All-nil IsStoredBody; ids = λ k inside. absurd (omega arith); count = omega arith };
    begins = form.header.spelled ∙ sym (append-nil (header_bytes (u64_at 8 bytes) (u64_at 16 bytes)));
  },
)
list_read bytes (suc n) form within all none =
    let fewer : n ≤ u64_at 8 bytes = omega arith in
    let parts = option_or_none _ _ none in
    let before = list_read bytes n form fewer all parts.0 in
    let body_bytes_all = All-take (λ (b : ℕ). b < 2 ^ 8) 64 _ (All-drop (λ (b : ℕ). b < 2 ^ 8) (snapshot_length n) bytes all) in
    let found = record_accepted n (id_before n bytes) (record_at n bytes) body_bytes_all (record_long bytes n (omega (arith, form.whole))) parts.1 in
    let b = found.0 in
    let id : u64_at 0 (record_at n bytes) ≡ b.id = ap (u64_at 0) found.1.spelled ∙ record_id b found.1.stored in
    let old = reader_behind bytes n form fewer in
    let new = reader_behind bytes (suc n) form within in (
      before.0 ++ b ∷ [],
      read_more old new bytes before.0 b before.1 (record { stored = found.1.stored; rises = found.1.rises })
          (record { file = refl; count = refl; time = refl; read = omega arith; last = ap (λ (m : ℕ). Some m) id }) form.header.few (omega arith) found.1.spelled,
    )

-- bytes of which nothing is refused are a snapshot
pub snapshot_accepted : (bytes : List ℕ) → AreBytes bytes → snapshot_refusal bytes ≡ None → (bodies : List Body) × (time : ℕ) × IsSnapshot bytes bodies time
unfolding snapshot_refusal reader_behind
snapshot_accepted bytes all none =
    let parts = option_or_none _ _ none in
    let form = header_accepted bytes all parts.0 in
    let list = list_read bytes (u64_at 8 bytes) form (omega arith) all parts.1 in
    let bodies = list.0 in
    let has = list.1 in
    let count : u64_at 8 bytes ≡ length bodies = has.read in (
      bodies,
      u64_at 16 bytes,
      record {
        spelled = sym (take_all (snapshot_length (length bodies)) bytes (omega (arith, has.whole, count))) ∙ has.begins
            ∙ ap (λ (n : ℕ). header_bytes n (u64_at 16 bytes) ++ flat_map body_bytes bodies) count;
        stored = has.stored;
        fits = form.header.fits;
      },
    )

-- bytes of which something is refused are no snapshot
pub no_snapshot : (bytes : List ℕ) (e : SnapError) → snapshot_refusal bytes ≡ Some e → IsNoSnapshot bytes
no_snapshot bytes e refused = λ bodies time is. absurd (cc (sym refused ∙ snapshot_none bytes bodies time is))

records_by : (n : ℕ) (bytes : List ℕ) → IsOfBytes (records_refusal n bytes)
unfolding records_refusal
records_by zero bytes = none_by
records_by (suc n) bytes = option_or_by _ _ (records_by n bytes) (record_by n (id_before n bytes) (record_at n bytes))

-- no refusal of the bytes is one of the host's
pub snapshot_by : (bytes : List ℕ) (e : SnapError) → snapshot_refusal bytes ≡ Some e → IsBySnapshot e
unfolding snapshot_refusal
snapshot_by bytes e is =
    let all : IsOfBytes (option_or (header_refusal bytes) (records_refusal (u64_at 8 bytes) bytes)) =
    option_or_by _ _ (header_by bytes) (records_by (u64_at 8 bytes) bytes) in
    subst (λ (o : Option SnapError). IfSome o IsBySnapshot) is all.by
