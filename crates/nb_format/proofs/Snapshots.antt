-- The bytes of a snapshot: how long they are, and that they spell one list and one time only.
use Rattle.std.proofs.Common.{◌≡◌, ℕ, ◌+◌, ◌*◌, ◌≤◌, List, [], ◌∷◌, ◌++◌, length, take, drop, slice_index, refl, sym, ap, ◌∙◌, arith, length-append}
use Rattle.std.specs.List.{flat_map, AllByRecursion}
use Rattle.std.proofs.lemmas.List.{take_at, drop_at, take_all, get_or_append_left}
use Rattle.std.proofs.lemmas.List.Elements.{recursion_from_All}
use Rattle.std.proofs.Math.Seq.{take-append-add}
use Rattle.nb_model.specs.declared.body.Body.{Body}
use Rattle.nb_model.specs.Bytes.{body_bytes}
use Rattle.nb_format.specs.Snapshot.{header_bytes, snapshot_length, IsHeader, IsStoredBody, IsSnapshot, IsFinishedSnapshot}
use Rattle.nb_format.proofs.HeaderBytes.{length-header_bytes, has_header, header_has, header_numbers}
use Rattle.nb_format.proofs.RecordBytes.{length-body_bytes, same_body}

pub length-records : (bodies : List Body) → length (flat_map body_bytes bodies) ≡ 64 * length bodies
length-records [] = refl
length-records (b ∷ bs) = omega (arith, length-append (body_bytes b) (flat_map body_bytes bs), length-body_bytes b, length-records bs)

-- A list of bodies that are stored, whose records begin with those of another such list, begins with that list.
pub records_front : (xs ys : List Body) → AllByRecursion IsStoredBody xs → AllByRecursion IsStoredBody ys → length xs ≤ length ys
    → take (64 * length xs) (flat_map body_bytes ys) ≡ flat_map body_bytes xs → take (length xs) ys ≡ xs
records_front [] ys stored_xs stored_ys fewer same = refl
records_front (x ∷ xs) [] stored_xs stored_ys fewer same = absurd (omega arith)
records_front (x ∷ xs) (y ∷ ys) stored_xs stored_ys fewer same =
    let mine = body_bytes x in
    let theirs = body_bytes y in
    let rest = flat_map body_bytes xs in
    let far : 64 * length (x ∷ xs) ≡ length theirs + 64 * length xs = omega (arith, length-body_bytes y) in
    let joined : theirs ++ take (64 * length xs) (flat_map body_bytes ys) ≡ mine ++ rest =
    sym (take-append-add theirs (flat_map body_bytes ys) (64 * length xs)) ∙ ap (λ (n : ℕ). take n (theirs ++ flat_map body_bytes ys)) (sym far) ∙ same in
    let first : theirs ≡ mine =
    sym (take_at theirs _ 64 (length-body_bytes y)) ∙ ap (take 64) joined ∙ take_at mine rest 64 (length-body_bytes x) in
    let others : take (64 * length xs) (flat_map body_bytes ys) ≡ rest =
    sym (drop_at theirs _ 64 (length-body_bytes y)) ∙ ap (drop 64) joined ∙ drop_at mine rest 64 (length-body_bytes x) in
    let body : y ≡ x = same_body y x stored_ys.0 stored_xs.0 first in
    let bodies : take (length xs) ys ≡ xs = records_front xs ys stored_xs.1 stored_ys.1 (omega arith) others in
    λ i. body i ∷ bodies i

pub snapshot_whole : {bytes : List ℕ} {bodies : List Body} {time : ℕ} → IsSnapshot bytes bodies time → length bytes ≡ snapshot_length (length bodies)
snapshot_whole {bytes} {bodies} {time} is =
    ap length is.spelled
    ∙ omega (arith, length-append (header_bytes (length bodies) time) (flat_map body_bytes bodies), length-header_bytes (length bodies) time, length-records bodies)

-- a snapshot begins with its header
pub snapshot_header : {bytes : List ℕ} {bodies : List Body} {time : ℕ} → IsSnapshot bytes bodies time → IsHeader (take 32 bytes) (length bodies) time
snapshot_header {bytes} {bodies} {time} is = record {
  spelled = ap (take 32) is.spelled ∙ take_at (header_bytes (length bodies) time) (flat_map body_bytes bodies) 32 (length-header_bytes (length bodies) time);
  few = is.stored.count;
  fits = is.fits;
}

-- and then has its records
pub snapshot_records : {bytes : List ℕ} {bodies : List Body} {time : ℕ} → IsSnapshot bytes bodies time → drop 32 bytes ≡ flat_map body_bytes bodies
snapshot_records {bytes} {bodies} {time} is =
    ap (drop 32) is.spelled ∙ drop_at (header_bytes (length bodies) time) (flat_map body_bytes bodies) 32 (length-header_bytes (length bodies) time)

-- a header tells no other numbers
pub one_header : {bytes : List ℕ} {count time other_count other_time : ℕ} → IsHeader bytes count time → IsHeader bytes other_count other_time
    → (count ≡ other_count) × (time ≡ other_time)
one_header {bytes} {count} {time} {other_count} {other_time} first second =
    header_numbers bytes count time other_count other_time (omega (arith, first.few)) first.fits (omega (arith, second.few)) second.fits
    (header_has bytes count time first.spelled) (header_has bytes other_count other_time second.spelled)

-- the bytes are a snapshot of one list and one time only
pub one_snapshot : {bytes : List ℕ} {a b : List Body} {s t : ℕ} → IsSnapshot bytes a s → IsSnapshot bytes b t → (a ≡ b) × (s ≡ t)
one_snapshot {bytes} {a} {b} {s} {t} first second =
    let numbers = one_header (snapshot_header first) (snapshot_header second) in
    let all : take (64 * length a) (flat_map body_bytes b) ≡ flat_map body_bytes b =
    take_all (64 * length a) (flat_map body_bytes b) (omega (arith, length-records b, numbers.0)) in
    let front = records_front a b (recursion_from_All IsStoredBody a first.stored.each) (recursion_from_All IsStoredBody b second.stored.each)
    (omega (arith, numbers.0)) (all ∙ sym (snapshot_records second) ∙ snapshot_records first) in
    (sym front ∙ take_all (length a) b (omega (arith, numbers.0)), numbers.1)

-- a snapshot is finished
pub snapshot_finished : {bytes : List ℕ} {bodies : List Body} {time : ℕ} → IsSnapshot bytes bodies time → IsFinishedSnapshot (length bodies) bytes
snapshot_finished {bytes} {bodies} {time} is = record {
  whole = snapshot_whole is;
  opened =
      ap (λ (w : List ℕ). slice_index w 0) is.spelled
      ∙ get_or_append_left (header_bytes (length bodies) time) (flat_map body_bytes bodies) 0 0 (omega (arith, length-header_bytes (length bodies) time))
      ∙ (has_header (length bodies) time).opened;
}
