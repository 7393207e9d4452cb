-- What a reader has read, one record further.
use Rattle.std.proofs.Common.{◌≡◌, ℕ, ◌+◌, ◌-◌, ◌*◌, ◌<◌, ◌≤◌, Option, Some, List, [], ◌∷◌, ◌++◌, length, take, drop, map, get_or, refl, sym, ap, subst, ◌∙◌, arith, append_assoc, length-append}
use Rattle.std.specs.Prelude.{IfSome}
use Rattle.std.specs.List.{flat_map}
use Rattle.std.specs.List.Sorted.{IsStrictlyIncreasing}
use Rattle.std.proofs.lemmas.Bool.{cases_lt, cond-false, le-ltb}
use Rattle.std.proofs.lemmas.List.{get_or_append_left, get_or_at, take_at, drop_at, take-take, length-drop, length-take, drop-take, append-nil, length-map, length_push, map-append}
use Rattle.std.proofs.lemmas.List.Elements.{All-push}
use Rattle.std.proofs.lemmas.List.Concat.{flat_map-append}
use Rattle.std.proofs.Math.Seq.{take-add}
use Rattle.std.proofs.Math.Logic.{⊎_elim}
use Rattle.nb_model.specs.declared.body.Body.{Body}
use Rattle.nb_model.specs.Limits.{most_bodies}
use Rattle.nb_format.specs.declared.snap_reader.SnapReader.{SnapReader}
use Rattle.nb_model.specs.Bytes.{body_bytes}
use Rattle.nb_format.specs.Snapshot.{header_bytes, snapshot_length, IsStoredBody, AreStoredBodies}
use Rattle.nb_format.specs.Reader.{count_of, time_of, read_count, last_id, last_of, HasRead, MayFollow, IsBehind, IsFrontOf, next_refusal}
use Rattle.nb_format.specs.SnapshotRefusal.{record_refusal}
use Rattle.nb_format.proofs.HeaderBytes.{length-header_bytes}

abbrev pub ids : List Body → List ℕ
ids bodies = map (λ b. b.id) bodies

-- The last id of a list that isn't empty, in another way than `last_of`.
last_of-more : (b : Body) (bs : List Body) → last_of (b ∷ bs) ≡ Some (get_or (ids (b ∷ bs)) (length bs) 0)
last_of-more b [] = refl
last_of-more b (c ∷ bs) = last_of-more c bs

pub last_of-push : (bodies : List Body) (b : Body) → last_of (bodies ++ b ∷ []) ≡ Some b.id
last_of-push [] b = refl
last_of-push (a ∷ []) b = refl
last_of-push (a ∷ c ∷ bs) b = last_of-push (c ∷ bs) b

-- a list of rising numbers goes on rising with a number above its last
increasing-push : (xs : List ℕ) (y : ℕ) → IsStrictlyIncreasing xs → (0 < length xs → get_or xs (length xs - 1) 0 < y)
    → IsStrictlyIncreasing (xs ++ y ∷ [])
increasing-push xs y rising above = λ k within.
    ⊎_elim
    (λ inside. subst (λ (n : ℕ). n < get_or (xs ++ y ∷ []) (k + 1) 0) (sym (get_or_append_left xs (y ∷ []) 0 k (omega arith)))
    (subst (λ (n : ℕ). get_or xs k 0 < n) (sym (get_or_append_left xs (y ∷ []) 0 (k + 1) inside)) (rising k inside)))
    (λ outside.
    let long : length xs ≡ k + 1 = omega (arith, length_push xs y) in
    let last : get_or xs k 0 < y = subst (λ (n : ℕ). get_or xs n 0 < y) (omega arith) (above (omega arith)) in
    subst (λ (n : ℕ). n < get_or (xs ++ y ∷ []) (k + 1) 0) (sym (get_or_append_left xs (y ∷ []) 0 k (omega arith)))
    (subst (λ (n : ℕ). get_or xs k 0 < n) (sym (get_or_at xs y [] 0 (k + 1) long)) last))
    (cases_lt (k + 1) (length xs))

-- in a list of rising numbers the one behind a front is above the last of the front
increasing_behind : (xs ys : List ℕ) (y : ℕ) → IsStrictlyIncreasing (xs ++ y ∷ ys) → 0 < length xs → get_or xs (length xs - 1) 0 < y
increasing_behind xs ys y rising some =
    let k = length xs - 1 in
    let step : get_or (xs ++ y ∷ ys) k 0 < get_or (xs ++ y ∷ ys) (k + 1) 0 = rising k (omega (arith, length-append xs (y ∷ ys))) in
    subst (λ (n : ℕ). get_or xs k 0 < n) (get_or_at xs y ys 0 (k + 1) (omega arith))
    (subst (λ (n : ℕ). n < get_or (xs ++ y ∷ ys) (k + 1) 0) (get_or_append_left xs (y ∷ ys) 0 k (omega arith)) step)

-- Ids that rise go on rising with one above the last.
pub rising-push : (bodies : List Body) (b : Body) → IsStrictlyIncreasing (ids bodies) → IfSome (last_of bodies) (λ id. id < b.id)
    → IsStrictlyIncreasing (ids (bodies ++ b ∷ []))
rising-push [] b rising above = λ k within. absurd (omega arith)
rising-push (a ∷ bs) b rising above =
    let last = subst (λ (o : Option ℕ). IfSome o (λ id. id < b.id)) (last_of-more a bs) above in
    subst IsStrictlyIncreasing (sym (map-append (λ (x : Body). x.id) (a ∷ bs) (b ∷ [])))
    (increasing-push (ids (a ∷ bs)) b.id rising (λ some. subst (λ (n : ℕ). get_or (ids (a ∷ bs)) n 0 < b.id) (omega (arith, length-map bs (λ (x : Body). x.id))) last))

-- In a list whose ids rise the body behind a front is above the last of the front.
pub rises_behind : (front : List Body) (b : Body) (rest : List Body) → IsStrictlyIncreasing (ids (front ++ b ∷ rest))
    → IfSome (last_of front) (λ id. id < b.id)
rises_behind [] b rest rising = tt
rises_behind (a ∷ bs) b rest rising =
    let all = subst IsStrictlyIncreasing (map-append (λ (x : Body). x.id) (a ∷ bs) (b ∷ rest)) rising in
    let last = increasing_behind (ids (a ∷ bs)) (ids rest) b.id all (omega arith) in
    subst (λ (o : Option ℕ). IfSome o (λ id. id < b.id)) (sym (last_of-more a bs))
    (subst (λ (n : ℕ). get_or (ids (a ∷ bs)) n 0 < b.id) (omega (arith, length-map bs (λ (x : Body). x.id))) last)

pub stored-push : (bodies : List Body) (b : Body) → AreStoredBodies bodies → IsStoredBody b → IfSome (last_of bodies) (λ id. id < b.id)
    → length bodies < most_bodies → AreStoredBodies (bodies ++ b ∷ [])
stored-push bodies b stored fits above few = record {
  each = All-push IsStoredBody bodies b stored.each fits;
  ids = rising-push bodies b stored.ids above;
  count = omega (arith, length_push bodies b);
}

-- the records that the reader has read
pub read_records : (reader : SnapReader) (bytes : List ℕ) (bodies : List Body) → HasRead reader bytes bodies
    → take (64 * length bodies) (drop 32 bytes) ≡ flat_map body_bytes bodies
read_records reader bytes bodies has =
    sym (drop-take 32 (64 * length bodies) bytes) ∙ ap (drop 32) has.begins
    ∙ drop_at (header_bytes (count_of reader) (time_of reader)) (flat_map body_bytes bodies) 32 (length-header_bytes (count_of reader) (time_of reader))

-- the header that the reader has read
pub read_header : (reader : SnapReader) (bytes : List ℕ) (bodies : List Body) → HasRead reader bytes bodies
    → take 32 bytes ≡ header_bytes (count_of reader) (time_of reader)
read_header reader bytes bodies has =
    sym (take-take 32 (snapshot_length (length bodies)) bytes (omega arith)) ∙ ap (take 32) has.begins
    ∙ take_at (header_bytes (count_of reader) (time_of reader)) (flat_map body_bytes bodies) 32 (length-header_bytes (count_of reader) (time_of reader))

-- what is read whole lies within the file
pub whole_inside : (file w : List ℕ) (at : ℕ) → w ≡ take 64 (drop at file) → length w ≡ 64 → at + 64 ≤ length file
whole_inside file w at is long =
    let read : length (take 64 (drop at file)) ≡ 64 = sym (ap length is) ∙ long in
    omega (arith, length-take 64 (drop at file), length-drop at file)

-- what is read whole of a file that may have become shorter is what it held
pub front_reads : (bytes file w : List ℕ) (at : ℕ) → IsFrontOf bytes file → w ≡ take 64 (drop at file) → length w ≡ 64
    → w ≡ take 64 (drop at bytes)
front_reads bytes file w at front is long =
    let inside = whole_inside file w at is long in
    let far : at + 64 ≤ front.0 = omega (arith, ap length front.1, length-take front.0 bytes) in
    let more : front.0 ≡ at + (front.0 - at) = omega arith in
    is ∙ ap (λ (f : List ℕ). take 64 (drop at f)) front.1 ∙ ap (λ (n : ℕ). take 64 (drop at (take n bytes))) more
    ∙ ap (take 64) (drop-take at (front.0 - at) bytes) ∙ take-take 64 (front.0 - at) (drop at bytes) (omega arith)

-- one more body is read
pub read_more : (old new : SnapReader) (bytes : List ℕ) (bodies : List Body) (b : Body) → HasRead old bytes bodies → MayFollow old b
    → IsBehind b old new → count_of old ≤ most_bodies → read_count old < count_of old
    → take 64 (drop (snapshot_length (read_count old)) bytes) ≡ body_bytes b → HasRead new bytes (bodies ++ b ∷ [])
read_more old new bytes bodies b has follows behind few more is =
    let above = subst (λ (last : Option ℕ). IfSome last (λ id. id < b.id)) has.last follows.rises in
    let length_more : length (bodies ++ b ∷ []) ≡ length bodies + 1 = length_push bodies b in
    let header = header_bytes (count_of old) (time_of old) in
    let record_at : take 64 (drop (snapshot_length (length bodies)) bytes) ≡ body_bytes b =
    ap (λ (n : ℕ). take 64 (drop (snapshot_length n) bytes)) (sym has.read) ∙ is in
    let records : flat_map body_bytes bodies ++ body_bytes b ≡ flat_map body_bytes (bodies ++ b ∷ []) =
    ap (λ (w : List ℕ). flat_map body_bytes bodies ++ w) (sym (append-nil (body_bytes b)))
    ∙ sym (flat_map-append body_bytes bodies (b ∷ [])) in
    let far : snapshot_length (length (bodies ++ b ∷ [])) ≡ snapshot_length (length bodies) + 64 = omega arith in
    record {
      whole = has.whole ∙ ap snapshot_length (sym behind.count);
      read = behind.read ∙ ap (λ (n : ℕ). n + 1) has.read ∙ sym length_more;
      last = behind.last ∙ sym (last_of-push bodies b);
      stored = stored-push bodies b has.stored follows.stored above (omega (arith, has.read));
      begins = ap (λ (n : ℕ). take n bytes) far ∙ take-add (snapshot_length (length bodies)) 64 bytes
          ∙ ap (λ (w : List ℕ). w ++ take 64 (drop (snapshot_length (length bodies)) bytes)) has.begins
          ∙ ap (λ (w : List ℕ). (header ++ flat_map body_bytes bodies) ++ w) record_at
          ∙ append_assoc header (flat_map body_bytes bodies) (body_bytes b)
          ∙ ap (λ (w : List ℕ). header ++ w) records
          ∙ ap (λ (n : ℕ). header_bytes n (time_of old) ++ flat_map body_bytes (bodies ++ b ∷ [])) (sym behind.count)
          ∙ ap (λ (t : ℕ). header_bytes (count_of new) t ++ flat_map body_bytes (bodies ++ b ∷ [])) (sym behind.time);
    }

-- of a file that holds the record whole it is the record that is looked at
pub next_is_record : (reader : SnapReader) (file w : List ℕ) → w ≡ take 64 (drop (snapshot_length (read_count reader)) file) → length w ≡ 64
    → next_refusal reader file ≡ record_refusal (read_count reader) (last_id reader) w
next_is_record reader file w is long =
    let inside = whole_inside file w (snapshot_length (read_count reader)) is long in
    let whole : snapshot_length (read_count reader + 1) ≤ length file = omega arith in
    cond-false _ _ _ (le-ltb _ _ whole) ∙ ap (record_refusal (read_count reader) (last_id reader)) (sym is)
