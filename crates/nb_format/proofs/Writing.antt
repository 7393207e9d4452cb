-- What the writes of a snapshot writer leave.
use Rattle.std.proofs.Common.{◌≡◌, ℕ, zero, suc, ◌+◌, ◌^◌, ◌<◌, ◌≤◌, Option, Some, None, List, [], ◌∷◌, ◌++◌, length, take, drop, get_or, slice_index, refl, sym, ap, subst, ◌∙◌, arith, rules, append_assoc, length-append}
use Rattle.std.specs.Prelude.{IfSome}
use Rattle.std.specs.Option.{ForSome}
use Rattle.std.specs.List.{flat_map}
use Rattle.std.proofs.lemmas.List.{append-nil, take_all, length-drop, length_push, ext_get_or, get_or-drop}
use Rattle.std.proofs.lemmas.List.Concat.{flat_map-append}
use Rattle.nb_host.specs.Image.{Image, overwritten, IsOverwritten, IsTorn, FileBecomes}
use Rattle.nb_host.proofs.Callers.{overwritten-at_end, overwritten-within}
use Rattle.nb_model.specs.declared.body.Body.{Body}
use Rattle.nb_model.specs.Limits.{most_bodies}
use Rattle.nb_format.specs.declared.snap_writer.Filling.{Filling}
use Rattle.nb_model.specs.Bytes.{body_bytes}
use Rattle.nb_format.specs.Snapshot.{snapshot_gate, header_bytes, snapshot_length, IsStoredBody, IsSnapshot}
use Rattle.nb_format.specs.Reader.{last_of}
use Rattle.nb_format.specs.Writer.{SnapshotPlan, plan_of, added_count, last_added, IsEmptyFilling, HasOneMore, HasFilled, HasShutGate, shut_bytes, IsFinishedAs}
use Rattle.nb_format.proofs.HeaderBytes.{length-header_bytes}
use Rattle.nb_format.proofs.Snapshots.{length-records}
use Rattle.nb_format.proofs.Reading.{last_of-push, stored-push}

length-shut_bytes : (plan : SnapshotPlan) (bodies : List Body) → length (shut_bytes plan bodies) ≡ snapshot_length (length bodies)
length-shut_bytes plan bodies =
    let header = header_bytes plan.count plan.time in
    omega (arith, length-append (drop 1 header) (flat_map body_bytes bodies), length-drop 1 header, length-header_bytes plan.count plan.time, length-records bodies)

pub behind_gate : (count time : ℕ) → take 31 (drop 1 (header_bytes count time)) ≡ drop 1 (header_bytes count time)
behind_gate count time =
    let header = header_bytes count time in
    take_all 31 (drop 1 header) (omega (arith, length-drop 1 header, length-header_bytes count time))

-- the header behind a shut gate, and no more
pub begun_is : (plan : SnapshotPlan) (shut new : List ℕ) → shut ≡ 0 ∷ [] → new ≡ overwritten 1 (drop 1 (header_bytes plan.count plan.time)) shut
    → new ≡ shut_bytes plan []
begun_is plan shut new is put =
    let rest = drop 1 (header_bytes plan.count plan.time) in
    put ∙ ap (overwritten 1 rest) is ∙ overwritten-at_end rest (0 ∷ []) ∙ sym (append-nil (0 ∷ rest))

-- one more body behind those that were added
shut_bytes-push : (plan : SnapshotPlan) (bodies : List Body) (b : Body) → shut_bytes plan bodies ++ body_bytes b ≡ shut_bytes plan (bodies ++ b ∷ [])
shut_bytes-push plan bodies b =
    let header : List ℕ = 0 ∷ drop 1 (header_bytes plan.count plan.time) in
    append_assoc header (flat_map body_bytes bodies) (body_bytes b)
    ∙ ap (λ (w : List ℕ). header ++ w)
    (ap (λ (w : List ℕ). flat_map body_bytes bodies ++ w) (sym (append-nil (body_bytes b))) ∙ sym (flat_map-append body_bytes bodies (b ∷ [])))

above_last : (last : Option ℕ) (n : ℕ) → ForSome last (λ id. id < n) → IfSome last (λ id. id < n)
above_last (Some id) n above = above id refl
above_last None n above = tt

pub filled_more : (old new : Filling) (file written : List ℕ) (bodies : List Body) (b : Body) → HasFilled old file bodies → HasOneMore b old new
    → (plan_of old).count ≤ most_bodies → added_count old < (plan_of old).count → IsStoredBody b → ForSome (last_added old) (λ id. id < b.id)
    → written ≡ overwritten (snapshot_length (added_count old)) (body_bytes b) file → HasFilled new written (bodies ++ b ∷ [])
filled_more old new file written bodies b has more few room stored rises put =
    let at : snapshot_length (added_count old) ≡ length file =
    ap snapshot_length has.added ∙ sym (length-shut_bytes (plan_of old) bodies) ∙ ap length (sym has.spelled) in
    let above = above_last (last_of bodies) b.id (subst (λ (last : Option ℕ). ForSome last (λ id. id < b.id)) has.last rises) in
    record {
      spelled = put ∙ ap (λ (n : ℕ). overwritten n (body_bytes b) file) at ∙ overwritten-at_end (body_bytes b) file
          ∙ ap (λ (w : List ℕ). w ++ body_bytes b) has.spelled ∙ shut_bytes-push (plan_of old) bodies b
          ∙ ap (λ (plan : SnapshotPlan). shut_bytes plan (bodies ++ b ∷ [])) (sym more.plan);
      added = more.added ∙ ap (λ (n : ℕ). n + 1) has.added ∙ sym (length_push bodies b);
      last = more.last ∙ sym (last_of-push bodies b);
      stored = stored-push bodies b has.stored stored above (omega (arith, has.added));
    }

-- the file of a full filling is the snapshot, once its gate is opened
pub opened_is : (filling : Filling) (file : List ℕ) (bodies : List Body) → HasFilled filling file bodies → added_count filling ≡ (plan_of filling).count
    → (plan_of filling).time < 2 ^ 64 → IsSnapshot (snapshot_gate ∷ drop 1 file) bodies (plan_of filling).time
unfolding header_bytes
opened_is filling file bodies has full fits = record {
  spelled = ap (λ (w : List ℕ). snapshot_gate ∷ drop 1 w) has.spelled
      ∙ ap (λ (n : ℕ). header_bytes n (plan_of filling).time ++ flat_map body_bytes bodies) (sym full ∙ has.added);
  stored = has.stored;
  fits = fits;
}

-- a file that isn't empty, but for its gate
pub some_file : (filling : Filling) (file : List ℕ) (bodies : List Body) → HasFilled filling file bodies → 1 ≤ length file
some_file filling file bodies has = omega (arith, ap length has.spelled, length-shut_bytes (plan_of filling) bodies)

pub gate_written : (filling : Filling) (old new : Image) (bodies : List Body) → HasFilled filling (old.file (plan_of filling).file) bodies
    → added_count filling ≡ (plan_of filling).count → (plan_of filling).time < 2 ^ 64
    → FileBecomes (plan_of filling).file (IsOverwritten 0 (snapshot_gate ∷ [])) old new
    → FileBecomes (plan_of filling).file (IsFinishedAs bodies (plan_of filling).time) old new
gate_written filling old new bodies has full fits step =
    let file = old.file (plan_of filling).file in
    let is = step.file ∙ overwritten-within 0 (snapshot_gate ∷ []) file (omega arith) in
    record {
      file = subst (λ (w : List ℕ). IsSnapshot w bodies (plan_of filling).time) (sym is) (opened_is filling file bodies has full fits);
      others = step.others;
      said = step.said;
    }

front_same : (old new : List ℕ) → length new ≡ length old → IsTorn 0 1 old new → (i : ℕ) → i < length new
    → get_or new i 0 ≡ get_or (slice_index new 0 ∷ drop 1 old) i 0
front_same old new long torn zero within = refl
front_same old new long torn (suc i) within =
    torn.above (suc i) (omega arith) (omega arith) ∙ ap (λ (k : ℕ). get_or old k 0) (omega arith) ∙ sym (get_or-drop 1 old i 0)

-- a write of one byte at the front, perhaps in part, changes that byte at most
pub front_torn : (old new : List ℕ) → 1 ≤ length old → IsTorn 0 1 old new → new ≡ slice_index new 0 ∷ drop 1 old
front_torn old new some torn =
    let long : length new ≡ length old = omega (arith, torn.no_shorter, torn.no_longer) in
    ext_get_or 0 new (slice_index new 0 ∷ drop 1 old) (omega (arith, length-drop 1 old)) (front_same old new long torn)

-- what `begin` leaves is filled with no body
pub begun_filled : (plan : SnapshotPlan) (filling : Filling) (file : List ℕ) → IsEmptyFilling plan filling → file ≡ shut_bytes plan []
    → HasFilled filling file []
begun_filled plan filling file empty is = record {
  spelled = is ∙ ap (λ (p : SnapshotPlan). shut_bytes p []) (sym empty.plan);
  added = empty.added;
  last = empty.last;
  stored = record { each = search rules; ids = search rules; count = omega arith };
}

-- the gate of a file that is being filled is shut
pub filled_is_shut : (filling : Filling) (file : List ℕ) (bodies : List Body) → HasFilled filling file bodies → HasShutGate file
filled_is_shut filling file bodies has = record {
  there = some_file filling file bodies has;
  shut = ap (λ (w : List ℕ). slice_index w 0) has.spelled;
}
