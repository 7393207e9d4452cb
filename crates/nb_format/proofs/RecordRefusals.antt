-- The first bad field of a record.
use Rattle.std.proofs.Common.{◌≡◌, ◌≢◌, ℕ, ◌<◌, ◌≤◌, ℤ, Bool, true, false, not, ◌&&◌, cond, List, length, take, drop, refl, sym, ap, subst, ◌∙◌, arith, FitsSigned}
use Rattle.std.specs.Prelude.{Option, Some, None, IfSome, Result, Ok, Err, IfOk, IfErr, OnOk, if◌then◌else◌, nat_eq as eqb}
use Rattle.std.specs.Int.{w64, to_le_bytes, cast_signed, cast_unsigned}
use Rattle.std.proofs.lemmas.Bool.{cond-true, cond-false, not_from_true, not_from_false, not-false, false_from_ne_true, and_parts, and_from, and_right, and_cases, lt-ltb, le-ltb, ltb-true, ltb-false, eq-eqb, eqb-false, ne_eqb, cases_eq, cases_lt}
use Rattle.std.proofs.lemmas.Int.{of_z-to_z, to_z-of_z}
use Rattle.std.proofs.Math.Facts.{sfits_to_z}
use Rattle.std.proofs.Math.Logic.{⊎_elim}
use Rattle.nb_model.specs.declared.body.At.{At}
use Rattle.nb_model.specs.declared.body.V3.{V3}
use Rattle.nb_model.specs.declared.body.Body.{Body}
use Rattle.nb_model.specs.Limits.{speed_limit}
use Rattle.nb_model.specs.Valid.{IsInBox, IsBelow}
use Rattle.nb_format.specs.declared.record.Fields.{Fields}
use Rattle.nb_format.specs.declared.snap_error.SnapError.{SnapError}
use Rattle.nb_format.specs.declared.snap_error.SnapError.TheVariants as snap
use Rattle.nb_format.specs.Fields.{fields_of, fields_bytes}
use Rattle.nb_model.specs.Bytes.{body_bytes}
use Rattle.nb_format.specs.Snapshot.{IsStoredBody}
use Rattle.nb_format.specs.SnapshotRefusal.{u64_at, i64_at, fields_at, field_refusal, record_refusal, is_in_box, is_slow, is_above, AreBytes}
use Rattle.nb_format.proofs.Offsets.{u32_at-spells, u64_at-spells, u32_at-fits, u64_at-fits, u32_at-back, u64_at-back}
use Rattle.nb_format.proofs.RecordBytes.{Fit, HaveFields, have_fields, body_bytes_is, stored_fit, fields_decoded, cast_unsigned_fits}
use Rattle.nb_format.proofs.HeaderRefusals.{if_none, if_by, none_by, IsOfBytes}

-- ---- the tests

is_in_box-true : (p : At) → is_in_box p ≡ true → IsInBox p
is_in_box-true p in_box =
    let both = and_parts _ _ in_box in
    let first = and_parts _ _ both.0 in
    record { x = ltb-true _ _ first.0; y = ltb-true _ _ first.1; z = ltb-true _ _ both.1 }

in_box-is : (p : At) → IsInBox p → is_in_box p ≡ true
in_box-is p is = and_from _ _ (and_from _ _ (lt-ltb _ _ is.x) (lt-ltb _ _ is.y)) (lt-ltb _ _ is.z)

is_slow-true : (v : V3) → is_slow v ≡ true → IsBelow speed_limit v
is_slow-true v slow =
    let both = and_parts _ _ slow in
    let first = and_parts _ _ both.0 in
    record { x = ltb-true _ _ first.0; y = ltb-true _ _ first.1; z = ltb-true _ _ both.1 }

slow-is : (v : V3) → IsBelow speed_limit v → is_slow v ≡ true
slow-is v is = and_from _ _ (and_from _ _ (lt-ltb _ _ is.x) (lt-ltb _ _ is.y)) (lt-ltb _ _ is.z)

above-is : (last : Option ℕ) (id : ℕ) → IfSome last (λ l. l < id) → is_above last id ≡ true
above-is None id above = refl
above-is (Some l) id above = lt-ltb _ _ above

is_above-true : (last : Option ℕ) (id : ℕ) → is_above last id ≡ true → IfSome last (λ l. l < id)
is_above-true None id above = tt
is_above-true (Some l) id above = ltb-true _ _ above

-- ---- the fields behind the id

pub mass_is : (i : ℕ) (f : Fields) → f.mass ≡ 0 → field_refusal i f ≡ Some (snap.Mass i)
unfolding field_refusal
mass_is i f zero = cond-true _ _ _ (eq-eqb _ _ zero)

pub flag_is : (i : ℕ) (f : Fields) → f.mass ≢ 0 → (f.flag ≤ 1 → ⊥) → field_refusal i f ≡ Some (snap.Flag i)
unfolding field_refusal
flag_is i f some large =
    let above : 1 < f.flag = ⊎_elim (λ over. over) (λ small. absurd (large small)) (cases_lt 1 f.flag) in
    cond-false _ _ _ (ne_eqb _ _ some) ∙ cond-true _ _ _ (lt-ltb _ _ above)

pub place_is : (i : ℕ) (f : Fields) → f.mass ≢ 0 → f.flag ≤ 1 → (IsInBox f.at → ⊥) → field_refusal i f ≡ Some (snap.Place i)
unfolding field_refusal
place_is i f some flag outside =
    cond-false _ _ _ (ne_eqb _ _ some) ∙ cond-false _ _ _ (le-ltb _ _ flag)
    ∙ cond-true _ _ _ (not_from_false _ (false_from_ne_true _ (λ in_box. outside (is_in_box-true f.at in_box))))

-- behind the position only the speed is looked at
speed_behind : (i : ℕ) (f : Fields) → f.mass ≢ 0 → f.flag ≤ 1 → IsInBox f.at
    → field_refusal i f ≡ (if eqb f.flag 0 && not (is_slow f.v) then Some (snap.Speed i) else None)
unfolding field_refusal
speed_behind i f some flag in_box =
    cond-false _ _ _ (ne_eqb _ _ some) ∙ cond-false _ _ _ (le-ltb _ _ flag) ∙ cond-false _ _ _ (not_from_true _ (in_box-is f.at in_box))

pub speed_is : (i : ℕ) (f : Fields) → f.mass ≢ 0 → f.flag ≡ 0 → IsInBox f.at → (IsBelow speed_limit f.v → ⊥) → field_refusal i f ≡ Some (snap.Speed i)
speed_is i f some flag in_box fast =
    speed_behind i f some (omega arith) in_box
    ∙ cond-true _ _ _ (and_from _ _ (eq-eqb _ _ flag) (not_from_false _ (false_from_ne_true _ (λ slow. fast (is_slow-true f.v slow)))))

-- nothing of a body is refused
small_flag : (out : Bool) → cond out 1 0 ≤ 1
small_flag true = omega arith
small_flag false = omega arith

speed_passes : (out : Bool) (v : V3) → (out ≡ false → IsBelow speed_limit v) → (eqb (cond out 1 0) 0 && not (is_slow v)) ≡ false
speed_passes true v slow = refl
speed_passes false v slow = and_right true (not (is_slow v)) (not_from_true _ (slow-is v (slow refl)))

pub field_none : (i : ℕ) (b : Body) → IsStoredBody b → field_refusal i (fields_of b) ≡ None
field_none i b stored =
    let some = stored.valid.some_mass in
    speed_behind i (fields_of b) (λ zero. omega arith) (small_flag b.out) stored.valid.at
    ∙ cond-false _ _ _ (speed_passes b.out b.v stored.valid.speed)

-- the body of fields of which nothing is refused
pub record IsBodyOf (f : Fields) (b : Body) : Type 0 where
  pub fields : fields_of b ≡ f
  pub stored : IsStoredBody b

flag_back : (n : ℕ) → n ≤ 1 → cond (eqb n 1) 1 0 ≡ n
flag_back n small =
    ⊎_elim (λ one. cond-true _ _ _ (eq-eqb n 1 one) ∙ sym one) (λ other. cond-false _ _ _ (ne_eqb n 1 other) ∙ omega arith) (cases_eq n 1)

-- a body in the box of which no speed is refused is slow
slow_in_box : (flag : ℕ) (v : V3) → flag ≤ 1 → (eqb flag 0 && not (is_slow v)) ≡ false → eqb flag 1 ≡ false → IsBelow speed_limit v
slow_in_box flag v small passes in_box =
    let other = eqb-false _ _ in_box in
    let zero : flag ≡ 0 = omega arith in
    ⊎_elim (λ some. absurd (eqb-false _ _ some zero)) (λ slow. is_slow-true v (not-false _ slow)) (and_cases _ _ passes)

pub field_accepted : (i : ℕ) (f : Fields) → Fit f → field_refusal i f ≡ None → (b : Body) × IsBodyOf f b
unfolding field_refusal
field_accepted i f fit none =
    let behind_mass = if_none _ _ _ none in
    let behind_flag = if_none _ _ _ behind_mass.1 in
    let behind_place = if_none _ _ _ behind_flag.1 in
    let behind_speed = if_none _ _ _ behind_place.1 in
    let small : f.flag ≤ 1 = ltb-false _ _ behind_flag.0 in
    let some = eqb-false _ _ behind_mass.0 in
    let flag = flag_back f.flag small in
    let b : Body = record { id = f.id; mass = f.mass; out = eqb f.flag 1; at = f.at; v = f.v } in (
      b,
      record {
        fields = λ i. record { id = f.id; mass = f.mass; flag = flag i; at = f.at; v = f.v };
        stored = record {
          valid = record {
            some_mass = omega arith;
            mass = fit.mass;
            at = is_in_box-true f.at (not-false _ behind_place.0);
            speed = slow_in_box f.flag f.v small behind_speed.0;
          };
          id = fit.id;
          velocity = fit.velocity;
        };
      },
    )

-- ---- the fields at their offsets

signed_at : (w : List ℕ) (at : ℕ) (z : ℤ) → FitsSigned w64 z → take 8 (drop at w) ≡ to_le_bytes w64 (cast_unsigned w64 z) → i64_at at w ≡ z
signed_at w at z fits is =
    ap (cast_signed w64) (u64_at-spells w at (cast_unsigned w64 z) (cast_unsigned_fits z fits) is) ∙ to_z-of_z w64 z fits

pub fields_at-spells : (w : List ℕ) (f : Fields) → Fit f → w ≡ fields_bytes f → fields_at w ≡ f
fields_at-spells w f fit spelled =
    let has : HaveFields w f = subst (λ (x : List ℕ). HaveFields x f) (sym spelled) (have_fields f) in
    let id = u64_at-spells w 0 f.id fit.id has.id in
    let mass = u32_at-spells w 8 f.mass fit.mass has.mass in
    let flag = u32_at-spells w 12 f.flag fit.flag has.flag in
    let x = u64_at-spells w 16 f.at.x fit.x has.x in
    let y = u64_at-spells w 24 f.at.y fit.y has.y in
    let z = u64_at-spells w 32 f.at.z fit.z has.z in
    let vx = signed_at w 40 f.v.x fit.velocity.x has.vx in
    let vy = signed_at w 48 f.v.y fit.velocity.y has.vy in
    let vz = signed_at w 56 f.v.z fit.velocity.z has.vz in
    λ i. record {
      id = id i;
      mass = mass i;
      flag = flag i;
      at = record { x = x i; y = y i; z = z i };
      v = record { x = vx i; y = vy i; z = vz i };
    }

pub fields_at-back : (w : List ℕ) → AreBytes w → length w ≡ 64 → w ≡ fields_bytes (fields_at w)
fields_at-back w all long =
    fields_decoded w (fields_at w) (u64_at 40 w) (u64_at 48 w) (u64_at 56 w) long
    (record {
      id = u64_at-back w 0 all (omega arith);
      mass = u32_at-back w 8 all (omega arith);
      flag = u32_at-back w 12 all (omega arith);
      x = u64_at-back w 16 all (omega arith);
      y = u64_at-back w 24 all (omega arith);
      z = u64_at-back w 32 all (omega arith);
      vx = u64_at-back w 40 all (omega arith);
      vy = u64_at-back w 48 all (omega arith);
      vz = u64_at-back w 56 all (omega arith);
    })
    (of_z-to_z w64 (u64_at 40 w) (u64_at-fits w 40 all)) (of_z-to_z w64 (u64_at 48 w) (u64_at-fits w 48 all)) (of_z-to_z w64 (u64_at 56 w) (u64_at-fits w 56 all))

signed-fits : (w : List ℕ) (at : ℕ) → AreBytes w → FitsSigned w64 (i64_at at w)
signed-fits w at all = sfits_to_z (record { fits = u64_at-fits w at all })

pub fields_at-fit : (w : List ℕ) → AreBytes w → Fit (fields_at w)
fields_at-fit w all = record {
  id = u64_at-fits w 0 all;
  mass = u32_at-fits w 8 all;
  flag = u32_at-fits w 12 all;
  x = u64_at-fits w 16 all;
  y = u64_at-fits w 24 all;
  z = u64_at-fits w 32 all;
  velocity = record { x = signed-fits w 40 all; y = signed-fits w 48 all; z = signed-fits w 56 all };
}

-- ---- the record

pub id_order_is : (i : ℕ) (last : Option ℕ) (w : List ℕ) (f : Fields) → Fit f → w ≡ fields_bytes f → (IfSome last (λ l. l < f.id) → ⊥)
    → record_refusal i last w ≡ Some (snap.IdOrder i)
unfolding record_refusal
id_order_is i last w f fit spelled low =
    let id : u64_at 0 w ≡ f.id = ap (λ (g : Fields). g.id) (fields_at-spells w f fit spelled) in
    cond-true _ _ _ (not_from_false _ (false_from_ne_true _ (λ above. low (subst (λ (n : ℕ). IfSome last (λ l. l < n)) id (is_above-true last (u64_at 0 w) above)))))

-- behind an id that rises the other fields are looked at
pub fields_behind : (i : ℕ) (last : Option ℕ) (w : List ℕ) (f : Fields) → Fit f → w ≡ fields_bytes f → IfSome last (λ l. l < f.id)
    → record_refusal i last w ≡ field_refusal i f
unfolding record_refusal
fields_behind i last w f fit spelled rises =
    let same = fields_at-spells w f fit spelled in
    let id : u64_at 0 w ≡ f.id = ap (λ (g : Fields). g.id) same in
    let above = above-is last (u64_at 0 w) (subst (λ (n : ℕ). IfSome last (λ l. l < n)) (sym id) rises) in
    cond-false _ _ _ (not_from_true _ above) ∙ ap (field_refusal i) same

-- nothing of a body's record is refused behind a lower id
pub record_none : (i : ℕ) (last : Option ℕ) (b : Body) → IsStoredBody b → IfSome last (λ l. l < b.id) → record_refusal i last (body_bytes b) ≡ None
record_none i last b stored rises =
    fields_behind i last (body_bytes b) (fields_of b) (stored_fit b stored) (body_bytes_is b) rises ∙ field_none i b stored

-- the id at the head of a body's record
pub record_id : (b : Body) → IsStoredBody b → u64_at 0 (body_bytes b) ≡ b.id
record_id b stored = ap (λ (g : Fields). g.id) (fields_at-spells (body_bytes b) (fields_of b) (stored_fit b stored) (body_bytes_is b))

-- the body of a record of which nothing is refused
pub record IsRecordBehind (last : Option ℕ) (w : List ℕ) (b : Body) : Type 0 where
  pub spelled : w ≡ body_bytes b
  pub stored : IsStoredBody b
  pub rises : IfSome last (λ l. l < b.id)

pub record_accepted : (i : ℕ) (last : Option ℕ) (w : List ℕ) → AreBytes w → length w ≡ 64 → record_refusal i last w ≡ None
    → (b : Body) × IsRecordBehind last w b
unfolding record_refusal
record_accepted i last w all long none =
    let behind = if_none _ _ _ none in
    let found = field_accepted i (fields_at w) (fields_at-fit w all) behind.1 in
    let b = found.0 in
    let id : u64_at 0 w ≡ b.id = ap (λ (g : Fields). g.id) (sym found.1.fields) in (
      b,
      record {
        spelled = fields_at-back w all long ∙ ap fields_bytes (sym found.1.fields) ∙ sym (body_bytes_is b);
        stored = found.1.stored;
        rises = subst (λ (n : ℕ). IfSome last (λ l. l < n)) id (is_above-true last (u64_at 0 w) (not-false _ behind.0));
      },
    )

pub record_by : (i : ℕ) (last : Option ℕ) (w : List ℕ) → IsOfBytes (record_refusal i last w)
unfolding record_refusal field_refusal
record_by i last w = search (none_by, if_by) depth 9

-- ---- what a reader makes of the fields

pub follow_accepted : (i : ℕ) (last : Option ℕ) (w : List ℕ) (f : Fields) (found : Result Body SnapError) → Fit f → w ≡ fields_bytes f
    → IfSome last (λ l. l < f.id) → IfOk found (λ b. fields_of b ≡ f) → IfOk found IsStoredBody → OnOk found (record_refusal i last w ≡ None)
follow_accepted i last w f (Ok b) fit spelled rises is stored =
    fields_behind i last w f fit spelled rises ∙ ap (field_refusal i) (sym is) ∙ field_none i b stored
follow_accepted i last w f (Err e) fit spelled rises is stored = tt

pub follow_refused : (i : ℕ) (last : Option ℕ) (w : List ℕ) (f : Fields) (found : Result Body SnapError) → Fit f → w ≡ fields_bytes f
    → IfSome last (λ l. l < f.id) → IfErr found (λ e. field_refusal i f ≡ Some e) → IfErr found (λ e. record_refusal i last w ≡ Some e)
follow_refused i last w f (Ok b) fit spelled rises refused = tt
follow_refused i last w f (Err e) fit spelled rises refused = fields_behind i last w f fit spelled rises ∙ refused
