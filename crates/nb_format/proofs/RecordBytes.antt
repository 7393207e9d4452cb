-- A record spells one body.
use Rattle.std.proofs.Common.{◌≡◌, ℕ, ◌^◌, ◌<◌, List, ◌++◌, length, take, refl, sym, ap, subst, ◌∙◌, arith, ℤ, pos, negsuc, FitsSigned, Bool, true, false, cond}
use Rattle.std.specs.Prelude.{Result, Ok, Err, IfOk}
use Rattle.std.specs.Int.{w32, w64, to_le_bytes, cast_signed, cast_unsigned}
use Rattle.std.proofs.lemmas.Int.{of_z-to_z, to_z-of_z}
use Rattle.nb_model.specs.declared.body.Body.{Body}
use Rattle.nb_model.specs.Valid.{IsValidBody}
use Rattle.nb_format.specs.declared.record.Fields.{Fields}
use Rattle.nb_format.specs.declared.snap_error.SnapError.{SnapError}
use Rattle.nb_model.specs.Bytes.{body_bytes}
use Rattle.nb_format.specs.Snapshot.{FitsRecord, IsStoredBody}
use Rattle.nb_format.specs.Fields.{fields_of, fields_bytes}
use Rattle.nb_format.proofs.Parts.{StandIn, nine_stand, nine_from_stand, nine_put}
use Rattle.nb_format.proofs.Numbers.{same_u32, same_u64}

-- a body's record is the spelling of its fields
pub body_bytes_is : (b : Body) → body_bytes b ≡ fields_bytes (fields_of b)
unfolding body_bytes fields_bytes
body_bytes_is b = refl

pub signed_back : (n : ℕ) (z : ℤ) → n < 2 ^ 64 → z ≡ cast_signed w64 n
    → cast_unsigned w64 (cast_signed w64 (cast_unsigned w64 z)) ≡ n
signed_back n z fits is =
    ap (λ (x : ℤ). cast_unsigned w64 (cast_signed w64 (cast_unsigned w64 x))) is
    ∙ ap (λ (m : ℕ). cast_unsigned w64 (cast_signed w64 m)) (of_z-to_z w64 n fits)
    ∙ of_z-to_z w64 n fits

pub signed_kept : (n : ℕ) (z : ℤ) → FitsSigned w64 z → n ≡ cast_unsigned w64 (cast_signed w64 (cast_unsigned w64 z))
    → n ≡ cast_unsigned w64 z
signed_kept n z fits is = is ∙ ap (cast_unsigned w64) (to_z-of_z w64 z fits)

-- what was read field by field is the fields that the bytes spell
pub fields_decoded : (w : List ℕ) (f : Fields) (x y z : ℕ) → length w ≡ 64
    → StandIn w (to_le_bytes w64 f.id) (to_le_bytes w32 f.mass) (to_le_bytes w32 f.flag) (to_le_bytes w64 f.at.x)
    (to_le_bytes w64 f.at.y) (to_le_bytes w64 f.at.z) (to_le_bytes w64 x) (to_le_bytes w64 y) (to_le_bytes w64 z)
    → cast_unsigned w64 f.v.x ≡ x → cast_unsigned w64 f.v.y ≡ y → cast_unsigned w64 f.v.z ≡ z → w ≡ fields_bytes f
unfolding fields_bytes
fields_decoded w f x y z long at is_x is_y is_z =
    nine_from_stand (to_le_bytes w64 f.id) (to_le_bytes w32 f.mass) (to_le_bytes w32 f.flag) (to_le_bytes w64 f.at.x)
    (to_le_bytes w64 f.at.y) (to_le_bytes w64 f.at.z) (to_le_bytes w64 x) (to_le_bytes w64 y) (to_le_bytes w64 z) w long at
    ∙ rw (is_x, is_y, is_z) refl

-- what was put field by field is the spelling of the fields
pub fields_encoded : (w : List ℕ) (f : Fields) → length w ≡ 64
    → take 64 w ≡ to_le_bytes w64 f.id ++ to_le_bytes w32 f.mass ++ to_le_bytes w32 f.flag
    ++ to_le_bytes w64 f.at.x ++ to_le_bytes w64 f.at.y ++ to_le_bytes w64 f.at.z
    ++ to_le_bytes w64 (cast_unsigned w64 f.v.x) ++ to_le_bytes w64 (cast_unsigned w64 f.v.y) ++ to_le_bytes w64 (cast_unsigned w64 f.v.z)
    → w ≡ fields_bytes f
unfolding fields_bytes
fields_encoded w f long put =
    nine_put (to_le_bytes w64 f.id) (to_le_bytes w32 f.mass) (to_le_bytes w32 f.flag) (to_le_bytes w64 f.at.x)
    (to_le_bytes w64 f.at.y) (to_le_bytes w64 f.at.z) (to_le_bytes w64 (cast_unsigned w64 f.v.x))
    (to_le_bytes w64 (cast_unsigned w64 f.v.y)) (to_le_bytes w64 (cast_unsigned w64 f.v.z)) w put long

pub cast_unsigned_fits : (z : ℤ) → FitsSigned w64 z → cast_unsigned w64 z < 2 ^ 64
cast_unsigned_fits (pos n) fits = omega (arith, fits.sfits)
cast_unsigned_fits (negsuc n) fits = omega (arith, fits.sfits)

abbrev flag_of : Bool → ℕ
flag_of out = cond out 1 0

pub flag_fits : (out : Bool) → flag_of out < 2 ^ 32
flag_fits true = omega arith
flag_fits false = omega arith

same_flag : (a b : Bool) → flag_of a ≡ flag_of b → a ≡ b
same_flag true true same = refl
same_flag false false same = refl
same_flag true false same = absurd (omega arith)
same_flag false true same = absurd (omega arith)

-- fields that fit their lengths
pub record Fit (f : Fields) : Type 0 where
  pub id : f.id < 2 ^ 64
  pub mass : f.mass < 2 ^ 32
  pub flag : f.flag < 2 ^ 32
  pub x : f.at.x < 2 ^ 64
  pub y : f.at.y < 2 ^ 64
  pub z : f.at.z < 2 ^ 64
  pub velocity : FitsRecord f.v

-- each field at its offset
abbrev pub HaveFields : List ℕ → Fields → Type 0
HaveFields w f =
    StandIn w (to_le_bytes w64 f.id) (to_le_bytes w32 f.mass) (to_le_bytes w32 f.flag) (to_le_bytes w64 f.at.x)
    (to_le_bytes w64 f.at.y) (to_le_bytes w64 f.at.z) (to_le_bytes w64 (cast_unsigned w64 f.v.x))
    (to_le_bytes w64 (cast_unsigned w64 f.v.y)) (to_le_bytes w64 (cast_unsigned w64 f.v.z))

pub have_fields : (f : Fields) → HaveFields (fields_bytes f) f
unfolding fields_bytes
have_fields f =
    nine_stand (to_le_bytes w64 f.id) (to_le_bytes w32 f.mass) (to_le_bytes w32 f.flag) (to_le_bytes w64 f.at.x)
    (to_le_bytes w64 f.at.y) (to_le_bytes w64 f.at.z) (to_le_bytes w64 (cast_unsigned w64 f.v.x))
    (to_le_bytes w64 (cast_unsigned w64 f.v.y)) (to_le_bytes w64 (cast_unsigned w64 f.v.z))
    (record { id = refl; mass = refl; flag = refl; x = refl; y = refl; z = refl; vx = refl; vy = refl; vz = refl })

same_i64 : (a b : ℤ) → FitsSigned w64 a → FitsSigned w64 b
    → to_le_bytes w64 (cast_unsigned w64 a) ≡ to_le_bytes w64 (cast_unsigned w64 b) → a ≡ b
same_i64 a b fits_a fits_b same =
    let unsigned = same_u64 (cast_unsigned w64 a) (cast_unsigned w64 b) (cast_unsigned_fits a fits_a) (cast_unsigned_fits b fits_b) same in
    sym (to_z-of_z w64 a fits_a) ∙ ap (cast_signed w64) unsigned ∙ to_z-of_z w64 b fits_b

-- the bytes spell no other fields
pub same_fields : (f g : Fields) → Fit f → Fit g → fields_bytes f ≡ fields_bytes g → f ≡ g
same_fields f g fit_f fit_g same =
    let left = have_fields f in
    let right : HaveFields (fields_bytes f) g = subst (λ (w : List ℕ). HaveFields w g) (sym same) (have_fields g) in
    let id = same_u64 f.id g.id fit_f.id fit_g.id (sym left.id ∙ right.id) in
    let mass = same_u32 f.mass g.mass fit_f.mass fit_g.mass (sym left.mass ∙ right.mass) in
    let flag = same_u32 f.flag g.flag fit_f.flag fit_g.flag (sym left.flag ∙ right.flag) in
    let x = same_u64 f.at.x g.at.x fit_f.x fit_g.x (sym left.x ∙ right.x) in
    let y = same_u64 f.at.y g.at.y fit_f.y fit_g.y (sym left.y ∙ right.y) in
    let z = same_u64 f.at.z g.at.z fit_f.z fit_g.z (sym left.z ∙ right.z) in
    let vx = same_i64 f.v.x g.v.x fit_f.velocity.x fit_g.velocity.x (sym left.vx ∙ right.vx) in
    let vy = same_i64 f.v.y g.v.y fit_f.velocity.y fit_g.velocity.y (sym left.vy ∙ right.vy) in
    let vz = same_i64 f.v.z g.v.z fit_f.velocity.z fit_g.velocity.z (sym left.vz ∙ right.vz) in
    λ i. record {
      id = id i;
      mass = mass i;
      flag = flag i;
      at = record { x = x i; y = y i; z = z i };
      v = record { x = vx i; y = vy i; z = vz i };
    }

pub stored_fit : (b : Body) → IsStoredBody b → Fit (fields_of b)
stored_fit b stored = record {
  id = stored.id;
  mass = stored.valid.mass;
  flag = flag_fits b.out;
  x = omega (arith, stored.valid.at.x);
  y = omega (arith, stored.valid.at.y);
  z = omega (arith, stored.valid.at.z);
  velocity = stored.velocity;
}

pub stored_from_fit : (b : Body) → Fit (fields_of b) → IsValidBody b → IsStoredBody b
stored_from_fit b fit valid = record { valid = valid; id = fit.id; velocity = fit.velocity }

-- bodies with the same fields are one
same_from_fields : (b c : Body) → fields_of b ≡ fields_of c → b ≡ c
same_from_fields b c same = λ i. record {
  id = (same i).id;
  mass = (same i).mass;
  out = same_flag b.out c.out (ap (λ (f : Fields). f.flag) same) i;
  at = (same i).at;
  v = (same i).v;
}

-- a record spells no other body
pub same_body : (b c : Body) → IsStoredBody b → IsStoredBody c → body_bytes b ≡ body_bytes c → b ≡ c
same_body b c stored_b stored_c same =
    same_from_fields b c (same_fields (fields_of b) (fields_of c) (stored_fit b stored_b) (stored_fit c stored_c)
    (sym (body_bytes_is b) ∙ same ∙ body_bytes_is c))

pub length-body_bytes : (b : Body) → length (body_bytes b) ≡ 64
unfolding body_bytes
length-body_bytes b = refl

pub record_of_ok : (w : List ℕ) (f : Fields) (found : Result Body SnapError) → w ≡ fields_bytes f → IfOk found (λ b. fields_of b ≡ f)
    → IfOk found (λ b. w ≡ body_bytes b)
record_of_ok w f (Ok b) spelled is = spelled ∙ ap fields_bytes (sym is) ∙ sym (body_bytes_is b)
record_of_ok w f (Err e) spelled is = tt
