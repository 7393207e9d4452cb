-- A record says what was written into it.
use Rattle.std.proofs.Common.{◌≡◌, ℕ, ◌+◌, ◌-◌, ◌*◌, ◌^◌, ◌<◌, ◌≤◌, List, [], ◌∷◌, ◌++◌, length, Bool, true, false, cond, eqb, sym, ap, ◌∙◌, refl, arith, ℤ, pos, negsuc, FitsSigned, unsigned_abs, subst}
use Rattle.std.specs.Int.{w64, cast_signed, cast_unsigned}
use Rattle.std.specs.List.{flat_map}
use Rattle.std.proofs.lemmas.Int.{to_z-of_z, fits_signed_from_abs}
use Rattle.std.proofs.lemmas.List.{append_assoc, length-append}
use Rattle.nb_model.specs.declared.body.V3.{V3}
use Rattle.nb_model.specs.declared.body.Body.{Body}
use Rattle.nb_model.specs.Bytes.{body_bytes, vector_bytes}
use Rattle.nb_model.specs.Limits.{kick_limit}
use Rattle.nb_model.specs.Valid.{IsBelow, IsValidBody}
use Rattle.nb_record.specs.declared.cell.Cell.{Cell}
use Rattle.nb_host.specs.declared.page_name.TheConstants.{PAGE_SIZE}
use Rattle.nb_record.specs.declared.sizes.TheConstants.{BODY_SIZE, CELL_SIZE, KICK_AT, BODIES_PER_PAGE, CELLS_PER_PAGE}
use Rattle.nb_record.specs.Fields.{u64_at, u32_at, i64_at, u64_bytes, u32_bytes, written}
use Rattle.nb_record.specs.Pages.{record_count}
use Rattle.nb_record.specs.Records.{body_of, kick_of, record_bytes, IsBodyRecord, FitsBodyRecord, cell_of, cell_bytes, FitsCellRecord}
use Rattle.nb_record.proofs.Writes.{length-u64_bytes, length-u32_bytes, word_first, short_first, word_past, short_past, word_front, short_front, written_twice}
use Rattle.nb_record.proofs.Adding.{HasRoom}

-- ---- eight words in a row

-- the word after the first
word_after_first : (n k : ℕ) (rest : List ℕ) → u64_at (8 + k) (u64_bytes n ++ rest) ≡ u64_at k rest
word_after_first n k rest = word_past (u64_bytes n) rest 8 k (length-u64_bytes n)

length-row : (n : ℕ) (rest : List ℕ) → length (u64_bytes n ++ rest) ≡ 8 + length rest
length-row n rest = omega (arith, length-append (u64_bytes n) rest, length-u64_bytes n)

pub row_length : (ws : List ℕ) → length (flat_map u64_bytes ws) ≡ 8 * length ws
row_length [] = omega arith
row_length (w ∷ ws) = omega (arith, length-row w (flat_map u64_bytes ws), row_length ws)

word_0 : (a : ℕ) (ws : List ℕ) → a < 2 ^ 64 → u64_at 0 (flat_map u64_bytes (a ∷ ws)) ≡ a
word_0 a ws fits = word_first a (flat_map u64_bytes ws) fits

word_more : (k a b : ℕ) (ws : List ℕ) → u64_at k (flat_map u64_bytes ws) ≡ b → u64_at (8 + k) (flat_map u64_bytes (a ∷ ws)) ≡ b
word_more k a b ws is = word_after_first a k (flat_map u64_bytes ws) ∙ is

-- ---- cells

pub cell_size : (c : Cell) → length (cell_bytes c) ≡ CELL_SIZE
cell_size c = row_length (c.key ∷ c.mass ∷ c.centre.x ∷ c.centre.y ∷ c.centre.z ∷ c.first ∷ c.count ∷ c.kids ∷ [])

pub cell_round : (c : Cell) → FitsCellRecord c → cell_of (cell_bytes c) ≡ c
cell_round c is =
    let from_kids = c.kids ∷ [] in
    let from_count = c.count ∷ from_kids in
    let from_first = c.first ∷ from_count in
    let from_z = c.centre.z ∷ from_first in
    let from_y = c.centre.y ∷ from_z in
    let from_x = c.centre.x ∷ from_y in
    let from_mass = c.mass ∷ from_x in
    let key = word_0 c.key from_mass is.key in
    let mass = word_more 0 c.key c.mass from_mass (word_0 c.mass from_x is.mass) in
    let x = word_more 8 c.key c.centre.x from_mass (word_more 0 c.mass c.centre.x from_x (word_0 c.centre.x from_y is.x)) in
    let y = word_more 16 c.key c.centre.y from_mass (word_more 8 c.mass c.centre.y from_x (word_more 0 c.centre.x c.centre.y from_y (word_0 c.centre.y from_z is.y))) in
    let z = word_more 24 c.key c.centre.z from_mass (word_more 16 c.mass c.centre.z from_x (word_more 8 c.centre.x c.centre.z from_y (word_more 0 c.centre.y c.centre.z from_z (word_0 c.centre.z from_first is.z)))) in
    let first = word_more 32 c.key c.first from_mass (word_more 24 c.mass c.first from_x (word_more 16 c.centre.x c.first from_y (word_more 8 c.centre.y c.first from_z (word_more 0 c.centre.z c.first from_first (word_0 c.first from_count is.first))))) in
    let count = word_more 40 c.key c.count from_mass (word_more 32 c.mass c.count from_x (word_more 24 c.centre.x c.count from_y (word_more 16 c.centre.y c.count from_z (word_more 8 c.centre.z c.count from_first (word_more 0 c.first c.count from_count (word_0 c.count from_kids is.count)))))) in
    let kids = word_more 48 c.key c.kids from_mass (word_more 40 c.mass c.kids from_x (word_more 32 c.centre.x c.kids from_y (word_more 24 c.centre.y c.kids from_z (word_more 16 c.centre.z c.kids from_first (word_more 8 c.first c.kids from_count (word_more 0 c.count c.kids from_kids (word_0 c.kids [] is.kids))))))) in
    λ i. record {
      key = key i;
      mass = mass i;
      centre = record { x = x i; y = y i; z = z i };
      first = first i;
      count = count i;
      kids = kids i;
    }

pub cell_room : (c : Cell) (bytes : List ℕ) → length bytes ≡ PAGE_SIZE → record_count bytes < CELLS_PER_PAGE → HasRoom CELL_SIZE (cell_bytes c) bytes
cell_room c bytes long room = record { fits = cell_size c; room = omega arith; count = omega arith }

-- ---- bodies

abbrev flag_of : Bool → ℕ
flag_of out = cond out 1 0

-- the row of words behind the flag
abbrev tail_of : Body → List ℕ
tail_of b = b.at.x ∷ b.at.y ∷ b.at.z ∷ cast_unsigned w64 b.v.x ∷ cast_unsigned w64 b.v.y ∷ cast_unsigned w64 b.v.z ∷ []

-- the words of a vector
abbrev pub words_of : V3 → List ℕ
words_of v = cast_unsigned w64 v.x ∷ cast_unsigned w64 v.y ∷ cast_unsigned w64 v.z ∷ []

-- A vector is its words in a row: byteorder's bytes of a number are std's.
pub vector_row : (v : V3) → vector_bytes v ≡ flat_map u64_bytes (words_of v)
unfolding u64_bytes
vector_row v = refl

-- a body is its fields in a row
pub body_row : (b : Body) → body_bytes b ≡ u64_bytes b.id ++ u32_bytes b.mass ++ u32_bytes (flag_of b.out) ++ flat_map u64_bytes (tail_of b)
unfolding body_bytes u64_bytes u32_bytes
body_row b = refl

-- the fields, grouped from the right
grouped : (b : Body) → body_bytes b ≡ u64_bytes b.id ++ (u32_bytes b.mass ++ (u32_bytes (flag_of b.out) ++ flat_map u64_bytes (tail_of b)))
grouped b =
    body_row b
    ∙ append_assoc (u64_bytes b.id ++ u32_bytes b.mass) (u32_bytes (flag_of b.out)) (flat_map u64_bytes (tail_of b))
    ∙ append_assoc (u64_bytes b.id) (u32_bytes b.mass) (u32_bytes (flag_of b.out) ++ flat_map u64_bytes (tail_of b))

pub body_size : (b : Body) → length (body_bytes b) ≡ KICK_AT
body_size b =
    omega (
      arith,
      ap length (body_row b),
      length-append (u64_bytes b.id ++ u32_bytes b.mass ++ u32_bytes (flag_of b.out)) (flat_map u64_bytes (tail_of b)),
      length-append (u64_bytes b.id ++ u32_bytes b.mass) (u32_bytes (flag_of b.out)),
      length-append (u64_bytes b.id) (u32_bytes b.mass),
      length-u64_bytes b.id,
      length-u32_bytes b.mass,
      length-u32_bytes (flag_of b.out),
      row_length (tail_of b),
    )

-- a word of the row behind the flag
tail_word : (b : Body) (k n : ℕ) → u64_at k (flat_map u64_bytes (tail_of b)) ≡ n → u64_at (16 + k) (body_bytes b) ≡ n
tail_word b k n is =
    let behind = u32_bytes (flag_of b.out) ++ flat_map u64_bytes (tail_of b) in
    let whole : 16 + k ≡ 8 + (4 + (4 + k)) = omega arith in
    ap (u64_at (16 + k)) (grouped b)
    ∙ ap (λ j. u64_at j (u64_bytes b.id ++ (u32_bytes b.mass ++ behind))) whole
    ∙ word_past (u64_bytes b.id) (u32_bytes b.mass ++ behind) 8 (4 + (4 + k)) (length-u64_bytes b.id)
    ∙ word_past (u32_bytes b.mass) behind 4 (4 + k) (length-u32_bytes b.mass)
    ∙ word_past (u32_bytes (flag_of b.out)) (flat_map u64_bytes (tail_of b)) 4 k (length-u32_bytes (flag_of b.out))
    ∙ is

flag_fits : (out : Bool) → flag_of out < 2 ^ 32
flag_fits true = omega arith
flag_fits false = omega arith

flag_le : (out : Bool) → flag_of out ≤ 1
flag_le true = omega arith
flag_le false = omega arith

flag_back : (out : Bool) → eqb (flag_of out) 1 ≡ out
flag_back true = refl
flag_back false = refl

unsigned_fits : (z : ℤ) → FitsSigned w64 z → cast_unsigned w64 z < 2 ^ 64
unsigned_fits (pos n) fits = omega (arith, fits.sfits)
unsigned_fits (negsuc n) fits = omega (arith, fits.sfits)

body_flag : (b : Body) → u32_at 12 (body_bytes b) ≡ flag_of b.out
body_flag b =
    let behind = u32_bytes (flag_of b.out) ++ flat_map u64_bytes (tail_of b) in
    ap (u32_at 12) (grouped b)
    ∙ short_past (u64_bytes b.id) (u32_bytes b.mass ++ behind) 8 4 (length-u64_bytes b.id)
    ∙ short_past (u32_bytes b.mass) behind 4 0 (length-u32_bytes b.mass)
    ∙ short_first (flag_of b.out) (flat_map u64_bytes (tail_of b)) (flag_fits b.out)

body_mass : (b : Body) → b.mass < 2 ^ 32 → u32_at 8 (body_bytes b) ≡ b.mass
body_mass b fits =
    let behind = u32_bytes (flag_of b.out) ++ flat_map u64_bytes (tail_of b) in
    ap (u32_at 8) (grouped b)
    ∙ short_past (u64_bytes b.id) (u32_bytes b.mass ++ behind) 8 0 (length-u64_bytes b.id)
    ∙ short_first b.mass behind fits

body_id : (b : Body) → b.id < 2 ^ 64 → u64_at 0 (body_bytes b) ≡ b.id
body_id b fits = ap (u64_at 0) (grouped b) ∙ word_first b.id (u32_bytes b.mass ++ (u32_bytes (flag_of b.out) ++ flat_map u64_bytes (tail_of b))) fits

pub body_round : (b : Body) → FitsBodyRecord b → body_of (body_bytes b) ≡ b
body_round b fits =
    let from_vz = cast_unsigned w64 b.v.z ∷ [] in
    let from_vy = cast_unsigned w64 b.v.y ∷ from_vz in
    let from_vx = cast_unsigned w64 b.v.x ∷ from_vy in
    let from_z = b.at.z ∷ from_vx in
    let from_y = b.at.y ∷ from_z in
    let ux = cast_unsigned w64 b.v.x in
    let uy = cast_unsigned w64 b.v.y in
    let uz = cast_unsigned w64 b.v.z in
    let id = body_id b fits.id in
    let mass = body_mass b fits.mass in
    let out : eqb (u32_at 12 (body_bytes b)) 1 ≡ b.out = ap (λ f. eqb f 1) (body_flag b) ∙ flag_back b.out in
    let x = tail_word b 0 b.at.x (word_0 b.at.x from_y fits.x) in
    let y = tail_word b 8 b.at.y (word_more 0 b.at.x b.at.y from_y (word_0 b.at.y from_z fits.y)) in
    let z = tail_word b 16 b.at.z (word_more 8 b.at.x b.at.z from_y (word_more 0 b.at.y b.at.z from_z (word_0 b.at.z from_vx fits.z))) in
    let wx = tail_word b 24 ux (word_more 16 b.at.x ux from_y (word_more 8 b.at.y ux from_z (word_more 0 b.at.z ux from_vx (word_0 ux from_vy (unsigned_fits b.v.x fits.velocity_x))))) in
    let wy = tail_word b 32 uy (word_more 24 b.at.x uy from_y (word_more 16 b.at.y uy from_z (word_more 8 b.at.z uy from_vx (word_more 0 ux uy from_vy (word_0 uy from_vz (unsigned_fits b.v.y fits.velocity_y)))))) in
    let wz = tail_word b 40 uz (word_more 32 b.at.x uz from_y (word_more 24 b.at.y uz from_z (word_more 16 b.at.z uz from_vx (word_more 8 ux uz from_vy (word_more 0 uy uz from_vz (word_0 uz [] (unsigned_fits b.v.z fits.velocity_z))))))) in
    let vx : i64_at 40 (body_bytes b) ≡ b.v.x = ap (cast_signed w64) wx ∙ to_z-of_z w64 b.v.x fits.velocity_x in
    let vy : i64_at 48 (body_bytes b) ≡ b.v.y = ap (cast_signed w64) wy ∙ to_z-of_z w64 b.v.y fits.velocity_y in
    let vz : i64_at 56 (body_bytes b) ≡ b.v.z = ap (cast_signed w64) wz ∙ to_z-of_z w64 b.v.z fits.velocity_z in
    λ i. record {
      id = id i;
      mass = mass i;
      out = out i;
      at = record { x = x i; y = y i; z = z i };
      v = record { x = vx i; y = vy i; z = vz i };
    }

-- ---- kicks

kick_size : (kick : V3) → length (vector_bytes kick) ≡ BODY_SIZE - KICK_AT
kick_size kick = ap length (vector_row kick) ∙ row_length (words_of kick)

pub record_size : (b : Body) (kick : V3) → length (record_bytes b kick) ≡ BODY_SIZE
record_size b kick = omega (arith, length-append (body_bytes b) (vector_bytes kick), body_size b, kick_size kick)

-- what stands behind a body's bytes leaves what they say
body_front : (b : Body) (rest : List ℕ) → body_of (body_bytes b ++ rest) ≡ body_of (body_bytes b)
body_front b rest =
    let long = body_size b in
    let id = word_front 0 (body_bytes b) rest (omega arith) in
    let mass = short_front 8 (body_bytes b) rest (omega arith) in
    let out = ap (λ f. eqb f 1) (short_front 12 (body_bytes b) rest (omega arith)) in
    let x = word_front 16 (body_bytes b) rest (omega arith) in
    let y = word_front 24 (body_bytes b) rest (omega arith) in
    let z = word_front 32 (body_bytes b) rest (omega arith) in
    let vx = ap (cast_signed w64) (word_front 40 (body_bytes b) rest (omega arith)) in
    let vy = ap (cast_signed w64) (word_front 48 (body_bytes b) rest (omega arith)) in
    let vz = ap (cast_signed w64) (word_front 56 (body_bytes b) rest (omega arith)) in
    λ i. record {
      id = id i;
      mass = mass i;
      out = out i;
      at = record { x = x i; y = y i; z = z i };
      v = record { x = vx i; y = vy i; z = vz i };
    }

pub record_body : (b : Body) (kick : V3) → FitsBodyRecord b → body_of (record_bytes b kick) ≡ b
record_body b kick fits = body_front b (vector_bytes kick) ∙ body_round b fits

-- an axis of a kick fits its word
axis_fits : (z : ℤ) → unsigned_abs z < kick_limit → FitsSigned w64 z
axis_fits z below = fits_signed_from_abs w64 z (omega arith)

-- a word of the kick, read as a number with a sign
kick_axis : (b : Body) (kick : V3) (k : ℕ) (z : ℤ) → unsigned_abs z < kick_limit → u64_at k (vector_bytes kick) ≡ cast_unsigned w64 z
    → i64_at (KICK_AT + k) (record_bytes b kick) ≡ z
kick_axis b kick k z below is =
    ap (cast_signed w64) (word_past (body_bytes b) (vector_bytes kick) KICK_AT k (body_size b) ∙ is)
    ∙ to_z-of_z w64 z (axis_fits z below)

pub record_kick : (b : Body) (kick : V3) → IsBelow kick_limit kick → kick_of (record_bytes b kick) ≡ kick
record_kick b kick below =
    let ux = cast_unsigned w64 kick.x in
    let uy = cast_unsigned w64 kick.y in
    let uz = cast_unsigned w64 kick.z in
    let wx = ap (u64_at 0) (vector_row kick) ∙ word_0 ux (uy ∷ uz ∷ []) (unsigned_fits kick.x (axis_fits kick.x below.x)) in
    let wy = ap (u64_at 8) (vector_row kick) ∙ word_more 0 ux uy (uy ∷ uz ∷ []) (word_0 uy (uz ∷ []) (unsigned_fits kick.y (axis_fits kick.y below.y))) in
    let wz = ap (u64_at 16) (vector_row kick) ∙ word_more 8 ux uz (uy ∷ uz ∷ []) (word_more 0 uy uz (uz ∷ []) (word_0 uz [] (unsigned_fits kick.z (axis_fits kick.z below.z)))) in
    let x = kick_axis b kick 0 kick.x below.x wx in
    let y = kick_axis b kick 8 kick.y below.y wy in
    let z = kick_axis b kick 16 kick.z below.z wz in
    λ i. record { x = x i; y = y i; z = z i }

pub record_form : (b : Body) (kick : V3) → IsValidBody b → FitsBodyRecord b → IsBelow kick_limit kick → IsBodyRecord (record_bytes b kick)
record_form b kick valid fits below =
    let long = body_size b in
    record {
      flag = omega (arith, short_front 12 (body_bytes b) (vector_bytes kick) (omega arith), body_flag b, flag_le b.out);
      body = subst IsValidBody (sym (record_body b kick fits)) valid;
      kick = subst (IsBelow kick_limit) (sym (record_kick b kick below)) below;
    }

pub record_room : (b : Body) (kick : V3) (bytes : List ℕ) → length bytes ≡ PAGE_SIZE → record_count bytes < BODIES_PER_PAGE → HasRoom BODY_SIZE (record_bytes b kick) bytes
record_room b kick bytes long room = record { fits = record_size b kick; room = omega arith; count = omega arith }

-- a body and its kick, written one behind the other, are the record
pub two_writes : (at : ℕ) (bytes : List ℕ) (b : Body) (kick : V3) → at + BODY_SIZE ≤ length bytes
    → written (at + KICK_AT) (vector_bytes kick) (written at (body_bytes b) bytes) ≡ written at (record_bytes b kick) bytes
two_writes at bytes b kick within =
    written_twice at (body_bytes b) (vector_bytes kick) bytes (at + KICK_AT) (omega (arith, body_size b)) (omega arith) (omega arith)

-- four fields, written one behind the other, are the record
pub four_writes : (at : ℕ) (bytes id mass flag row : List ℕ) → at + KICK_AT ≤ length bytes → length id ≡ 8 → length mass ≡ 4 → length flag ≡ 4
    → written (at + 16) row (written (at + 12) flag (written (at + 8) mass (written at id bytes))) ≡ written at (id ++ mass ++ flag ++ row) bytes
four_writes at bytes id mass flag row within long_id long_mass long_flag =
    let two : length (id ++ mass) ≡ 12 = omega (arith, length-append id mass) in
    let three : length (id ++ mass ++ flag) ≡ 16 = omega (arith, length-append (id ++ mass) flag) in
    ap (λ w. written (at + 16) row (written (at + 12) flag w)) (written_twice at id mass bytes (at + 8) (omega arith) (omega arith) (omega arith))
    ∙ ap (λ w. written (at + 16) row w) (written_twice at (id ++ mass) flag bytes (at + 12) (omega arith) (omega arith) (omega arith))
    ∙ written_twice at (id ++ mass ++ flag) row bytes (at + 16) (omega arith) (omega arith) (omega arith)
