-- The first field of a header that isn't of the form.
use Rattle.std.proofs.Common.{◌≡◌, ◌≢◌, ℕ, ◌^◌, ◌<◌, ◌≤◌, Bool, true, false, not, List, length, take, drop, slice_index, refl, sym, ap, subst, ◌∙◌, arith}
use Rattle.std.specs.Prelude.{Option, Some, None, codes, if◌then◌else◌, IfSome, nat_lt as ltb, nat_eq as eqb}
use Rattle.std.specs.Int.{w64, to_le_bytes}
use Rattle.std.specs.Option.{option_or}
use Rattle.std.proofs.lemmas.Bool.{cond-true, cond-false, not_from_true, not_from_false, not-false, false_from_ne_true, lt-ltb, le-ltb, ltb-false, eq-eqb, eqb-true, ne_eqb}
use Rattle.std.proofs.lemmas.List.{get_or-take, length-take}
use Rattle.std.proofs.lemmas.List.Elements.{All-take}
use Rattle.std.proofs.lemmas.Slice.Eq.{bytes_eq-Decides}
use Rattle.nb_model.specs.Limits.{most_bodies}
use Rattle.nb_format.specs.declared.snap_error.SnapError.{SnapError}
use Rattle.nb_format.specs.declared.snap_error.SnapError.TheVariants as snap
use Rattle.nb_format.specs.Snapshot.{snapshot_gate, header_bytes, snapshot_length, IsHeader}
use Rattle.nb_format.specs.SnapshotRefusal.{u64_at, header_field_refusal, header_refusal, AreBytes, IsBySnapshot}
use Rattle.nb_format.proofs.HeaderBytes.{header_has, header_from_fields, length-header_bytes}
use Rattle.nb_format.proofs.Offsets.{u64_at-spells, u64_at-fits, u64_at-back, u64_at-take, part-take}

-- ---- one test of many

-- no refusal: the test fails, and there is none behind it
pub if_none : (b : Bool) (e : SnapError) (rest : Option SnapError) → (if b then Some e else rest) ≡ None → (b ≡ false) × (rest ≡ None)
if_none true e rest none = absurd (cc none)
if_none false e rest none = (refl, none)

pub option_or_none : (a b : Option SnapError) → option_or a b ≡ None → (a ≡ None) × (b ≡ None)
option_or_none None b none = (refl, none)
option_or_none (Some e) b none = absurd (cc none)

pub option_or_some : (a b : Option SnapError) (e : SnapError) → a ≡ Some e → option_or a b ≡ Some e
option_or_some a b e is = ap (λ (o : Option SnapError). option_or o b) is

pub option_or_second : (a b : Option SnapError) → a ≡ None → option_or a b ≡ b
option_or_second a b is = ap (λ (o : Option SnapError). option_or o b) is

-- what is refused, if anything is, is no refusal of the host's
pub record IsOfBytes (refusal : Option SnapError) : Type 0 where
  pub by : IfSome refusal IsBySnapshot

pub none_by : IsOfBytes None
none_by = record { by = tt }

pub if_by : (b : Bool) (e : SnapError) (rest : Option SnapError) → IsBySnapshot e → IsOfBytes rest → IsOfBytes (if b then Some e else rest)
if_by true e rest by others = record { by = by }
if_by false e rest by others = others

pub unless_by : (b : Bool) (e : SnapError) → IsBySnapshot e → IsOfBytes (if b then None else Some e)
unless_by true e by = none_by
unless_by false e by = record { by = by }

pub option_or_by : (a b : Option SnapError) → IsOfBytes a → IsOfBytes b → IsOfBytes (option_or a b)
option_or_by None b first second = second
option_or_by (Some e) b first second = first

-- ---- the fields

pub unfinished_is : (w : List ℕ) → slice_index w 0 ≢ snapshot_gate → header_field_refusal w ≡ Some snap.Unfinished
unfolding header_field_refusal
unfinished_is w shut = cond-true _ _ _ (not_from_false _ (ne_eqb _ _ shut))

pub magic_is : (w : List ℕ) → slice_index w 0 ≡ snapshot_gate → take 7 (drop 1 w) ≢ codes "NBSNAP1" → header_field_refusal w ≡ Some snap.Magic
unfolding header_field_refusal
magic_is w opened other =
    cond-false _ _ _ (not_from_true _ (eq-eqb _ _ opened))
    ∙ cond-true _ _ _ (not_from_false _ (false_from_ne_true _ (λ same. other ((bytes_eq-Decides _ _).0 same))))

-- the numbers are looked at behind the name
numbers_are : (w : List ℕ) → slice_index w 0 ≡ snapshot_gate → take 7 (drop 1 w) ≡ codes "NBSNAP1"
    → header_field_refusal w ≡ (if ltb most_bodies (u64_at 8 w) then Some snap.Count else if not (eqb (u64_at 24 w) 0) then Some snap.Zeros else None)
unfolding header_field_refusal
numbers_are w opened named =
    cond-false _ _ _ (not_from_true _ (eq-eqb _ _ opened)) ∙ cond-false _ _ _ (not_from_true _ ((bytes_eq-Decides _ _).1 named))

pub count_is : (w : List ℕ) → slice_index w 0 ≡ snapshot_gate → take 7 (drop 1 w) ≡ codes "NBSNAP1" → most_bodies < u64_at 8 w
    → header_field_refusal w ≡ Some snap.Count
count_is w opened named many = numbers_are w opened named ∙ cond-true _ _ _ (lt-ltb _ _ many)

pub zeros_is : (w : List ℕ) → slice_index w 0 ≡ snapshot_gate → take 7 (drop 1 w) ≡ codes "NBSNAP1" → u64_at 8 w ≤ most_bodies → u64_at 24 w ≢ 0
    → header_field_refusal w ≡ Some snap.Zeros
zeros_is w opened named few other =
    numbers_are w opened named ∙ cond-false _ _ _ (le-ltb _ _ few) ∙ cond-true _ _ _ (not_from_false _ (ne_eqb _ _ other))

-- the count that a header tells
header_count : (w : List ℕ) (count time : ℕ) → w ≡ header_bytes count time → count ≤ most_bodies → u64_at 8 w ≡ count
header_count w count time is few = u64_at-spells w 8 count (omega arith) (header_has w count time is).counted

-- nothing of a header is refused
header_fields_none : (w : List ℕ) (count time : ℕ) → w ≡ header_bytes count time → count ≤ most_bodies → header_field_refusal w ≡ None
header_fields_none w count time is few =
    let has = header_has w count time is in
    let counted : u64_at 8 w ≤ most_bodies = subst (λ (n : ℕ). n ≤ most_bodies) (sym (header_count w count time is few)) few in
    let zeros : u64_at 24 w ≡ 0 = u64_at-spells w 24 0 (omega arith) has.zeros in
    numbers_are w has.opened has.named ∙ cond-false _ _ _ (le-ltb _ _ counted) ∙ cond-false _ _ _ (not_from_true _ (eq-eqb _ _ zeros))

-- a header of which nothing is refused
header_fields_accepted : (w : List ℕ) → AreBytes w → length w ≡ 32 → header_field_refusal w ≡ None → IsHeader w (u64_at 8 w) (u64_at 16 w)
unfolding header_field_refusal
header_fields_accepted w all long none =
    let behind_gate = if_none _ _ _ none in
    let behind_name = if_none _ _ _ behind_gate.1 in
    let behind_count = if_none _ _ _ behind_name.1 in
    let behind_zeros = if_none _ _ _ behind_count.1 in
    let zero : u64_at 24 w ≡ 0 = eqb-true _ _ (not-false _ behind_zeros.0) in
    record {
      spelled = header_from_fields w (u64_at 8 w) (u64_at 16 w) long (record {
        opened = eqb-true _ _ (not-false _ behind_gate.0);
        named = (bytes_eq-Decides _ _).0 (not-false _ behind_name.0);
        counted = u64_at-back w 8 all (omega arith);
        timed = u64_at-back w 16 all (omega arith);
        zeros = u64_at-back w 24 all (omega arith) ∙ ap (to_le_bytes w64) zero;
      });
      few = ltb-false _ _ behind_count.0;
      fits = u64_at-fits w 16 all;
    }

-- ---- the file

-- the fields of a header are those of the file
header_fields-take : (bytes : List ℕ) → header_field_refusal (take 32 bytes) ≡ header_field_refusal bytes
unfolding header_field_refusal
header_fields-take bytes = rw (get_or-take 32 bytes 0 0 (omega arith), part-take bytes 1 7 32 (omega arith), u64_at-take bytes 8 32 (omega arith), u64_at-take bytes 24 32 (omega arith)) refl

pub short_is : (bytes : List ℕ) → length bytes < 32 → header_refusal bytes ≡ Some snap.Short
unfolding header_refusal
short_is bytes short = cond-true _ _ _ (lt-ltb _ _ short)

pub field_is : (bytes : List ℕ) (e : SnapError) → 32 ≤ length bytes → header_field_refusal (take 32 bytes) ≡ Some e → header_refusal bytes ≡ Some e
unfolding header_refusal
field_is bytes e long is = cond-false _ _ _ (le-ltb _ _ long) ∙ option_or_some _ _ e (sym (header_fields-take bytes) ∙ is)

-- the count that the header of a file tells
pub file_count : (bytes : List ℕ) (count time : ℕ) → take 32 bytes ≡ header_bytes count time → count ≤ most_bodies → u64_at 8 bytes ≡ count
file_count bytes count time is few = sym (u64_at-take bytes 8 32 (omega arith)) ∙ header_count _ count time is few

-- behind a header the length is looked at
length_behind : (bytes : List ℕ) (count time : ℕ) → take 32 bytes ≡ header_bytes count time → count ≤ most_bodies
    → header_refusal bytes ≡ (if eqb (length bytes) (snapshot_length count) then None else Some snap.Length)
unfolding header_refusal
length_behind bytes count time is few =
    let long : 32 ≤ length bytes = omega (arith, length-take 32 bytes, ap length is, length-header_bytes count time) in
    cond-false _ _ _ (le-ltb _ _ long) ∙ option_or_second _ _ (sym (header_fields-take bytes) ∙ header_fields_none _ count time is few)
    ∙ ap (λ (n : ℕ). if eqb (length bytes) (snapshot_length n) then None else Some snap.Length) (file_count bytes count time is few)

pub length_is : (bytes : List ℕ) (count time : ℕ) → IsHeader (take 32 bytes) count time → length bytes ≢ snapshot_length count
    → header_refusal bytes ≡ Some snap.Length
length_is bytes count time is other = length_behind bytes count time is.spelled is.few ∙ cond-false _ _ _ (ne_eqb _ _ other)

pub header_none : (bytes : List ℕ) (count time : ℕ) → take 32 bytes ≡ header_bytes count time → count ≤ most_bodies
    → length bytes ≡ snapshot_length count → header_refusal bytes ≡ None
header_none bytes count time is few whole = length_behind bytes count time is few ∙ cond-true _ _ _ (eq-eqb _ _ whole)

-- a file of whose header nothing is refused
pub record HasForm (bytes : List ℕ) : Type 0 where
  pub header : IsHeader (take 32 bytes) (u64_at 8 bytes) (u64_at 16 bytes)
  pub whole : length bytes ≡ snapshot_length (u64_at 8 bytes)

unless_none : (b : Bool) (e : SnapError) → (if b then None else Some e) ≡ None → b ≡ true
unless_none true e none = refl
unless_none false e none = absurd (cc none)

pub header_accepted : (bytes : List ℕ) → AreBytes bytes → header_refusal bytes ≡ None → HasForm bytes
unfolding header_refusal
header_accepted bytes all none =
    let behind_short = if_none _ _ _ none in
    let behind_fields = option_or_none _ _ behind_short.1 in
    let long : 32 ≤ length bytes = ltb-false _ _ behind_short.0 in
    let header = header_fields_accepted (take 32 bytes) (All-take (λ (b : ℕ). b < 2 ^ 8) 32 bytes all) (omega (arith, length-take 32 bytes))
    (header_fields-take bytes ∙ behind_fields.0) in
    record {
      header = subst (λ (n : ℕ). IsHeader (take 32 bytes) n (u64_at 16 bytes)) (u64_at-take bytes 8 32 (omega arith))
          (subst (λ (n : ℕ). IsHeader (take 32 bytes) (u64_at 8 (take 32 bytes)) n) (u64_at-take bytes 16 32 (omega arith)) header);
      whole = eqb-true _ _ (unless_none _ _ behind_fields.1);
    }

pub header_by : (bytes : List ℕ) → IsOfBytes (header_refusal bytes)
unfolding header_refusal header_field_refusal
header_by bytes = search (none_by, if_by, unless_by, option_or_by) depth 9
