-- A header spells one count and one time.
use Rattle.std.proofs.Common.{◌≡◌, ℕ, ◌^◌, ◌<◌, List, [], ◌∷◌, ◌++◌, length, take, drop, slice_index, replicate, refl, sym, ap, subst, ◌∙◌, arith}
use Rattle.std.specs.Prelude.{codes}
use Rattle.std.specs.Int.{w64, to_le_bytes}
use Rattle.std.proofs.lemmas.List.{take_all, take_more}
use Rattle.std.proofs.Math.Seq.{take-add}
use Rattle.nb_format.specs.Snapshot.{snapshot_gate, header_bytes}
use Rattle.nb_format.proofs.Numbers.{same_u64}

-- the fields of a header, each at its offset
pub record HasHeader (w : List ℕ) (count time : ℕ) : Type 0 where
  pub opened : slice_index w 0 ≡ snapshot_gate
  pub named : take 7 (drop 1 w) ≡ codes "NBSNAP1"
  pub counted : take 8 (drop 8 w) ≡ to_le_bytes w64 count
  pub timed : take 8 (drop 16 w) ≡ to_le_bytes w64 time
  pub zeros : take 8 (drop 24 w) ≡ replicate 8 0

pub has_header : (count time : ℕ) → HasHeader (header_bytes count time) count time
unfolding header_bytes
has_header count time = record { opened = refl; named = refl; counted = refl; timed = refl; zeros = refl }

pub length-header_bytes : (count time : ℕ) → length (header_bytes count time) ≡ 32
unfolding header_bytes
length-header_bytes count time = refl

-- fields put one after the other are a header
pub header_put : (w : List ℕ) (count time : ℕ) → length w ≡ 32
    → take 32 w ≡ codes "FNBSNAP1" ++ to_le_bytes w64 count ++ to_le_bytes w64 time ++ replicate 8 0 → w ≡ header_bytes count time
unfolding header_bytes
header_put w count time long put = sym (take_all 32 w (omega arith)) ∙ put

-- bytes with the fields of a header are one
pub header_from_fields : (w : List ℕ) (count time : ℕ) → length w ≡ 32 → HasHeader w count time → w ≡ header_bytes count time
header_from_fields w count time long has =
    let opened : take 1 w ≡ snapshot_gate ∷ [] = take_more w 0 0 (omega arith) ∙ ap (λ (b : ℕ). b ∷ []) has.opened in
    header_put w count time long
    (take-add 24 8 w ∙ rw (take-add 16 8 w, take-add 8 8 w, take-add 1 7 w, opened, has.named, has.counted, has.timed, has.zeros) refl)

-- what a header spells has its fields
pub header_has : (w : List ℕ) (count time : ℕ) → w ≡ header_bytes count time → HasHeader w count time
header_has w count time is = subst (λ (x : List ℕ). HasHeader x count time) (sym is) (has_header count time)

-- the numbers of a header are those of the bytes
pub header_numbers : (w : List ℕ) (m n count time : ℕ) → m < 2 ^ 64 → n < 2 ^ 64 → count < 2 ^ 64 → time < 2 ^ 64
    → HasHeader w m n → HasHeader w count time → (m ≡ count) × (n ≡ time)
header_numbers w m n count time fits_m fits_n fits_count fits_time first second =
    (same_u64 m count fits_m fits_count (sym first.counted ∙ second.counted), same_u64 n time fits_n fits_time (sym first.timed ∙ second.timed))
