-- What the bytes of an entry spell.
use Rattle.std.proofs.Common.{◌≡◌, ℕ, ◌^◌, ◌<◌, List, take, drop, slice_index, refl, sym, ap, ◌∙◌, arith}
use Rattle.std.specs.Int.{w64, to_le_bytes, from_le_bytes}
use Rattle.std.proofs.lemmas.Nat.{from_le_bytes-to_le_bytes_8}
use Rattle.nb_journal.specs.declared.entry.Entry.{Entry}
use Rattle.nb_journal.specs.declared.entry.Entry.TheVariants.{Leg, Tick}
use Rattle.nb_journal.specs.Form.{entry_bytes}
use Rattle.nb_journal.specs.Reading.{HasFields}

pub same_u64 : (m n : ℕ) → m < 2 ^ 64 → n < 2 ^ 64 → to_le_bytes w64 m ≡ to_le_bytes w64 n → m ≡ n
same_u64 m n fits_m fits_n same =
    sym (from_le_bytes-to_le_bytes_8 m fits_m) ∙ ap (from_le_bytes w64) same ∙ from_le_bytes-to_le_bytes_8 n fits_n

-- the fields of an entry, and its letter
first_of_leg : (target : ℕ) → take 8 (drop 8 (entry_bytes (Leg target))) ≡ to_le_bytes w64 target
first_of_leg target = refl

first_of_tick : (number gone : ℕ) → take 8 (drop 8 (entry_bytes (Tick number gone))) ≡ to_le_bytes w64 number
first_of_tick number gone = refl

second_of_tick : (number gone : ℕ) → take 8 (drop 16 (entry_bytes (Tick number gone))) ≡ to_le_bytes w64 gone
second_of_tick number gone = refl

letter_of_leg : (target : ℕ) → slice_index (entry_bytes (Leg target)) 1 ≡ 76
letter_of_leg target = refl

letter_of_tick : (number gone : ℕ) → slice_index (entry_bytes (Tick number gone)) 1 ≡ 84
letter_of_tick number gone = refl

pub parse_leg : (entry : Entry) (bytes : List ℕ) (first : ℕ) → first < 2 ^ 64 → take 8 (drop 8 bytes) ≡ to_le_bytes w64 first
    → slice_index bytes 1 ≡ 76 → HasFields entry → bytes ≡ entry_bytes entry → Leg first ≡ entry
parse_leg (Leg target) bytes first small read letter fits is =
    ap Leg (same_u64 first target small fits (sym read ∙ ap (λ (w : List ℕ). take 8 (drop 8 w)) is ∙ first_of_leg target))
parse_leg (Tick number gone) bytes first small read letter fits is =
    let other : slice_index bytes 1 ≡ 84 = ap (λ (w : List ℕ). slice_index w 1) is ∙ letter_of_tick number gone in
    absurd (omega (arith, letter, other))

pub parse_tick : (entry : Entry) (bytes : List ℕ) (first second : ℕ) → first < 2 ^ 64 → second < 2 ^ 64
    → take 8 (drop 8 bytes) ≡ to_le_bytes w64 first → take 8 (drop 16 bytes) ≡ to_le_bytes w64 second
    → (slice_index bytes 1 ≡ 76 → ⊥) → HasFields entry → bytes ≡ entry_bytes entry → Tick first second ≡ entry
parse_tick (Leg target) bytes first second small_first small_second read_first read_second letter fits is =
    absurd (letter (ap (λ (w : List ℕ). slice_index w 1) is ∙ letter_of_leg target))
parse_tick (Tick number gone) bytes first second small_first small_second read_first read_second letter fits is =
    ap (λ (n : ℕ). Tick n second) (same_u64 first number small_first fits.0
    (sym read_first ∙ ap (λ (w : List ℕ). take 8 (drop 8 w)) is ∙ first_of_tick number gone))
    ∙ ap (λ (n : ℕ). Tick number n) (same_u64 second gone small_second fits.1
    (sym read_second ∙ ap (λ (w : List ℕ). take 8 (drop 16 w)) is ∙ second_of_tick number gone))

-- One spelling is that of one entry.
pub same_entry : (a b : Entry) → HasFields a → HasFields b → entry_bytes a ≡ entry_bytes b → a ≡ b
same_entry (Leg target) b fits_a fits_b same =
    parse_leg b (entry_bytes (Leg target)) target fits_a (first_of_leg target) (letter_of_leg target) fits_b same
same_entry (Tick number gone) b fits_a fits_b same =
    parse_tick b (entry_bytes (Tick number gone)) number gone fits_a.0 fits_a.1 (first_of_tick number gone) (second_of_tick number gone)
    (λ leg. absurd (omega (arith, leg, letter_of_tick number gone))) fits_b same
