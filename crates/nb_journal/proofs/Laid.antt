-- What is written of an entry, before its gate.
use Rattle.std.proofs.Common.{◌≡◌, ◌≢◌, ℕ, ◌+◌, ◌-◌, ◌%◌, ◌<◌, ◌≤◌, List, length, take, drop, slice_index, replicate, refl, sym, ap, subst, ◌∙◌, arith, length-drop}
use Rattle.std.proofs.lemmas.List.{get_or-drop, get_or-replicate, take_all}
use Rattle.std.proofs.lemmas.Bool.Decides.{nat_tests}
use Rattle.nb_host.specs.Image.{Image, FileBecomes, IsTorn, overwritten}
use Rattle.nb_host.proofs.Callers.{becomes_more, readable-overwritten, slice_index-readable, length-readable, overwritten_is_torn}
use Rattle.nb_journal.specs.declared.entry.Entry.{Entry}
use Rattle.nb_journal.specs.Form.{entry_bytes}
use Rattle.nb_journal.specs.Images.{page_begun}
use Rattle.nb_journal.specs.Laying.{Lays}
use Rattle.nb_journal.specs.Offsets.{offset_of, IsZeros}
use Rattle.nb_journal.proofs.Texts.{length-entry}
use Rattle.nb_journal.proofs.Gates.{torn_slot, torn_page}

-- what was written stands where it was written
pub written_byte : (at : ℕ) (bytes file : List ℕ) (j : ℕ) → j < length bytes
    → slice_index (overwritten at bytes file) (at + j) ≡ slice_index bytes j
written_byte at bytes file j within =
    sym (slice_index-readable at (length bytes) j (overwritten at bytes file) within)
    ∙ ap (λ (w : List ℕ). slice_index w j) (readable-overwritten at bytes file)

-- and the file reaches its end
pub written_whole : (at : ℕ) (bytes file : List ℕ) → 1 ≤ length bytes → at + length bytes ≤ length (overwritten at bytes file)
written_whole at bytes file some =
    omega (arith, length-readable at (length bytes) (overwritten at bytes file), ap length (readable-overwritten at bytes file))

pub slot_step : (n : ℕ) {at len : ℕ} {start image : Image} → at ≡ offset_of n + 1 → len ≡ 31
    → FileBecomes 2 (IsTorn at len) start image → Lays n start image
slot_step n {at = at} {len = len} at_is len_is step =
    becomes_more step (λ before after torn.
    torn_slot n (subst (λ (l : ℕ). IsTorn (offset_of n + 1) l before after) len_is
    (subst (λ (a : ℕ). IsTorn a len before after) at_is torn)))

pub page_step : (n : ℕ) {at len : ℕ} {start image : Image} → n % 128 ≡ 127 → at ≡ offset_of (n + 1) → len ≡ 4096
    → FileBecomes 2 (IsTorn at len) start image → Lays n start image
page_step n {at = at} {len = len} last at_is len_is step =
    becomes_more step (λ before after torn.
    torn_page n last (subst (λ (l : ℕ). IsTorn (offset_of (n + 1)) l before after) len_is
    (subst (λ (a : ℕ). IsTorn a len before after) at_is torn)))

pub rest_is : (entry : Entry) (bytes : List ℕ) → bytes ≡ entry_bytes entry → take 31 (drop 1 bytes) ≡ drop 1 (entry_bytes entry)
rest_is entry bytes is =
    ap (λ (w : List ℕ). take 31 (drop 1 w)) is
    ∙ take_all 31 (drop 1 (entry_bytes entry)) (omega (arith, length-drop 1 (entry_bytes entry), length-entry entry))

pub length-rest : (entry : Entry) (rest : List ℕ) → rest ≡ drop 1 (entry_bytes entry) → length rest ≡ 31
length-rest entry rest is = omega (arith, ap length is, length-drop 1 (entry_bytes entry), length-entry entry)

-- The entry stands in a file to which its bytes behind the gate were written.
pub slot_written : (n : ℕ) (entry : Entry) (at : ℕ) (rest old new : List ℕ) → at ≡ offset_of n + 1
    → rest ≡ drop 1 (entry_bytes entry) → new ≡ overwritten at rest old → (i : ℕ) → 1 ≤ i → i < 32
    → slice_index new (offset_of n + i) ≡ slice_index (entry_bytes entry) i
slot_written n entry at rest old new at_is rest_are is i some within =
    let j = i - 1 in
    let here : offset_of n + i ≡ at + j = omega arith in
    let behind : 1 + j ≡ i = omega arith in
    ap (λ (p : ℕ). slice_index new p) here ∙ ap (λ (w : List ℕ). slice_index w (at + j)) is
    ∙ written_byte at rest old j (omega (arith, length-rest entry rest rest_are))
    ∙ ap (λ (w : List ℕ). slice_index w j) rest_are
    ∙ get_or-drop 1 (entry_bytes entry) j 0
    ∙ ap (λ (p : ℕ). slice_index (entry_bytes entry) p) behind

pub zeros_are : (n i : ℕ) → i < n → slice_index (replicate n 0) i ≡ 0
zeros_are n i within = get_or-replicate n i 0 0 within

-- zeros that were written
pub zeros_written : (at len : ℕ) (zeros old new : List ℕ) → 1 ≤ len → length zeros ≡ len
    → ((i : ℕ) → i < len → slice_index zeros i ≡ 0) → new ≡ overwritten at zeros old → IsZeros at len new
zeros_written at len zeros old new some long each is = record {
  whole = omega (arith, ap length is, written_whole at zeros old (omega arith));
  each = λ i within.
      ap (λ (w : List ℕ). slice_index w (at + i)) is ∙ written_byte at zeros old i (omega arith) ∙ each i within;
}

-- the entry still stands when the page behind it was written
pub slot_stays : (n : ℕ) (entry : Entry) (at : ℕ) (bytes old new : List ℕ) → at ≡ offset_of (n + 1) → new ≡ overwritten at bytes old
    → offset_of (n + 1) ≤ length old
    → ((i : ℕ) → 1 ≤ i → i < 32 → slice_index old (offset_of n + i) ≡ slice_index (entry_bytes entry) i) → (i : ℕ) → 1 ≤ i → i < 32
    → slice_index new (offset_of n + i) ≡ slice_index (entry_bytes entry) i
slot_stays n entry at bytes old new at_is is whole slot i some within =
    ap (λ (w : List ℕ). slice_index w (offset_of n + i)) is
    ∙ (overwritten_is_torn at bytes old).below (offset_of n + i) (omega arith) (omega arith) ∙ slot i some within

-- the file with the page behind entry n, where that is the last of its page, and where it isn't
pub begun-last : (n : ℕ) (file : List ℕ) → n % 128 ≡ 127 → overwritten (offset_of (n + 1)) (replicate 4096 0) file ≡ page_begun n file
unfolding page_begun
begun-last n file last = rw last refl

pub begun-within : (n : ℕ) (file : List ℕ) → n % 128 ≢ 127 → file ≡ page_begun n file
unfolding page_begun
begun-within n file within = grind (arith, nat_tests)
