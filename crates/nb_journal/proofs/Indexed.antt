-- One entry of a journal, by its number.
use Rattle.std.proofs.Common.{◌≡◌, ℕ, zero, suc, ◌+◌, ◌-◌, ◌*◌, ◌^◌, ◌<◌, ◌≤◌, Some, List, [], ◌∷◌, length, take, get_or, slice_index, sym, ap, subst, ◌∙◌, arith, length-take}
use Rattle.std.specs.Prelude.{slice_get}
use Rattle.std.specs.Int.{abs_diff}
use Rattle.std.specs.List.{flat_map}
use Rattle.std.proofs.lemmas.Bool.Decides.{nat_tests}
use Rattle.std.proofs.lemmas.List.{ext_get_or, get_or-take, get_or-append_right}
use Rattle.std.proofs.lemmas.List.Concat.{get_or-flat_map}
use Rattle.std.proofs.lemmas.Option.{slice_get-get_or}
use Rattle.nb_host.specs.Image.{readable}
use Rattle.nb_host.proofs.Callers.{length-readable, slice_index-readable}
use Rattle.nb_journal.specs.declared.entry.Entry.{Entry}
use Rattle.nb_journal.specs.declared.entry.Entry.TheVariants.{Leg, Tick}
use Rattle.nb_journal.specs.Entries.{Progress, IsNextEntry, AreLawful, progress_after, toward}
use Rattle.nb_journal.specs.Form.{Log, IsLawful, IsJournal, header, journal_bytes, entry_bytes, initial_progress}
use Rattle.nb_journal.specs.Offsets.{offset_of, BeginsWith}
use Rattle.nb_journal.specs.Reading.{HasFields}
use Rattle.nb_journal.proofs.Texts.{length-header, length-entry, length-entries, length-journal_bytes}

-- its bytes in the file
pub entry_slot : (log : Log) (index : ℕ) (file : List ℕ) → BeginsWith (journal_bytes log) file → index < length log.entries → (j : ℕ) → j < 32
    → slice_index file (offset_of index + j) ≡ slice_index (entry_bytes (get_or log.entries index (Leg 0))) j
entry_slot log index file begins within j small =
    let entry = get_or log.entries index (Leg 0) in
    let flat = flat_map entry_bytes log.entries in
    let front : length (flat_map entry_bytes (take index log.entries)) ≡ 32 * index =
    omega (arith, length-entries (take index log.entries), length-take index log.entries) in
    let at : offset_of index + j - 4096 ≡ length (flat_map entry_bytes (take index log.entries)) + j = omega (arith, front) in
    begins.each (offset_of index + j) (omega (arith, length-journal_bytes log))
    ∙ get_or-append_right (header 83 log) flat 4096 (offset_of index + j) 0 (length-header 83 log) (omega arith)
    ∙ ap (λ (k : ℕ). slice_index flat k) at
    ∙ get_or-flat_map entry_bytes log.entries index j (Leg 0) 0 within (omega (arith, length-entry entry))

-- The numbers of a lawful entry fit its fields.

toward_near : (time target ticks : ℕ) → (time ≡ target → ⊥) → ticks + abs_diff time target ≤ 2 ^ 40
    → (ticks + 1) + abs_diff (toward time target) target ≤ 2 ^ 40
toward_near time target ticks apart near = grind (arith, nat_tests)

fields_next : (count : ℕ) (s : Progress) (entry : Entry) → count ≤ 2 ^ 24 → s.ticks ≤ 2 ^ 40 → IsNextEntry count s entry → HasFields entry
fields_next count s (Leg target) few ticks next = next.fits
fields_next count s (Tick number gone) few ticks next =
    (omega (arith, next.next), omega (arith, next.no_more))

near_next : (count : ℕ) (s : Progress) (entry : Entry) → s.ticks + abs_diff s.time s.target ≤ 2 ^ 40 → IsNextEntry count s entry
    → (progress_after entry s).ticks + abs_diff (progress_after entry s).time (progress_after entry s).target ≤ 2 ^ 40
near_next count s (Leg target) near next = next.limit
near_next count s (Tick number gone) near next =
    subst (λ (k : ℕ). k + abs_diff (toward s.time s.target) s.target ≤ 2 ^ 40) (sym next.next)
    (toward_near s.time s.target s.ticks next.leg near)

lawful_has : (count : ℕ) (s : Progress) (entries : List Entry) (index : ℕ) → count ≤ 2 ^ 24
    → s.ticks + abs_diff s.time s.target ≤ 2 ^ 40 → AreLawful count s entries → index < length entries
    → HasFields (get_or entries index (Leg 0))
lawful_has count s [] index few near lawful within = absurd (omega arith)
lawful_has count s (entry ∷ entries) zero few near lawful within = fields_next count s entry few (omega arith) lawful.0
lawful_has count s (entry ∷ entries) (suc index) few near lawful within =
    lawful_has count (progress_after entry s) entries index few (near_next count s entry near lawful.0) lawful.1 (omega arith)

pub entry_has : (log : Log) (index : ℕ) → IsLawful log → index < length log.entries → HasFields (get_or log.entries index (Leg 0))
entry_has log index lawful within =
    lawful_has log.count (initial_progress log) log.entries index lawful.count (omega arith) lawful.entries within

-- Reading it.

pub slot_whole : (log : Log) (index : ℕ) (file : List ℕ) {got : ℕ} → IsJournal log file → index < length log.entries
    → got ≡ length (readable (offset_of index) 32 file) → got ≡ 32
slot_whole log index file journal within got =
    omega (arith, got, length-readable (offset_of index) 32 file, journal.begins.whole, length-journal_bytes log)

pub slot_bytes : (log : Log) (index : ℕ) (file bytes : List ℕ) {got : ℕ} → IsJournal log file → index < length log.entries
    → length bytes ≡ 32 → got ≡ length (readable (offset_of index) 32 file) → take got bytes ≡ readable (offset_of index) 32 file
    → bytes ≡ entry_bytes (get_or log.entries index (Leg 0))
slot_bytes log index file bytes {got = got} journal within long whole read =
    let entry = get_or log.entries index (Leg 0) in
    let all : got ≡ 32 = slot_whole log index file journal within whole in
    ext_get_or 0 bytes (entry_bytes entry) (long ∙ sym (length-entry entry))
    (λ j small.
    sym (get_or-take got bytes j 0 (omega (arith, all, small, long)))
    ∙ ap (λ (w : List ℕ). slice_index w j) read
    ∙ slice_index-readable (offset_of index) 32 j file (omega arith)
    ∙ entry_slot log index file journal.begins within j (omega arith))

pub entry_got : (log : Log) (index : ℕ) {entry : Entry} → index < length log.entries → entry ≡ get_or log.entries index (Leg 0)
    → slice_get log.entries index ≡ Some entry
entry_got log index within is = slice_get-get_or log.entries index (Leg 0) within ∙ ap (λ (e : Entry). Some e) (sym is)
