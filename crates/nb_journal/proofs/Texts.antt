-- The length of a journal's text, and the text with one more entry.
use Rattle.std.proofs.Common.{◌≡◌, ℕ, ◌+◌, ◌*◌, ◌<◌, List, [], ◌∷◌, ◌++◌, length, slice_index, refl, sym, ap, ◌∙◌, arith, append_assoc, length-append}
use Rattle.std.specs.List.{flat_map}
use Rattle.std.proofs.lemmas.List.{append-nil, length_push, get_or_append_left, get_or-append-add}
use Rattle.std.proofs.lemmas.List.Concat.{flat_map-append, flat_map-cons}
use Rattle.nb_journal.specs.declared.entry.Entry.{Entry}
use Rattle.nb_journal.specs.declared.entry.Entry.TheVariants.{Leg, Tick}
use Rattle.nb_journal.specs.Form.{Log, header, entry_bytes, journal_bytes, with_entry}
use Rattle.nb_journal.specs.Offsets.{offset_of}

pub length-header : (gate : ℕ) (log : Log) → length (header gate log) ≡ 4096
unfolding header
length-header gate log = refl

pub length-entry : (entry : Entry) → length (entry_bytes entry) ≡ 32
length-entry (Leg target) = refl
length-entry (Tick number gone) = refl

pub length-entries : (entries : List Entry) → length (flat_map entry_bytes entries) ≡ 32 * length entries
length-entries [] = refl
length-entries (entry ∷ entries) =
    let more = ap length (flat_map-cons entry_bytes entry entries) in
    omega (arith, more, length-append (entry_bytes entry) (flat_map entry_bytes entries), length-entry entry, length-entries entries)

pub length-journal_bytes : (log : Log) → length (journal_bytes log) ≡ offset_of (length log.entries)
length-journal_bytes log =
    omega (arith, length-append (header 83 log) (flat_map entry_bytes log.entries), length-header 83 log, length-entries log.entries)

pub journal_bytes-with_entry : (log : Log) (entry : Entry) → journal_bytes (with_entry log entry) ≡ journal_bytes log ++ entry_bytes entry
unfolding header
journal_bytes-with_entry log entry =
    ap (λ (w : List ℕ). header 83 log ++ w)
    (flat_map-append entry_bytes log.entries (entry ∷ []) ∙ ap (λ (w : List ℕ). flat_map entry_bytes log.entries ++ w) (append-nil (entry_bytes entry)))
    ∙ sym (append_assoc (header 83 log) (flat_map entry_bytes log.entries) (entry_bytes entry))

-- a byte of the text stays where it is
pub text_before : (log : Log) (entry : Entry) (i : ℕ) → i < length (journal_bytes log)
    → slice_index (journal_bytes (with_entry log entry)) i ≡ slice_index (journal_bytes log) i
text_before log entry i within =
    ap (λ (w : List ℕ). slice_index w i) (journal_bytes-with_entry log entry)
    ∙ get_or_append_left (journal_bytes log) (entry_bytes entry) 0 i within

-- and behind it stands the new entry
pub text_behind : (log : Log) (entry : Entry) (n i : ℕ) → n ≡ length log.entries
    → slice_index (journal_bytes (with_entry log entry)) (offset_of n + i) ≡ slice_index (entry_bytes entry) i
text_behind log entry n i is =
    let at : offset_of n + i ≡ length (journal_bytes log) + i = omega (arith, length-journal_bytes log) in
    ap (λ (k : ℕ). slice_index (journal_bytes (with_entry log entry)) k) at
    ∙ ap (λ (w : List ℕ). slice_index w (length (journal_bytes log) + i)) (journal_bytes-with_entry log entry)
    ∙ get_or-append-add (journal_bytes log) (entry_bytes entry) i 0

pub length-with_entry : (log : Log) (entry : Entry) → length ((with_entry log entry).entries) ≡ length log.entries + 1
length-with_entry log entry = length_push log.entries entry

-- the gate of an entry
pub entry_gate_is : (entry : Entry) → slice_index (entry_bytes entry) 0 ≡ 71
entry_gate_is (Leg target) = refl
entry_gate_is (Tick number gone) = refl
