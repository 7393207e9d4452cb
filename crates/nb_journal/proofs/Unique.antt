-- A file is one journal at most, or damaged at one offset.
use Rattle.std.proofs.Common.{◌≡◌, ℕ, zero, suc, ◌+◌, ◌%◌, ◌<◌, ◌≤◌, ◌⊎◌, inl, inr, List, [], ◌∷◌, length, take, get_or, slice_index, sym, ap, subst, ◌∙◌, arith, length-take}
use Rattle.std.proofs.lemmas.Bool.{cases_eq, cases_lt}
use Rattle.std.proofs.lemmas.List.{ext_get_or, get_or-take}
use Rattle.nb_journal.specs.declared.entry.Entry.{Entry}
use Rattle.nb_journal.specs.declared.entry.Entry.TheVariants.{Leg}
use Rattle.nb_journal.specs.declared.form.Heading.{Heading}
use Rattle.nb_journal.specs.Counters.{heading_of}
use Rattle.nb_journal.specs.Entries.{Progress, IsNextEntry, AreLawful, progress_after, after_all}
use Rattle.nb_journal.specs.Form.{Log, IsLawful, IsFresh, IsJournal, IsDamagedAt, StopsBehind, header, journal_bytes, entry_bytes, initial_progress, progress_of}
use Rattle.nb_journal.specs.Offsets.{offset_of, page_end, BeginsWith}
use Rattle.nb_journal.proofs.Gates.{begins_more}
use Rattle.nb_journal.proofs.Headings.{same_heading, text_header}
use Rattle.nb_journal.proofs.Indexed.{entry_slot, entry_has}
use Rattle.nb_journal.proofs.Spelled.{same_entry}
use Rattle.nb_journal.proofs.Starting.{header_open}
use Rattle.nb_journal.proofs.Texts.{length-header, length-journal_bytes, length-entry, entry_gate_is}

abbrev nth : Log → ℕ → Entry
nth log i = get_or log.entries i (Leg 0)

-- Two logs whose texts begin one file have one heading.
one_header : (a b : Log) (file : List ℕ) → BeginsWith (journal_bytes a) file → BeginsWith (journal_bytes b) file → header 83 a ≡ header 83 b
one_header a b file begins_a begins_b =
    ext_get_or 0 (header 83 a) (header 83 b) (length-header 83 a ∙ sym (length-header 83 b))
    (λ i within.
    let low : i < 4096 = omega (arith, length-header 83 a) in
    sym (text_header a i low) ∙ sym (begins_a.each i (omega (arith, length-journal_bytes a)))
    ∙ begins_b.each i (omega (arith, length-journal_bytes b)) ∙ text_header b i low)

one_heading : (a b : Log) (file : List ℕ) → IsLawful a → IsLawful b → BeginsWith (journal_bytes a) file → BeginsWith (journal_bytes b) file
    → heading_of b ≡ heading_of a
one_heading a b file lawful_a lawful_b begins_a begins_b = same_heading a b lawful_a lawful_b (one_header a b file begins_a begins_b)

-- They have the same entries, as far as both have any.
one_entry : (a b : Log) (file : List ℕ) → IsLawful a → IsLawful b → BeginsWith (journal_bytes a) file → BeginsWith (journal_bytes b) file
    → (i : ℕ) → i < length a.entries → i < length b.entries → nth a i ≡ nth b i
one_entry a b file lawful_a lawful_b begins_a begins_b i in_a in_b =
    same_entry (nth a i) (nth b i) (entry_has a i lawful_a in_a) (entry_has b i lawful_b in_b)
    (ext_get_or 0 (entry_bytes (nth a i)) (entry_bytes (nth b i)) (length-entry (nth a i) ∙ sym (length-entry (nth b i)))
    (λ j small.
    let low : j < 32 = omega (arith, length-entry (nth a i)) in
    sym (entry_slot a i file begins_a in_a j low) ∙ entry_slot b i file begins_b in_b j low))

front_of : (a b : Log) (file : List ℕ) → IsLawful a → IsLawful b → BeginsWith (journal_bytes a) file → BeginsWith (journal_bytes b) file
    → length a.entries ≤ length b.entries → take (length a.entries) b.entries ≡ a.entries
front_of a b file lawful_a lawful_b begins_a begins_b less =
    let n = length a.entries in
    let long : length (take n b.entries) ≡ n = omega (arith, length-take n b.entries) in
    ext_get_or (Leg 0) (take n b.entries) a.entries long
    (λ i within.
    let low : i < n = omega arith in
    get_or-take n b.entries i (Leg 0) low
    ∙ sym (one_entry a b file lawful_a lawful_b begins_a begins_b i low (omega arith)))

-- the gate of an entry of the text is open
gate_of : (log : Log) (file : List ℕ) (i : ℕ) → BeginsWith (journal_bytes log) file → i < length log.entries → slice_index file (offset_of i) ≡ 71
gate_of log file i begins within =
    let there : offset_of i ≡ offset_of i + 0 = omega arith in
    ap (λ (k : ℕ). slice_index file k) there ∙ entry_slot log i file begins within 0 (omega arith) ∙ entry_gate_is (nth log i)

record LogParts : Type 0 where
  heading : Heading
  entries : List Entry

log_of_parts : LogParts → Log
log_of_parts parts = record {
  version = parts.heading.version;
  params = parts.heading.params;
  count = parts.heading.count;
  begin_time = parts.heading.time;
  begin_gone = parts.heading.gone;
  entries = parts.entries;
}

same_log : (a b : Log) → heading_of a ≡ heading_of b → a.entries ≡ b.entries → a ≡ b
unfolding log_of_parts
same_log a b heading entries =
    ap (λ (h : Heading). log_of_parts (record { heading = h; entries = a.entries })) heading
    ∙ ap (λ (e : List Entry). log_of_parts (record { heading = heading_of b; entries = e })) entries

-- One file is one journal.
pub one_journal : (a b : Log) (file : List ℕ) → IsJournal a file → IsJournal b file → a ≡ b
one_journal a b file journal_a journal_b =
    elim (cases_lt (length a.entries) (length b.entries)) [
      | inl less ↦ absurd (journal_a.shut (gate_of b file (length a.entries) journal_b.begins less))
      | inr least ↦
          elim (cases_eq (length a.entries) (length b.entries)) [
            | inl same ↦
                same_log a b
                (one_heading b a file journal_b.lawful journal_a.lawful journal_b.begins journal_a.begins)
                (ext_get_or (Leg 0) a.entries b.entries same
                (λ i within. one_entry a b file journal_a.lawful journal_b.lawful journal_a.begins journal_b.begins i within (omega arith)))
            | inr apart ↦
                absurd (journal_b.shut (gate_of a file (length b.entries) journal_a.begins (omega arith)))
          ]
    ]

-- Each entry is a lawful next one after those before it.
lawful_at : (count : ℕ) (s : Progress) (entries : List Entry) (i : ℕ) → AreLawful count s entries → i < length entries
    → IsNextEntry count (after_all (take i entries) s) (get_or entries i (Leg 0))
lawful_at count s [] i lawful within = absurd (omega arith)
lawful_at count s (entry ∷ entries) zero lawful within = lawful.0
lawful_at count s (entry ∷ entries) (suc i) lawful within = lawful_at count (progress_after entry s) entries i lawful.1 (omega arith)

-- The entry that a longer text has there is a lawful next one of the shorter.
next_of : (a b : Log) (file : List ℕ) → IsLawful a → IsLawful b → BeginsWith (journal_bytes a) file → BeginsWith (journal_bytes b) file
    → length a.entries < length b.entries → IsNextEntry a.count (progress_of a) (nth b (length a.entries))
next_of a b file lawful_a lawful_b begins_a begins_b less =
    let n = length a.entries in
    let heading = one_heading a b file lawful_a lawful_b begins_a begins_b in
    let front = front_of a b file lawful_a lawful_b begins_a begins_b (omega arith) in
    let start : initial_progress b ≡ initial_progress a =
    ap (λ (h : Heading). record { ticks = 0; time = h.time; target = h.time; gone = h.gone }) heading in
    let next : IsNextEntry b.count (after_all (take n b.entries) (initial_progress b)) (nth b n) =
    lawful_at b.count (initial_progress b) b.entries n lawful_b.entries less in
    subst (λ (c : ℕ). IsNextEntry c (progress_of a) (nth b n)) (ap (λ (h : Heading). h.count) heading)
    (subst (λ (s : Progress). IsNextEntry b.count (after_all a.entries s) (nth b n)) start
    (subst (λ (e : List Entry). IsNextEntry b.count (after_all e (initial_progress b)) (nth b n)) front next))

-- A file doesn't stop behind a text where a longer one begins it, of which the pages are whole or that ends with a page.
stops_before : (a b : Log) (offset : ℕ) (file : List ℕ) → StopsBehind a offset file → IsLawful b → BeginsWith (journal_bytes b) file
    → ((offset_of (page_end (length b.entries)) ≤ length file) ⊎ (length b.entries % 128 ≡ 0))
    → length a.entries < length b.entries → ⊥
stops_before a b offset file stops lawful begins reach less =
    let n = length a.entries in
    let long : offset_of (length b.entries) ≤ length file = omega (arith, begins.whole, length-journal_bytes b) in
    elim stops.fault [
      | inl lacks ↦
          elim reach [
            | inl pages ↦ absurd (omega (arith, lacks.first, lacks.short, pages, less))
            | inr edge ↦ absurd (omega (arith, lacks.first, lacks.short, edge, less, long))
          ]
      | inr wrong ↦
          wrong.bad (nth b n) (next_of a b file stops.lawful lawful stops.begins begins less)
          (begins_more a (nth b n) file stops.begins (omega arith) (λ j small. entry_slot b n file begins less j small))
    ]

reach_of : (log : Log) (offset : ℕ) (file : List ℕ) → StopsBehind log offset file
    → (offset_of (page_end (length log.entries)) ≤ length file) ⊎ (length log.entries % 128 ≡ 0)
reach_of log offset file stops = elim stops.fault [ inl lacks ↦ inr lacks.first | inr wrong ↦ inl wrong.page ]

-- No journal is damaged.
pub not_both : (log : Log) (offset : ℕ) (file : List ℕ) → IsJournal log file → IsDamagedAt offset file → ⊥
not_both a offset file journal damaged =
    elim damaged.wrong [
      | inl none ↦ none.1 a journal.lawful journal.begins
      | inr behind ↦
          let b = behind.0 in
          let stops = behind.1 in
          elim (cases_lt (length a.entries) (length b.entries)) [
            | inl less ↦ journal.shut (gate_of b file (length a.entries) stops.begins less)
            | inr least ↦
                elim (cases_eq (length b.entries) (length a.entries)) [
                  | inl same ↦
                      elim stops.fault [
                        | inl lacks ↦ absurd (omega (arith, lacks.first, lacks.short, journal.pages, same))
                        | inr wrong ↦
                            journal.shut (subst (λ (k : ℕ). slice_index file (offset_of k) ≡ 71) same wrong.gate)
                      ]
                  | inr apart ↦ stops_before b a offset file stops journal.lawful journal.begins (inl journal.pages) (omega arith)
                ]
          ]
    ]

-- A damaged file has one offset.
pub one_damage : (p q : ℕ) (file : List ℕ) → IsDamagedAt p file → IsDamagedAt q file → p ≡ q
one_damage p q file first second =
    elim first.wrong [
      | inl none ↦
          elim second.wrong [
            | inl none' ↦ none.0 ∙ sym none'.0
            | inr behind ↦ absurd (none.1 behind.0 behind.1.lawful behind.1.begins)
          ]
      | inr behind ↦
          let a = behind.0 in
          let stops = behind.1 in
          elim second.wrong [
            | inl none ↦ absurd (none.1 a stops.lawful stops.begins)
            | inr behind' ↦
                let b = behind'.0 in
                let stops' = behind'.1 in
                elim (cases_lt (length a.entries) (length b.entries)) [
                  | inl less ↦
                      absurd (stops_before a b p file stops stops'.lawful stops'.begins (reach_of b q file stops') less)
                  | inr least ↦
                      elim (cases_eq (length b.entries) (length a.entries)) [
                        | inl same ↦ stops.here ∙ ap offset_of (sym same) ∙ sym stops'.here
                        | inr apart ↦
                            absurd (stops_before b a q file stops' stops.lawful stops.begins (reach_of a p file stops) (omega arith))
                      ]
                ]
          ]
    ]

-- A file without a started journal is neither.
pub fresh_alone : (log : Log) (offset : ℕ) (file : List ℕ) → IsFresh file → IsJournal log file ⊎ IsDamagedAt offset file → ⊥
fresh_alone log offset file fresh either =
    elim either [
      | inl journal ↦
          elim fresh [
            | inl short ↦ absurd (omega (arith, short, journal.pages))
            | inr shut ↦
                shut (journal.begins.each 0 (omega (arith, length-journal_bytes log)) ∙ text_header log 0 (omega arith) ∙ header_open log)
          ]
      | inr damaged ↦
          elim fresh [
            | inl short ↦ absurd (omega (arith, short, damaged.started.long))
            | inr shut ↦ shut damaged.started.gate
          ]
    ]
