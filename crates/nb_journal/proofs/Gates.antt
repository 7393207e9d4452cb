-- What writes behind a gate, and of a gate, leave of a journal.
use Rattle.std.proofs.Common.{◌≡◌, ◌≢◌, ℕ, ◌+◌, ◌-◌, ◌%◌, ◌<◌, ◌≤◌, ◌⊎◌, inl, inr, List, [], ◌∷◌, ◌++◌, length, slice_index, refl, sym, ap, subst, ◌∙◌, arith}
use Rattle.std.proofs.lemmas.Bool.{cases_eq, cases_lt}
use Rattle.nb_host.specs.Image.{IsTorn}
use Rattle.nb_journal.specs.declared.entry.Entry.{Entry}
use Rattle.nb_journal.specs.Entries.{Progress, IsNextEntry, AreLawful, progress_after, after_all}
use Rattle.nb_journal.specs.Form.{Log, IsLawful, IsCleanJournal, entry_bytes, journal_bytes, with_entry, progress_of, initial_progress}
use Rattle.nb_journal.specs.Images.{HasBegunPage, IsEntryTorn}
use Rattle.nb_journal.specs.Laying.{KeepsCommitted, IsEntryWritten}
use Rattle.nb_journal.specs.Offsets.{offset_of, page_end, BeginsWith}
use Rattle.nb_journal.proofs.Texts.{length-journal_bytes, length-with_entry, text_before, text_behind, entry_gate_is}

pub keeps_itself : (n : ℕ) (file : List ℕ) → KeepsCommitted n file file
keeps_itself n file = record {
  no_shorter = omega arith;
  below = λ i _ _. refl;
  above = λ i _ _ _. refl;
  no_longer = omega arith;
  behind = λ i _ _. refl;
}

pub keeps_both : {n : ℕ} {old middle new : List ℕ} → KeepsCommitted n old middle → KeepsCommitted n middle new → KeepsCommitted n old new
keeps_both {n = n} first second = record {
  no_shorter = omega (arith, first.no_shorter, second.no_shorter);
  below = λ i within low. second.below i (omega (arith, first.no_shorter)) low ∙ first.below i within low;
  above = λ i within low high. second.above i (omega (arith, first.no_shorter)) low high ∙ first.above i within low high;
  no_longer = omega (arith, first.no_longer, second.no_longer);
  behind = λ i within past. second.behind i (omega (arith, first.no_shorter)) past ∙ first.behind i within past;
}

-- the writes of an entry behind its gate, and of the page behind it
pub torn_slot : (n : ℕ) {old new : List ℕ} → IsTorn (offset_of n + 1) 31 old new → KeepsCommitted n old new
torn_slot n torn = record {
  no_shorter = torn.no_shorter;
  below = λ i within low. torn.below i within (omega arith);
  above = λ i within low high. torn.above i within (omega arith);
  no_longer = omega (arith, torn.no_longer);
  behind = λ i within past. torn.above i within (omega arith);
}

pub torn_page : (n : ℕ) {old new : List ℕ} → n % 128 ≡ 127 → IsTorn (offset_of (n + 1)) 4096 old new → KeepsCommitted n old new
torn_page n last torn = record {
  no_shorter = torn.no_shorter;
  below = λ i within low. torn.below i within (omega arith);
  above = λ i within low high. absurd (omega arith);
  no_longer = omega (arith, torn.no_longer);
  behind = λ i within past. torn.above i within (omega arith);
}

-- an entry that is laid, and its gate, perhaps in part
pub torn_by_laying : (n : ℕ) {old new : List ℕ} → KeepsCommitted n old new → IsEntryTorn n old new
torn_by_laying n keeps = record {
  no_shorter = keeps.no_shorter;
  no_longer = keeps.no_longer;
  before = λ i within low. keeps.below i within (omega arith);
  page = keeps.above;
  behind = keeps.behind;
}

pub torn_by_gate : (n : ℕ) {old laid new : List ℕ} → KeepsCommitted n old laid → IsTorn (offset_of n) 1 laid new
    → IsEntryTorn n old new
torn_by_gate n keeps torn = record {
  no_shorter = omega (arith, keeps.no_shorter, torn.no_shorter);
  no_longer = omega (arith, keeps.no_longer, torn.no_longer);
  before = λ i within low. torn.below i (omega (arith, keeps.no_shorter)) low ∙ keeps.below i within (omega arith);
  page = λ i within low high. torn.above i (omega (arith, keeps.no_shorter)) (omega arith) ∙ keeps.above i within low high;
  behind = λ i within past. torn.above i (omega (arith, keeps.no_shorter)) (omega arith) ∙ keeps.behind i within past;
}

pub kept_begins : {n : ℕ} {old new bytes : List ℕ} → KeepsCommitted n old new → length bytes ≤ offset_of n → BeginsWith bytes old
    → BeginsWith bytes new
kept_begins keeps short begins = record {
  whole = omega (arith, begins.whole, keeps.no_shorter);
  each = λ i within. keeps.below i (omega (arith, begins.whole)) (omega arith) ∙ begins.each i within;
}

kept_tail : (n i : ℕ) {old new : List ℕ} → KeepsCommitted n old new → offset_of (page_end n) ≤ length old → n ≤ i → i < page_end n
    → slice_index old (offset_of i) ≢ 71 → slice_index new (offset_of i) ≢ 71
kept_tail n i {old = old} {new = new} keeps page low high shut =
    let same : slice_index new (offset_of i) ≡ slice_index old (offset_of i) =
    elim (cases_eq i n) [
      | inl here ↦ keeps.below (offset_of i) (omega arith) (omega arith)
      | inr apart ↦ keeps.above (offset_of i) (omega arith) (omega arith) (omega arith)
    ] in
    λ open'. shut (sym same ∙ open')

-- A write behind the gate, perhaps in part, leaves the journal.
pub kept_journal : (log : Log) {old new : List ℕ} → KeepsCommitted (length log.entries) old new → IsCleanJournal log old
    → IsCleanJournal log new
kept_journal log keeps clean =
    let n = length log.entries in
    let was = clean.journal in
    record {
      journal = record {
        lawful = was.lawful;
        begins = kept_begins keeps (omega (arith, length-journal_bytes log)) was.begins;
        pages = omega (arith, was.pages, keeps.no_shorter);
        shut = kept_tail n n keeps was.pages (omega arith) (omega arith) was.shut;
      };
      clean = λ i low high. kept_tail n i keeps was.pages low high (clean.clean i low high);
    }

-- The gate of the next entry, written perhaps in part.

torn_keeps : (n : ℕ) {old new bytes : List ℕ} → IsTorn (offset_of n) 1 old new → length bytes ≤ offset_of n → BeginsWith bytes old
    → BeginsWith bytes new
torn_keeps n torn short begins = record {
  whole = omega (arith, begins.whole, torn.no_shorter);
  each = λ i within. torn.below i (omega (arith, begins.whole)) (omega arith) ∙ begins.each i within;
}

torn_tail : (n i : ℕ) {old new : List ℕ} → IsTorn (offset_of n) 1 old new → offset_of (page_end n) ≤ length old → n < i → i < page_end n
    → slice_index old (offset_of i) ≢ 71 → slice_index new (offset_of i) ≢ 71
torn_tail n i torn page low high shut = λ open'. shut (sym (torn.above (offset_of i) (omega arith) (omega arith)) ∙ open')

pub gate_shut : (log : Log) {old new : List ℕ} → IsCleanJournal log old → IsTorn (offset_of (length log.entries)) 1 old new
    → slice_index new (offset_of (length log.entries)) ≢ 71 → IsCleanJournal log new
gate_shut log {new = new} clean torn shut =
    let n = length log.entries in
    let was = clean.journal in
    record {
      journal = record {
        lawful = was.lawful;
        begins = torn_keeps n torn (omega (arith, length-journal_bytes log)) was.begins;
        pages = omega (arith, was.pages, torn.no_shorter);
        shut = shut;
      };
      clean = λ i low high. elim (cases_eq i n) [
        | inl here ↦ subst (λ (k : ℕ). slice_index new (offset_of k) ≢ 71) (sym here) shut
        | inr apart ↦ torn_tail n i torn was.pages (omega arith) high (clean.clean i low high)
      ];
    }

-- The entries with a lawful next one are lawful.
after_all-push : (entries : List Entry) (s : Progress) (entry : Entry)
    → after_all (entries ++ entry ∷ []) s ≡ progress_after entry (after_all entries s)
after_all-push [] s entry = refl
after_all-push (e ∷ entries) s entry = after_all-push entries (progress_after e s) entry

lawful-push : (count : ℕ) (entries : List Entry) (s : Progress) (entry : Entry) → AreLawful count s entries
    → IsNextEntry count (after_all entries s) entry → AreLawful count s (entries ++ entry ∷ [])
lawful-push count [] s entry lawful next = (next, tt)
lawful-push count (e ∷ entries) s entry lawful next = (lawful.0, lawful-push count entries (progress_after e s) entry lawful.1 next)

pub lawful_more : (log : Log) (entry : Entry) → IsLawful log → IsNextEntry log.count (progress_of log) entry
    → IsLawful (with_entry log entry)
lawful_more log entry lawful next = record {
  version = lawful.version;
  params = lawful.params;
  count = lawful.count;
  time = lawful.time;
  gone = lawful.gone;
  entries = lawful-push log.count log.entries (initial_progress log) entry lawful.entries next;
}

pub progress-with_entry : (log : Log) (entry : Entry) → progress_of (with_entry log entry) ≡ progress_after entry (progress_of log)
progress-with_entry log entry = after_all-push log.entries (initial_progress log) entry

-- a file that begins with the text, and has the entry behind it, begins with the text of both
pub begins_more : (log : Log) (entry : Entry) (file : List ℕ) → BeginsWith (journal_bytes log) file
    → offset_of (length log.entries) + 32 ≤ length file
    → ((i : ℕ) → i < 32 → slice_index file (offset_of (length log.entries) + i) ≡ slice_index (entry_bytes entry) i)
    → BeginsWith (journal_bytes (with_entry log entry)) file
begins_more log entry file begins whole slot =
    let n = length log.entries in
    let long : length (journal_bytes (with_entry log entry)) ≡ offset_of n + 32 =
    omega (arith, length-journal_bytes (with_entry log entry), length-with_entry log entry) in
    record {
      whole = omega arith;
      each = λ i within. elim (cases_lt i (offset_of n)) [
        | inl low ↦
            begins.each i (omega (arith, length-journal_bytes log)) ∙ sym (text_before log entry i (omega (arith, length-journal_bytes log)))
        | inr high ↦
            let k = i - offset_of n in
            let at : i ≡ offset_of n + k = omega arith in
            ap (λ (p : ℕ). slice_index file p) at ∙ slot k (omega arith) ∙ sym (text_behind log entry n k refl)
            ∙ ap (λ (p : ℕ). slice_index (journal_bytes (with_entry log entry)) p) (sym at)
      ];
    }

-- the next page of the journal with one more entry
next_within : (n : ℕ) (file : List ℕ) → offset_of (page_end n) ≤ length file → HasBegunPage n file
    → offset_of (page_end (n + 1)) ≤ length file
next_within n file page new =
    elim (cases_eq (n % 128) 127) [
      | inl last ↦ let whole = (new last).whole in omega arith
      | inr within ↦ omega arith
    ]

torn_laid : (n : ℕ) (entry : Entry) {old new : List ℕ} → IsTorn (offset_of n) 1 old new → offset_of (page_end n) ≤ length old
    → IsEntryWritten n entry old → slice_index new (offset_of n) ≡ 71 → (i : ℕ) → i < 32
    → slice_index new (offset_of n + i) ≡ slice_index (entry_bytes entry) i
torn_laid n entry {new = new} torn page laid open' i within =
    elim (cases_eq i 0) [
      | inl first ↦
          ap (λ (k : ℕ). slice_index new k) (omega (arith, first)) ∙ open'
          ∙ sym (entry_gate_is entry) ∙ ap (λ (k : ℕ). slice_index (entry_bytes entry) k) (sym first)
      | inr behind ↦ torn.above (offset_of n + i) (omega arith) (omega arith) ∙ laid.slot i (omega arith) within
    ]

torn_new_page : (n : ℕ) {old new : List ℕ} → IsTorn (offset_of n) 1 old new → HasBegunPage n old → HasBegunPage n new
torn_new_page n torn page = λ last. let zeros = page last in record {
  whole = omega (arith, zeros.whole, torn.no_shorter);
  each = λ i within. torn.above (offset_of (n + 1) + i) (omega (arith, zeros.whole)) (omega arith) ∙ zeros.each i within;
}

-- no gate is open behind the new entry
opened_tail : (log : Log) {new : List ℕ} → HasBegunPage (length log.entries) new
    → ((i : ℕ) → length log.entries < i → i < page_end (length log.entries) → slice_index new (offset_of i) ≢ 71)
    → (i : ℕ) → length log.entries + 1 ≤ i → i < page_end (length log.entries + 1) → slice_index new (offset_of i) ≢ 71
opened_tail log {new = new} page tail i low high =
    let n = length log.entries in
    elim (cases_eq (n % 128) 127) [
      | inl last ↦
          let zeros = page last in
          let k = offset_of i - offset_of (n + 1) in
          let at : offset_of i ≡ offset_of (n + 1) + k = omega arith in
          let zero_there = ap (λ (p : ℕ). slice_index new p) at ∙ zeros.each k (omega arith) in
          λ open'. absurd (omega (arith, zero_there, open'))
      | inr within ↦ tail i (omega arith) (omega arith)
    ]

pub gate_open : (log : Log) (entry : Entry) {old new : List ℕ} → IsCleanJournal log old → IsEntryWritten (length log.entries) entry old
    → IsNextEntry log.count (progress_of log) entry → IsTorn (offset_of (length log.entries)) 1 old new
    → slice_index new (offset_of (length log.entries)) ≡ 71
    → IsCleanJournal (with_entry log entry) new × HasBegunPage (length log.entries) new
gate_open log entry {new = new} clean laid next torn open' =
    let n = length log.entries in
    let was = clean.journal in
    let page = torn_new_page n torn laid.page in
    let more = length-with_entry log entry in
    let tail = opened_tail log page
    (λ i low high. torn_tail n i torn was.pages low high (clean.clean i (omega arith) high)) in (
      record {
        journal = record {
          lawful = lawful_more log entry was.lawful next;
          begins = begins_more log entry new (torn_keeps n torn (omega (arith, length-journal_bytes log)) was.begins)
              (omega (arith, was.pages, torn.no_shorter)) (torn_laid n entry torn was.pages laid open');
          pages = subst (λ (k : ℕ). offset_of (page_end k) ≤ length new) (sym more)
              (next_within n new (omega (arith, was.pages, torn.no_shorter)) page);
          shut = subst (λ (k : ℕ). slice_index new (offset_of k) ≢ 71) (sym more) (tail (n + 1) (omega arith) (omega arith));
        };
        clean = λ i low high. tail i (omega (arith, more)) (subst (λ (k : ℕ). i < page_end k) more high);
      },
      page,
    )

-- A gate that is written, perhaps in part, leaves the journal with or without the new entry.
pub torn_gate : (log : Log) (entry : Entry) {old new : List ℕ} → IsCleanJournal log old → IsEntryWritten (length log.entries) entry old
    → IsNextEntry log.count (progress_of log) entry → IsTorn (offset_of (length log.entries)) 1 old new
    → IsCleanJournal log new ⊎ (IsCleanJournal (with_entry log entry) new × HasBegunPage (length log.entries) new)
torn_gate log entry {new = new} clean laid next torn =
    elim (cases_eq (slice_index new (offset_of (length log.entries))) 71) [
      | inl open' ↦ inr (gate_open log entry clean laid next torn open')
      | inr shut ↦ inl (gate_shut log clean torn shut)
    ]
