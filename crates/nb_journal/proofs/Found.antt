-- What was found when a file was read.
use Rattle.std.proofs.Common.{◌≡◌, ◌≢◌, ℕ, ◌+◌, ◌*◌, ◌%◌, ◌<◌, ◌≤◌, inl, inr, Err, List, length, take, drop, slice_index, refl, sym, ap, subst, ◌∙◌, arith}
use Rattle.std.proofs.lemmas.List.{get_or-take, get_or-drop, ext_get_or}
use Rattle.nb_journal.specs.declared.entry.Entry.{Entry}
use Rattle.nb_journal.specs.declared.error.JournalError.{JournalError}
use Rattle.nb_journal.specs.declared.error.JournalError.TheVariants.{Fault, NoMemory, Damaged}
use Rattle.nb_journal.specs.Counters.{Counters, counters_of, counters_after}
use Rattle.nb_journal.specs.Entries.{Progress, IsNextEntry}
use Rattle.nb_journal.specs.Finding.{IsFound, Finds}
use Rattle.nb_journal.specs.Form.{Log, IsStarted, IsDamagedAt, entry_bytes, with_entry, progress_of}
use Rattle.nb_journal.specs.Offsets.{offset_of, page_end}
use Rattle.nb_journal.specs.Reading.{HoldsPage, IsReadTo, FindsRest}
use Rattle.nb_journal.proofs.Gates.{begins_more, lawful_more, progress-with_entry}
use Rattle.nb_journal.proofs.Texts.{length-journal_bytes, length-with_entry, length-entry, text_behind}

-- the bytes of entry n, cut out of the page that holds it
pub slot_is : (n : ℕ) {file page : List ℕ} → HoldsPage n file page → (i : ℕ) → i < 32
    → slice_index (take 32 (drop (n % 128 * 32) page)) i ≡ slice_index file (offset_of n + i)
slot_is n {file = file} {page = page} holds i within =
    get_or-take 32 (drop (n % 128 * 32) page) i 0 within ∙ get_or-drop (n % 128 * 32) page i 0
    ∙ holds.bytes (n % 128 * 32 + i) (omega arith)
    ∙ ap (λ (k : ℕ). slice_index file k) (omega arith)

pub counters-with_entry : (log : Log) (entry : Entry) → counters_after entry (counters_of log) ≡ counters_of (with_entry log entry)
counters-with_entry log entry =
    ap (λ (k : ℕ). record (counters_after entry (counters_of log)) { entries = k }) (sym (length-with_entry log entry))
    ∙ ap (λ (p : Progress). record (counters_of (with_entry log entry)) { progress = p }) (sym (progress-with_entry log entry))

-- One more entry.
pub read_more : (n : ℕ) (entry : Entry) (file slot : List ℕ) (counters : Counters) → n ≡ counters.entries → IsReadTo file counters
    → offset_of (page_end n) ≤ length file → ((i : ℕ) → i < 32 → slice_index slot i ≡ slice_index file (offset_of n + i))
    → IsNextEntry counters.count counters.progress entry → slot ≡ entry_bytes entry → IsReadTo file (counters_after entry counters)
read_more n entry file slot counters is read page at next spelled =
    let log = read.log in
    let count : n ≡ length log.entries = is ∙ ap (λ (c : Counters). c.entries) read.answers in
    let next' : IsNextEntry log.count (progress_of log) entry =
    subst (λ (c : Counters). IsNextEntry c.count c.progress entry) read.answers next in
    record {
      log = with_entry log entry;
      lawful = lawful_more log entry read.lawful next';
      begins = begins_more log entry file read.begins (omega arith)
          (λ i within. ap (λ (k : ℕ). slice_index file (offset_of k + i)) (sym count) ∙ sym (at i within)
          ∙ ap (λ (w : List ℕ). slice_index w i) spelled);
      answers = ap (counters_after entry) read.answers ∙ counters-with_entry log entry;
    }

-- A gate that isn't open: the journal is found.
pub read_all : (n : ℕ) (file slot : List ℕ) (counters : Counters) → n ≡ counters.entries → IsReadTo file counters
    → offset_of (page_end n) ≤ length file → ((i : ℕ) → i < 32 → slice_index slot i ≡ slice_index file (offset_of n + i))
    → (slice_index slot 0 ≡ 71 → ⊥) → IsFound counters file
read_all n file slot counters is read page at shut =
    let log = read.log in
    let count : n ≡ length log.entries = is ∙ ap (λ (c : Counters). c.entries) read.answers in
    let here : offset_of n + 0 ≡ offset_of n = omega arith in
    record {
      log = log;
      journal = record {
        lawful = read.lawful;
        begins = read.begins;
        pages = subst (λ (k : ℕ). offset_of (page_end k) ≤ length file) count page;
        shut = subst (λ (k : ℕ). slice_index file (offset_of k) ≢ 71) count
            (λ open'. shut (at 0 (omega arith) ∙ ap (λ (k : ℕ). slice_index file k) here ∙ open'));
      };
      answers = read.answers;
    }

-- An open gate before what is no lawful next entry.
pub read_bad : (n : ℕ) (file slot : List ℕ) (counters : Counters) (offset : ℕ) → n ≡ counters.entries → IsStarted file
    → IsReadTo file counters → offset_of (page_end n) ≤ length file → length slot ≡ 32
    → ((i : ℕ) → i < 32 → slice_index slot i ≡ slice_index file (offset_of n + i)) → slice_index slot 0 ≡ 71
    → ((entry : Entry) → IsNextEntry counters.count counters.progress entry → slot ≡ entry_bytes entry → ⊥)
    → offset ≡ offset_of n → IsDamagedAt offset file
read_bad n file slot counters offset is started read page long at open' none here =
    let log = read.log in
    let count : n ≡ length log.entries = is ∙ ap (λ (c : Counters). c.entries) read.answers in
    let there : offset_of n ≡ offset_of n + 0 = omega arith in
    record {
      started = started;
      wrong = inr (
        log,
        record {
          lawful = read.lawful;
          begins = read.begins;
          here = here ∙ ap offset_of count;
          fault = inr (record {
            page = subst (λ (k : ℕ). offset_of (page_end k) ≤ length file) count page;
            gate = subst (λ (k : ℕ). slice_index file (offset_of k) ≡ 71) count
                (ap (λ (k : ℕ). slice_index file k) there ∙ sym (at 0 (omega arith)) ∙ open');
            bad = λ entry next begins.
                none entry (subst (λ (c : Counters). IsNextEntry c.count c.progress entry) (sym read.answers) next)
                (ext_get_or 0 slot (entry_bytes entry) (long ∙ sym (length-entry entry))
                (λ i within. at i (omega arith)
                ∙ begins.each (offset_of n + i)
                (omega (arith, length-journal_bytes (with_entry log entry), length-with_entry log entry))
                ∙ text_behind log entry n i count));
          });
        },
      );
    }

-- A page that isn't whole.
pub read_short : (n : ℕ) (file : List ℕ) (counters : Counters) (offset : ℕ) → n ≡ counters.entries → IsStarted file
    → IsReadTo file counters → offset ≡ offset_of n → n % 128 ≡ 0 → length file < offset + 4096 → IsDamagedAt offset file
read_short n file counters offset is started read here first short =
    let log = read.log in
    let count : n ≡ length log.entries = is ∙ ap (λ (c : Counters). c.entries) read.answers in
    record {
      started = started;
      wrong = inr (
        log,
        record {
          lawful = read.lawful;
          begins = read.begins;
          here = here ∙ ap offset_of count;
          fault = inl (record {
            first = subst (λ (k : ℕ). k % 128 ≡ 0) count first;
            short = subst (λ (k : ℕ). length file < offset_of k + 4096) count
                (subst (λ (p : ℕ). length file < p + 4096) here short);
          });
        },
      );
    }

-- From one entry to the next on its page.
pub holds_on : (n : ℕ) {file page : List ℕ} → (n + 1) % 128 ≢ 0 → HoldsPage n file page → HoldsPage (n + 1) file page
holds_on n {file = file} on holds = record {
  whole = omega (arith, holds.whole);
  bytes = λ i within. holds.bytes i within ∙ ap (λ (k : ℕ). slice_index file k) (omega arith);
}

pub within_on : (n : ℕ) {len : ℕ} → (n + 1) % 128 ≢ 0 → offset_of (page_end n) ≤ len → offset_of (page_end (n + 1)) ≤ len
within_on n on within = omega arith

-- What a refusal of `fill` finds.
pub short_found : (n : ℕ) (file : List ℕ) (counters : Counters) (len : ℕ) (error : JournalError) → n ≡ counters.entries → len ≡ length file
    → IsStarted file → IsReadTo file counters
    → ((offset : ℕ) → error ≡ Damaged offset → (offset ≡ offset_of n) × (n % 128 ≡ 0) × (len < offset + 4096))
    → FindsRest file (Err error)
short_found n file counters len Fault is long started read damaged = tt
short_found n file counters len NoMemory is long started read damaged = tt
short_found n file counters len (Damaged offset) is long started read damaged =
    let why = damaged offset refl in
    read_short n file counters offset is started read why.0 why.1 (omega (arith, why.2, long))

pub rest_refused : (file : List ℕ) (error : JournalError) → FindsRest file (Err error) → Finds file (Err error)
rest_refused file Fault rest = tt
rest_refused file NoMemory rest = tt
rest_refused file (Damaged offset) rest = rest
