-- Each file is fresh, a journal or damaged.
use Rattle.std.proofs.Common.{◌≡◌, ℕ, zero, suc, ◌+◌, ◌%◌, ◌^◌, ◌<◌, ◌≤◌, ◌⊎◌, inl, inr, List, [], ◌∷◌, ◌++◌, length, take, drop, get_or, slice_index, refl, sym, ap, subst, ◌∙◌, arith, length-take, length-drop}
use Rattle.std.specs.Prelude.{◌==◌, if◌then◌else◌}
use Rattle.std.specs.Int.{w64, to_le_bytes, from_le_bytes}
use Rattle.std.proofs.lemmas.Bool.{cases_eq, cases_lt}
use Rattle.std.proofs.lemmas.Nat.{from_le_bytes-to_le_bytes_8}
use Rattle.std.proofs.lemmas.List.{get_or-take, get_or-drop, get_or-append-add}
use Rattle.nb_model.specs.declared.edge.Edge.{Edge}
use Rattle.nb_model.specs.declared.edge.Edge.TheVariants.{Open, Wrap}
use Rattle.nb_journal.specs.declared.entry.Entry.{Entry}
use Rattle.nb_journal.specs.declared.entry.Entry.TheVariants.{Leg, Tick}
use Rattle.nb_journal.specs.declared.form.Heading.{Heading}
use Rattle.nb_journal.specs.Counters.{Counters, counters_of, counters_after, log_under, heading_of}
use Rattle.nb_journal.specs.Entries.{IsNextEntry}
use Rattle.nb_journal.specs.Form.{Log, IsLawful, IsFresh, IsJournal, IsStarted, IsDamagedAt, HasNoHeader, header, entry_bytes, edge_code, with_entry, progress_of}
use Rattle.nb_journal.specs.Offsets.{offset_of, page_end}
use Rattle.nb_journal.specs.Reading.{HasFields, IsReadTo}
use Rattle.nb_journal.proofs.Decided.{both, equal_lists, lawful_heading, next_one}
use Rattle.nb_journal.proofs.Found.{read_more, read_all, read_bad, read_short}
use Rattle.nb_journal.proofs.Gates.{lawful_more}
use Rattle.nb_journal.proofs.Headings.{HasNumbers, header_has, header_under, edge_small, page_header, page_begins}
use Rattle.nb_journal.proofs.Indexed.{entry_has}
use Rattle.nb_journal.proofs.Texts.{length-journal_bytes, length-with_entry}

-- the number of the eight bytes from this offset on
number_at : List ℕ → ℕ → ℕ
number_at bytes at = from_le_bytes w64 (take 8 (drop at bytes))

number_is : (bytes : List ℕ) (at n : ℕ) → n < 2 ^ 64 → take 8 (drop at bytes) ≡ to_le_bytes w64 n → number_at bytes at ≡ n
unfolding number_at
number_is bytes at n fits is = ap (from_le_bytes w64) is ∙ from_le_bytes-to_le_bytes_8 n fits

-- The header.

edge_of : ℕ → Edge
edge_of number = if number == 0 then Open else Wrap

version_of : ℕ → ℕ
version_of digit = if digit == 49 then 1 else 2

edge_is : (edge : Edge) (number : ℕ) → number ≡ edge_code edge → edge_of number ≡ edge
unfolding edge_of
edge_is Open number is = rw is refl
edge_is Wrap number is = rw is refl

version_is : (log : Log) (digit : ℕ) → IsLawful log → digit ≡ 48 + log.version → version_of digit ≡ log.version
unfolding version_of
version_is log digit lawful is =
    elim lawful.version [
      | inl one ↦
          let there : digit ≡ 49 = omega (arith, is, one.0) in
          rw there (sym one.0)
      | inr two ↦
          let there : digit ≡ 50 = omega (arith, is, two) in
          rw there (sym two)
    ]

heading_on : List ℕ → Heading
heading_on page = record {
  version = version_of (slice_index page 7);
  params = record {
    grav = number_at page 8;
    theta_num = number_at page 16;
    theta_den = number_at page 24;
    soft = number_at page 32;
    leaf = number_at page 40;
    every = number_at page 48;
    edge = edge_of (number_at page 80);
  };
  count = number_at page 56;
  time = number_at page 64;
  gone = number_at page 72;
}

heading_is : (log : Log) (page : List ℕ) → IsLawful log → page ≡ header 83 log → heading_on page ≡ heading_of log
unfolding heading_on
heading_is log page lawful is =
    let has : HasNumbers page log = subst (λ (p : List ℕ). HasNumbers p log) (sym is) (header_has log) in
    let range = lawful.params in
    let e0 = version_is log (slice_index page 7) lawful has.digit in
    let e1 = number_is page 8 log.params.grav (omega (arith, range.grav)) has.grav in
    let e2 = number_is page 16 log.params.theta_num (omega (arith, range.theta_num)) has.theta_num in
    let e3 = number_is page 24 log.params.theta_den (omega (arith, range.theta_den)) has.theta_den in
    let e4 = number_is page 32 log.params.soft (omega (arith, range.soft)) has.soft in
    let e5 = number_is page 40 log.params.leaf (omega (arith, range.leaf)) has.leaf in
    let e6 = number_is page 48 log.params.every (omega (arith, range.every)) has.every in
    let e7 = edge_is log.params.edge (number_at page 80) (number_is page 80 (edge_code log.params.edge) (edge_small log.params.edge) has.edge) in
    let e8 = number_is page 56 log.count (omega (arith, lawful.count)) has.count in
    let e9 = number_is page 64 log.begin_time lawful.time has.time in
    let e10 = number_is page 72 log.begin_gone (omega (arith, lawful.count, lawful.gone)) has.gone in
    rw (e0, e1, e2, e3, e4, e5, e6, e7, e8, e9, e10) refl

lawful_under : (log : Log) → IsLawful log → IsLawful (log_under (heading_of log))
lawful_under log lawful = record {
  version = lawful.version;
  params = lawful.params;
  count = lawful.count;
  time = lawful.time;
  gone = lawful.gone;
  entries = tt;
}

-- whether page 0 is a lawful log's header
abbrev HasHeader : Heading → List ℕ → Type 0
HasHeader heading page = IsLawful (log_under heading) × (page ≡ header 83 (log_under heading))

no_header : (file page : List ℕ) → length page ≡ 4096 → ((i : ℕ) → i < 4096 → slice_index page i ≡ slice_index file i)
    → (HasHeader (heading_on page) page → ⊥) → HasNoHeader file
no_header file page long same none log lawful begins =
    let is : page ≡ header 83 log = page_header log file page long same begins in
    let heading = heading_is log page lawful is in
    none (
    subst (λ (h : Heading). HasHeader h page) (sym heading) (lawful_under log lawful, is ∙ header_under log)
    )

-- An entry.

entry_on : List ℕ → Entry
entry_on slot = if slice_index slot 1 == 76 then Leg (number_at slot 8) else Tick (number_at slot 8) (number_at slot 16)

entry_is : (entry : Entry) → HasFields entry → entry_on (entry_bytes entry) ≡ entry
unfolding entry_on
entry_is (Leg target) fits = ap Leg (number_is (entry_bytes (Leg target)) 8 target fits refl)
entry_is (Tick number gone) fits =
    ap (λ (n : ℕ). Tick n (number_at (entry_bytes (Tick number gone)) 16))
    (number_is (entry_bytes (Tick number gone)) 8 number fits.0 refl)
    ∙ ap (Tick number) (number_is (entry_bytes (Tick number gone)) 16 gone fits.1 refl)

next_has : (log : Log) (entry : Entry) → IsLawful log → IsNextEntry log.count (progress_of log) entry → HasFields entry
next_has log entry lawful next =
    let n = length log.entries in
    let here : get_or (log.entries ++ entry ∷ []) (n + 0) (Leg 0) ≡ entry =
    get_or-append-add log.entries (entry ∷ []) 0 (Leg 0) in
    subst HasFields here
    (entry_has (with_entry log entry) (n + 0) (lawful_more log entry lawful next) (omega (arith, length-with_entry log entry)))

-- the bytes of the next entry
slot_at : ℕ → List ℕ → List ℕ
slot_at n file = take 32 (drop (offset_of n) file)

length-slot : (n : ℕ) (file : List ℕ) → offset_of n + 32 ≤ length file → length (slot_at n file) ≡ 32
unfolding slot_at
length-slot n file whole = omega (arith, length-take 32 (drop (offset_of n) file), length-drop (offset_of n) file)

slot_byte : (n : ℕ) (file : List ℕ) (i : ℕ) → i < 32 → slice_index (slot_at n file) i ≡ slice_index file (offset_of n + i)
unfolding slot_at
slot_byte n file i within =
    get_or-take 32 (drop (offset_of n) file) i 0 within ∙ get_or-drop (offset_of n) file i 0

-- What a started file is of which so many entries were read.
abbrev Rest : List ℕ → Type 0
Rest file = ((log : Log) × IsJournal log file) ⊎ ((offset : ℕ) × IsDamagedAt offset file)

-- What a file is follows of what was read of it, where no more than so many entries are left.
abbrev Goes : ℕ → List ℕ → Type 0
Goes left file = (counters : Counters) → IsReadTo file counters
    → (counters.entries % 128 ≡ 0) ⊎ (offset_of (page_end counters.entries) ≤ length file)
    → length file < offset_of (counters.entries + left) → Rest file

on_page : (left : ℕ) (file : List ℕ) (counters : Counters) → IsStarted file → Goes left file → IsReadTo file counters
    → offset_of (page_end counters.entries) ≤ length file
    → length file < offset_of (counters.entries + suc left) → Rest file
on_page left file counters started go read page few =
    let n = counters.entries in
    let slot = slot_at n file in
    let long : length slot ≡ 32 = length-slot n file (omega (arith, page)) in
    let at : (i : ℕ) → i < 32 → slice_index slot i ≡ slice_index file (offset_of n + i) = λ i within. slot_byte n file i within in
    elim (cases_eq (slice_index slot 0) 71) [
      | inr shut ↦ let found = read_all n file slot counters refl read page at shut in inl (found.log, found.journal)
      | inl open' ↦
          elim (both (next_one counters.count counters.progress (entry_on slot)) (equal_lists slot (entry_bytes (entry_on slot)))) [
            | inl next ↦
                go (counters_after (entry_on slot) counters)
                (read_more n (entry_on slot) file slot counters refl read page at next.0 next.1)
                (elim (cases_eq ((n + 1) % 128) 0) [ inl first ↦ inl first | inr within ↦ inr (omega (arith, within, page)) ])
                (omega (arith, few))
            | inr none ↦
                inr (
                  offset_of n,
                  read_bad n file slot counters (offset_of n) refl started read page long at open'
                      (λ entry next spelled.
                      let log = read.log in
                      let lawful_next : IsNextEntry log.count (progress_of log) entry =
                      subst (λ (c : Counters). IsNextEntry c.count c.progress entry) read.answers next in
                      let same : entry_on slot ≡ entry =
                      ap entry_on spelled ∙ entry_is entry (next_has log entry read.lawful lawful_next) in
                      none (
                        subst (λ (e : Entry). IsNextEntry counters.count counters.progress e) (sym same) next,
                        spelled ∙ ap entry_bytes (sym same),
                      ))
                      refl,
                )
          ]
    ]

rest : (left : ℕ) (file : List ℕ) → IsStarted file → Goes left file
rest zero file started counters read reach few =
    let log = read.log in
    let n_is : counters.entries ≡ length log.entries = ap (λ (c : Counters). c.entries) read.answers in
    absurd (omega (arith, few, n_is, read.begins.whole, length-journal_bytes log))
rest (suc left) file started counters read reach few =
    let n = counters.entries in
    let page = λ (whole : offset_of (page_end n) ≤ length file).
    on_page left file counters started (rest left file started) read whole few in
    elim reach [
      | inr whole ↦ page whole
      | inl first ↦
          elim (cases_lt (length file) (offset_of n + 4096)) [
            | inl short ↦ inr (offset_of n, read_short n file counters (offset_of n) refl started read refl first short)
            | inr whole ↦ page (omega (arith, first, whole))
          ]
    ]

page_byte : (file : List ℕ) (i : ℕ) → i < 4096 → slice_index (take 4096 file) i ≡ slice_index file i
page_byte file i within = get_or-take 4096 file i 0 within

started_is : (file : List ℕ) → IsStarted file → Rest file
started_is file started =
    let page = take 4096 file in
    let long : length page ≡ 4096 = omega (arith, length-take 4096 file, started.long) in
    let heading = heading_on page in
    elim (both (lawful_heading heading) (equal_lists page (header 83 (log_under heading)))) [
      | inl has ↦
          let read = page_begins heading file page started.long (λ i within. page_byte file i within) has.0 has.1 in
          rest (length file) file started (counters_of (log_under heading)) read (inl refl) (omega arith)
      | inr none ↦
          inr (
            0,
            record {
              started = started;
              wrong = inl (refl, no_header file page long (λ i within. page_byte file i within) none);
            },
          )
    ]

-- Each file is one of the three.
pub every_file : (file : List ℕ) → IsFresh file ⊎ (((log : Log) × IsJournal log file) ⊎ ((offset : ℕ) × IsDamagedAt offset file))
every_file file =
    elim (cases_lt 4096 (length file)) [
      | inr short ↦ inl (inl short)
      | inl long ↦
          elim (cases_eq (slice_index file 0) 83) [
            | inr shut ↦ inl (inr shut)
            | inl gate ↦ inr (started_is file (record { long = long; gate = gate }))
          ]
    ]
