-- The calls of `prepare` and of `start_gate`, one after the other.
use Rattle.std.proofs.Common.{◌≡◌, ◌≢◌, ℕ, zero, suc, ◌+◌, ◌*◌, ◌<◌, ◌≤◌, ◌⊎◌, inl, inr, IsTrue, List, [], ◌∷◌, ◌++◌, length, slice_index, replicate, refl, sym, ap, subst, ◌∙◌, arith, length-append}
use Rattle.std.proofs.lemmas.Bool.{cases_eq, cases_lt}
use Rattle.std.proofs.lemmas.List.{append-nil, get_or_append_left, get_or-append-add, length-replicate, drop_all}
use Rattle.nb_host.specs.Crashes.{ImagesFollow, AgreesOutside, Stays}
use Rattle.nb_host.specs.Image.{Image, FileBecomes, IsTorn, IsPartlyCut, IsOverwritten, overwritten}
use Rattle.nb_host.specs.Meaning.{HostModel, Leads, IsDurable, IsDurableFile}
use Rattle.nb_host.proofs.Callers.{goes_on, becomes_agrees, agrees_itself, overwritten-at_end, overwritten-within, overwritten_is_torn, stays_contents}
use Rattle.nb_journal.specs.Form.{Log, header, journal_bytes, IsLawful, IsFresh, IsCleanJournal}
use Rattle.nb_journal.specs.Images.{prepared, IsFreshNow, IsPrepared, StaysFresh, Starts}
use Rattle.nb_journal.specs.Offsets.{offset_of}
use Rattle.nb_journal.proofs.Texts.{length-header, length-journal_bytes}
use Rattle.nb_journal.proofs.Laid.{written_byte, written_whole, zeros_are}
use Rattle.nb_journal.proofs.Steps.{knowing, after_sync, agrees_then}

-- One file.

cut_fresh : {old new : List ℕ} → IsFresh old → IsPartlyCut 4096 old new → IsFresh new
cut_fresh {old = old} {new = new} fresh cut =
    elim (cases_lt 4096 (length new)) [
      | inl long ↦
          elim fresh [
            | inl short ↦ absurd (omega (arith, short, long, cut.no_longer))
            | inr shut ↦ inr (λ open'. shut (sym (cut.below 0 (omega arith) (omega arith)) ∙ open'))
          ]
      | inr short ↦ inl short
    ]

header_shut : (log : Log) → slice_index (header 0 log) 0 ≡ 0
unfolding header
header_shut log = refl

pub header_open : (log : Log) → slice_index (header 83 log) 0 ≡ 83
unfolding header
header_open log = refl

header_same : (log : Log) (i : ℕ) → 1 ≤ i → slice_index (header 0 log) i ≡ slice_index (header 83 log) i
unfolding header
header_same log zero some = absurd (omega arith)
header_same log (suc i) some = refl

-- a page that is written over a file no longer than it is all of the file
pub whole_page : (bytes file : List ℕ) → length bytes ≡ 4096 → length file ≤ 4096 → overwritten 0 bytes file ≡ bytes
whole_page bytes file long short =
    overwritten-within 0 bytes file (omega arith)
    ∙ ap (λ (w : List ℕ). [] ++ bytes ++ w) (drop_all (0 + length bytes) file (omega arith))
    ∙ append-nil bytes

-- what is laid down
pub laid_down : (log : Log) (first second third : List ℕ) (page : List ℕ) → page ≡ header 0 log → length first ≤ 4096
    → second ≡ overwritten 0 page first → third ≡ overwritten 4096 (replicate 4096 0) second → third ≡ prepared log
laid_down log first second third page page_is short one two =
    let long : length page ≡ 4096 = ap length page_is ∙ length-header 0 log in
    let is : second ≡ page = one ∙ whole_page page first long short in
    let end : 4096 ≡ length second = sym (ap length is ∙ long) in
    two ∙ ap (λ (at : ℕ). overwritten at (replicate 4096 0) second) end
    ∙ overwritten-at_end (replicate 4096 0) second
    ∙ ap (λ (w : List ℕ). w ++ replicate 4096 0) (is ∙ page_is)

length-prepared : (log : Log) → length (prepared log) ≡ 8192
length-prepared log =
    omega (arith, length-append (header 0 log) (replicate 4096 0), length-header 0 log, length-replicate {A = ℕ} 4096 0)

-- a byte of the first page of entries
prepared_zero : (log : Log) (i : ℕ) → i < 4096 → slice_index (prepared log) (4096 + i) ≡ 0
prepared_zero log i within =
    ap (λ (k : ℕ). slice_index (prepared log) (k + i)) (sym (length-header 0 log))
    ∙ get_or-append-add (header 0 log) (replicate 4096 0) i 0 ∙ zeros_are 4096 i within

prepared_header : (log : Log) (i : ℕ) → i < 4096 → slice_index (prepared log) i ≡ slice_index (header 0 log) i
prepared_header log i within =
    get_or_append_left (header 0 log) (replicate 4096 0) 0 i (omega (arith, length-header 0 log))

-- The gate of what was laid down, written perhaps in part: where it is open, the journal is started.
gate_started : (log : Log) {old new : List ℕ} → IsLawful log → length log.entries ≡ 0 → old ≡ prepared log → IsTorn 0 1 old new
    → slice_index new 0 ≡ 83 → IsCleanJournal log new
gate_started log {old = old} {new = new} lawful none laid torn open' =
    let long : length old ≡ 8192 = ap length laid ∙ length-prepared log in
    let as_laid : (i : ℕ) → 1 ≤ i → i < 8192 → slice_index new i ≡ slice_index (prepared log) i =
    λ i some within. torn.above i (omega arith) some ∙ ap (λ (w : List ℕ). slice_index w i) laid in
    let tail : (i : ℕ) → i < 128 → slice_index new (offset_of i) ≢ 71 =
    λ i within bad. absurd (omega (arith, bad, as_laid (offset_of i) (omega arith) (omega arith), prepared_zero log (32 * i) (omega arith))) in
    let short : length (journal_bytes log) ≡ 4096 = omega (arith, length-journal_bytes log) in
    let long_new : 8192 ≤ length new = omega (arith, torn.no_shorter) in
    record {
      journal = record {
        lawful = lawful;
        begins = record {
          whole = omega arith;
          each = λ i within.
              let low : i < 4096 = omega arith in
              let there : slice_index (journal_bytes log) i ≡ slice_index (header 83 log) i =
              get_or_append_left (header 83 log) _ 0 i (omega (arith, length-header 83 log)) in
              elim (cases_eq i 0) [
                | inl first ↦
                    ap (λ (k : ℕ). slice_index new k) first ∙ open' ∙ sym (header_open log)
                    ∙ ap (λ (k : ℕ). slice_index (header 83 log) k) (sym first) ∙ sym there
                | inr later ↦
                    as_laid i (omega arith) (omega arith) ∙ prepared_header log i low
                    ∙ header_same log i (omega arith) ∙ sym there
              ];
        };
        pages = omega arith;
        shut = subst (λ (k : ℕ). slice_index new (offset_of k) ≢ 71) (sym none) (tail 0 (omega arith));
      };
      clean = λ i low high. tail i (omega arith);
    }

pub torn_start : (log : Log) {old new : List ℕ} → IsLawful log → length log.entries ≡ 0 → old ≡ prepared log → IsTorn 0 1 old new
    → IsFresh new ⊎ IsCleanJournal log new
torn_start log {new = new} lawful none laid torn =
    elim (cases_eq (slice_index new 0) 83) [
      | inl open' ↦ inr (gate_started log lawful none laid torn open')
      | inr shut ↦ inl (inr shut)
    ]

pub written_start : (log : Log) {old new : List ℕ} → IsLawful log → length log.entries ≡ 0 → old ≡ prepared log
    → new ≡ overwritten 0 (83 ∷ []) old → IsCleanJournal log new
written_start log {old = old} {new = new} lawful none laid is =
    let torn : IsTorn 0 1 old new = subst (λ (w : List ℕ). IsTorn 0 1 old w) (sym is) (overwritten_is_torn 0 (83 ∷ []) old) in
    gate_started log lawful none laid torn
    (ap (λ (w : List ℕ). slice_index w 0) is ∙ written_byte 0 (83 ∷ []) old 0 (omega arith))

-- Stretches of `prepare`.

-- the cut
pub shorten_fresh : {H : Type 0} {m : HostModel H} {old new : H} → IsFreshNow m old
    → ImagesFollow m.crashes old new (FileBecomes 2 (IsPartlyCut 4096)) → ImagesFollow m.crashes old new StaysFresh
shorten_fresh {m = m} now run =
    knowing run (λ start image honest is step. record {
      others = becomes_agrees step;
      fresh = cut_fresh (subst IsFresh (sym (now.images start honest is)) (now.reads (m.tells_if_honest honest))) step.file;
    })

-- the header, over a file no longer than it
pub header_fresh : {H : Type 0} (m : HostModel H) {len : ℕ} {old middle new : H} → len ≡ 4096
    → ImagesFollow m.crashes old middle StaysFresh → IsDurableFile m 2 middle
    → (IsTrue m.tells → length ((m.contents middle).file 2) ≤ 4096)
    → ImagesFollow m.crashes middle new (FileBecomes 2 (IsTorn 0 len)) → ImagesFollow m.crashes old new StaysFresh
header_fresh m {middle = middle} len_is first durable short second =
    goes_on first second (λ start image step. step)
    (λ start between image honest one is two.
    let before : length (between.file 2) ≤ 4096 =
    omega (arith, short (m.tells_if_honest honest), ap length (durable between honest is)) in
    record {
      others = agrees_then one.others (becomes_agrees two);
      fresh = inl (omega (arith, two.file.no_longer));
    })

-- the page of entries, behind a shut gate
pub page_fresh : {H : Type 0} (m : HostModel H) {len : ℕ} {old middle new : H} → ImagesFollow m.crashes old middle StaysFresh
    → IsDurable m middle → (IsTrue m.tells → (slice_index ((m.contents middle).file 2) 0 ≡ 0) × (1 ≤ length ((m.contents middle).file 2)))
    → ImagesFollow m.crashes middle new (FileBecomes 2 (IsTorn 4096 len)) → ImagesFollow m.crashes old new StaysFresh
page_fresh m first durable shut second =
    after_sync m first durable second (λ start image step. step)
    (λ start image honest one two.
    let gate = shut (m.tells_if_honest honest) in
    record {
      others = agrees_then one.others (becomes_agrees two);
      fresh = inr (λ open'. absurd (omega (arith, gate.0, gate.1, two.file.below 0 (omega arith) (omega arith), open')));
    })

-- the gate of a header that was written is shut
pub header_is_shut : (log : Log) (page old new : List ℕ) → page ≡ header 0 log → new ≡ overwritten 0 page old
    → (slice_index new 0 ≡ 0) × (1 ≤ length new)
header_is_shut log page old new page_is is =
    let long : length page ≡ 4096 = ap length page_is ∙ length-header 0 log in (
      ap (λ (w : List ℕ). slice_index w 0) is ∙ written_byte 0 page old 0 (omega arith)
          ∙ ap (λ (w : List ℕ). slice_index w 0) page_is ∙ header_shut log,
      omega (arith, ap length is, written_whole 0 page old (omega arith)),
    )

-- Stretches of `start_gate`.

-- the sync
pub start_syncs : {H : Type 0} {m : HostModel H} {log : Log} {before : Image} {old new : H} → IsPrepared m log old
    → ImagesFollow m.crashes old new Stays → ImagesFollow m.crashes old new (Starts log before)
start_syncs ready run =
    knowing run (λ start image honest is same. record {
      others = subst (λ (i : Image). AgreesOutside (2 ∷ []) start i) (sym same) (agrees_itself (2 ∷ []) start);
      either = inl (subst (λ (i : Image). IsFresh (i.file 2)) (sym same) (ready.images start honest is));
    })

-- and the gate
pub start_opens : {H : Type 0} (m : HostModel H) (log : Log) {old middle new : H} → IsLawful log → length log.entries ≡ 0
    → IsPrepared m log old → Leads m Stays old middle → IsDurable m middle
    → ImagesFollow m.crashes middle new (FileBecomes 2 (IsTorn 0 1)) → ImagesFollow m.crashes old new (Starts log (m.contents old))
start_opens m log {old = old} {middle = middle} lawful none ready sync durable gate =
    after_sync m (start_syncs {before = m.contents old} ready sync.images) durable gate (λ start image step. step)
    (λ start image honest one two.
    let same = stays_contents sync in
    let laid : (m.contents middle).file 2 ≡ prepared log = ap (λ (i : Image). i.file 2) same ∙ ready.reads (m.tells_if_honest honest) in
    let before : AgreesOutside (2 ∷ []) (m.contents old) image =
    subst (λ (i : Image). AgreesOutside (2 ∷ []) i image) same (becomes_agrees two) in
    record {
      others = agrees_then one.others (becomes_agrees two);
      either = elim (torn_start log lawful none laid two.file) [
        | inl fresh ↦ inl fresh
        | inr started ↦ inr (record { journal = started; others = before })
      ];
    })

-- what `prepare` leaves
pub prepared_then : {H : Type 0} (m : HostModel H) (log : Log) {old new : H} → ImagesFollow m.crashes old new StaysFresh
    → (IsTrue m.tells → (m.contents new).file 2 ≡ prepared log) → IsPrepared m log new
prepared_then m log run laid = record {
  reads = laid;
  images = λ image honest is. ((run.follows honest).now image is).2.fresh;
}

-- The gate is shut once the header was written.
pub shut_after : {H : Type 0} (m : HostModel H) (log : Log) {page : List ℕ} {old new synced : H} → page ≡ header 0 log
    → FileBecomes 2 (IsOverwritten 0 page) (m.contents old) (m.contents new) → m.contents synced ≡ m.contents new
    → (slice_index ((m.contents synced).file 2) 0 ≡ 0) × (1 ≤ length ((m.contents synced).file 2))
shut_after m log {page = page} {old = old} {new = new} {synced = synced} page_is step same =
    header_is_shut log page ((m.contents old).file 2) ((m.contents synced).file 2) page_is
    (ap (λ (i : Image). i.file 2) same ∙ step.file)

-- What is laid down when both pages were written.
pub laid_after : {H : Type 0} (m : HostModel H) (log : Log) {page : List ℕ} {old first synced new : H} → page ≡ header 0 log
    → length ((m.contents old).file 2) ≤ 4096
    → FileBecomes 2 (IsOverwritten 0 page) (m.contents old) (m.contents first) → m.contents synced ≡ m.contents first
    → FileBecomes 2 (IsOverwritten 4096 (replicate 4096 0)) (m.contents synced) (m.contents new)
    → (m.contents new).file 2 ≡ prepared log
laid_after m log {page = page} {old = old} {first = first} {synced = synced} {new = new} page_is short one same two =
    laid_down log ((m.contents old).file 2) ((m.contents synced).file 2) ((m.contents new).file 2) page page_is short
    (ap (λ (i : Image). i.file 2) same ∙ one.file) two.file
