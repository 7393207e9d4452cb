-- How the calls that write the journal lead from image to image.
use Rattle.std.proofs.Common.{◌≡◌, ℕ, ◌<◌, ◌≤◌, inl, inr, IsTrue, List, [], ◌∷◌, length, sym, subst, ◌∙◌, arith}
use Rattle.std.proofs.lemmas.Bool.Decides.{nat_tests}
use Rattle.nb_host.specs.Crashes.{CrashModel, ImagesFollow, AgreesOutside}
use Rattle.nb_host.specs.Image.{Image, FileBecomes, IsTorn}
use Rattle.nb_host.specs.Meaning.{HostModel, IsDurable}
use Rattle.nb_host.proofs.Callers.{goes_on, becomes_agrees, becomes_then}
use Rattle.nb_journal.specs.declared.entry.Entry.{Entry}
use Rattle.nb_journal.specs.Entries.{IsNextEntry}
use Rattle.nb_journal.specs.Form.{Log, IsCleanJournal, progress_of}
use Rattle.nb_journal.specs.Images.{syncs_of_cut, IsCleanNow, Appends}
use Rattle.nb_journal.specs.Laying.{Lays, IsEntryWritten}
use Rattle.nb_journal.specs.Offsets.{offset_of}
use Rattle.nb_journal.proofs.Gates.{kept_journal, torn_gate, keeps_both}

-- A step that may use what is known of the images at the start.
pub knowing : {H : Type 0} {model : CrashModel H} {old new : H} {S T : Image → Image → Type 0}
    → ImagesFollow model old new S
    → ((start image : Image) → IsTrue model.is_honest → model.may_leave old start → S start image → T start image)
    → ImagesFollow model old new T
knowing run more = record {
  follows = λ honest. let by = run.follows honest in record {
    later = by.later;
    now = λ image is. let first = by.now image is in (first.0, first.1, more first.0 image honest first.1 first.2);
    since = λ moment image before is.
        elim (by.since moment image before is) [
          | inl earlier ↦ inl earlier
          | inr left ↦
              let first = left.1 in
              inr (left.0, (first.0, first.1, more first.0 image honest first.1 first.2))
        ];
    keeps = by.keeps;
  };
}

-- How often what is cut off is synced.

pub long_syncs : (file : List ℕ) → 4096 < length file → 1 ≡ syncs_of_cut file
long_syncs file long = grind (arith, nat_tests)

pub short_syncs : (file : List ℕ) → length file ≤ 4096 → 0 ≡ syncs_of_cut file
short_syncs file short = grind (arith, nat_tests)

-- What is written after a sync: each image is one before it, or follows from what read at the sync.
pub after_sync : {H : Type 0} (m : HostModel H) {old middle new : H} {S T U : Image → Image → Type 0}
    → ImagesFollow m.crashes old middle S → IsDurable m middle → ImagesFollow m.crashes middle new T
    → ((start image : Image) → S start image → U start image)
    → ((start image : Image) → IsTrue m.crashes.is_honest → S start (m.contents middle) → T (m.contents middle) image → U start image)
    → ImagesFollow m.crashes old new U
after_sync m {S = S} {T = T} first durable second alone both =
    goes_on first second alone
    (λ start between image honest one is two.
    let same = durable between honest is in
    both start image honest (subst (λ (i : Image). S start i) same one) (subst (λ (i : Image). T i image) same two))

-- Files that agree with two images agree with each other.
pub agrees_then : {files : List ℕ} {start between image : Image} → AgreesOutside files start between
    → AgreesOutside files between image → AgreesOutside files start image
agrees_then before after = record {
  others = λ number spared. after.others number spared ∙ before.others number spared;
  said = after.said ∙ before.said;
}

pub lays_both : {n : ℕ} {start between image : Image} → Lays n start between → Lays n between image → Lays n start image
lays_both first second = becomes_then first second (λ _ _ _ one two. keeps_both one two)

-- Before the gate: the journal of the log, and clean.
pub record KeepsJournal (log : Log) (start image : Image) : Type 0 where
  pub others : AgreesOutside (2 ∷ []) start image
  pub journal : IsCleanJournal log (image.file 2)

-- in each image at the start the journal is what reads
ready_image : {H : Type 0} {m : HostModel H} {log : Log} {host : H} → IsCleanNow m log host → (image : Image)
    → IsTrue m.crashes.is_honest → m.crashes.may_leave host image → IsCleanJournal log (image.file 2)
ready_image {m = m} {log = log} ready image honest is =
    subst (λ (file : List ℕ). IsCleanJournal log file) (sym (ready.images image honest is)) (ready.reads (m.tells_if_honest honest))

-- laying an entry leaves the journal in every image
pub laying_keeps : {H : Type 0} {m : HostModel H} {log : Log} {old new : H} → IsCleanNow m log old
    → ImagesFollow m.crashes old new (Lays (length log.entries)) → ImagesFollow m.crashes old new (KeepsJournal log)
laying_keeps {log = log} ready run =
    knowing run (λ start image honest is lays. record {
      others = becomes_agrees lays;
      journal = kept_journal log lays.file (ready_image ready start honest is);
    })

pub laid_appends : {log : Log} {entry : Entry} {before start image : Image} → KeepsJournal log start image
    → Appends log entry before start image
laid_appends keeps = record { others = keeps.others; either = inl keeps.journal }

-- the gate of an entry that was laid
pub gate_appends : (log : Log) (entry : Entry) {before laid start image : Image} → IsNextEntry log.count (progress_of log) entry
    → AgreesOutside (2 ∷ []) before laid → IsEntryWritten (length log.entries) entry (laid.file 2) → KeepsJournal log start laid
    → FileBecomes 2 (IsTorn (offset_of (length log.entries)) 1) laid image → Appends log entry before start image
gate_appends log entry next before_laid is_laid keeps gate = record {
  others = agrees_then keeps.others (becomes_agrees gate);
  either = elim (torn_gate log entry keeps.journal is_laid next gate.file) [
    | inl old ↦ inl old
    | inr new ↦ inr (record {
      opened = record { journal = new.0; others = agrees_then before_laid (becomes_agrees gate) };
      page = new.1;
    })
  ];
}
