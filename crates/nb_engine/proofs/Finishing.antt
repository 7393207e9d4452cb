-- What a folder stands for while the snapshot of the last tick is finished, and then.
use Rattle.std.proofs.Common.{◌≡◌, ◌≢◌, ℕ, zero, suc, ◌≤◌, Bool, true, false, inl, inr, IsTrue, Result, Ok, Err, List, [], ◌∷◌, length, take, refl, sym, ap, subst, ◌∙◌, arith}
use Rattle.std.specs.Prelude.{◌⊎◌, Contains, OnOk}
use Rattle.std.proofs.lemmas.Bool.{cases_eq, false≢true}
use Rattle.std.proofs.lemmas.List.{append-nil}
use Rattle.nb_host.specs.declared.host.Channel.{Channel}
use Rattle.nb_host.specs.declared.host.Channel.TheVariants as channels
use Rattle.nb_host.specs.declared.page_name.PageName.{PageName}
use Rattle.nb_host.specs.Crashes.{Stays, AgreesOutside}
use Rattle.nb_host.specs.Image.{Image}
use Rattle.nb_host.specs.Meaning.{HostModel, Leads, IsDurable}
use Rattle.nb_host.proofs.Callers.{agrees_itself, leads_before}
use Rattle.nb_model.specs.declared.body.Body.{Body}
use Rattle.nb_model.specs.Leapfrog.{half_kick}
use Rattle.nb_model.specs.Legs.{directions}
use Rattle.nb_format.specs.Images.{ChangesWith, IsWritten}
use Rattle.nb_format.specs.Snapshot.{IsSnapshot, IsFinishedSnapshot, IsUnfinished}
use Rattle.nb_format.proofs.Snapshots.{snapshot_finished}
use Rattle.nb_journal.specs.Counters.{Counters, Answers}
use Rattle.nb_journal.specs.Form.{IsLawful, IsCleanJournal}
use Rattle.nb_journal.specs.Offsets.{journal_file}
use Rattle.nb_record.specs.Order.{by_key, sorted_by, HoldsBodies, HoldsKickedBodies}
use Rattle.nb_tick.specs.Slots.{slot_of, sorted_file}
use Rattle.nb_engine.specs.declared.refusal.Refusal.{Refusal}
use Rattle.nb_engine.specs.Due.{TellsDue}
use Rattle.nb_engine.specs.Files.{init_file, IsPagedFile}
use Rattle.nb_engine.specs.Frame.{EachImage}
use Rattle.nb_engine.specs.Histories.{state_at, time_at, IsDueAfter, History, run_of, ticks_of, IsHistory}
use Rattle.nb_engine.specs.Refusal.{NeedsNoCause}
use Rattle.nb_engine.specs.Represents.{snap_of, HasOpenGate, IsSnapshotOf, RepresentsRun, HasDueSnapshots}
use Rattle.nb_engine.specs.Snapshots.{HoldsByKeys, IsSnapshotPage, IsPageDamaged}
use Rattle.nb_engine.specs.Steps.{IsCheckpoint, IsStateDamaged, GoesOn, HasPlayed, HoldsDueSnapshots}
use Rattle.nb_engine.proofs.Played.{passed_apart}
use Rattle.nb_engine.proofs.EachImages.{from_durable, durable_stays}
use Rattle.nb_engine.proofs.Paths.{time-now}
use Rattle.nb_engine.proofs.Played.{goes_none}
use Rattle.nb_engine.proofs.SnapshotSteps.{SlotHolds}
use Rattle.nb_engine.proofs.Steps.{steps_valid, length-steps}

-- ---- a list of a run

-- a run keeps its bodies
length-state : (h : History) (k : ℕ) → length (state_at (run_of h) k) ≡ length h.bodies
length-state h k = length-steps h.log.params (take k (directions (run_of h).begin (run_of h).legs)) h.bodies

-- ---- what the journal in hand tells

tells_ticks : (h : History) {journal : Counters} → Answers h.log journal → journal.progress.ticks ≡ ticks_of h
tells_ticks h answers = ap (λ (c : Counters). c.progress.ticks) answers

tells_count : {h : History} {journal : Counters} → IsHistory h → Answers h.log journal → journal.count ≡ length h.bodies
tells_count is answers = ap (λ (c : Counters). c.count) answers ∙ is.count

tells_time : (h : History) {journal : Counters} → IsLawful h.log → Answers h.log journal
    → journal.progress.time ≡ time_at (run_of h) (ticks_of h)
tells_time h lawful answers = ap (λ (c : Counters). c.progress.time) answers ∙ time-now h lawful

-- the slot holds the list of the last tick
pub slot_by_keys : {H : Type 0} {m : HostModel H} (h : History) {journal : Counters} {host : H} → IsCheckpoint m h journal host
    → SlotHolds m journal host (state_at (run_of h) (ticks_of h))
slot_by_keys {m = m} h {journal = journal} {host = host} at =
    let run = run_of h in
    let list = state_at run (ticks_of h) in
    record {
      holds = subst (λ (n : ℕ). HoldsBodies ((m.contents host).file (slot_of n)) (sorted_by by_key list))
          (sym (tells_ticks h at.answers)) at.represents.slot;
      count_is = length-state h (ticks_of h) ∙ sym (tells_count at.is at.answers);
      rises = (steps_valid run.params (take (ticks_of h) (directions run.begin run.legs)) run.bodies at.is.run.bodies).ids;
    }

-- ---- where nothing was written

pub stays_at : {H : Type 0} {m : HostModel H} {h : History} {journal : Counters} {old new : H} → IsCheckpoint m h journal old
    → Leads m Stays old new → IsCheckpoint m h journal new
stays_at {m = m} {h = h} at leads = record {
  tells = at.tells;
  durable = durable_stays m at.durable leads;
  is = at.is;
  answers = at.answers;
  represents = subst (RepresentsRun h) (sym (leads.contents at.tells)) at.represents;
}

pub played_none : {H : Type 0} {m : HostModel H} {h : History} {journal : Counters} {old new : H} → IsCheckpoint m h journal old
    → Leads m Stays old new → HasPlayed m 0 h (m.contents old) journal new
played_none {m = m} {old = old} at leads =
    let same = leads.contents at.tells in
    record {
      at = stays_at at leads;
      kept = λ j within finished. ap (λ (i : Image). i.file (snap_of j)) same;
      others = λ j passed. ap (λ (i : Image). i.file (snap_of j)) same;
      said = ap (λ (i : Image). i.said channels.Out) same ∙ sym (append-nil ((m.contents old).said channels.Out));
      cells = λ some. absurd (some refl);
    }

-- at each moment
pub images_none : {H : Type 0} {m : HostModel H} {h : History} {journal : Counters} {old new : H} → IsCheckpoint m h journal old
    → Leads m Stays old new → EachImage m (GoesOn 0 h (m.contents old)) old new
images_none {m = m} {h = h} {old = old} at leads =
    let now = m.contents old in
    from_durable m Stays (GoesOn 0 h now) at.durable leads.images
    (λ honest image same. subst (GoesOn 0 h now) (sym same) (goes_none at.represents))

-- All that is due is finished where the snapshot of the last tick is, if that is due.
complete_if : (h : History) (image : Image) → RepresentsRun h image
    → (IsDueAfter (run_of h) (ticks_of h) → IsFinishedSnapshot (length h.bodies) (image.file (snap_of (ticks_of h))))
    → HasDueSnapshots (run_of h) (ticks_of h) image
complete_if h image represents last = λ j due within.
    elim (cases_eq j (ticks_of h)) [
      | inl same ↦
          subst (λ (n : ℕ). IsFinishedSnapshot (length h.bodies) (image.file (snap_of n))) (sym same)
          (last (subst (IsDueAfter (run_of h)) same due))
      | inr apart ↦ represents.finished j due (omega arith)
    ]

-- It isn't due.
pub complete_undue : {H : Type 0} {m : HostModel H} {h : History} {journal : Counters} {host : H} {due : Bool} → due ≡ false
    → TellsDue h due → IsCheckpoint m h journal host → HoldsDueSnapshots m h host
complete_undue {m = m} {h = h} {host = host} undue tells at =
    complete_if h (m.contents host) at.represents (λ is. absurd (false≢true (sym undue ∙ tells.1 is)))

-- the file of the last snapshot, by the numbers in hand
last_file : {h : History} {journal : Counters} {file count : ℕ} (image : Image) → IsHistory h → Answers h.log journal
    → file ≡ snap_of journal.progress.ticks → count ≡ journal.count → IsFinishedSnapshot count (image.file file)
    → IsFinishedSnapshot (length h.bodies) (image.file (snap_of (ticks_of h)))
last_file {h = h} {file = file} image is answers number many finished =
    subst (λ (n : ℕ). IsFinishedSnapshot (length h.bodies) (image.file n)) (number ∙ ap snap_of (tells_ticks h answers))
    (subst (λ (n : ℕ). IsFinishedSnapshot n (image.file file)) (many ∙ tells_count is answers) finished)

last_number : {h : History} {journal : Counters} {file count : ℕ} (image : Image) → IsHistory h → Answers h.log journal
    → file ≡ snap_of journal.progress.ticks → count ≡ journal.count
    → IsFinishedSnapshot (length h.bodies) (image.file (snap_of (ticks_of h))) → IsFinishedSnapshot count (image.file file)
last_number {h = h} {file = file} image is answers number many finished =
    subst (λ (n : ℕ). IsFinishedSnapshot n (image.file file)) (sym (many ∙ tells_count is answers))
    (subst (λ (n : ℕ). IsFinishedSnapshot (length h.bodies) (image.file n))
    (sym (number ∙ ap snap_of (tells_ticks h answers))) finished)

-- It is finished already, which was read.
pub complete_found : {H : Type 0} {m : HostModel H} {h : History} {journal : Counters} {old new : H} {file count : ℕ}
    → IsCheckpoint m h journal old → Leads m Stays old new → file ≡ snap_of journal.progress.ticks → count ≡ journal.count
    → (IsTrue m.tells → IsFinishedSnapshot count ((m.contents old).file file)) → HoldsDueSnapshots m h new
complete_found {m = m} {h = h} {old = old} at leads number many found =
    subst (HasDueSnapshots (run_of h) (ticks_of h)) (sym (leads.contents at.tells))
    (complete_if h (m.contents old) at.represents
    (λ due. last_file (m.contents old) at.is at.answers number many (found at.tells)))

-- ---- where it is written

-- a file but those of the snapshot
spares_two : (one other number : ℕ) → number ≢ one → number ≢ other → Contains (one ∷ other ∷ []) number → ⊥
spares_two one other number first second (zero, below, is) = first (sym is)
spares_two one other number first second (suc zero, below, is) = second (sym is)
spares_two one other number first second (suc (suc k), below, is) = absurd (omega arith)

module _ (h : History) (old image : Image) (agrees : AgreesOutside (snap_of (ticks_of h) ∷ sorted_file ∷ []) old image) where
  same_other : (number : ℕ) → number ≢ snap_of (ticks_of h) → number ≢ sorted_file → image.file number ≡ old.file number
  same_other number first second =
      agrees.others number (spares_two (snap_of (ticks_of h)) sorted_file number first second)

  same_snap : (j : ℕ) → j ≢ ticks_of h → image.file (snap_of j) ≡ old.file (snap_of j)
  same_snap j apart = same_other (snap_of j) (omega arith) (omega arith)

  -- the folder represents what it did, where the last snapshot is the run's, if it is opened
  pub represents_written : RepresentsRun h old
      → (HasOpenGate (image.file (snap_of (ticks_of h))) → IsSnapshotOf (run_of h) (ticks_of h) (image.file (snap_of (ticks_of h))))
      → RepresentsRun h image
  represents_written represents last =
      let run = run_of h in
      let k = ticks_of h in
      let list = sorted_by by_key (state_at run k) in
      let stands = represents in
      let slot = same_other (slot_of k) (omega arith) (omega arith) in
      record {
        journal = subst (IsCleanJournal h.log) (sym (same_other journal_file (omega arith) (omega arith))) stands.journal;
        start = subst (λ (file : List ℕ). IsSnapshot file run.bodies run.begin)
            (sym (same_other init_file (omega arith) (omega arith))) stands.start;
        slot = subst (λ (file : List ℕ). HoldsBodies file list) (sym slot) stands.slot;
        kicks = λ some.
            subst (λ (file : List ℕ). HoldsKickedBodies file (half_kick run.params (state_at run k)) list) (sym slot)
            (stands.kicks some);
        finished = λ j due below.
            subst (IsFinishedSnapshot (length run.bodies)) (sym (same_snap j (omega arith))) (stands.finished j due below);
        right = λ j some within opened.
            elim (cases_eq j k) [
              | inl same ↦
                  subst (λ (n : ℕ). IsSnapshotOf run n (image.file (snap_of n))) (sym same)
                  (last (subst (λ (n : ℕ). HasOpenGate (image.file (snap_of n))) same opened))
              | inr apart ↦
                  let snap = same_snap j apart in
                  subst (IsSnapshotOf run j) (sym snap) (stands.right j some within (subst HasOpenGate snap opened))
            ];
      }

  -- each snapshot that was finished is as it was, where the last one wasn't
  pub kept_written : (IsFinishedSnapshot (length h.bodies) (old.file (snap_of (ticks_of h))) → ⊥) → (j : ℕ) → j ≤ ticks_of h
      → IsFinishedSnapshot (length h.bodies) (old.file (snap_of j)) → image.file (snap_of j) ≡ old.file (snap_of j)
  kept_written unfinished j within finished =
      elim (cases_eq j (ticks_of h)) [
        | inl same ↦
            absurd (unfinished (subst (λ (n : ℕ). IsFinishedSnapshot (length h.bodies) (old.file (snap_of n))) same finished))
        | inr apart ↦ same_snap j apart
      ]

-- A due snapshot that isn't finished isn't opened either: an opened one would be the run's.
unopened : (h : History) (old : Image) → RepresentsRun h old → 1 ≤ ticks_of h
    → (IsFinishedSnapshot (length h.bodies) (old.file (snap_of (ticks_of h))) → ⊥)
    → IsUnfinished (old.file (snap_of (ticks_of h)))
unopened h old represents some unfinished = λ long open'.
    let k = ticks_of h in
    let file = old.file (snap_of k) in
    let is = (represents.right k some (omega arith) (record { more = long; open_gate = open' })).bytes in
    absurd (unfinished (subst (λ (n : ℕ). IsFinishedSnapshot n file) (length-state h k) (snapshot_finished is)))

-- at some moment of its writing
goes_writing : (h : History) (old image : Image) → RepresentsRun h old → IsDueAfter (run_of h) (ticks_of h)
    → (IsFinishedSnapshot (length h.bodies) (old.file (snap_of (ticks_of h))) → ⊥)
    → ChangesWith (sorted_file ∷ []) (snap_of (ticks_of h))
    (IsWritten (state_at (run_of h) (ticks_of h)) (time_at (run_of h) (ticks_of h))) old image
    → GoesOn 0 h old image
goes_writing h old image represents due unfinished step = record {
  done = 0;
  few = omega arith;
  represents = represents_written h old image step.kept represents (λ opened.
      elim (step.file (unopened h old represents due.some unfinished)) [
        | inl is ↦ record { due = due; bytes = is }
        | inr still ↦ absurd (still opened.more opened.open_gate)
      ]);
  kept = kept_written h old image step.kept unfinished;
  others = λ j passed. same_snap h old image step.kept j (elim passed [
    | inl next ↦ passed_apart (ticks_of h) 1 j next
    | inr last ↦ passed_apart (ticks_of h) 0 j last
  ]);
  said = ap (λ (s : Channel → List ℕ). s channels.Out) step.kept.said;
  first = λ opened. ap (λ (s : Channel → List ℕ). s channels.Out) step.kept.said ∙ sym (append-nil (old.said channels.Out));
}

-- a change of the snapshot's file, after calls that only read
leads_before_changes : {H : Type 0} {m : HostModel H} (file : ℕ) (P : List ℕ → List ℕ → Type 0) {old middle new : H}
    → ((bytes : List ℕ) → P bytes bytes) → Leads m Stays old middle
    → Leads m (ChangesWith (sorted_file ∷ []) file P) middle new → Leads m (ChangesWith (sorted_file ∷ []) file P) old new
leads_before_changes file P itself first second =
    leads_before (λ image. record { file = itself (image.file file); kept = agrees_itself (file ∷ sorted_file ∷ []) image })
    first second

turned : (file : ℕ) {start image : Image} → AgreesOutside (sorted_file ∷ file ∷ []) start image
    → AgreesOutside (file ∷ sorted_file ∷ []) start image
turned file agrees = record {
  others = λ number spared.
      agrees.others number (λ has. spares_two sorted_file file number
      (λ same. spared (1, omega arith, sym same)) (λ same. spared (0, omega arith, sym same)) has);
  said = agrees.said;
}

-- what the call leads by, with the numbers that the journal tells
pub images_written : {H : Type 0} {m : HostModel H} {h : History} {journal : Counters} {due : Bool} {old middle new : H}
    {file count : ℕ} → due ≡ true → TellsDue h due → IsCheckpoint m h journal old → Leads m Stays old middle
    → file ≡ snap_of journal.progress.ticks → count ≡ journal.count
    → (IsTrue m.tells → IsFinishedSnapshot count ((m.contents old).file file) → ⊥)
    → ((bodies : List Body) → (IsTrue m.tells → SlotHolds m journal middle bodies)
    → Leads m (ChangesWith (sorted_file ∷ []) (snap_of journal.progress.ticks) (IsWritten bodies journal.progress.time)) middle new)
    → EachImage m (GoesOn 0 h (m.contents old)) old new
images_written {m = m} {h = h} {journal = journal} {old = old} {middle = middle} {new = new} is tells at read number many unfinished write =
    let run = run_of h in
    let k = ticks_of h in
    let list = state_at run k in
    let now = m.contents old in
    let P = IsWritten list (time_at run k) in
    let due = tells.0 is in
    let written = write list (λ _. slot_by_keys h (stays_at at read)) in
    let here : Leads m (ChangesWith (sorted_file ∷ []) (snap_of k) P) middle new =
    subst (λ (t : ℕ). Leads m (ChangesWith (sorted_file ∷ []) (snap_of k) (IsWritten list t)) middle new)
    (tells_time h at.represents.journal.journal.lawful at.answers)
    (subst (λ (n : ℕ). Leads m (ChangesWith (sorted_file ∷ []) (snap_of n) (IsWritten list journal.progress.time)) middle new)
    (tells_ticks h at.answers) written) in
    let all = leads_before_changes (snap_of k) P (λ bytes before. inr before) read here in
    from_durable m (ChangesWith (sorted_file ∷ []) (snap_of k) P) (GoesOn 0 h now) at.durable all.images
    (λ honest image step. goes_writing h now image at.represents due
    (λ finished. unfinished at.tells (last_number now at.is at.answers number many finished)) step)

-- It is written.
pub played_written : {H : Type 0} {m : HostModel H} {h : History} {journal : Counters} {due : Bool} {old middle new : H}
    {file count : ℕ} → due ≡ true → TellsDue h due → IsCheckpoint m h journal old → Leads m Stays old middle
    → file ≡ snap_of journal.progress.ticks → count ≡ journal.count
    → (IsTrue m.tells → IsFinishedSnapshot count ((m.contents old).file file) → ⊥)
    → (IsTrue m.tells → (bodies : List Body) → SlotHolds m journal middle bodies
    → IsSnapshot ((m.contents new).file (snap_of journal.progress.ticks)) bodies journal.progress.time)
    → IsDurable m new → Leads m (AgreesOutside (sorted_file ∷ snap_of journal.progress.ticks ∷ [])) middle new
    → HasPlayed m 0 h (m.contents old) journal new × HoldsDueSnapshots m h new
played_written {m = m} {h = h} {journal = journal} {old = old} {middle = middle} {new = new} is tells at read number many unfinished write durable leads =
    let run = run_of h in
    let k = ticks_of h in
    let list = state_at run k in
    let before = m.contents old in
    let after = m.contents new in
    let due = tells.0 is in
    let lawful = at.represents.journal.journal.lawful in
    let snapshot : IsSnapshot (after.file (snap_of k)) list (time_at run k) =
    subst (IsSnapshot (after.file (snap_of k)) list) (tells_time h lawful at.answers)
    (subst (λ (n : ℕ). IsSnapshot (after.file (snap_of n)) list journal.progress.time) (tells_ticks h at.answers)
    (write at.tells list (slot_by_keys h (stays_at at read)))) in
    let agrees : AgreesOutside (snap_of k ∷ sorted_file ∷ []) before after =
    turned (snap_of k)
    (subst (λ (n : ℕ). AgreesOutside (sorted_file ∷ snap_of n ∷ []) before after) (tells_ticks h at.answers)
    (subst (λ (i : Image). AgreesOutside (sorted_file ∷ snap_of journal.progress.ticks ∷ []) i after)
    (read.contents at.tells) (leads.contents at.tells))) in
    let represents = represents_written h before after agrees at.represents (λ opened. record { due = due; bytes = snapshot }) in
    let whole : IsFinishedSnapshot (length h.bodies) (after.file (snap_of k)) =
    subst (λ (n : ℕ). IsFinishedSnapshot n (after.file (snap_of k))) (length-state h k) (snapshot_finished snapshot) in (
      record {
        at = record {
          tells = at.tells;
          durable = durable;
          is = at.is;
          answers = at.answers;
          represents = represents;
        };
        kept = kept_written h before after agrees
            (λ finished. unfinished at.tells (last_number before at.is at.answers number many finished));
        others = λ j passed. same_snap h before after agrees j (passed_apart k 0 j passed);
        said = ap (λ (s : Channel → List ℕ). s channels.Out) agrees.said ∙ sym (append-nil (before.said channels.Out));
        cells = λ some. absurd (some refl);
      },
      complete_if h after represents (λ _. whole),
    )

-- ---- why it can't be

-- the pages from which a snapshot is written are of files of pages
snapshot_paged : (k : ℕ) (page : PageName) → IsSnapshotPage k page → IsPagedFile page.file
snapshot_paged k page (inl slot) = (omega (arith, slot), omega (arith, slot))
snapshot_paged k page (inr sorted) = (omega (arith, sorted), omega (arith, sorted))

-- Where the slot holds no such list, the folder doesn't hold what its run needs to go on.
pub spoilt : {H : Type 0} {m : HostModel H} {journal : Counters} {old middle : H} → Leads m Stays old middle → (why : Refusal)
    → NeedsNoCause why ⊎ IsPageDamaged m (IsSnapshotPage journal.progress.ticks) (SlotHolds m journal middle) why
    → NeedsNoCause why ⊎ IsStateDamaged m journal old why
spoilt {m = m} {journal = journal} {middle = middle} read why cause =
    elim cause [
      | inl none ↦ inl none
      | inr broken ↦
          inr (record {
            page = broken.page;
            named = broken.named;
            file = snapshot_paged journal.progress.ticks broken.page broken.place;
            cause = λ tells bodies state.
                let keys : SlotHolds m journal middle bodies =
                subst (λ (i : Image). HoldsByKeys journal.count bodies (i.file (slot_of journal.progress.ticks)))
                (sym (read.contents tells)) (record { holds = state.slot; count_is = state.count; rises = state.valid.ids }) in
                broken.cause tells bodies keys;
          })
    ]

-- two facts of an answer that is Ok
pub on_ok_both : {T E : Type 0} (P Q : Type 0) (result : Result T E) → OnOk result P → OnOk result Q → OnOk result (P × Q)
on_ok_both P Q (Ok value) one two = (one, two)
on_ok_both P Q (Err error) one two = tt
