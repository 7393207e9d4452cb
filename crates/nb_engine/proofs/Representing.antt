-- What a folder represents, through calls that spare what it names, and when a gate of its journal opens.
use Rattle.std.proofs.Common.{◌≡◌, ◌≢◌, ℕ, suc, ◌≤◌, inl, inr, [], ◌∷◌, length, refl, sym, ap, subst, arith}
use Rattle.std.proofs.lemmas.Bool.{cases_eq}
use Rattle.std.proofs.lemmas.List.Elements.{All-contains, All-from_recursion}
use Rattle.nb_host.specs.Crashes.{AgreesOutside}
use Rattle.nb_host.specs.Image.{Image}
use Rattle.nb_model.specs.Leapfrog.{half_kick}
use Rattle.nb_format.specs.Snapshot.{IsSnapshot, IsFinishedSnapshot}
use Rattle.nb_journal.specs.Entries.{IsNextLeg}
use Rattle.nb_journal.specs.Form.{Log, IsCleanJournal, progress_of}
use Rattle.nb_journal.specs.Offsets.{journal_file}
use Rattle.nb_record.specs.Order.{by_key, sorted_by, HoldsBodies, HoldsKickedBodies}
use Rattle.nb_engine.specs.Histories.{Run, state_at, time_at, run_length, History, run_of, ticks_of, IsHistory, ticked, legged}
use Rattle.nb_tick.specs.Slots.{slot_of}
use Rattle.nb_engine.specs.Files.{init_file}
use Rattle.nb_engine.specs.Represents.{snap_of, HasOpenGate, IsSnapshotOf, Represents, RepresentsRun}
use Rattle.nb_engine.specs.Gates.{CanTick}
use Rattle.nb_engine.proofs.LongerLogs.{run-ticked, ticks-ticked, history-ticked, run-legged, ticks-legged, leads-away, history-legged}
use Rattle.nb_engine.proofs.LongerRuns.{end_of, longer, state-longer, time-longer, due-longer, due-shorter}
use Rattle.nb_engine.proofs.Paths.{ticks-within}

-- ---- calls that spare what is named

-- another log of the same run may tell of it
pub spared : (log : Log) (run : Run) (k : ℕ) (old new : Image) {before : Log} → Represents before run k old
    → IsCleanJournal log (new.file journal_file) → new.file init_file ≡ old.file init_file
    → new.file (slot_of k) ≡ old.file (slot_of k) → ((j : ℕ) → 1 ≤ j → j ≤ k → new.file (snap_of j) ≡ old.file (snap_of j))
    → Represents log run k new
spared log run k old new stands journal init slot snaps =
    let list = sorted_by by_key (state_at run k) in
    record {
      journal = journal;
      start = subst (λ file. IsSnapshot file run.bodies run.begin) (sym init) stands.start;
      slot = subst (λ file. HoldsBodies file list) (sym slot) stands.slot;
      kicks = λ some. subst (λ file. HoldsKickedBodies file (half_kick run.params (state_at run k)) list) (sym slot)
          (stands.kicks some);
      finished = λ j due below.
          subst (IsFinishedSnapshot (length run.bodies)) (sym (snaps j due.some (omega arith))) (stands.finished j due below);
      right = λ j some within opened.
          let same = snaps j some within in
          subst (IsSnapshotOf run j) (sym same) (stands.right j some within (subst HasOpenGate same opened));
    }

pub represents_kept : (h : History) (old new : Image) → RepresentsRun h old → new.file journal_file ≡ old.file journal_file
    → new.file init_file ≡ old.file init_file → new.file (slot_of (ticks_of h)) ≡ old.file (slot_of (ticks_of h))
    → ((j : ℕ) → 1 ≤ j → j ≤ ticks_of h → new.file (snap_of j) ≡ old.file (snap_of j)) → RepresentsRun h new
represents_kept h old new stands journal init slot snaps =
    spared h.log (run_of h) (ticks_of h) old new stands (subst (IsCleanJournal h.log) (sym journal) stands.journal) init slot snaps

-- a call that changes the journal's file alone
other_file : (before new : Image) → AgreesOutside (journal_file ∷ []) before new → (number : ℕ) → journal_file ≢ number
    → new.file number ≡ before.file number
other_file before new agrees number apart =
    agrees.others number
    (λ among. All-contains (λ file. file ≢ number) (journal_file ∷ []) number
    (All-from_recursion (λ file. file ≢ number) (journal_file ∷ []) (apart, tt)) among refl)

-- ---- the gate of the next tick

with_tick : (h : History) (log : Log) (before new : Image) → Represents h.log (run_of h) (ticks_of h) before → CanTick h before
    → AgreesOutside (journal_file ∷ []) before new → IsCleanJournal log (new.file journal_file)
    → Represents log (run_of h) (suc (ticks_of h)) new
with_tick h log before new stands can agrees journal =
    let run = run_of h in
    let k = ticks_of h in
    let kick = half_kick run.params (state_at run (suc k)) in
    let list = sorted_by by_key (state_at run (suc k)) in
    let same = other_file before new agrees in
    let slot = same (slot_of (suc k)) (omega arith) in
    record {
      journal = journal;
      start = subst (λ file. IsSnapshot file run.bodies run.begin) (sym (same init_file (omega arith))) stands.start;
      slot = subst (λ file. HoldsBodies file list) (sym slot) can.slot.bodies;
      kicks = λ some. subst (λ file. HoldsKickedBodies file kick list) (sym slot) can.slot;
      finished = λ j due below.
          subst (IsFinishedSnapshot (length run.bodies)) (sym (same (snap_of j) (omega arith)))
          (can.complete j due (omega arith));
      right = λ j some within opened.
          let snap = same (snap_of j) (omega arith) in
          let was = subst HasOpenGate snap opened in
          elim (cases_eq j (suc k)) [
            | inl last ↦ absurd (can.shut (subst (λ n. HasOpenGate (before.file (snap_of n))) last was))
            | inr apart ↦ subst (IsSnapshotOf run j) (sym snap) (stands.right j some (omega arith) was)
          ];
    }

pub represents_ticked : (h : History) (before new : Image) → IsHistory h → RepresentsRun h before → CanTick h before
    → AgreesOutside (journal_file ∷ []) before new → IsCleanJournal (ticked h).log (new.file journal_file)
    → IsHistory (ticked h) × RepresentsRun (ticked h) new
represents_ticked h before new is stands can agrees journal =
    let log = (ticked h).log in
    let files = with_tick h log before new stands can agrees journal in (
      history-ticked h is,
      subst (λ run. Represents log run (ticks_of (ticked h)) new) (sym (run-ticked h))
          (subst (λ k. Represents log (run_of h) k new) (sym (ticks-ticked h)) files),
    )

-- ---- the gate of a leg

-- up to the end of its last leg a run is what it is with a leg more
with_leg : (log : Log) (run : Run) (target k : ℕ) (image : Image) → target ≢ end_of run.begin run.legs → k ≤ run_length run
    → Represents log run k image → Represents log (longer target run) k image
with_leg log run target k image apart within stands =
    let more = longer target run in
    let here = sym (state-longer target run k within) in
    record {
      journal = stands.journal;
      start = stands.start;
      slot = subst (λ list. HoldsBodies (image.file (slot_of k)) (sorted_by by_key list)) here stands.slot;
      kicks = λ some.
          subst (λ list. HoldsKickedBodies (image.file (slot_of k)) (half_kick run.params list)
          (sorted_by by_key list)) here (stands.kicks some);
      finished = λ j due below. stands.finished j (due-shorter target run j apart (omega arith) due) below;
      right = λ j some up_to opened.
          let was = stands.right j some up_to opened in
          let file = image.file (snap_of j) in
          record {
            due = due-longer target run j was.due;
            bytes =
                subst (IsSnapshot file (state_at more j)) (sym (time-longer target run j (omega arith)))
                (subst (λ list. IsSnapshot file list (time_at run j)) (sym (state-longer target run j (omega arith))) was.bytes);
          };
    }

pub represents_legged : (h : History) (target : ℕ) (before new : Image) → IsHistory h → IsNextLeg (progress_of h.log) target
    → RepresentsRun h before → AgreesOutside (journal_file ∷ []) before new
    → IsCleanJournal (legged target h).log (new.file journal_file)
    → IsHistory (legged target h) × RepresentsRun (legged target h) new
represents_legged h target before new is next stands agrees journal =
    let log = (legged target h).log in
    let run = run_of h in
    let k = ticks_of h in
    let lawful = stands.journal.journal.lawful in
    let same = other_file before new agrees in
    let kept = spared log run k before new stands journal (same init_file (omega arith)) (same (slot_of k) (omega arith))
    (λ j _ _. same (snap_of j) (omega arith)) in
    let files = with_leg log run target k new (leads-away target h next) (ticks-within h lawful) kept in (
      history-legged target h lawful is next,
      subst (λ r. Represents log r (ticks_of (legged target h)) new) (sym (run-legged target h))
          (subst (λ n. Represents log (longer target run) n new) (sym (ticks-legged target h)) files),
    )
