-- One tick with its entry and its line: what it leaves in each image, and what at its end.
use Rattle.std.proofs.Common.{◌≡◌, ◌≢◌, ℕ, zero, suc, ◌+◌, ◌^◌, ◌<◌, ◌≤◌, ◌⊎◌, inl, inr, IsTrue, IsOk, Contains, Result, Err, List, [], ◌∷◌, ◌++◌, length, take, refl, sym, ap, subst, ◌∙◌, arith, append-nil}
use Rattle.nb_host.specs.Crashes.{ImagesFollow, AgreesOutside}
use Rattle.nb_host.specs.Image.{Image, FileBecomes, Says, SaysPart}
use Rattle.nb_host.specs.Meaning.{HostModel, Leads, Over, IsDurable, RanSyncing, RanSaying}
use Rattle.nb_host.specs.declared.host.Channel.{Channel}
use Rattle.nb_host.specs.declared.host.Channel.TheVariants as channels
use Rattle.nb_host.specs.declared.host.HostError.{HostError}
use Rattle.nb_host.specs.declared.host.HostError.TheVariants as host
use Rattle.nb_host.specs.declared.page_name.PageName.{PageName}
use Rattle.nb_host.proofs.Callers.{becomes_agrees, goes_on, leads_more, leads_again, others_spare, left_stays, ok_is_no_error}
use Rattle.nb_model.specs.declared.body.Body.{Body}
use Rattle.nb_model.specs.Leapfrog.{escaped_count}
use Rattle.nb_format.specs.Lines.{tick_line}
use Rattle.nb_format.specs.Snapshot.{IsFinishedSnapshot}
use Rattle.nb_journal.specs.declared.entry.Entry.{Entry}
use Rattle.nb_journal.specs.declared.entry.Entry.TheVariants.{Tick}
use Rattle.nb_journal.specs.Counters.{Counters, Answers, counters_after, counters_of}
use Rattle.nb_journal.specs.Form.{Log, IsCleanJournal, with_entry}
use Rattle.nb_journal.specs.Images.{IsEntryTorn, IsCleanNow, Appends}
use Rattle.nb_journal.specs.Offsets.{journal_file}
use Rattle.nb_journal.proofs.Callers.{answers_more, ready_then}
use Rattle.nb_cache.specs.View.{CacheValue}
use Rattle.nb_cache.proofs.Callers.{step_file, step_said}
use Rattle.nb_tick.specs.Slots.{slot_of, cell_file}
use Rattle.nb_tick.specs.State.{HoldsState, IsCellIndexOf}
use Rattle.nb_engine.specs.declared.refusal.Refusal.{Refusal}
use Rattle.nb_engine.specs.declared.refusal.Refusal.TheVariants as refusal
use Rattle.nb_engine.specs.Files.{init_file}
use Rattle.nb_engine.specs.Frame.{EachImage, IsOutsideRun, KeepsOutsideRun, RanSession}
use Rattle.nb_engine.specs.Gates.{CanTick}
use Rattle.nb_engine.specs.Histories.{Run, state_at, time_at, History, run_of, ticks_of, IsHistory, next_tick, ticked}
use Rattle.nb_engine.specs.Refusal.{NeedsNoCause}
use Rattle.nb_engine.specs.Represents.{snap_of, HasOpenGate, HasDueSnapshots, RepresentsRun}
use Rattle.nb_engine.specs.Steps.{tick_line_of, lines_after, IsCheckpoint, IsFlushed, HasState, IsStateDamaged, fill_files, IsFilled, HasNextState, IsOutsideTicks, GoesOn, HasPlayed, HoldsDueSnapshots}
use Rattle.nb_engine.proofs.EachImages.{from_durable, each_then, durable_said}
use Rattle.nb_engine.proofs.Filling.{Handed, apart_filled}
use Rattle.nb_engine.proofs.Frames.{session_syncing, session_spoke, session_then, session_as, session_ended}
use Rattle.nb_engine.proofs.LongerLogs.{run-ticked, ticks-ticked}
use Rattle.nb_engine.proofs.Paths.{time-now}
use Rattle.nb_engine.proofs.Played.{said_first, passed_fewer}
use Rattle.nb_engine.proofs.Representing.{spared, represents_kept, represents_ticked}

lines_one : (run : Run) (k : ℕ) → lines_after run k 1 ≡ tick_line_of run (suc k)
lines_one run k = let same : k + 0 ≡ k = omega arith in ap (λ (n : ℕ). tick_line_of run (suc n)) same

-- ---- the files that a tick fills

init_apart : (k : ℕ) → Contains (fill_files k) init_file → ⊥
init_apart k = apart_filled k init_file (omega arith) (inl (omega arith))

pub journal_apart : (k : ℕ) → Contains (fill_files k) journal_file → ⊥
journal_apart k = apart_filled k journal_file (omega arith) (inl (omega arith))

slot_apart : (k : ℕ) → Contains (fill_files k) (slot_of k) → ⊥
slot_apart k = apart_filled k (slot_of k) (omega arith) (inl (omega arith))

snap_apart : (k j : ℕ) → j ≤ k → Contains (fill_files k) (snap_of j) → ⊥
snap_apart k j within = apart_filled k (snap_of j) (omega arith) (inr (omega arith, omega arith))

snap_passed : (k j : ℕ) → IsOutsideTicks k 1 j → Contains (fill_files k) (snap_of j) → ⊥
snap_passed k j (inl before) = apart_filled k (snap_of j) (omega arith) (inr (omega arith, omega (arith, before)))
snap_passed k j (inr behind) = apart_filled k (snap_of j) (omega arith) (inr (omega arith, omega (arith, behind)))

-- ---- without the entry

-- the image holds what the folder did, but for the journal behind its entries and what a tick fills
pub none_done : (h : History) (before image : Image) → RepresentsRun h before
    → IsCleanJournal h.log (image.file journal_file)
    → ((number : ℕ) → (Contains (fill_files (ticks_of h)) number → ⊥) → number ≢ journal_file
    → image.file number ≡ before.file number)
    → image.said ≡ before.said → GoesOn 1 h before image
none_done h before image stands clean same said =
    let k = ticks_of h in
    let out = ap (λ (s : Channel → List ℕ). s channels.Out) said in
    let snaps : (j : ℕ) → j ≤ k → image.file (snap_of j) ≡ before.file (snap_of j) = λ j within.
    same (snap_of j) (snap_apart k j within) (omega arith) in
    record {
      done = 0;
      few = omega arith;
      represents =
          spared h.log (run_of h) k before image stands clean (same init_file (init_apart k) (omega arith))
          (same (slot_of k) (slot_apart k) (omega arith)) (λ j _ within. snaps j within);
      kept = λ j within _. snaps j within;
      others = λ j passed. same (snap_of j) (snap_passed k j (elim passed [ inl next ↦ next | inr last ↦ last ])) (omega arith);
      said = out;
      first = λ opened. out ∙ sym (append-nil (before.said channels.Out));
    }

-- so it does before the entry
pub filled_done : (h : History) (before image : Image) → RepresentsRun h before
    → AgreesOutside (fill_files (ticks_of h)) before image → GoesOn 1 h before image
filled_done h before image stands agrees =
    none_done h before image stands
    (subst (IsCleanJournal h.log) (sym (agrees.others journal_file (journal_apart (ticks_of h)))) stands.journal)
    (λ number apart _. agrees.others number apart) agrees.said

-- ---- with the entry

-- The image has the next tick, and nothing more was said.
pub record HasTicked (h : History) (before image : Image) : Type 0 where
  pub is : IsHistory (ticked h)
  pub represents : RepresentsRun (ticked h) image
  pub kept : (j : ℕ) → (j ≤ ticks_of h) ⊎ IsOutsideTicks (ticks_of h) 1 j → image.file (snap_of j) ≡ before.file (snap_of j)
  pub shut : HasOpenGate (image.file (snap_of (suc (ticks_of h)))) → ⊥
  pub said : image.said channels.Out ≡ before.said channels.Out

-- what stands before the gate of the next tick
pub can_tick : (h : History) (before image : Image) → HasDueSnapshots (run_of h) (ticks_of h) before
    → AgreesOutside (fill_files (ticks_of h)) before image → IsFilled h image → CanTick h image
can_tick h before image complete agrees filled = record {
  complete = λ j due within.
      subst (IsFinishedSnapshot (length h.bodies)) (sym (agrees.others (snap_of j) (snap_apart (ticks_of h) j within)))
      (complete j due within);
  slot = filled.slot;
  shut = filled.shut;
}

other_than_journal : (number : ℕ) → number ≢ journal_file → Contains (journal_file ∷ []) number → ⊥
other_than_journal number apart (zero, below, at) = apart (sym at)
other_than_journal number apart (suc n, below, at) = omega (arith, below)

pub has_ticked : (h : History) (before filled image : Image) → IsHistory h → RepresentsRun h before
    → AgreesOutside (fill_files (ticks_of h)) before filled → CanTick h filled → AgreesOutside (journal_file ∷ []) filled image
    → IsCleanJournal (ticked h).log (image.file journal_file) → HasTicked h before image
has_ticked h before filled image is stands agrees can opened clean =
    let k = ticks_of h in
    let kept = represents_kept h before filled stands (agrees.others journal_file (journal_apart k))
    (agrees.others init_file (init_apart k)) (agrees.others (slot_of k) (slot_apart k))
    (λ j _ within. agrees.others (snap_of j) (snap_apart k j within)) in
    let both = represents_ticked h filled image is kept can opened clean in
    record {
      is = both.0;
      represents = both.1;
      kept = λ j spared.
          opened.others (snap_of j) (other_than_journal (snap_of j) (omega arith))
          ∙ agrees.others (snap_of j) (elim spared [
            | inl within ↦ snap_apart k j within
            | inr passed ↦ snap_passed k j passed
          ]);
      shut = λ is_open. can.shut (subst HasOpenGate
          (opened.others (snap_of (suc k)) (other_than_journal (snap_of (suc k)) (omega arith))) is_open);
      said = ap (λ (s : Channel → List ℕ). s channels.Out) (opened.said ∙ agrees.said);
    }

-- with one tick done of one
passed_one : (k j : ℕ) → IsOutsideTicks k 2 j ⊎ IsOutsideTicks k 1 j → IsOutsideTicks k 1 j
passed_one k j (inl next) = passed_fewer k 1 2 j (omega arith) next
passed_one k j (inr last) = last

-- the snapshot of that tick isn't opened
not_opened : (h : History) (image : Image) → (HasOpenGate (image.file (snap_of (suc (ticks_of h)))) → ⊥)
    → HasOpenGate (image.file (snap_of (ticks_of h + 1))) → ⊥
not_opened h image shut opened =
    let same : ticks_of h + 1 ≡ suc (ticks_of h) = omega arith in
    shut (subst (λ (k : ℕ). HasOpenGate (image.file (snap_of k))) same opened)

pub ticked_done : (h : History) (before image : Image) → HasTicked h before image → GoesOn 1 h before image
ticked_done h before image has = record {
  done = 1;
  few = omega arith;
  represents = has.represents;
  kept = λ j within _. has.kept j (inl within);
  others = λ j passed. has.kept j (inr (passed_one (ticks_of h) j passed));
  said =
      said_first (run_of h) (ticks_of h) 0 (tick_line_of (run_of h) (suc (ticks_of h))) (before.said channels.Out)
      (image.said channels.Out) refl (omega arith) (has.said ∙ sym (append-nil (before.said channels.Out)));
  first = λ opened. absurd (not_opened h image has.shut opened);
}

-- ---- the line

-- behind a say of the line, perhaps of its first bytes alone
pub line_represents : (h : History) (now image : Image) (line : List ℕ) → RepresentsRun h now → SaysPart channels.Out line now image
    → RepresentsRun h image
line_represents h now image line stands part =
    let done = ticks_of h in
    let same : (number : ℕ) → image.file number ≡ now.file number = λ number. ap (λ (f : ℕ → List ℕ). f number) part.2.files in
    spared h.log (run_of h) done now image stands (subst (IsCleanJournal h.log) (sym (same journal_file)) stands.journal)
    (same init_file) (same (slot_of done)) (λ j _ _. same (snap_of j))

pub line_done : (h : History) (before now image : Image) (line : List ℕ) → line ≡ tick_line_of (run_of h) (suc (ticks_of h)) → HasTicked h before now → SaysPart channels.Out line now image
    → GoesOn 1 h before image
line_done h before now image line is has part =
    let n = part.0 in
    let says = part.2 in
    let files : (j : ℕ) → image.file (snap_of j) ≡ now.file (snap_of j) = λ j.
    ap (λ (f : ℕ → List ℕ). f (snap_of j)) says.files in
    record {
      done = 1;
      few = omega arith;
      represents = line_represents (ticked h) now image line has.represents part;
      kept = λ j within _. files j ∙ has.kept j (inl within);
      others = λ j passed. files j ∙ has.kept j (inr (passed_one (ticks_of h) j passed));
      said =
          said_first (run_of h) (ticks_of h) n line (before.said channels.Out) (image.said channels.Out) is part.1
          (says.said ∙ ap (λ (l : List ℕ). l ++ take n line) has.said);
      first = λ opened.
          absurd (not_opened h image (λ is_open. has.shut (subst HasOpenGate (files (suc (ticks_of h))) is_open)) opened);
    }

-- ---- the calls of a tick

-- the other slot was filled, and so many bodies are out, where the folder represented a history
abbrev pub Fills : {H : Type 0} → HostModel H → Counters → H → H → ℕ → Type 0
Fills m journal old new gone = IsTrue m.tells → (h : History) → Answers h.log journal → IsHistory h
    → RepresentsRun h (m.contents old)
    → IsFilled h (m.contents new) × (gone ≡ escaped_count (state_at (run_of h) (suc (ticks_of h))))

-- what the adding of an entry may leave in each image, and what it leaves at its end
abbrev pub MayAppend : {H : Type 0} → HostModel H → Counters → Entry → H → H → Type 0
MayAppend m journal entry old new = (log : Log) → Answers log journal → IsCleanNow m log old
    → ImagesFollow m.crashes old new (Appends log entry (m.contents old))

abbrev pub HasAppended : {H : Type 0} → HostModel H → Counters → Entry → H → H → Type 0
HasAppended m journal entry old new = (log : Log) → Answers log journal → IsTrue m.tells
    → IsCleanJournal log ((m.contents old).file journal_file)
    → IsCleanJournal (with_entry log entry) ((m.contents new).file journal_file)

module _ {H : Type 0} (m : HostModel H) (journal : Counters) (h0 h1 : H) (leads : Leads m (AgreesOutside (fill_files journal.progress.ticks)) h0 h1) where
  module _ (h : History) (at : IsCheckpoint m h journal h0) where
    abbrev before : Image
    before = m.contents h0

    same_ticks : journal.progress.ticks ≡ ticks_of h
    same_ticks = ap (λ (j : Counters). j.progress.ticks) at.answers

    fills : Leads m (AgreesOutside (fill_files (ticks_of h))) h0 h1
    fills = subst (λ (k : ℕ). Leads m (AgreesOutside (fill_files k)) h0 h1) same_ticks leads

    -- where no entry was begun
    pub filled_images : EachImage m (GoesOn 1 h before) h0 h1
    filled_images =
        from_durable m (AgreesOutside (fill_files (ticks_of h))) (GoesOn 1 h before) at.durable fills.images
        (λ honest image agrees. filled_done h before image at.represents agrees)

    module _ (up : HoldsDueSnapshots m h h0) (gone ticks : ℕ) (ticks_is : ticks ≡ journal.progress.ticks) (filled : Fills m journal h0 h1 gone) where
      abbrev entry : Entry
      entry = Tick (ticks + 1) gone

      there : IsFilled h (m.contents h1) × (gone ≡ escaped_count (state_at (run_of h) (suc (ticks_of h))))
      there = filled at.tells h at.answers at.is at.represents

      number_is : ticks + 1 ≡ suc (ticks_of h)
      number_is = omega (arith, ticks_is, same_ticks)

      entry_is : entry ≡ next_tick h
      entry_is = ap (λ (n : ℕ). Tick n gone) number_is ∙ ap (λ (n : ℕ). Tick (suc (ticks_of h)) n) there.1

      can : CanTick h (m.contents h1)
      can = can_tick h before (m.contents h1) up (fills.contents at.tells) there.0

      ready : IsCleanNow m h.log h1
      ready =
          left_stays m (others_spare (journal_apart (ticks_of h)) fills)
          (ready_then m (λ _. at.represents.journal) at.durable)

      -- what an image holds that follows from a durable folder
      abbrev Follows : Image → Image → Type 0
      Follows start image = start ≡ before → GoesOn 1 h before image

      -- where the entry may have been begun
      pub entry_images : (h2 : H) → MayAppend m journal entry h1 h2 → EachImage m (GoesOn 1 h before) h0 h2
      entry_images h2 appends =
          from_durable m Follows (GoesOn 1 h before) at.durable
          (goes_on fills.images (appends h.log at.answers ready)
          (λ start image agrees same.
          filled_done h before image at.represents (subst (λ (i : Image). AgreesOutside (fill_files (ticks_of h)) i image) same agrees))
          (λ start between image honest one _ two same.
          let agrees = subst (λ (i : Image). AgreesOutside (fill_files (ticks_of h)) i between) same one in
          elim two.either [
            | inl clean ↦
                none_done h before image at.represents clean
                (λ number apart other.
                two.others.others number (other_than_journal number other) ∙ agrees.others number apart)
                (two.others.said ∙ agrees.said)
            | inr has ↦
                ticked_done h before image
                (has_ticked h before (m.contents h1) image at.is at.represents (fills.contents at.tells) can has.opened.others
                (subst (λ (e : Entry). IsCleanJournal (with_entry h.log e) (image.file journal_file)) entry_is has.opened.journal))
          ]))
          (λ honest image follows. follows refl)

      module _ (h2 : H) (appends : MayAppend m journal entry h1 h2) (added : HasAppended m journal entry h1 h2) (durable : IsDurable m h2) (opens : Leads m (FileBecomes journal_file (IsEntryTorn journal.entries)) h1 h2) (next : Counters) (next_is : next ≡ counters_after entry journal) where
        answers_next : Answers (ticked h).log next
        answers_next =
            next_is ∙ answers_more h.log entry at.answers ∙ ap (λ (e : Entry). counters_of (with_entry h.log e)) entry_is

        clean_next : IsCleanJournal (ticked h).log ((m.contents h2).file journal_file)
        clean_next =
            subst (λ (e : Entry). IsCleanJournal (with_entry h.log e) ((m.contents h2).file journal_file)) entry_is
            (added h.log at.answers at.tells (ready.reads at.tells))

        now : HasTicked h before (m.contents h2)
        now =
            has_ticked h before (m.contents h1) (m.contents h2) at.is at.represents (fills.contents at.tells) can
            (becomes_agrees (opens.contents at.tells)) clean_next

        time_is : next.progress.time ≡ time_at (run_of h) (suc (ticks_of h))
        time_is =
            ap (λ (j : Counters). j.progress.time) answers_next ∙ time-now (ticked h) clean_next.journal.lawful
            ∙ ap (λ (run : Run). time_at run (ticks_of (ticked h))) (run-ticked h)
            ∙ ap (λ (k : ℕ). time_at (run_of h) k) (ticks-ticked h)

        module _ (time : ℕ) (same_time : time ≡ next.progress.time) (line : List ℕ) (spelled : line ≡ tick_line (ticks + 1) time gone) where
          line_is : line ≡ tick_line_of (run_of h) (suc (ticks_of h))
          line_is =
              let k = suc (ticks_of h) in
              spelled ∙ ap (λ (n : ℕ). tick_line n time gone) number_is ∙ ap (λ (n : ℕ). tick_line k n gone) (same_time ∙ time_is)
              ∙ ap (λ (n : ℕ). tick_line k (time_at (run_of h) k) n) there.1

          -- where the line may have been begun
          pub line_images : (h3 : H) → Leads m (SaysPart channels.Out line) h2 h3 → EachImage m (GoesOn 1 h before) h0 h3
          line_images h3 says =
              each_then m (GoesOn 1 h before) (GoesOn 1 h before) (GoesOn 1 h before) (entry_images h2 appends)
              (from_durable m (SaysPart channels.Out line) (GoesOn 1 h before) durable says.images
              (λ honest image part. line_done h before (m.contents h2) image line line_is now part))
              (λ image goes. goes) (λ image goes. goes)

          -- and where it was said
          pub played_one : (h3 : H) → Leads m (SaysPart channels.Out line) h2 h3 → Over m (Says channels.Out line) h2 h3
              → HasPlayed m 1 h before next h3
          played_one h3 says said =
              let whole = said at.tells in
              let file : (number : ℕ) → (m.contents h3).file number ≡ (m.contents h2).file number = λ number.
              ap (λ (f : ℕ → List ℕ). f number) whole.files in
              let cells = there.0.cells in
              let kept = file cell_file
              ∙ (opens.contents at.tells).others cell_file (omega arith) in
              let list : state_at (run_of (ticked h)) (ticks_of (ticked h)) ≡ state_at (run_of h) (suc (ticks_of h)) =
              ap (λ (run : Run). state_at run (ticks_of (ticked h))) (run-ticked h)
              ∙ ap (λ (k : ℕ). state_at (run_of h) k) (ticks-ticked h) in
              record {
                at = record {
                  tells = at.tells;
                  durable = durable_said m channels.Out line durable says;
                  is = now.is;
                  answers = answers_next;
                  represents =
                      line_represents (ticked h) (m.contents h2) (m.contents h3) line now.represents (says.contents at.tells);
                };
                kept = λ j within _. file (snap_of j) ∙ now.kept j (inl within);
                others = λ j passed. file (snap_of j) ∙ now.kept j (inr passed);
                said =
                    whole.said ∙ ap (λ (l : List ℕ). l ++ line) now.said
                    ∙ ap (λ (l : List ℕ). before.said channels.Out ++ l) (line_is ∙ sym (lines_one (run_of h) (ticks_of h)));
                cells = λ _.
                    subst (λ (l : List Body). IsCellIndexOf h.log.params l ((m.contents h3).file cell_file)) (sym list)
                    (subst (IsCellIndexOf h.log.params (state_at (run_of h) (suc (ticks_of h)))) (sym kept) cells);
              }

-- ---- what the next tick goes on from

pub state_after : (journal next : Counters) (gone ticks : ℕ) (old new : ℕ → List ℕ) → ticks ≡ journal.progress.ticks
    → next ≡ counters_after (Tick (ticks + 1) gone) journal → ((number : ℕ) → number ≢ journal_file → new number ≡ old number)
    → HasNextState journal gone old → (later : List Body) × HasState next later new
state_after journal next gone ticks old new ticks_is next_is same has =
    let list = has.bodies in
    let after = counters_after (Tick (ticks + 1) gone) journal in
    let number : slot_of (ticks + 1) ≡ slot_of (suc journal.progress.ticks) = omega (arith, ticks_is) in
    let slot : HoldsState list (new (slot_of (ticks + 1))) =
    subst (λ (n : ℕ). HoldsState list (new n)) (sym number)
    (subst (HoldsState list) (sym (same (slot_of (suc journal.progress.ticks)) (omega arith))) has.slot) in
    let state : HasState after list new = record { valid = has.valid; count = has.count; gone = has.gone_is; slot = slot } in
    (list, subst (λ (j : Counters). HasState j list new) (sym next_is) state)

-- fewer bodies out than the journal tells
pub fewer_spoilt : {H : Type 0} (m : HostModel H) (journal : Counters) (h0 h1 : H) (gone : ℕ) (why : Refusal)
    → (gone < journal.progress.gone) × (why ≡ refusal.Damaged (record { file = slot_of journal.progress.ticks; page = 0 }))
    → (IsTrue m.tells → (bodies : List Body) → HasState journal bodies (m.contents h0).file
    → HasNextState journal gone (m.contents h1).file)
    → NeedsNoCause why ⊎ IsStateDamaged m journal h0 why
fewer_spoilt m journal h0 h1 gone why fewer next =
    inr (record {
      page = record { file = slot_of journal.progress.ticks; page = 0 };
      named = fewer.1;
      file = (omega arith, omega arith);
      cause = λ tells bodies has. omega (arith, (next tells bodies has).no_fewer, fewer.0);
    })

-- ---- the cache

-- The entry and the line spare the files of a cache.
pub settled_entry : {H : Type 0} {m : HostModel H} {P : List ℕ → List ℕ → Type 0} (cache : CacheValue) {old new : H}
    → Leads m (FileBecomes journal_file P) old new → IsFlushed m cache old → IsFlushed m cache new
settled_entry cache leads settled = record {
  in_step = step_file cache (λ cached. omega (arith, cached.least)) leads settled.in_step;
  unwritten = settled.unwritten;
}

pub settled_line : {H : Type 0} {m : HostModel H} {bytes : List ℕ} (cache : CacheValue) {old new : H}
    → Leads m (SaysPart channels.Out bytes) old new → IsFlushed m cache old → IsFlushed m cache new
settled_line cache leads settled = record {
  in_step = step_said cache leads settled.in_step;
  unwritten = settled.unwritten;
}

-- ---- the frame

pub keeps_again : {start between image : Image} → KeepsOutsideRun start between → KeepsOutsideRun between image → KeepsOutsideRun start image
keeps_again one two = record {
  files = λ number apart. two.files number apart ∙ one.files number apart;
  err = two.err ∙ one.err;
}

filled_apart : (k number : ℕ) → IsOutsideRun number → Contains (fill_files k) number → ⊥
filled_apart k number (inl low) = apart_filled k number (omega arith) (inl (omega arith))
filled_apart k number (inr high) = apart_filled k number (omega (arith, high.0)) (inr (high.0, omega (arith, high.1)))

fill_keeps : (k : ℕ) {start image : Image} → AgreesOutside (fill_files k) start image → KeepsOutsideRun start image
fill_keeps k agrees = record {
  files = λ number apart. agrees.others number (filled_apart k number apart);
  err = ap (λ (s : Channel → List ℕ). s channels.Err) agrees.said;
}

journal_kept : (number : ℕ) → IsOutsideRun number → number ≢ journal_file
journal_kept number (inl low) same = omega (arith, low, same)
journal_kept number (inr high) same = omega (arith, high.0, same)

entry_keeps : {P : List ℕ → List ℕ → Type 0} {start image : Image} → FileBecomes journal_file P start image
    → KeepsOutsideRun start image
entry_keeps becomes = record {
  files = λ number apart. becomes.others number (journal_kept number apart);
  err = ap (λ (s : Channel → List ℕ). s channels.Err) becomes.said;
}

Err≢Out : ◌≡◌ {A = Channel} channels.Err channels.Out → ⊥
Err≢Out same = cc

line_keeps : {bytes : List ℕ} {start image : Image} → SaysPart channels.Out bytes start image → KeepsOutsideRun start image
line_keeps part = record {
  files = λ number _. ap (λ (f : ℕ → List ℕ). f number) part.2.files;
  err = part.2.others channels.Err Err≢Out;
}

-- the frame of the filling, as one of the tick's
pub fill_frame : {H T : Type 0} {m : HostModel H} {old new : H} {result : Result T Refusal} (k : ℕ)
    → RanSession m (AgreesOutside (fill_files k)) old new result → RanSession m KeepsOutsideRun old new result
fill_frame k ran = record {
  leads = leads_more ran.leads (λ start image agrees. fill_keeps k agrees);
  count = ran.count;
  rose = ran.rose;
  spared = ran.spared;
  refused = ran.refused;
  heard = ran.heard;
  synced = ran.synced;
}

-- a refusal handed on
pub same_frame : {H T U : Type 0} {m : HostModel H} {by : Image → Image → Type 0} {old new : H} {one : Result T Refusal}
    {result : Result U Refusal} (error : Refusal) → one ≡ Err error → result ≡ Err error → RanSession m by old new one
    → RanSession m by old new result
same_frame error was is ran =
    session_as ran (λ faulted. cc) (λ faulted. cc) (λ fine. absurd (ok_is_no_error fine is))

-- behind it the entry
pub entry_frame : {H T U V : Type 0} {m : HostModel H} {P : List ℕ → List ℕ → Type 0} {h0 h1 h2 : H} {one : Result T Refusal}
    {two : Result U HostError} {result : Result V Refusal} (k : ℕ) → IsOk one
    → RanSession m (AgreesOutside (fill_files k)) h0 h1 one → RanSyncing m 2 host.Fault (FileBecomes journal_file P) h1 h2 two
    → Handed host.Fault two result → (IsOk result → IsOk two) → RanSession m KeepsOutsideRun h0 h2 result
entry_frame k ok filled appended handed fine =
    let one = fill_frame k filled in
    session_then ok one (session_syncing appended handed.there handed.back fine)
    (leads_again (λ a b d first second. keeps_again first second) one.leads
    (leads_more appended.leads (λ start image becomes. entry_keeps becomes)))

-- and the line
pub line_frame : {H T U : Type 0} {m : HostModel H} {bytes : List ℕ} {h0 h2 h3 : H} {one : Result T Refusal}
    {two : Result (Unit {0}) HostError} {result : Result U Refusal} → IsOk one → RanSession m KeepsOutsideRun h0 h2 one
    → RanSaying m channels.Out bytes h2 h3 two → Handed host.Fault two result → (IsOk result → IsOk two)
    → RanSession m KeepsOutsideRun h0 h3 result
line_frame ok before spoke handed fine =
    session_then ok before (session_spoke spoke spoke.leads handed.there handed.back fine)
    (leads_again (λ a b d first second. keeps_again first second) before.leads
    (leads_more spoke.leads (λ start image part. line_keeps part)))

-- fewer bodies out than the journal tells, behind the filling
pub fewer_frame : {H T U : Type 0} {m : HostModel H} {old new : H} {one : Result T Refusal} {result : Result U Refusal} (k : ℕ)
    (page : PageName) → RanSession m (AgreesOutside (fill_files k)) old new one → IsOk one
    → result ≡ Err (refusal.Damaged page) → RanSession m KeepsOutsideRun old new result
fewer_frame k page filled ok is = session_ended (fill_frame k filled) ok (λ faulted. absurd (cc))
