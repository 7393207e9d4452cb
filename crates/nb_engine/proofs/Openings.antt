-- How a session that runs ticks begins.
use Rattle.std.proofs.Common.{◌≡◌, ℕ, zero, suc, ◌≤◌, ◌⊎◌, inl, inr, Bool, IsTrue, List, [], refl, sym, ap, subst, ◌∙◌, arith, append-nil}
use Rattle.std.specs.Prelude.{Contains}
use Rattle.nb_host.specs.declared.host.Channel.{Channel}
use Rattle.nb_host.specs.declared.host.Channel.TheVariants as channels
use Rattle.nb_host.specs.Crashes.{AgreesOutside, Stays}
use Rattle.nb_host.specs.Image.{Image}
use Rattle.nb_host.specs.Meaning.{HostModel, Leads, IsDurable}
use Rattle.nb_host.proofs.Callers.{leads_before, stays_contents, leads_more}
use Rattle.nb_format.specs.Snapshot.{IsFinishedSnapshot}
use Rattle.nb_journal.specs.Counters.{Counters, Answers}
use Rattle.nb_journal.specs.Finding.{IsFound}
use Rattle.nb_journal.specs.Form.{Log, IsJournal}
use Rattle.nb_journal.specs.Offsets.{journal_file}
use Rattle.nb_journal.proofs.Callers.{found_answers}
use Rattle.nb_engine.specs.declared.refusal.Refusal.{Refusal}
use Rattle.nb_engine.specs.Due.{TellsDue}
use Rattle.nb_engine.specs.Frame.{EachImage, IsOutsideRun, KeepsOutsideRun}
use Rattle.nb_engine.specs.Histories.{History, IsHistory}
use Rattle.nb_engine.specs.Represents.{snap_of, RepresentsRun}
use Rattle.nb_engine.specs.Sessions.{OpenLeads, IsSlotDamaged}
use Rattle.nb_engine.specs.Snapshots.{snapshot_files, FinishLeads}
use Rattle.nb_engine.specs.Steps.{IsCheckpoint, IsStateDamaged, GoesOn, HasPlayed, HoldsDueSnapshots, HasState}
use Rattle.nb_engine.proofs.EachImages.{durable_stays, from_durable, each_behind, each_told, leads_from_durable, SparedWhere, leads_spared}

-- ---- steps

pub apart_itself : (image : Image) → KeepsOutsideRun image image
apart_itself image = record { files = λ number is. refl; err = refl }

-- no file of the ticks is apart
not_apart : (k number : ℕ) → IsOutsideRun number → Contains (snapshot_files k) number → ⊥
not_apart k number apart (zero, below, is) = beside apart (omega (arith, is)) where
  beside : IsOutsideRun number → number ≡ 6 → ⊥
  beside (inl low) same = omega arith
  beside (inr high) same = absurd (omega (arith, high.0))
not_apart k number apart (suc zero, below, is) = beside apart (omega (arith, is)) where
  beside : IsOutsideRun number → 16 ≤ number → ⊥
  beside (inl low) more = omega arith
  beside (inr high) more = absurd (omega (arith, high.1))
not_apart k number apart (suc (suc i), below, is) = absurd (omega (arith, below))

pub snapshot_apart : (k : ℕ) {old new : Image} → AgreesOutside (snapshot_files k) old new → KeepsOutsideRun old new
snapshot_apart k agrees = record {
  files = λ number is. agrees.others number (not_apart k number is);
  err = ap (λ (f : Channel → List ℕ). f channels.Err) agrees.said;
}

finish_itself : (log : Log) (image : Image) → FinishLeads log image image
finish_itself log image = record {
  others = record { others = λ number spared. refl; said = refl };
  due = λ undue. refl;
  finished = λ is. refl;
}

pub open_itself : (image : Image) → OpenLeads image image
open_itself image = record {
  session = record { apart = apart_itself image; idle = λ none. refl };
  snapshot = λ log journal. finish_itself log image;
}

pub open_stays : {H : Type 0} {m : HostModel H} {old new : H} → Leads m Stays old new → Leads m OpenLeads old new
open_stays stays = leads_more stays (λ start image same. subst (λ (i : Image). OpenLeads start i) (sym same) (open_itself start))

-- a folder that represents a history goes on doing so
pub goes_nowhere : (most : ℕ) (h : History) (image : Image) → RepresentsRun h image → GoesOn most h image image
goes_nowhere most h image represents = record {
  done = 0;
  few = omega arith;
  represents = represents;
  kept = λ j within finished. refl;
  others = λ j passed. refl;
  said = refl;
  first = λ opened. sym (append-nil (image.said channels.Out));
}

-- so it does where nothing changes
pub idle_each : {H : Type 0} {m : HostModel H} {old new : H} → IsDurable m old → Leads m Stays old new → (h : History) → IsHistory h
    → RepresentsRun h (m.contents old) → EachImage m (GoesOn 0 h (m.contents old)) old new
idle_each {m = m} {old = old} durable stays h is represents =
    let before = m.contents old in
    from_durable m Stays (GoesOn 0 h before) durable stays.images
    (λ honest image same. subst (GoesOn 0 h before) (sym same) (goes_nowhere 0 h before represents))

module _ {H : Type 0} (m : HostModel H) {h0 h1 h2 : H} (journal : Counters) (durable : IsDurable m h0) (found : IsTrue m.tells → IsFound journal ((m.contents h0).file journal_file)) (first : Leads m Stays h0 h1) (second : Leads m Stays h1 h2) where
  still : m.contents h2 ≡ m.contents h0
  still = stays_contents second ∙ stays_contents first

  stays : Leads m Stays h0 h2
  stays = leads_before (λ image. refl) first second

  durable_now : IsDurable m h2
  durable_now = durable_stays m (durable_stays m durable first) second

  -- before what is due is finished
  pub at_begin : IsTrue m.tells → (h : History) → IsHistory h → RepresentsRun h (m.contents h0) → IsCheckpoint m h journal h2
  at_begin tells h is represents = record {
    tells = tells;
    durable = durable_now;
    is = is;
    answers = found_answers h.log ((m.contents h0).file journal_file) represents.journal.journal (found tells);
    represents = subst (RepresentsRun h) (sym still) represents;
  }

  -- a snapshot that is finished, or begun
  pub open_leads : {h3 : H} (due : Bool) → (IsTrue m.tells → (h : History) → Answers h.log journal
      → IsJournal h.log ((m.contents h1).file journal_file) → TellsDue h due)
      → Leads m (AgreesOutside (snapshot_files journal.progress.ticks)) h2 h3
      → (IsTrue m.tells
      → (IsTrue due → ⊥) ⊎ IsFinishedSnapshot journal.count ((m.contents h2).file (snap_of journal.progress.ticks))
      → Leads m Stays h2 h3)
      → Leads m OpenLeads h0 h3
  open_leads due tells_due snapshot spared =
      leads_before open_itself stays
      (leads_from_durable (SparedWhere (AgreesOutside (snapshot_files journal.progress.ticks)) last_finished) OpenLeads durable_now
      (leads_spared (AgreesOutside (snapshot_files journal.progress.ticks)) last_finished durable_now snapshot spared)
      (λ tells image both.
      let there = subst (λ (i : Image). IsFound journal (i.file journal_file)) (sym still) (found tells) in
      record {
        session = record {
          apart = snapshot_apart journal.progress.ticks both.0;
          idle = λ none. absurd (none there.log there.journal);
        };
        snapshot = λ log is.
            let answers = found_answers log ((m.contents h2).file journal_file) is there in
            let ticks = ap (λ (c : Counters). c.progress.ticks) answers in
            let before = subst (λ (i : Image). IsJournal log (i.file journal_file)) (stays_contents second) is in
            let last : History = record { log = log; bodies = [] } in
            record {
              others = subst (λ (k : ℕ). AgreesOutside (snapshot_files k) (m.contents h2) image) ticks both.0;
              due = λ undue. both.1 (inl (λ is_due. undue ((tells_due tells last answers before).0 is_due)));
              finished = λ finished. both.1 (inr (subst (λ (c : Counters).
                  IsFinishedSnapshot c.count ((m.contents h2).file (snap_of c.progress.ticks))) (sym answers) finished));
            };
      }))
    where
      last_finished : Image → Type 0
      last_finished image =
          (IsTrue due → ⊥) ⊎ IsFinishedSnapshot journal.count (image.file (snap_of journal.progress.ticks))

  pub open_each : {h3 : H} (due : Bool) → (IsTrue m.tells → (h : History) → Answers h.log journal
      → IsJournal h.log ((m.contents h1).file journal_file) → TellsDue h due)
      → ((h : History) → TellsDue h due → IsCheckpoint m h journal h2 → EachImage m (GoesOn 0 h (m.contents h2)) h2 h3)
      → (h : History) → IsHistory h → RepresentsRun h (m.contents h0) → EachImage m (GoesOn 0 h (m.contents h0)) h0 h3
  open_each {h3 = h3} due tells_due each h is represents =
      each_told m (GoesOn 0 h (m.contents h0)) (λ tells.
      let at = at_begin tells h is represents in
      each_behind (GoesOn 0 h (m.contents h0)) durable stays (λ honest. goes_nowhere 0 h (m.contents h0) represents)
      (subst (λ (i : Image). EachImage m (GoesOn 0 h i) h2 h3) still (each h (is_due tells h is represents) at)))
    where
      is_due : IsTrue m.tells → (h : History) → IsHistory h → RepresentsRun h (m.contents h0) → TellsDue h due
      is_due tells h is represents =
          tells_due tells h (at_begin tells h is represents).answers
          (subst (λ (i : Image). IsJournal h.log (i.file journal_file)) (sym (stays_contents first)) represents.journal.journal)

  pub opened : {h3 : H} (due : Bool) → (IsTrue m.tells → (h : History) → Answers h.log journal
      → IsJournal h.log ((m.contents h1).file journal_file) → TellsDue h due)
      → ((h : History) → TellsDue h due → IsCheckpoint m h journal h2 → HasPlayed m 0 h (m.contents h2) journal h3 × HoldsDueSnapshots m h h3)
      → IsTrue m.tells → (h : History) → IsHistory h → RepresentsRun h (m.contents h0)
      → HasPlayed m 0 h (m.contents h0) journal h3 × HoldsDueSnapshots m h h3
  opened {h3 = h3} due tells_due finished tells h is represents =
      let at = at_begin tells h is represents in
      let now = tells_due tells h at.answers
      (subst (λ (i : Image). IsJournal h.log (i.file journal_file)) (sym (stays_contents first)) represents.journal.journal) in
      let done = finished h now at in
      (subst (λ (i : Image). HasPlayed m 0 h i journal h3) still done.0, done.1)

  -- a slot that is spoilt was so at the begin
  pub spoilt_begin : IsTrue m.tells → {why : Refusal} → IsStateDamaged m journal h2 why → IsSlotDamaged (m.contents h0).file why
  spoilt_begin tells spoilt =
      let there = found tells in
      record {
        log = there.log;
        journal = there.journal;
        page = spoilt.page;
        named = spoilt.named;
        file = spoilt.file;
        cause = λ bodies has.
            spoilt.cause tells bodies
            (subst (λ (i : Image). HasState journal bodies i.file) (sym still)
            (subst (λ (c : Counters). HasState c bodies (m.contents h0).file) (sym there.answers) has));
      }
