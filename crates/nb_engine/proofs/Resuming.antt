-- A session that runs the leg that is there, from its begin to its end.
use Rattle.std.proofs.Common.{◌≡◌, ℕ, zero, suc, inl, inr, IsTrue, refl, sym, subst, arith}
use Rattle.std.specs.Prelude.{Contains}
use Rattle.std.proofs.lemmas.Bool.{cases_eq}
use Rattle.nb_host.specs.Crashes.{Stays}
use Rattle.nb_host.specs.Image.{Image}
use Rattle.nb_host.specs.Meaning.{HostModel, Leads, IsDurable}
use Rattle.nb_host.proofs.Callers.{leads_more, leads_then}
use Rattle.nb_journal.specs.Counters.{Counters}
use Rattle.nb_journal.specs.Finding.{IsFound}
use Rattle.nb_journal.specs.Form.{progress_of}
use Rattle.nb_journal.specs.Offsets.{journal_file}
use Rattle.nb_record.specs.Order.{by_key, sorted_by, HoldsBodies}
use Rattle.nb_tick.specs.Slots.{slot_of}
use Rattle.nb_engine.specs.declared.going.Done.{Done}
use Rattle.nb_engine.specs.declared.refusal.Refusal.{Refusal}
use Rattle.nb_engine.specs.Frame.{EachImage, KeepsOutsideRun}
use Rattle.nb_engine.specs.Histories.{History, IsHistory}
use Rattle.nb_engine.specs.Represents.{RepresentsRun}
use Rattle.nb_engine.specs.Sessions.{ticks_left, IsLed, OpenLeads, ResumeLeads, IsSlotDamaged}
use Rattle.nb_engine.specs.Snapshots.{snapshot_files}
use Rattle.nb_engine.specs.Steps.{played, IsCheckpoint, GoesOn, HasPlayed, HoldsDueSnapshots, HasState, IsStateDamaged}
use Rattle.nb_engine.proofs.Departures.{apart_both, open_apart}
use Rattle.nb_engine.proofs.EachImages.{each_then, each_told}
use Rattle.nb_engine.proofs.GoingOn.{resume_on, said_begun}
use Rattle.nb_engine.proofs.Led.{SnapshotIsBack, led, left_of}
use Rattle.nb_engine.proofs.Played.{goes_from, goes_more, played_from}

module _ {H : Type 0} (m : HostModel H) {h0 h1 : H} (journal : Counters) where
  slot_still : (found : IsTrue m.tells → IsFound journal ((m.contents h0).file journal_file)) → Leads m OpenLeads h0 h1
      → IsTrue m.tells → (m.contents h1).file (slot_of journal.progress.ticks) ≡ (m.contents h0).file (slot_of journal.progress.ticks)
  slot_still found leads tells =
      let there = found tells in
      let agrees = ((leads.contents tells).snapshot there.log there.journal).others in
      agrees.others (slot_of journal.progress.ticks)
      (not_snapshot (progress_of there.log).ticks journal.progress.ticks (slot_of journal.progress.ticks) refl)
    where
      not_snapshot : (k n file : ℕ) → file ≡ slot_of n → Contains (snapshot_files k) file → ⊥
      not_snapshot k n file slot (zero, below, is) = omega (arith, slot, is)
      not_snapshot k n file slot (suc zero, below, is) = omega (arith, slot, is)
      not_snapshot k n file slot (suc (suc i), below, is) = absurd (omega (arith, below))

  -- a slot that is spoilt behind the begin was so before
  pub spoilt_open : (found : IsTrue m.tells → IsFound journal ((m.contents h0).file journal_file)) → Leads m OpenLeads h0 h1
      → IsTrue m.tells → {why : Refusal} → IsStateDamaged m journal h1 why → IsSlotDamaged (m.contents h0).file why
  spoilt_open found leads tells spoilt =
      let there = found tells in
      record {
        log = there.log;
        journal = there.journal;
        page = spoilt.page;
        named = spoilt.named;
        file = spoilt.file;
        cause = λ bodies has.
            let own = subst (λ (c : Counters). HasState c bodies (m.contents h0).file) (sym there.answers) has in
            spoilt.cause tells bodies (record {
              valid = own.valid;
              count = own.count;
              gone = own.gone;
              slot = subst (λ file. HoldsBodies file (sorted_by by_key bodies)) (sym (slot_still found leads tells)) own.slot;
            });
      }

  -- what is apart stays, and where the last leg has ended all that came behind the begin
  resumes : {h2 : H} → Leads m OpenLeads h0 h1 → Leads m KeepsOutsideRun h1 h2
      → (journal.progress.time ≡ journal.progress.target → Leads m Stays h1 h2)
      → Leads m (λ start image. KeepsOutsideRun start image × (journal.progress.time ≡ journal.progress.target → OpenLeads start image))
      h0 h2
  resumes leads1 leads2 still2 = elim (cases_eq journal.progress.time journal.progress.target) [
    | inl ended ↦
        leads_then leads1 (still2 ended)
        (λ start image begun. (begun.session.apart, λ _. begun))
        (λ start between image begun same.
        let there = subst (λ (i : Image). OpenLeads start i) (sym same) begun in (there.session.apart, λ _. there))
    | inr apart ↦
        leads_more (apart_both (open_apart leads1) leads2) (λ start image keeps. (keeps, λ ended. absurd (apart ended)))
  ]

  -- the leg was run, or some of it
  pub resumed : {h2 : H} → IsDurable m h0 → (IsTrue m.tells → IsFound journal ((m.contents h0).file journal_file))
      → Leads m OpenLeads h0 h1
      → ((h : History) → IsHistory h → RepresentsRun h (m.contents h0) → EachImage m (GoesOn 0 h (m.contents h0)) h0 h1)
      → (IsTrue m.tells → (h : History) → IsHistory h → RepresentsRun h (m.contents h0)
      → HasPlayed m 0 h (m.contents h0) journal h1 × HoldsDueSnapshots m h h1)
      → Leads m KeepsOutsideRun h1 h2 → (journal.progress.time ≡ journal.progress.target → Leads m Stays h1 h2)
      → ((h : History) → IsCheckpoint m h journal h1 → HoldsDueSnapshots m h h1
      → EachImage m (GoesOn (ticks_left journal.progress) h (m.contents h1)) h1 h2)
      → Leads m (ResumeLeads m.crashes.is_honest) h0 h2
  resumed {h2 = h2} durable found leads1 each1 begun leads2 still2 each2 =
      resume_on m 0 durable journal found (resumes leads1 leads2 still2) (λ h is represents.
      let n = ticks_left (progress_of h.log) in
      let P = GoesOn n h (m.contents h0) in
      each_told m P (λ tells.
      let has = begun tells h is represents in
      let run = subst (λ (k : ℕ). EachImage m (GoesOn k h (m.contents h1)) h1 h2) (left_of h journal has.0.at.answers)
      (each2 h has.0.at has.1) in
      each_then m (GoesOn 0 h (m.contents h0)) (GoesOn n h (m.contents h1)) P (each1 h is represents) run
      (λ image goes. goes_more 0 n goes (omega arith))
      (λ image goes. goes_from {before = m.contents h1} has.0.kept has.0.others (said_begun has.0) goes)))

  -- it was run to its end
  pub led_to_end : SnapshotIsBack → {h2 : H} {journal2 : Counters} {done : Done}
      → (IsTrue m.tells → (h : History) → IsHistory h → RepresentsRun h (m.contents h0)
      → HasPlayed m 0 h (m.contents h0) journal h1 × HoldsDueSnapshots m h h1)
      → ((h : History) → IsCheckpoint m h journal h1 → HoldsDueSnapshots m h h1
      → HasPlayed m (ticks_left journal.progress) h (m.contents h1) journal2 h2
      × HoldsDueSnapshots m (played (ticks_left journal.progress) h) h2)
      → journal2.progress.time ≡ journal2.progress.target → done.time ≡ journal2.progress.time
      → done.ticks ≡ journal2.progress.ticks → done.gone ≡ journal2.progress.gone → IsTrue m.tells → (h : History) → IsHistory h
      → RepresentsRun h (m.contents h0) → IsLed (ticks_left (progress_of h.log)) h (m.contents h0) done (m.contents h2)
  led_to_end law {h2 = h2} {journal2 = journal2} begun run ended time ticks gone tells h is represents =
      let has = begun tells h is represents in
      let here = subst (λ (n : ℕ). HasPlayed m n h (m.contents h1) journal2 h2 × HoldsDueSnapshots m (played n h) h2)
      (left_of h journal has.0.at.answers) (run h has.0.at has.1) in
      led law (played_from {before = m.contents h1} has.0.kept has.0.others (said_begun has.0) here.0) here.1 ended time ticks gone
