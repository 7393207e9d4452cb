-- How a session leads a run to a time: with a leg, or without one.
use Rattle.std.proofs.Common.{◌≡◌, ◌≢◌, ℕ, ◌+◌, ◌^◌, ◌<◌, ◌≤◌, ◌⊎◌, inl, inr, IsTrue, List, [], ◌∷◌, length, refl, sym, ap, subst, ◌∙◌, arith, append-nil}
use Rattle.std.specs.Int.{abs_diff}
use Rattle.std.proofs.lemmas.Bool.{cases_eq, cases_lt}
use Rattle.nb_model.specs.Limits.{most_ticks}
use Rattle.std.proofs.lemmas.List.Elements.{All-contains, All-from_recursion}
use Rattle.nb_host.specs.declared.host.Channel.{Channel}
use Rattle.nb_host.specs.declared.host.Channel.TheVariants as channels
use Rattle.nb_host.specs.Crashes.{AgreesOutside, ImagesFollow}
use Rattle.nb_host.specs.Image.{Image}
use Rattle.nb_host.specs.Meaning.{HostModel, Leads, IsDurable}
use Rattle.nb_format.specs.Snapshot.{IsFinishedSnapshot}
use Rattle.nb_journal.specs.Counters.{Counters, Answers, counters_after}
use Rattle.nb_journal.specs.declared.entry.Entry.TheVariants.{Leg}
use Rattle.nb_journal.specs.Entries.{IsNextLeg}
use Rattle.nb_journal.specs.Finding.{IsFound}
use Rattle.nb_journal.specs.Form.{Log, IsCleanJournal, progress_of, with_entry}
use Rattle.nb_journal.specs.Images.{IsCleanNow, Appends}
use Rattle.nb_journal.specs.Offsets.{journal_file}
use Rattle.nb_journal.proofs.Callers.{found_answers, answers_more, ready_then}
use Rattle.nb_tick.specs.Slots.{slot_of}
use Rattle.nb_engine.specs.declared.refusal.Refusal.{Refusal}
use Rattle.nb_engine.specs.Files.{init_file}
use Rattle.nb_engine.specs.Frame.{EachImage, KeepsOutsideRun}
use Rattle.nb_engine.specs.Histories.{IsDueAfter, History, run_of, ticks_of, IsHistory, legged}
use Rattle.nb_engine.specs.Represents.{snap_of, RepresentsRun}
use Rattle.nb_engine.specs.Sessions.{ticks_left, ticks_to, SessionLeads, OpenLeads, GoLeads, ResumeLeads, IsNoLeg}
use Rattle.nb_engine.specs.Steps.{IsCheckpoint, IsOutsideTicks, GoesOn, HasPlayed, HoldsDueSnapshots}
use Rattle.nb_engine.proofs.EachImages.{from_durable, leads_each, leads_from_durable}
use Rattle.nb_engine.proofs.LongerLogs.{run-legged, ticks-legged, leads-away}
use Rattle.nb_engine.proofs.LongerRuns.{due-shorter}
use Rattle.nb_engine.proofs.Openings.{goes_nowhere}
use Rattle.nb_engine.proofs.Paths.{ticks-within}
use Rattle.nb_engine.proofs.Played.{goes_from, goes_more}
use Rattle.nb_engine.proofs.Representing.{spared, represents_legged}

-- nothing is said before the first tick
pub said_begun : {H : Type 0} {m : HostModel H} {h : History} {first : Image} {journal : Counters} {host : H}
    → HasPlayed m 0 h first journal host → (m.contents host).said channels.Out ≡ first.said channels.Out
said_begun {first = first} begun = begun.said ∙ append-nil (first.said channels.Out)

-- ---- where no leg was added

pub record IsStanding (first : Image) : Type 0 where
  pub h : History
  pub is : IsHistory h
  pub represents : RepresentsRun h first

-- what stands in an image, of a folder that represented a history when the session began
abbrev pub Went : ℕ → (first : Image) → IsStanding first → Image → Type 0
Went target first standing image =
    GoesOn 0 standing.h first image
    ⊎ (IsHistory (legged target standing.h) × GoesOn (ticks_to target standing.h) (legged target standing.h) first image)

module _ {H : Type 0} (m : HostModel H) (target : ℕ) {h0 : H} (durable : IsDurable m h0) where
  -- the session was begun, and no more
  pub go_opened : {h1 : H} → Leads m OpenLeads h0 h1
      → ((h : History) → IsHistory h → RepresentsRun h (m.contents h0) → EachImage m (GoesOn 0 h (m.contents h0)) h0 h1)
      → Leads m (GoLeads m.crashes.is_honest target) h0 h1
  go_opened leads each =
      let first = m.contents h0 in
      let joined = leads_each (IsStanding first) (λ s image. GoesOn 0 s.h first image) durable leads
      (λ honest s. goes_nowhere 0 s.h first s.represents) (λ s. each s.h s.is s.represents) in
      leads_from_durable _ (GoLeads m.crashes.is_honest target) durable joined
      (λ tells image both. record {
        session = both.0.session;
        still = λ log journal no. both.0.snapshot log journal;
        goes = λ honest h is represents. inl (both.1 honest (record { h = h; is = is; represents = represents }));
      })

  pub resume_opened : {h1 : H} → Leads m OpenLeads h0 h1
      → ((h : History) → IsHistory h → RepresentsRun h (m.contents h0) → EachImage m (GoesOn 0 h (m.contents h0)) h0 h1)
      → Leads m (ResumeLeads m.crashes.is_honest) h0 h1
  resume_opened leads each =
      let first = m.contents h0 in
      let joined = leads_each (IsStanding first) (λ s image. GoesOn 0 s.h first image) durable leads
      (λ honest s. goes_nowhere 0 s.h first s.represents) (λ s. each s.h s.is s.represents) in
      leads_from_durable _ (ResumeLeads m.crashes.is_honest) durable joined
      (λ tells image both. record {
        session = both.0.session;
        still = λ log journal ended. both.0.snapshot log journal;
        goes = λ honest h is represents.
            goes_more 0 (ticks_left (progress_of h.log))
            (both.1 honest (record { h = h; is = is; represents = represents })) (omega arith);
      })

  -- ---- where a journal was found that allows the leg

  module _ (journal : Counters) (found : IsTrue m.tells → IsFound journal ((m.contents h0).file journal_file)) where
    -- the session went on, whatever its images are
    session_by_found : IsTrue m.tells → (image : Image) → KeepsOutsideRun (m.contents h0) image → SessionLeads (m.contents h0) image
    session_by_found tells image apart = record {
      apart = apart;
      idle = λ none. let there = found tells in absurd (none there.log there.journal);
    }

    pub go_on : {h3 : H} → ((why : Refusal) → IsNoLeg target journal.progress why → ⊥) → target ≢ journal.progress.time
        → Leads m KeepsOutsideRun h0 h3
        → ((s : IsStanding (m.contents h0)) → EachImage m (Went target (m.contents h0) s) h0 h3)
        → Leads m (GoLeads m.crashes.is_honest target) h0 h3
    go_on none away leads each =
        let first = m.contents h0 in
        let joined = leads_each (IsStanding first) (Went target first) durable leads
        (λ honest s. inl (goes_nowhere 0 s.h first s.represents)) each in
        leads_from_durable _ (GoLeads m.crashes.is_honest target) durable joined
        (λ tells image both. record {
          session = session_by_found tells image both.0;
          still = λ log is no.
              let same = found_answers log (first.file journal_file) is (found tells) in
              elim no [
                | inl refused ↦
                    absurd (none refused.0 (subst (λ (c : Counters). IsNoLeg target c.progress refused.0) (sym same) refused.1))
                | inr there ↦ absurd (away (there ∙ sym (ap (λ (c : Counters). c.progress.time) same)))
              ];
          goes = λ honest h is represents. both.1 honest (record { h = h; is = is; represents = represents });
        })

    -- calls that keep what is apart, and come no farther than to the snapshot that is due, where the last leg has ended
    abbrev pub Resumes : Image → Image → Type 0
    Resumes start image =
        KeepsOutsideRun start image × (journal.progress.time ≡ journal.progress.target → OpenLeads start image)

    pub resume_on : {h3 : H} → Leads m Resumes h0 h3
        → ((h : History) → IsHistory h → RepresentsRun h (m.contents h0)
        → EachImage m (GoesOn (ticks_left (progress_of h.log)) h (m.contents h0)) h0 h3)
        → Leads m (ResumeLeads m.crashes.is_honest) h0 h3
    resume_on leads each =
        let first = m.contents h0 in
        let joined = leads_each (IsStanding first) (λ s image. GoesOn (ticks_left (progress_of s.h.log)) s.h first image) durable leads
        (λ honest s. goes_nowhere (ticks_left (progress_of s.h.log)) s.h first s.represents)
        (λ s. each s.h s.is s.represents) in
        leads_from_durable _ (ResumeLeads m.crashes.is_honest) durable joined
        (λ tells image both. record {
          session = session_by_found tells image both.0.0;
          still = λ log is ended.
              let same = found_answers log (first.file journal_file) is (found tells) in
              (both.0.1 (subst (λ (c : Counters). c.progress.time ≡ c.progress.target) (sym same) ended)).snapshot log is;
          goes = λ honest h is represents. both.1 honest (record { h = h; is = is; represents = represents });
        })

-- ---- a leg

-- a call that changes the journal's file alone
other_file : {before new : Image} → AgreesOutside (journal_file ∷ []) before new → (number : ℕ) → journal_file ≢ number
    → new.file number ≡ before.file number
other_file agrees number apart =
    agrees.others number
    (λ among. All-contains (λ file. file ≢ number) (journal_file ∷ []) number
    (All-from_recursion (λ file. file ≢ number) (journal_file ∷ []) (apart, tt)) among refl)

-- which legs are lawful next ones
pub next_leg : (target : ℕ) (journal : Counters) → target < 2 ^ 64 → target ≢ journal.progress.time
    → ((why : Refusal) → IsNoLeg target journal.progress why → ⊥) → IsNextLeg journal.progress target
next_leg target journal fits apart none = record {
  fits = fits;
  ended = ended;
  apart = apart;
  limit = limit;
} where
  ended : journal.progress.time ≡ journal.progress.target
  ended = elim (cases_eq journal.progress.time journal.progress.target) [
    | inl same ↦ same
    | inr away ↦ absurd (none _ (inl (away, refl)))
  ]

  limit : journal.progress.ticks + abs_diff journal.progress.time target ≤ most_ticks
  limit = elim (cases_lt most_ticks (journal.progress.ticks + abs_diff journal.progress.time target)) [
    | inl over ↦ absurd (none _ (inr (ended, over, refl)))
    | inr within ↦ omega arith
  ]

-- the leg that `append` is handed is the history's next one
pub leg_of : (target : ℕ) (h : History) (journal : Counters) → Answers h.log journal → IsNextLeg journal.progress target
    → IsNextLeg (progress_of h.log) target
leg_of target h journal answers next = subst (λ (c : Counters). IsNextLeg c.progress target) answers next

module _ {H : Type 0} (m : HostModel H) (target : ℕ) (h : History) (first : Image) (journal : Counters) {h1 : H} (begun : HasPlayed m 0 h first journal h1) (date : HoldsDueSnapshots m h h1) (next : IsNextLeg journal.progress target) where
  leg : IsNextLeg (progress_of h.log) target
  leg = leg_of target h journal begun.at.answers next

  clean_now : IsCleanNow m h.log h1
  clean_now = ready_then m (λ tells. begun.at.represents.journal) begun.at.durable

  said_first : (m.contents h1).said channels.Out ≡ first.said channels.Out
  said_first = begun.said ∙ append-nil (first.said channels.Out)

  -- what an image may be while the leg is added
  leg_image : (image : Image) → Appends h.log (Leg target) (m.contents h1) (m.contents h1) image
      → GoesOn 0 h first image ⊎ (IsHistory (legged target h) × GoesOn (ticks_to target h) (legged target h) first image)
  leg_image image appends =
      let same = λ (number : ℕ) (apart : journal_file ≢ number). other_file appends.others number apart in
      let out = ap (λ (f : Channel → List ℕ). f channels.Out) appends.others.said in
      elim appends.either [
        | inl clean ↦ inl (goes_from {before = m.contents h1} begun.kept begun.others said_first (record {
          done = 0;
          few = omega arith;
          represents = still clean;
          kept = λ j within finished. same (snap_of j) (omega arith);
          others = λ j passed. same (snap_of j) (omega arith);
          said = out;
          first = λ opened. out ∙ sym (append-nil ((m.contents h1).said channels.Out));
        }))
        | inr has ↦
            let both = represents_legged h target (m.contents h1) image begun.at.is leg begun.at.represents has.opened.others has.opened.journal in
            let longer_ticks = ticks-legged target h in
            inr (
              both.0,
              goes_from {before = m.contents h1} (λ j within finished. begun.kept j (omega (arith, within, longer_ticks)) finished)
                  (λ j passed. begun.others j (subst (λ (k : ℕ). IsOutsideTicks k 0 j) longer_ticks passed)) said_first (record {
                    done = 0;
                    few = omega arith;
                    represents = both.1;
                    kept = λ j within finished. same (snap_of j) (omega arith);
                    others = λ j passed. same (snap_of j) (omega arith);
                    said = out;
                    first = λ opened. out ∙ sym (append-nil ((m.contents h1).said channels.Out));
                  }),
            )
      ] where
        still : IsCleanJournal h.log (image.file journal_file) → RepresentsRun h image
        still clean =
            spared h.log (run_of h) (ticks_of h) (m.contents h1) image begun.at.represents clean
            (other_file appends.others init_file (omega arith)) (other_file appends.others (slot_of (ticks_of h)) (omega arith))
            (λ j some within. other_file appends.others (snap_of j) (omega arith))

  pub leg_each : {h2 : H} → ((log : Log) → Answers log journal → IsCleanNow m log h1
      → ImagesFollow m.crashes h1 h2 (Appends log (Leg target) (m.contents h1)))
      → EachImage m (λ image. GoesOn 0 h first image ⊎ (IsHistory (legged target h) × GoesOn (ticks_to target h) (legged target h) first image)) h1 h2
  leg_each images =
      from_durable m (Appends h.log (Leg target) (m.contents h1)) _ begun.at.durable
      (images h.log begun.at.answers clean_now) (λ honest image appends. leg_image image appends)

  -- behind the leg
  module _ {h2 : H} (log_next : IsCleanJournal (with_entry h.log (Leg target)) ((m.contents h2).file journal_file)) (durable : IsDurable m h2) (others : AgreesOutside (journal_file ∷ []) (m.contents h1) (m.contents h2)) where
    both : IsHistory (legged target h) × RepresentsRun (legged target h) (m.contents h2)
    both = represents_legged h target (m.contents h1) (m.contents h2) begun.at.is leg begun.at.represents others log_next

    pub leg_at : IsCheckpoint m (legged target h) (counters_after (Leg target) journal) h2
    leg_at = record {
      tells = begun.at.tells;
      durable = durable;
      is = both.0;
      answers = answers_more h.log (Leg target) begun.at.answers;
      represents = both.1;
    }

    -- a snapshot that is due with the leg was due without it
    pub leg_date : HoldsDueSnapshots m (legged target h) h2
    leg_date j due within =
        let lawful = begun.at.represents.journal.journal.lawful in
        let up_to : j ≤ ticks_of h = omega (arith, within, ticks-legged target h) in
        let was = due-shorter target (run_of h) j (leads-away target h leg) (omega (arith, up_to, ticks-within h lawful))
        (subst (λ run. IsDueAfter run j) (run-legged target h) due) in
        subst (IsFinishedSnapshot (length h.bodies)) (sym (other_file others (snap_of j) (omega arith))) (date j was up_to)

    pub leg_kept : (j : ℕ) → j ≤ ticks_of (legged target h) → IsFinishedSnapshot (length h.bodies) (first.file (snap_of j))
        → (m.contents h2).file (snap_of j) ≡ first.file (snap_of j)
    leg_kept j within finished =
        let up_to : j ≤ ticks_of h = omega (arith, within, ticks-legged target h) in
        other_file others (snap_of j) (omega arith) ∙ begun.kept j up_to finished

    pub leg_others : (j : ℕ) → IsOutsideTicks (ticks_of (legged target h)) 0 j
        → (m.contents h2).file (snap_of j) ≡ first.file (snap_of j)
    leg_others j passed =
        other_file others (snap_of j) (omega arith)
        ∙ begun.others j (subst (λ (k : ℕ). IsOutsideTicks k 0 j) (ticks-legged target h) passed)

    pub leg_said : (m.contents h2).said channels.Out ≡ first.said channels.Out
    leg_said = ap (λ (f : Channel → List ℕ). f channels.Out) others.said ∙ said_first

    pub leg_goes : {image : Image} {most : ℕ} → GoesOn most (legged target h) (m.contents h2) image
        → GoesOn most (legged target h) first image
    leg_goes goes = goes_from leg_kept leg_others leg_said goes
