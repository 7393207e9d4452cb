-- A session that adds a leg and runs it, from its begin to its end.
use Rattle.std.proofs.Common.{◌≡◌, ◌≢◌, ℕ, zero, suc, ◌⊎◌, inl, inr, IsTrue, List, [], ◌∷◌, refl, sym, ap, subst, ◌∙◌, arith}
use Rattle.std.specs.Prelude.{Contains}
use Rattle.std.proofs.lemmas.Bool.{cases_eq}
use Rattle.nb_host.specs.declared.host.Channel.{Channel}
use Rattle.nb_host.specs.declared.host.Channel.TheVariants as channels
use Rattle.nb_host.specs.Crashes.{AgreesOutside, ImagesFollow}
use Rattle.nb_host.specs.Image.{Image, FileBecomes}
use Rattle.nb_host.specs.Meaning.{HostModel, Leads, IsDurable}
use Rattle.nb_host.proofs.Callers.{leads_more, leads_then, becomes_agrees}
use Rattle.nb_cache.specs.View.{CacheValue}
use Rattle.nb_cache.proofs.Callers.{step_file}
use Rattle.nb_journal.specs.Counters.{Counters, Answers, counters_after}
use Rattle.nb_journal.specs.declared.entry.Entry.TheVariants.{Leg}
use Rattle.nb_journal.specs.Entries.{IsNextLeg}
use Rattle.nb_journal.specs.Finding.{IsFound}
use Rattle.nb_journal.specs.Form.{Log, IsCleanJournal, progress_of, with_entry}
use Rattle.nb_journal.specs.Images.{IsCleanNow, Appends}
use Rattle.nb_journal.specs.Offsets.{journal_file}
use Rattle.nb_record.specs.Order.{by_key, sorted_by, HoldsBodies}
use Rattle.nb_tick.specs.Slots.{slot_of}
use Rattle.nb_engine.specs.declared.going.Done.{Done}
use Rattle.nb_engine.specs.declared.refusal.Refusal.{Refusal}
use Rattle.nb_engine.specs.declared.refusal.Refusal.TheVariants as refusal
use Rattle.nb_engine.specs.Frame.{EachImage, IsOutsideRun, KeepsOutsideRun}
use Rattle.nb_engine.specs.Histories.{History, IsHistory, legged}
use Rattle.nb_engine.specs.Represents.{RepresentsRun}
use Rattle.nb_engine.specs.Refusal.{NeedsNoCause}
use Rattle.nb_engine.specs.Sessions.{ticks_left, aimed_at, ticks_to, IsLed, OpenLeads, GoLeads, IsNoLeg, IsOfLeg, IsGoReady, IsSlotDamaged}
use Rattle.nb_engine.specs.Shown.{IsOfShow}
use Rattle.nb_engine.specs.Snapshots.{snapshot_files}
use Rattle.nb_engine.specs.Steps.{played, IsCheckpoint, IsFlushed, GoesOn, HasPlayed, HoldsDueSnapshots, HasState, IsStateDamaged}
use Rattle.nb_engine.proofs.EachImages.{each_then, each_told}
use Rattle.nb_engine.proofs.GoingOn.{IsStanding, Went, go_on, leg_each, leg_at, leg_date, leg_kept, leg_others, leg_said, leg_goes}
use Rattle.nb_engine.proofs.Led.{SnapshotIsBack, led, led_here, led_away, left_of_leg}
use Rattle.nb_engine.proofs.Played.{played_from}

-- ---- steps

-- calls that keep what is apart, one after the other
pub apart_both : {H : Type 0} {m : HostModel H} {old middle new : H} → Leads m KeepsOutsideRun old middle → Leads m KeepsOutsideRun middle new
    → Leads m KeepsOutsideRun old new
apart_both one two =
    leads_then one two (λ start image first. first)
    (λ start between image first second. record {
      files = λ number is. second.files number is ∙ first.files number is;
      err = second.err ∙ first.err;
    })

never_journal : (number : ℕ) → IsOutsideRun number → number ≡ journal_file → ⊥
never_journal number (inl low) same = omega arith
never_journal number (inr high) same = absurd (omega (arith, high.0))

-- an entry changes the journal's file alone
pub journal_apart : {H : Type 0} {m : HostModel H} {P : List ℕ → List ℕ → Type 0} {old new : H}
    → Leads m (FileBecomes journal_file P) old new → Leads m KeepsOutsideRun old new
journal_apart leads =
    leads_more leads (λ start image step. record {
      files = λ number is. step.others number (never_journal number is);
      err = ap (λ (f : Channel → List ℕ). f channels.Err) step.said;
    })

pub open_apart : {H : Type 0} {m : HostModel H} {old new : H} → Leads m OpenLeads old new → Leads m KeepsOutsideRun old new
open_apart leads = leads_more leads (λ start image step. step.session.apart)

-- the cache stays as it is through an entry
pub settled_journal : {H : Type 0} {m : HostModel H} {P : List ℕ → List ℕ → Type 0} {cache : CacheValue} {old new : H}
    → Leads m (FileBecomes journal_file P) old new → IsFlushed m cache old → IsFlushed m cache new
settled_journal {cache = cache} leads settled = record {
  in_step = step_file cache (λ cached. absurd (omega (arith, cached.least))) leads settled.in_step;
  unwritten = settled.unwritten;
}

-- a leg that isn't allowed is no device fault
pub no_leg_steady : (target : ℕ) (journal : Counters) {why : Refusal} → IsNoLeg target journal.progress why
    → why ≡ refusal.Device → ⊥
no_leg_steady target journal (inl open_leg) is = let same = open_leg.1 in cc
no_leg_steady target journal (inr far) is = let same = far.2 in cc

-- nor is a refusal of another kind one of a leg
pub shown_no_leg : (why : Refusal) → IsOfShow why → IsOfLeg why → ⊥
shown_no_leg (refusal.LegOpen target time) shown of_leg = shown
shown_no_leg (refusal.TickLimit ticks) shown of_leg = shown
shown_no_leg why shown of_leg = of_leg

pub free_no_leg : (why : Refusal) → NeedsNoCause why → IsOfLeg why → ⊥
free_no_leg why (inl device) of_leg = subst IsOfLeg device of_leg
free_no_leg why (inr memory) of_leg = subst IsOfLeg memory of_leg

pub run_no_leg : {H : Type 0} {m : HostModel H} {journal : Counters} {host : H} (why : Refusal)
    → NeedsNoCause why ⊎ IsStateDamaged m journal host why → IsOfLeg why → ⊥
run_no_leg why (inl free) of_leg = free_no_leg why free of_leg
run_no_leg why (inr spoilt) of_leg = subst IsOfLeg spoilt.named of_leg

-- where none is refused the last one has ended
pub leg_ended : (target : ℕ) (journal : Counters) → ((why : Refusal) → IsNoLeg target journal.progress why → ⊥)
    → journal.progress.time ≡ journal.progress.target
leg_ended target journal none = elim (cases_eq journal.progress.time journal.progress.target) [
  | inl same ↦ same
  | inr away ↦ absurd (none _ (inl (away, refl)))
]

module _ {H : Type 0} (m : HostModel H) (target : ℕ) {h0 h1 : H} (journal : Counters) (durable : IsDurable m h0) (found : IsTrue m.tells → IsFound journal ((m.contents h0).file journal_file)) (leads1 : Leads m OpenLeads h0 h1) (each1 : (h : History) → IsHistory h → RepresentsRun h (m.contents h0) → EachImage m (GoesOn 0 h (m.contents h0)) h0 h1) (begun : IsTrue m.tells → (h : History) → IsHistory h → RepresentsRun h (m.contents h0) → HasPlayed m 0 h (m.contents h0) journal h1 × HoldsDueSnapshots m h h1) (none : (why : Refusal) → IsNoLeg target journal.progress why → ⊥) where
  abbrev pub first : Image
  first = m.contents h0

  pub can_go : IsTrue m.tells → IsGoReady target first.file
  can_go tells =
      let there = found tells in (
        there.log,
        there.journal,
        λ why no. none why (subst (λ (c : Counters). IsNoLeg target c.progress why) (sym there.answers) no),
      )

  -- the run is at the target
  pub led_there : SnapshotIsBack → {done : Done} → target ≡ journal.progress.time → done.time ≡ journal.progress.time
      → done.ticks ≡ journal.progress.ticks → done.gone ≡ journal.progress.gone → IsTrue m.tells → (h : History) → IsHistory h
      → RepresentsRun h first → IsLed (ticks_to target h) (aimed_at target h) first done (m.contents h1)
  led_there law same time ticks gone tells h is represents =
      let has = begun tells h is represents in
      led_here target h (same ∙ ap (λ (c : Counters). c.progress.time) has.0.at.answers)
      (led law has.0 has.1 (leg_ended target journal none) time ticks gone)

  module _ {P : List ℕ → List ℕ → Type 0} {h2 : H} (next : IsNextLeg journal.progress target) (leads2 : Leads m (FileBecomes journal_file P) h1 h2) (images2 : (log : Log) → Answers log journal → IsCleanNow m log h1 → ImagesFollow m.crashes h1 h2 (Appends log (Leg target) (m.contents h1))) where
    apart2 : Leads m KeepsOutsideRun h0 h2
    apart2 = apart_both (open_apart leads1) (journal_apart leads2)

    each2 : (s : IsStanding first) → EachImage m (Went target first s) h0 h2
    each2 s =
        each_told m (Went target first s) (λ tells.
        let has = begun tells s.h s.is s.represents in
        each_then m (GoesOn 0 s.h first) (Went target first s) (Went target first s) (each1 s.h s.is s.represents)
        (leg_each m target s.h first journal has.0 has.1 next images2) (λ image goes. inl goes) (λ image went. went))

    -- the leg was added, or not
    pub appended : Leads m (GoLeads m.crashes.is_honest target) h0 h2
    appended = go_on m target durable journal found none next.apart apart2 each2

    slot_still : IsTrue m.tells → (m.contents h2).file (slot_of journal.progress.ticks) ≡ first.file (slot_of journal.progress.ticks)
    slot_still tells =
        let there = found tells in
        let agrees = ((leads1.contents tells).snapshot there.log there.journal).others in
        let ticks = ap (λ (c : Counters). c.progress.ticks) there.answers in
        let apart : (file : ℕ) → file ≡ slot_of journal.progress.ticks → Contains (snapshot_files (progress_of there.log).ticks) file → ⊥ =
        not_snapshot (progress_of there.log).ticks journal.progress.ticks in
        (leads2.contents tells).others (slot_of journal.progress.ticks) (λ same. absurd (omega (arith, same)))
        ∙ agrees.others (slot_of journal.progress.ticks) (apart (slot_of journal.progress.ticks) refl)
      where
        not_snapshot : (k n file : ℕ) → file ≡ slot_of n → Contains (snapshot_files k) file → ⊥
        not_snapshot k n file slot (zero, below, is) = omega (arith, slot, is)
        not_snapshot k n file slot (suc zero, below, is) = omega (arith, slot, is)
        not_snapshot k n file slot (suc (suc i), below, is) = absurd (omega (arith, below))

    module _ {journal2 : Counters} (is2 : journal2 ≡ counters_after (Leg target) journal) where
      -- a slot that is spoilt behind the leg was so before
      pub spoilt_leg : IsTrue m.tells → {why : Refusal} → IsStateDamaged m journal2 h2 why → IsSlotDamaged first.file why
      spoilt_leg tells {why = why} spoilt =
          let there = found tells in
          record {
            log = there.log;
            journal = there.journal;
            page = spoilt.page;
            named = spoilt.named;
            file = spoilt.file;
            cause = λ bodies has.
                let own = subst (λ (c : Counters). HasState c bodies first.file) (sym there.answers) has in
                spoilt.cause tells bodies
                (subst (λ (c : Counters). HasState c bodies (m.contents h2).file) (sym is2) (record {
                  valid = own.valid;
                  count = own.count;
                  gone = own.gone;
                  slot = subst (λ file. HoldsBodies file (sorted_by by_key bodies)) (sym (slot_still tells)) own.slot;
                }));
          }

      module _ (durable2 : IsDurable m h2) (added : (log : Log) → Answers log journal → IsTrue m.tells → IsCleanJournal log ((m.contents h1).file journal_file) → IsCleanJournal (with_entry log (Leg target)) ((m.contents h2).file journal_file)) where
        others2 : IsTrue m.tells → AgreesOutside (journal_file ∷ []) (m.contents h1) (m.contents h2)
        others2 tells = becomes_agrees (leads2.contents tells)

        behind_leg : IsTrue m.tells → (s : IsStanding first) → IsCheckpoint m (legged target s.h) journal2 h2 × HoldsDueSnapshots m (legged target s.h) h2
        behind_leg tells s =
            let has = begun tells s.h s.is s.represents in
            let clean = added s.h.log has.0.at.answers tells has.0.at.represents.journal in
            let at = leg_at m target s.h first journal has.0 has.1 next clean durable2 (others2 tells) in (
              subst (λ (c : Counters). IsCheckpoint m (legged target s.h) c h2) (sym is2) at,
              leg_date m target s.h first journal has.0 has.1 next clean durable2 (others2 tells),
            )

        ticks_are : IsTrue m.tells → (s : IsStanding first) → ticks_left journal2.progress ≡ ticks_to target s.h
        ticks_are tells s =
            let has = begun tells s.h s.is s.represents in
            ap (λ (c : Counters). ticks_left c.progress) is2 ∙ left_of_leg target s.h journal has.0.at.answers

        -- the leg was run, or some of it
        pub went_on : {h3 : H} → Leads m KeepsOutsideRun h2 h3 → ((h : History) → IsCheckpoint m h journal2 h2 → HoldsDueSnapshots m h h2
            → EachImage m (GoesOn (ticks_left journal2.progress) h (m.contents h2)) h2 h3)
            → Leads m (GoLeads m.crashes.is_honest target) h0 h3
        went_on {h3 = h3} leads3 images3 =
            go_on m target durable journal found none next.apart (apart_both apart2 leads3) (λ s.
            each_told m (Went target first s) (λ tells.
            let has = begun tells s.h s.is s.represents in
            let both = behind_leg tells s in
            let clean = added s.h.log has.0.at.answers tells has.0.at.represents.journal in
            let run = subst (λ (n : ℕ). EachImage m (GoesOn n (legged target s.h) (m.contents h2)) h2 h3) (ticks_are tells s)
            (images3 (legged target s.h) both.0 both.1) in
            each_then m (Went target first s) (GoesOn (ticks_to target s.h) (legged target s.h) (m.contents h2)) (Went target first s)
            (each2 s) run (λ image went. went)
            (λ image goes. inr (
              both.0.is,
              leg_goes m target s.h first journal has.0 has.1 next clean durable2 (others2 tells) goes,
            ))))

        -- it was run to its end
        pub led_on : SnapshotIsBack → {h3 : H} {journal3 : Counters} {done : Done} → target ≢ journal.progress.time → ((h : History) → IsCheckpoint m h journal2 h2
            → HoldsDueSnapshots m h h2 → HasPlayed m (ticks_left journal2.progress) h (m.contents h2) journal3 h3
            × HoldsDueSnapshots m (played (ticks_left journal2.progress) h) h3)
            → journal3.progress.time ≡ journal3.progress.target → done.time ≡ journal3.progress.time
            → done.ticks ≡ journal3.progress.ticks → done.gone ≡ journal3.progress.gone → IsTrue m.tells → (h : History)
            → IsHistory h → RepresentsRun h first → IsLed (ticks_to target h) (aimed_at target h) first done (m.contents h3)
        led_on law {h3 = h3} {journal3 = journal3} away run ended time ticks gone tells h is represents =
            let s : IsStanding first = record { h = h; is = is; represents = represents } in
            let has = begun tells h is represents in
            let both = behind_leg tells s in
            let clean = added h.log has.0.at.answers tells has.0.at.represents.journal in
            let more = run (legged target h) both.0 both.1 in
            let here = subst (λ (n : ℕ). HasPlayed m n (legged target h) (m.contents h2) journal3 h3
            × HoldsDueSnapshots m (played n (legged target h)) h3) (ticks_are tells s) more in
            let rebased = played_from
            (λ j within finished. leg_kept m target h first journal has.0 has.1 next clean durable2 (others2 tells) j within finished)
            (λ j passed. leg_others m target h first journal has.0 has.1 next clean durable2 (others2 tells) j passed)
            (leg_said m target h first journal has.0 has.1 next clean durable2 (others2 tells)) here.0 in
            led_away target h (λ same. away (same ∙ sym (ap (λ (c : Counters). c.progress.time) has.0.at.answers)))
            (led law rebased here.1 ended time ticks gone)
