-- Whether a snapshot is due after the last tick of a journal.
use Rattle.std.proofs.Common.{◌≡◌, ◌≢◌, ℕ, zero, suc, ◌+◌, ◌<◌, ◌≤◌, inl, inr, ◌↔◌, List, [], ◌∷◌, ◌++◌, length, take, Bool, true, false, IsTrue, Some, slice_get, refl, sym, ap, subst, ◌∙◌, arith, length-append}
use Rattle.std.specs.Int.{abs_diff}
use Rattle.std.proofs.lemmas.Bool.{cases_lt, cases_eq, false≢true}
use Rattle.std.proofs.lemmas.Bool.Decides.{nat_tests}
use Rattle.std.proofs.Math.Seq.{take-append_seam}
use Rattle.std.proofs.lemmas.List.{take_all}
use Rattle.std.proofs.lemmas.Option.{same_Some}
use Rattle.nb_model.specs.Leapfrog.{escaped_count}
use Rattle.nb_model.specs.Legs.{directions, directions_to, EndsLeg}
use Rattle.nb_journal.specs.declared.entry.Entry.{Entry}
use Rattle.nb_journal.specs.declared.entry.Entry.TheVariants.{Leg, Tick}
use Rattle.nb_journal.specs.Counters.{Counters, Answers, counters_of}
use Rattle.nb_journal.specs.Entries.{Progress, IsNextEntry, AreLawful, toward, progress_after, after_all}
use Rattle.nb_journal.specs.Form.{IsLawful, initial_progress, progress_of}
use Rattle.nb_journal.proofs.Callers.{progress-with_entry}
use Rattle.nb_engine.specs.Due.{IsDueByCounters, TellsDue}
use Rattle.nb_engine.specs.Histories.{Run, state_at, IsDueAfter, run_length, History, legs_in, run_of, ticks_of, with_entry_of, ticked, legged}
use Rattle.nb_engine.proofs.LongerLogs.{legs_in-tick, run-legged, ticks-legged, ticks-ended}
use Rattle.nb_engine.proofs.LongerRuns.{length-directions_to}
use Rattle.nb_engine.proofs.Paths.{told, ticks-within}

-- ---- a log without its last entry

lawful_front : (count : ℕ) (s : Progress) (entries : List Entry) (entry : Entry) → AreLawful count s (entries ++ entry ∷ [])
    → AreLawful count s entries × IsNextEntry count (after_all entries s) entry
lawful_front count s [] entry lawful = (tt, lawful.0)
lawful_front count s (first ∷ entries) entry lawful =
    let rest = lawful_front count (progress_after first s) entries entry lawful.1 in ((lawful.0, rest.0), rest.1)

pub lawful_before : (h : History) (entry : Entry) → IsLawful (with_entry_of entry h).log → IsLawful h.log
lawful_before h entry lawful = record {
  version = lawful.version;
  params = lawful.params;
  count = lawful.count;
  time = lawful.time;
  gone = lawful.gone;
  entries = (lawful_front h.log.count (initial_progress h.log) h.log.entries entry lawful.entries).0;
}

next_entry : (h : History) (entry : Entry) → IsLawful (with_entry_of entry h).log
    → IsNextEntry h.log.count (progress_of h.log) entry
next_entry h entry lawful = (lawful_front h.log.count (initial_progress h.log) h.log.entries entry lawful.entries).1

-- ---- legs that have ended

-- a tick more, and one less ahead
pub nearer : (time target : ℕ) → time ≢ target → abs_diff (toward time target) target + 1 ≡ abs_diff time target
nearer time target apart = grind (arith, nat_tests)

-- The ticks never fall.
ticks-rise : (count : ℕ) (s : Progress) (entries : List Entry) → AreLawful count s entries → s.ticks ≤ (after_all entries s).ticks
ticks-rise count s [] lawful = omega arith
ticks-rise count s (Leg target ∷ entries) lawful = ticks-rise count (progress_after (Leg target) s) entries lawful.1
ticks-rise count s (Tick number gone ∷ entries) lawful =
    omega (arith, lawful.0.next, ticks-rise count (progress_after (Tick number gone) s) entries lawful.1)

-- All legs but the last have ended: those of the entries, behind the ticks that were ahead before them.
ended_by : (count : ℕ) (s : Progress) (entries : List Entry) (n : ℕ) → AreLawful count s entries → n < length (legs_in entries)
    → s.ticks + abs_diff s.time s.target + length (directions s.target (take n (legs_in entries))) ≤ (after_all entries s).ticks
ended_by count s [] n lawful within = absurd (omega arith)
ended_by count s (Leg target ∷ entries) zero lawful within =
    let ended : s.time ≡ s.target = lawful.0.ended in
    omega (arith, ended, ticks-rise count (progress_after (Leg target) s) entries lawful.1)
ended_by count s (Leg target ∷ entries) (suc n) lawful within =
    let ended : s.time ≡ s.target = lawful.0.ended in
    let rest = ended_by count (progress_after (Leg target) s) entries n lawful.1 (omega arith) in
    let behind = directions target (take n (legs_in entries)) in
    omega (
      arith,
      ended,
      rest,
      length-append (directions_to s.target target) behind,
      length-directions_to s.target target,
    )
ended_by count s (Tick number gone ∷ entries) n lawful within =
    let rest = ended_by count (progress_after (Tick number gone) s) entries n lawful.1 within in
    omega (arith, rest, lawful.0.next, nearer s.time s.target lawful.0.leg)

ended_legs : (h : History) (n : ℕ) → IsLawful h.log → n < length (run_of h).legs
    → length (directions (run_of h).begin (take n (run_of h).legs)) ≤ ticks_of h
ended_legs h n lawful within =
    let begin = h.log.begin_time in
    omega (arith, ended_by h.log.count (initial_progress h.log) h.log.entries n lawful.entries within)

-- the ticks of a run are those that are done and those that are left
ticks-left : (h : History) → IsLawful h.log
    → run_length (run_of h) ≡ ticks_of h + abs_diff (progress_of h.log).time (progress_of h.log).target
ticks-left h lawful =
    let is = told h lawful in
    let now = progress_of h.log in
    omega (
      arith,
      ap length is.all,
      is.ticks,
      length-append is.ways (directions_to now.time now.target),
      length-directions_to now.time now.target,
    )

-- ---- what is due

-- where the last leg has ended
ends_last : (h : History) → IsLawful h.log → (progress_of h.log).time ≡ (progress_of h.log).target
    → EndsLeg (run_of h).begin (run_of h).legs (ticks_of h)
ends_last h lawful ended =
    let legs = (run_of h).legs in
    let all = take_all (length legs) legs (omega arith) in
    (length legs, sym (ticks-ended h lawful ended) ∙ ap (λ (l : List ℕ). length (directions h.log.begin_time l)) (sym all))

pub due_by : (h : History) → IsLawful h.log → IsDueByCounters (counters_of h.log) → IsDueAfter (run_of h) (ticks_of h)
due_by h lawful is = record {
  some = is.0;
  within = ticks-within h lawful;
  due = elim is.1 [ inl every ↦ inl every | inr ended ↦ inr (ends_last h lawful ended) ];
}

-- After a tick no leg ends but where the last one does.
ends_tick : (h : History) (number gone : ℕ) → IsLawful (with_entry_of (Tick number gone) h).log
    → EndsLeg h.log.begin_time (run_of (with_entry_of (Tick number gone) h)).legs (ticks_of (with_entry_of (Tick number gone) h))
    → (progress_of (with_entry_of (Tick number gone) h).log).time ≡ (progress_of (with_entry_of (Tick number gone) h).log).target
ends_tick h number gone lawful ends =
    let more = with_entry_of (Tick number gone) h in
    let begin = h.log.begin_time in
    let now = progress_of more.log in
    let legs = (run_of more).legs in
    let same : legs ≡ legs_in h.log.entries = legs_in-tick h.log.entries number gone in
    let last : ticks_of more ≡ number = ap (λ (s : Progress). s.ticks) (progress-with_entry h.log (Tick number gone)) in
    let next : number ≡ ticks_of h + 1 = (next_entry h (Tick number gone) lawful).next in
    let n = ends.0 in
    elim (cases_eq now.time now.target) [
      | inl ended ↦ ended
      | inr apart ↦ elim (cases_lt n (length legs)) [
        | inl within ↦
            let fewer : n < length (legs_in h.log.entries) = subst (λ (l : List ℕ). n < length l) same within in
            let was = ended_legs h n (lawful_before h (Tick number gone) lawful) fewer in
            absurd (omega (arith, was, last, next, ends.1, ap (λ (l : List ℕ). length (directions begin (take n l))) same))
        | inr beyond ↦
            absurd (omega (
              arith,
              ends.1,
              ap (λ (l : List ℕ). length (directions begin l)) (take_all n legs beyond),
              ticks-left more lawful,
            ))
      ]
    ]

due_told : (h : History) (number gone : ℕ) → IsLawful (with_entry_of (Tick number gone) h).log
    → IsDueAfter (run_of (with_entry_of (Tick number gone) h)) (ticks_of (with_entry_of (Tick number gone) h))
    → IsDueByCounters (counters_of (with_entry_of (Tick number gone) h).log)
due_told h number gone lawful is = (
  is.some,
  elim is.due [ inl every ↦ inl every | inr ends ↦ inr (ends_tick h number gone lawful ends) ],
)

-- A leg begins where the one before it ended.
due_legged : (h : History) (target : ℕ) → IsLawful (legged target h).log → 1 ≤ ticks_of (legged target h)
    → IsDueAfter (run_of (legged target h)) (ticks_of (legged target h))
due_legged h target lawful some =
    let legs = (run_of h).legs in
    let before = lawful_before h (Leg target) lawful in
    let ended = ticks-ended h before (next_entry h (Leg target) lawful).ended in
    let same : (run_of (legged target h)).legs ≡ legs ++ target ∷ [] = ap (λ (r : Run). r.legs) (run-legged target h) in
    let front : take (length legs) (run_of (legged target h)).legs ≡ legs =
    ap (take (length legs)) same ∙ take-append_seam legs (target ∷ []) in
    record {
      some = some;
      within = ticks-within (legged target h) lawful;
      due =
          inr (
            length legs,
            ticks-legged target h ∙ sym ended
                ∙ ap (λ (l : List ℕ). length (directions h.log.begin_time l)) (sym front),
          );
    }

-- ---- after a tick

-- A snapshot is due after a tick by the counters of its journal.
pub due_by-ticked : {journal : Counters} (h : History) → IsLawful (ticked h).log → Answers (ticked h).log journal
    → IsDueByCounters journal ↔ IsDueAfter (run_of (ticked h)) (ticks_of (ticked h))
due_by-ticked h lawful answers = (
  λ is. due_by (ticked h) lawful (subst IsDueByCounters answers is),
  λ due.
      subst IsDueByCounters (sym answers)
      (due_told h (suc (ticks_of h)) (escaped_count (state_at (run_of h) (suc (ticks_of h)))) lawful due),
)

pub tells_due-ticked : {journal : Counters} {due : Bool} (h : History) → IsLawful (ticked h).log
    → Answers (ticked h).log journal → IsTrue due ↔ IsDueByCounters journal → TellsDue (ticked h) due
tells_due-ticked h lawful answers tells =
    let by = due_by-ticked h lawful answers in
    (λ is. by.0 (tells.0 is), λ due. tells.1 (by.1 due))

-- ---- whatever the last entry is

record EndsWith (h : History) (entry : Entry) : Type 0 where
  before : History
  is : h ≡ with_entry_of entry before

last_of : (entries : List Entry) (i : ℕ) (entry : Entry) → i + 1 ≡ length entries → slice_get entries i ≡ Some entry
    → (before : List Entry) × (entries ≡ before ++ entry ∷ [])
last_of [] i entry last is = absurd (omega arith)
last_of (first ∷ []) zero entry last is = ([], ap (λ (e : Entry). e ∷ []) (same_Some first entry is))
last_of (first ∷ second ∷ entries) zero entry last is = absurd (omega arith)
last_of (first ∷ entries) (suc i) entry last is =
    let rest = last_of entries i entry (omega arith) is in (first ∷ rest.0, ap (λ (l : List Entry). first ∷ l) rest.1)

ends_with : (h : History) (i : ℕ) (entry : Entry) → i + 1 ≡ length h.log.entries → slice_get h.log.entries i ≡ Some entry
    → EndsWith h entry
ends_with h i entry last is =
    let rest = last_of h.log.entries i entry last is in
    record {
      before = record { log = record h.log { entries = rest.0 }; bodies = h.bodies };
      is = ap (λ (l : List Entry). record { log = record h.log { entries = l }; bodies = h.bodies }) rest.1;
    }

pub tells_by : {journal : Counters} (h : History) → IsLawful h.log → Answers h.log journal → IsDueByCounters journal → TellsDue h true
tells_by h lawful answers is = (λ _. due_by h lawful (subst IsDueByCounters answers is), λ _. refl)

-- Where the last entry is a leg, the tick before it ended the one before.
pub tells_leg : {journal : Counters} (h : History) (i target : ℕ) → IsLawful h.log → Answers h.log journal
    → journal.progress.ticks ≢ 0 → i + 1 ≡ journal.entries → slice_get h.log.entries i ≡ Some (Leg target) → TellsDue h true
tells_leg h i target lawful answers some last is =
    let entries = ap (λ (c : Counters). c.entries) answers in
    let ticks = ap (λ (c : Counters). c.progress.ticks) answers in
    let ends = ends_with h i (Leg target) (omega arith) is in
    let due = subst (λ (x : History). IsLawful x.log → 1 ≤ ticks_of x → IsDueAfter (run_of x) (ticks_of x)) (sym ends.is)
    (due_legged ends.before target) in
    (λ _. due lawful (omega arith), λ _. refl)

-- Where it is a tick, the counters tell.
pub tells_tick : {journal : Counters} (h : History) (i number gone : ℕ) → IsLawful h.log → Answers h.log journal
    → (IsDueByCounters journal → ⊥) → i + 1 ≡ journal.entries → slice_get h.log.entries i ≡ Some (Tick number gone) → TellsDue h false
tells_tick h i number gone lawful answers never last is =
    let entries = ap (λ (c : Counters). c.entries) answers in
    let ends = ends_with h i (Tick number gone) (omega arith) is in
    let by = subst (λ (x : History). IsLawful x.log → IsDueAfter (run_of x) (ticks_of x) → IsDueByCounters (counters_of x.log)) (sym ends.is)
    (due_told ends.before number gone) in
    (λ t. absurd (false≢true t), λ due. absurd (never (subst IsDueByCounters (sym answers) (by lawful due))))
