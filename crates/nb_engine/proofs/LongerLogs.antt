-- A journal with one entry more, and the run of which it tells.
use Rattle.std.proofs.Common.{◌≡◌, ◌≢◌, ℕ, suc, ◌+◌, ◌≤◌, Bool, true, false, true≢false, inl, inr, List, [], ◌∷◌, ◌++◌, length, refl, sym, ap, subst, ◌∙◌, arith, length-append}
use Rattle.std.specs.Int.{abs_diff}
use Rattle.std.proofs.lemmas.List.Elements.{Contains-push_cases}
use Rattle.nb_model.specs.Leapfrog.{escaped_count}
use Rattle.nb_model.specs.Legs.{directions_to}
use Rattle.nb_model.specs.Limits.{most_ticks}
use Rattle.nb_journal.specs.declared.entry.Entry.{Entry}
use Rattle.nb_journal.specs.declared.entry.Entry.TheVariants.{Leg, Tick}
use Rattle.nb_journal.specs.Entries.{Progress, IsNextLeg, progress_after, after_all}
use Rattle.nb_journal.specs.Form.{IsLawful, initial_progress, progress_of}
use Rattle.nb_journal.proofs.Callers.{progress-with_entry}
use Rattle.nb_engine.specs.Histories.{state_at, run_length, IsRun, History, legs_in, run_of, ticks_of, IsHistory, next_tick, ticked, legged}
use Rattle.nb_engine.proofs.LongerRuns.{end_of, longer, run-longer, state-longer}
use Rattle.nb_engine.proofs.Paths.{told, ticks-within}
use Rattle.nb_engine.proofs.Straight.{directions_to-later}

-- what an entry says
abbrev is_leg : Entry → Bool
is_leg (Leg target) = true
is_leg (Tick number gone) = false

abbrev number_in : Entry → ℕ
number_in (Leg target) = target
number_in (Tick number gone) = number

abbrev gone_in : Entry → ℕ
gone_in (Leg target) = 0
gone_in (Tick number gone) = gone

-- ---- a tick more

pub legs_in-tick : (entries : List Entry) (number gone : ℕ) → legs_in (entries ++ Tick number gone ∷ []) ≡ legs_in entries
legs_in-tick [] number gone = refl
legs_in-tick (Leg target ∷ entries) number gone = ap (λ legs. target ∷ legs) (legs_in-tick entries number gone)
legs_in-tick (Tick other out ∷ entries) number gone = legs_in-tick entries number gone

pub run-ticked : (h : History) → run_of (ticked h) ≡ run_of h
run-ticked h =
    ap (λ legs. record (run_of h) { legs = legs })
    (legs_in-tick h.log.entries (suc (ticks_of h)) (escaped_count (state_at (run_of h) (suc (ticks_of h)))))

pub ticks-ticked : (h : History) → ticks_of (ticked h) ≡ suc (ticks_of h)
ticks-ticked h = ap (λ s. s.ticks) (progress-with_entry h.log (next_tick h))

pub history-ticked : (h : History) → IsHistory h → IsHistory (ticked h)
history-ticked h is = record {
  run = subst IsRun (sym (run-ticked h)) is.run;
  count = is.count;
  gone = is.gone;
  truthful = λ number gone at. elim (Contains-push_cases h.log.entries (next_tick h) (Tick number gone) at) [
    | inl before ↦
        let was = is.truthful number gone before in
        record {
          done = omega (arith, was.done, ticks-ticked h);
          gone_is = was.gone_is ∙ ap (λ run. escaped_count (state_at run number)) (sym (run-ticked h));
        }
    | inr last ↦
        let here = ap number_in last in
        record {
          done = omega (arith, here, ticks-ticked h);
          gone_is =
              sym (ap gone_in last) ∙ ap (λ k. escaped_count (state_at (run_of h) k)) here
              ∙ ap (λ run. escaped_count (state_at run number)) (sym (run-ticked h));
        }
  ];
}

-- ---- a leg more

legs_in-leg : (entries : List Entry) (target : ℕ) → legs_in (entries ++ Leg target ∷ []) ≡ legs_in entries ++ target ∷ []
legs_in-leg [] target = refl
legs_in-leg (Leg other ∷ entries) target = ap (λ legs. other ∷ legs) (legs_in-leg entries target)
legs_in-leg (Tick number gone ∷ entries) target = legs_in-leg entries target

pub run-legged : (target : ℕ) (h : History) → run_of (legged target h) ≡ longer target (run_of h)
run-legged target h = ap (λ legs. record (run_of h) { legs = legs }) (legs_in-leg h.log.entries target)

pub ticks-legged : (target : ℕ) (h : History) → ticks_of (legged target h) ≡ ticks_of h
ticks-legged target h = ap (λ s. s.ticks) (progress-with_entry h.log (Leg target))

-- the target of the last leg among the entries
target-end : (s : Progress) (entries : List Entry) → (after_all entries s).target ≡ end_of s.target (legs_in entries)
target-end s [] = refl
target-end s (Leg target ∷ entries) = target-end (progress_after (Leg target) s) entries
target-end s (Tick number gone ∷ entries) = target-end (progress_after (Tick number gone) s) entries

-- The next leg leads away from where the run ends.
pub leads-away : (target : ℕ) (h : History) → IsNextLeg (progress_of h.log) target
    → target ≢ end_of h.log.begin_time (legs_in h.log.entries)
leads-away target h next same = next.apart (same ∙ sym (target-end (initial_progress h.log) h.log.entries) ∙ sym next.ended)

-- A run whose last leg has ended has no ticks but those that are done.
pub ticks-ended : (h : History) → IsLawful h.log → (progress_of h.log).time ≡ (progress_of h.log).target
    → run_length (run_of h) ≡ ticks_of h
ticks-ended h lawful ended =
    let is = told h lawful in
    let now = progress_of h.log in
    let none = directions_to-later now.time now.target 0 (omega (arith, ended)) in
    omega (arith, ap length is.all, is.ticks, length-append is.ways (directions_to now.time now.target), ap length none)

pub history-legged : (target : ℕ) (h : History) → IsLawful h.log → IsHistory h → IsNextLeg (progress_of h.log) target
    → IsHistory (legged target h)
history-legged target h lawful is next =
    let run = run_of h in
    let end = target-end (initial_progress h.log) h.log.entries in
    let few : run_length run + abs_diff (end_of run.begin run.legs) target ≤ most_ticks =
    omega (arith, next.limit, next.ended, end, ticks-ended h lawful next.ended) in
    record {
      run = subst IsRun (sym (run-legged target h)) (run-longer target run is.run next.fits (leads-away target h next) few);
      count = is.count;
      gone = is.gone;
      truthful = λ number gone at. elim (Contains-push_cases h.log.entries (Leg target) (Tick number gone) at) [
        | inl before ↦
            let was = is.truthful number gone before in
            record {
              done = omega (arith, was.done, ticks-legged target h);
              gone_is =
                  was.gone_is ∙ ap escaped_count (sym (state-longer target run number
                  (omega (arith, was.done, ticks-within h lawful))))
                  ∙ ap (λ r. escaped_count (state_at r number)) (sym (run-legged target h));
            }
        | inr last ↦ absurd (true≢false (ap is_leg last))
      ];
    }
