-- What the entries of a journal tell of the ways of its run.
use Rattle.std.proofs.Common.{◌≡◌, ◌≢◌, ℕ, suc, ◌+◌, ◌-◌, ◌<◌, ◌≤◌, inl, inr, List, [], ◌∷◌, ◌++◌, length, take, sym, ap, ◌∙◌, arith, append-nil, length-append}
use Rattle.std.proofs.Math.Seq.{take-append_seam, take-append-add}
use Rattle.std.proofs.lemmas.Bool.{cases_lt}
use Rattle.std.proofs.lemmas.Bool.Decides.{nat_tests}
use Rattle.nb_model.specs.declared.way.Way.{Way}
use Rattle.nb_model.specs.declared.way.Way.TheVariants.{Forward, Back}
use Rattle.nb_model.specs.Leapfrog.{step, steps}
use Rattle.nb_model.specs.Legs.{directions_to, directions, time_by}
use Rattle.nb_journal.specs.declared.entry.Entry.{Entry}
use Rattle.nb_journal.specs.declared.entry.Entry.TheVariants.{Leg, Tick}
use Rattle.nb_journal.specs.Entries.{Progress, AreLawful, toward, progress_after, after_all}
use Rattle.nb_journal.specs.Form.{IsLawful, initial_progress, progress_of}
use Rattle.nb_engine.specs.Histories.{state_at, History, run_of, ticks_of, time_at, run_length, legs_in}
use Rattle.nb_engine.proofs.Heights.{forwards, backs, forwards-cons, backs-cons}
use Rattle.nb_engine.proofs.Steps.{steps_append}
use Rattle.nb_engine.proofs.Straight.{directions_to-later, directions_to-earlier}

-- ---- one tick of a leg

record IsNextWay (time target : ℕ) (way : Way) : Type 0 where
  ahead : directions_to time target ≡ way ∷ directions_to (toward time target) target
  moves : toward time target + backs (way ∷ []) ≡ time + forwards (way ∷ [])

toward-later : (time target : ℕ) → time < target → toward time target ≡ time + 1
toward-later time target below = grind (arith, nat_tests)

toward-earlier : (time target : ℕ) → target < time → toward time target ≡ time - 1
toward-earlier time target below = grind (arith, nat_tests)

ahead-forward : (time target : ℕ) → time < target → directions_to time target
    ≡ Forward ∷ directions_to (toward time target) target
ahead-forward time target below =
    let n = target - (time + 1) in
    let rest = directions_to-later (toward time target) target n (omega (arith, toward-later time target below)) in
    directions_to-later time target (suc n) (omega arith) ∙ ap (λ ways. Forward ∷ ways) (sym rest)

ahead-back : (time target : ℕ) → target < time → directions_to time target ≡ Back ∷ directions_to (toward time target) target
ahead-back time target above =
    let n = time - (target + 1) in
    let rest = directions_to-earlier (toward time target) target n (omega (arith, toward-earlier time target above)) in
    directions_to-earlier time target (suc n) (omega arith) ∙ ap (λ ways. Back ∷ ways) (sym rest)

next_way : (time target : ℕ) → time ≢ target → (way : Way) × IsNextWay time target way
next_way time target apart =
    elim (cases_lt time target) [
      | inl below ↦ (
        Forward,
        record {
          ahead = ahead-forward time target below;
          moves = omega (arith, toward-later time target below, forwards-cons Forward [], backs-cons Forward []);
        },
      )
      | inr above ↦
          let beyond : target < time = omega arith in (
            Back,
            record {
              ahead = ahead-back time target beyond;
              moves = omega (arith, toward-earlier time target beyond, forwards-cons Back [], backs-cons Back []);
            },
          )
    ]

-- ---- all entries

-- Behind the entries the ways that were ahead are those of their ticks, and behind them those of the last leg that are left.
record IsWay (s : Progress) (entries : List Entry) : Type 0 where
  ways : List Way
  ahead : directions_to s.time s.target ++ directions s.target (legs_in entries)
      ≡ ways ++ directions_to (after_all entries s).time (after_all entries s).target
  ticks : (after_all entries s).ticks ≡ s.ticks + length ways
  time : (after_all entries s).time + backs ways ≡ s.time + forwards ways

way_of : (count : ℕ) (s : Progress) (entries : List Entry) → AreLawful count s entries → IsWay s entries
way_of count s [] lawful = record {
  ways = [];
  ahead = append-nil (directions_to s.time s.target);
  ticks = omega arith;
  time = omega arith;
}
way_of count s (Leg target ∷ entries) lawful =
    let rest = way_of count (progress_after (Leg target) s) entries lawful.1 in
    let behind = directions target (legs_in entries) in
    record {
      ways = rest.ways;
      ahead =
          ap (λ ways. ways ++ (directions_to s.target target ++ behind))
          (directions_to-later s.time s.target 0 (omega (arith, lawful.0.ended)))
          ∙ ap (λ t. directions_to t target ++ behind) (sym lawful.0.ended) ∙ rest.ahead;
      ticks = rest.ticks;
      time = rest.time;
    }
way_of count s (Tick number gone ∷ entries) lawful =
    let next = next_way s.time s.target lawful.0.leg in
    let rest = way_of count (progress_after (Tick number gone) s) entries lawful.1 in
    record {
      ways = next.0 ∷ rest.ways;
      ahead = ap (λ ways. ways ++ directions s.target (legs_in entries)) next.1.ahead ∙ ap (λ ways. next.0 ∷ ways) rest.ahead;
      ticks = omega (arith, rest.ticks, lawful.0.next);
      time = omega (
        arith,
        rest.time,
        next.1.moves,
        forwards-cons next.0 rest.ways,
        backs-cons next.0 rest.ways,
        forwards-cons next.0 [],
        backs-cons next.0 [],
      );
    }

-- ---- the run of a journal

-- The ways of the ticks that are done, and behind them those of the last leg that are left.
pub record IsTold (h : History) : Type 0 where
  pub ways : List Way
  pub all : directions h.log.begin_time (legs_in h.log.entries)
      ≡ ways ++ directions_to (progress_of h.log).time (progress_of h.log).target
  pub ticks : ticks_of h ≡ length ways
  pub time : (progress_of h.log).time + backs ways ≡ h.log.begin_time + forwards ways

pub told : (h : History) → IsLawful h.log → IsTold h
told h lawful =
    let way = way_of h.log.count (initial_progress h.log) h.log.entries lawful.entries in
    let begin = h.log.begin_time in
    record {
      ways = way.ways;
      all = sym (ap (λ ways. ways ++ directions begin (legs_in h.log.entries))
          (directions_to-later begin begin 0 (omega arith))) ∙ way.ahead;
      ticks = omega (arith, way.ticks);
      time = way.time;
    }

pub ticks-within : (h : History) → IsLawful h.log → ticks_of h ≤ run_length (run_of h)
ticks-within h lawful =
    let is = told h lawful in
    let now = progress_of h.log in
    omega (arith, ap length is.all, is.ticks, length-append is.ways (directions_to now.time now.target))

pub time-now : (h : History) → IsLawful h.log → (progress_of h.log).time ≡ time_at (run_of h) (ticks_of h)
time-now h lawful =
    let is = told h lawful in
    let now = progress_of h.log in
    let begin = h.log.begin_time in
    let left = directions_to now.time now.target in
    let done : take (ticks_of h) (directions begin (legs_in h.log.entries)) ≡ is.ways =
    ap (take (ticks_of h)) is.all ∙ ap (λ n. take n (is.ways ++ left)) is.ticks ∙ take-append_seam is.ways left in
    let here : now.time ≡ time_by begin is.ways = omega (arith, is.time) in
    here ∙ sym (ap (time_by begin) done)

-- ---- the next tick

-- Behind the ways of the ticks that are done comes the way toward the target.
next-state : (h : History) (way : Way) → IsLawful h.log
    → directions_to (progress_of h.log).time (progress_of h.log).target
    ≡ way ∷ directions_to (toward (progress_of h.log).time (progress_of h.log).target) (progress_of h.log).target
    → state_at (run_of h) (suc (ticks_of h)) ≡ step h.log.params way (state_at (run_of h) (ticks_of h))
next-state h way lawful ahead =
    let is = told h lawful in
    let now = progress_of h.log in
    let run = run_of h in
    let left = directions_to (toward now.time now.target) now.target in
    let all = directions run.begin run.legs in
    let from : all ≡ is.ways ++ way ∷ left = is.all ∙ ap (λ ways. is.ways ++ ways) ahead in
    let done : take (ticks_of h) all ≡ is.ways =
    ap (take (ticks_of h)) from ∙ ap (λ n. take n (is.ways ++ way ∷ left)) is.ticks ∙ take-append_seam is.ways (way ∷ left) in
    let one : suc (ticks_of h) ≡ length is.ways + 1 = omega (arith, is.ticks) in
    let more : take (suc (ticks_of h)) all ≡ is.ways ++ way ∷ [] =
    ap (take (suc (ticks_of h))) from ∙ ap (λ n. take n (is.ways ++ way ∷ left)) one
    ∙ take-append-add is.ways (way ∷ left) 1 in
    ap (λ ways. steps run.params ways run.bodies) more ∙ steps_append run.params is.ways (way ∷ []) run.bodies
    ∙ ap (λ ways. step run.params way (steps run.params ways run.bodies)) (sym done)

pub state-forward : (h : History) → IsLawful h.log → (progress_of h.log).time < (progress_of h.log).target
    → state_at (run_of h) (suc (ticks_of h)) ≡ step h.log.params Forward (state_at (run_of h) (ticks_of h))
state-forward h lawful below = next-state h Forward lawful (ahead-forward (progress_of h.log).time
    (progress_of h.log).target below)

pub state-back : (h : History) → IsLawful h.log → (progress_of h.log).target < (progress_of h.log).time
    → state_at (run_of h) (suc (ticks_of h)) ≡ step h.log.params Back (state_at (run_of h) (ticks_of h))
state-back h lawful above = next-state h Back lawful (ahead-back (progress_of h.log).time (progress_of h.log).target above)
