-- Which ticks are acknowledged when a history has gone on, with the lines of its ticks.
use Rattle.std.proofs.Common.{◌≡◌, ◌≢◌, ℕ, zero, suc, ◌+◌, ◌^◌, ◌<◌, ◌≤◌, List, [], ◌∷◌, ◌++◌, length, take, refl, sym, ap, subst, ◌∙◌, arith, append-nil, append_assoc}
use Rattle.std.specs.Int.{abs_diff}
use Rattle.std.proofs.lemmas.Bool.Decides.{nat_tests}
use Rattle.std.proofs.lemmas.List.Sums.{count_by-le-length}
use Rattle.std.proofs.Math.Seq.{take-length}
use Rattle.nb_host.specs.declared.host.Channel.TheVariants as channels
use Rattle.nb_host.specs.Image.{Image}
use Rattle.nb_model.specs.declared.body.Body.{Body}
use Rattle.nb_model.specs.Leapfrog.{escaped_count}
use Rattle.nb_model.specs.Legs.{directions}
use Rattle.nb_model.specs.Limits.{most_ticks}
use Rattle.nb_format.specs.Lines.{tick_line}
use Rattle.nb_journal.specs.declared.entry.Entry.{Entry}
use Rattle.nb_journal.specs.declared.entry.Entry.TheVariants.{Leg, Tick}
use Rattle.nb_journal.specs.Entries.{Progress, AreLawful, toward, progress_after, after_all}
use Rattle.nb_journal.specs.Form.{Log, IsLawful, initial_progress, progress_of}
use Rattle.nb_engine.specs.Acknowledged.{IsAcknowledgedUpTo}
use Rattle.nb_engine.specs.Histories.{Run, state_at, time_at, History, run_of, ticks_of, IsHistory, next_tick}
use Rattle.nb_engine.specs.Steps.{tick_line_of, lines_after, SaidLinesOf, played, GoesOn}
use Rattle.nb_engine.proofs.DueNow.{lawful_before}
use Rattle.nb_engine.proofs.Paths.{time-now}
use Rattle.nb_engine.proofs.Played.{run-played, ticks-played}
use Rattle.nb_engine.proofs.Steps.{length-steps}
use Rattle.nb_engine.proofs.Told.{told_more}

-- the numbers of a journal
pub record IsSmall (count : ℕ) (s : Progress) : Type 0 where
  pub time : s.time < 2 ^ 64
  pub target : s.target < 2 ^ 64
  pub ticks : s.ticks + abs_diff s.time s.target ≤ most_ticks
  pub gone : s.gone ≤ count

small_after : (count : ℕ) (s : Progress) (entries : List Entry) → AreLawful count s entries → IsSmall count s
    → IsSmall count (after_all entries s)
small_after count s [] lawful small = small
small_after count s (Leg target ∷ entries) lawful small =
    small_after count (progress_after (Leg target) s) entries lawful.1
    (record { time = small.time; target = lawful.0.fits; ticks = lawful.0.limit; gone = small.gone })
small_after count s (Tick number gone ∷ entries) lawful small =
    small_after count (progress_after (Tick number gone) s) entries lawful.1 (record {
      time = toward_small s.time s.target small.time small.target;
      target = small.target;
      ticks = toward_ticks s.ticks s.time s.target number lawful.0.leg lawful.0.next small.ticks;
      gone = lawful.0.no_more;
    }) where
      toward_small : (time target : ℕ) → time < 2 ^ 64 → target < 2 ^ 64 → toward time target < 2 ^ 64
      toward_small time target first second = grind (arith, nat_tests)

      toward_ticks : (ticks time target number : ℕ) → time ≢ target → number ≡ ticks + 1 → ticks + abs_diff time target ≤ most_ticks
          → number + abs_diff (toward time target) target ≤ most_ticks
      toward_ticks ticks time target number apart next few = grind (arith, nat_tests)

pub small_log : (log : Log) → IsLawful log → IsSmall log.count (progress_of log)
small_log log lawful =
    small_after log.count (initial_progress log) log.entries lawful.entries
    (record { time = lawful.time; target = lawful.time; ticks = omega arith; gone = lawful.gone })

-- ---- the lines of ticks

-- what is known of the line of a tick
abbrev pub LineTellsOne : Type 0
LineTellsOne = (k time gone n : ℕ) (said : List ℕ) → k < 2 ^ 64 → time < 2 ^ 64 → gone < 2 ^ 64
    → IsAcknowledgedUpTo k said → IsAcknowledgedUpTo k (said ++ take n (tick_line k time gone))

few_gone : (h : History) (k : ℕ) → IsHistory h → IsLawful h.log → escaped_count (state_at (run_of h) k) < 2 ^ 64
few_gone h k is lawful =
    let few = count_by-le-length (λ (b : Body). b.out) (state_at (run_of h) k) in
    let many = length-steps h.log.params (take k (directions (run_of h).begin (run_of h).legs)) h.bodies in
    omega (arith, few, many, is.count, lawful.count)

-- Behind the ticks before, a front of the line of one more acknowledges no tick beyond it.
told_next : LineTellsOne → (n m : ℕ) (h : History) (said : List ℕ) → IsHistory h → IsLawful h.log → IsLawful (played (suc n) h).log
    → IsAcknowledgedUpTo (ticks_of (played n h)) said
    → IsAcknowledgedUpTo (ticks_of (played (suc n) h)) (said ++ take m (tick_line_of (run_of h) (suc (ticks_of h + n))))
told_next law n m h said is lawful after told =
    let last = played (suc n) h in
    let run = run_of h in
    let k = suc (ticks_of h + n) in
    let number : ticks_of last ≡ k = omega (arith, ticks-played (suc n) h) in
    let time : (progress_of last.log).time ≡ time_at run k =
    time-now last after ∙ ap (λ (r : Run). time_at r (ticks_of last)) (run-played (suc n) h) ∙ ap (time_at run) number in
    let small = small_log last.log after in
    subst (λ (j : ℕ). IsAcknowledgedUpTo j (said ++ take m (tick_line_of run k))) (sym number)
    (law k (time_at run k) (escaped_count (state_at run k)) m said (omega (arith, number, small.ticks))
    (subst (λ (t : ℕ). t < 2 ^ 64) time small.time) (few_gone h k is lawful)
    (told_more (ticks_of (played n h)) k said (omega (arith, ticks-played n h)) told))

-- the lines of so many ticks
told_lines : LineTellsOne → (n : ℕ) (h : History) (old : List ℕ) → IsHistory h → IsLawful h.log → IsLawful (played n h).log
    → IsAcknowledgedUpTo (ticks_of h) old
    → IsAcknowledgedUpTo (ticks_of (played n h)) (old ++ lines_after (run_of h) (ticks_of h) n)
told_lines law zero h old is lawful after told = subst (IsAcknowledgedUpTo (ticks_of h)) (sym (append-nil old)) told
told_lines law (suc n) h old is lawful after told =
    let lines = lines_after (run_of h) (ticks_of h) n in
    let line = tick_line_of (run_of h) (suc (ticks_of h + n)) in
    let before = lawful_before (played n h) (next_tick (played n h)) after in
    let next = told_next law n (length line) h (old ++ lines) is lawful after (told_lines law n h old is lawful before told) in
    let whole : (old ++ lines) ++ take (length line) line ≡ old ++ (lines ++ line) =
    ap (λ (l : List ℕ). (old ++ lines) ++ l) (take-length line) ∙ append_assoc old lines line in
    subst (IsAcknowledgedUpTo (ticks_of (played (suc n) h))) whole next

-- and those that were said of them
told_said : LineTellsOne → (n : ℕ) (h : History) (old new : List ℕ) → IsHistory h → IsLawful h.log → IsLawful (played n h).log
    → IsAcknowledgedUpTo (ticks_of h) old → SaidLinesOf (run_of h) (ticks_of h) n old new → IsAcknowledgedUpTo (ticks_of (played n h)) new
told_said law zero h old new is lawful after told said = subst (IsAcknowledgedUpTo (ticks_of h)) (sym said) told
told_said law (suc n) h old new is lawful after told said =
    let lines = lines_after (run_of h) (ticks_of h) n in
    let before = lawful_before (played n h) (next_tick (played n h)) after in
    subst (IsAcknowledgedUpTo (ticks_of (played (suc n) h))) (sym said.2)
    (told_next law n said.0 h (old ++ lines) is lawful after (told_lines law n h old is lawful before told))

lawful_first : (n : ℕ) (h : History) → IsLawful (played n h).log → IsLawful h.log
lawful_first zero h lawful = lawful
lawful_first (suc n) h lawful = lawful_first n h (lawful_before (played n h) (next_tick (played n h)) lawful)

-- No tick is acknowledged but those of the history as far as it has gone.
pub told_goes : LineTellsOne → {most : ℕ} {h : History} {before image : Image} → IsHistory h
    → IsAcknowledgedUpTo (ticks_of h) (before.said channels.Out) → (goes : GoesOn most h before image)
    → IsAcknowledgedUpTo (ticks_of (played goes.done h)) (image.said channels.Out)
told_goes law {h = h} {before = before} {image = image} is told goes =
    let after = goes.represents.journal.journal.lawful in
    told_said law goes.done h (before.said channels.Out) (image.said channels.Out) is (lawful_first goes.done h after) after told goes.said
