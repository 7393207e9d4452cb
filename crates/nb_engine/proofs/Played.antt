-- A history some ticks later, and ticks after ticks that are done.
use Rattle.std.proofs.Common.{◌≡◌, ◌≢◌, ◌⊎◌, inl, inr, ℕ, zero, suc, ◌+◌, ◌≤◌, List, [], ◌++◌, length, take, refl, sym, ap, subst, ◌∙◌, arith, append-nil, append_assoc}
use Rattle.std.proofs.Math.Seq.{take-length}
use Rattle.nb_host.specs.declared.host.Channel.TheVariants as channels
use Rattle.nb_host.specs.Image.{Image}
use Rattle.nb_host.specs.Meaning.{HostModel}
use Rattle.nb_model.specs.declared.body.Body.{Body}
use Rattle.nb_model.specs.declared.params.Params.{Params}
use Rattle.nb_format.specs.Snapshot.{IsFinishedSnapshot}
use Rattle.nb_journal.specs.Counters.{Counters}
use Rattle.nb_tick.specs.Slots.{cell_file}
use Rattle.nb_tick.specs.State.{IsCellIndexOf}
use Rattle.nb_engine.specs.Histories.{Run, state_at, History, run_of, ticks_of, IsHistory, ticked}
use Rattle.nb_engine.specs.Represents.{snap_of, HasOpenGate, RepresentsRun}
use Rattle.nb_engine.specs.Steps.{tick_line_of, lines_after, SaidLinesOf, played, IsCheckpoint, IsOutsideTicks, GoesOn, HasPlayed}
use Rattle.nb_engine.proofs.LongerLogs.{run-ticked, ticks-ticked, history-ticked}

-- ---- a history some ticks later

pub history-played : (n : ℕ) (h : History) → IsHistory h → IsHistory (played n h)
history-played zero h is = is
history-played (suc n) h is = history-ticked (played n h) (history-played n h is)

pub run-played : (n : ℕ) (h : History) → run_of (played n h) ≡ run_of h
run-played zero h = refl
run-played (suc n) h = run-ticked (played n h) ∙ run-played n h

pub ticks-played : (n : ℕ) (h : History) → ticks_of (played n h) ≡ n + ticks_of h
ticks-played zero h = omega arith
ticks-played (suc n) h = omega (arith, ticks-ticked (played n h), ticks-played n h)

pub params-played : (n : ℕ) (h : History) → (played n h).log.params ≡ h.log.params
params-played zero h = refl
params-played (suc n) h = params-played n h

pub bodies-played : (n : ℕ) (h : History) → (played n h).bodies ≡ h.bodies
bodies-played zero h = refl
bodies-played (suc n) h = bodies-played n h

-- ticks behind ticks
pub played-more : (n k : ℕ) (h : History) → played k (played n h) ≡ played (n + k) h
played-more n zero h =
    let same : n ≡ n + 0 = omega arith in ap (λ (i : ℕ). played i h) same
played-more n (suc k) h =
    let same : suc (n + k) ≡ n + suc k = omega arith in
    ap ticked (played-more n k h) ∙ ap (λ (i : ℕ). played i h) same

-- ---- the lines of ticks

pub lines-more : (run : Run) (k n m : ℕ)
    → lines_after run k (n + m) ≡ lines_after run k n ++ lines_after run (k + n) m
lines-more run k n zero =
    let same : n + 0 ≡ n = omega arith in
    ap (λ (i : ℕ). lines_after run k i) same ∙ sym (append-nil (lines_after run k n))
lines-more run k n (suc m) =
    let same : n + suc m ≡ suc (n + m) = omega arith in
    let number : k + (n + m) ≡ k + n + m = omega arith in
    let first = lines_after run k n in
    let rest = lines_after run (k + n) m in
    ap (λ (i : ℕ). lines_after run k i) same
    ∙ ap (λ (i : ℕ). lines_after run k (n + m) ++ tick_line_of run (suc i)) number
    ∙ ap (λ (lines : List ℕ). lines ++ tick_line_of run (suc (k + n + m))) (lines-more run k n m)
    ∙ append_assoc first rest (tick_line_of run (suc (k + n + m)))

-- the same for the ticks behind a history
pub lines-played : (h : History) (n m : ℕ) → lines_after (run_of h) (ticks_of h) (n + m)
    ≡ lines_after (run_of h) (ticks_of h) n ++ lines_after (run_of (played n h)) (ticks_of (played n h)) m
lines-played h n m =
    let run = run_of h in
    let k = ticks_of h in
    let number : k + n ≡ ticks_of (played n h) = omega (arith, ticks-played n h) in
    lines-more run k n m
    ∙ ap (λ (i : ℕ). lines_after run k n ++ lines_after run i m) number
    ∙ ap (λ (r : Run). lines_after run k n ++ lines_after r (ticks_of (played n h)) m) (sym (run-played n h))

-- a front of the first
pub said_first : (run : Run) (k n : ℕ) (line old new : List ℕ) → line ≡ tick_line_of run (suc k) → n ≤ length line
    → new ≡ old ++ take n line → SaidLinesOf run k 1 old new
said_first run k n line old new is within said =
    let same : k ≡ k + 0 = omega arith in
    let one : line ≡ tick_line_of run (suc (k + 0)) = is ∙ ap (λ (i : ℕ). tick_line_of run (suc i)) same in (
      n,
      subst (λ (l : List ℕ). n ≤ length l) one within,
      said ∙ ap (λ (l : List ℕ). l ++ take n line) (sym (append-nil old)) ∙ ap (λ (l : List ℕ). (old ++ []) ++ take n l) one,
    )

-- all of them
said_whole : (run : Run) (k n : ℕ) (old new : List ℕ) → new ≡ old ++ lines_after run k n → SaidLinesOf run k n old new
said_whole run k zero old new is = is ∙ append-nil old
said_whole run k (suc n) old new is =
    let line = tick_line_of run (suc (k + n)) in
    let lines = lines_after run k n in (
      length line,
      omega arith,
      is ∙ sym (append_assoc old lines line) ∙ ap (λ (l : List ℕ). (old ++ lines) ++ l) (sym (take-length line)),
    )

-- all of the first n, and those of more ticks but a part of the last
said_then : (run : Run) (k n d : ℕ) (old middle new : List ℕ) → middle ≡ old ++ lines_after run k n
    → SaidLinesOf run (k + n) d middle new → SaidLinesOf run k (n + d) old new
said_then run k n zero old middle new here said =
    let none : n + 0 ≡ n = omega arith in
    subst (λ (i : ℕ). SaidLinesOf run k i old new) (sym none) (said_whole run k n old new (said ∙ here))
said_then run k n (suc d) old middle new here said =
    let more : n + suc d ≡ suc (n + d) = omega arith in
    let number : k + n + d ≡ k + (n + d) = omega arith in
    let rest = lines_after run (k + n) d in
    let lines : middle ++ rest ≡ old ++ lines_after run k (n + d) =
    ap (λ (l : List ℕ). l ++ rest) here ∙ append_assoc old (lines_after run k n) rest
    ∙ ap (λ (l : List ℕ). old ++ l) (sym (lines-more run k n d)) in
    let line : tick_line_of run (suc (k + n + d)) ≡ tick_line_of run (suc (k + (n + d))) =
    ap (λ (i : ℕ). tick_line_of run (suc i)) number in
    subst (λ (i : ℕ). SaidLinesOf run k i old new) (sym more) (
      said.0,
      subst (λ (l : List ℕ). said.0 ≤ length l) line said.1,
      said.2 ∙ ap (λ (l : List ℕ). l ++ take said.0 (tick_line_of run (suc (k + n + d)))) lines
          ∙ ap (λ (l : List ℕ). (old ++ lines_after run k (n + d)) ++ take said.0 l) line,
    )

-- ---- ticks whose snapshot's name isn't written

pub passed_apart : (k n j : ℕ) → IsOutsideTicks k n j → j ≢ k
passed_apart k n j (inl before) same = omega (arith, before, same)
passed_apart k n j (inr behind) same = omega (arith, behind, same)

-- while fewer are taken
pub passed_fewer : (k n more j : ℕ) → n ≤ more → IsOutsideTicks k more j → IsOutsideTicks k n j
passed_fewer k n more j fewer (inl before) = inl before
passed_fewer k n more j fewer (inr behind) = inr (omega (arith, behind, fewer))

-- while the last of them are taken
passed_behind : (k n m all last j : ℕ) → last ≡ n + k → all ≡ n + m → IsOutsideTicks k all j → IsOutsideTicks last m j
passed_behind k n m all last j here both (inl before) = inl (omega (arith, before, here))
passed_behind k n m all last j here both (inr behind) = inr (omega (arith, behind, here, both))

-- ---- of another first image

-- calls that kept what was finished, wrote the name of the last tick's snapshot alone, and said nothing, came before
pub goes_from : {most : ℕ} {h : History} {first before image : Image}
    → ((j : ℕ) → j ≤ ticks_of h → IsFinishedSnapshot (length h.bodies) (first.file (snap_of j))
    → before.file (snap_of j) ≡ first.file (snap_of j))
    → ((j : ℕ) → IsOutsideTicks (ticks_of h) 0 j → before.file (snap_of j) ≡ first.file (snap_of j))
    → before.said channels.Out ≡ first.said channels.Out → GoesOn most h before image → GoesOn most h first image
goes_from {most = most} {h = h} {first = first} {before = before} {image = image} kept others said goes = record {
  done = goes.done;
  few = goes.few;
  represents = goes.represents;
  kept = λ j within finished.
      let same = kept j within finished in
      goes.kept j within (subst (IsFinishedSnapshot (length h.bodies)) (sym same) finished) ∙ same;
  others = λ j passed. goes.others j passed ∙ others j (elim passed [
    | inl next ↦ passed_fewer (ticks_of h) 0 (suc goes.done) j (omega arith) next
    | inr last ↦ passed_fewer (ticks_of h) 0 most j (omega arith) last
  ]);
  said = subst (λ (bytes : List ℕ). SaidLinesOf (run_of h) (ticks_of h) goes.done bytes (image.said channels.Out)) said goes.said;
  first = λ opened. goes.first opened ∙ ap (λ (bytes : List ℕ). bytes ++ lines_after (run_of h) (ticks_of h) goes.done) said;
}

pub played_from : {H : Type 0} {m : HostModel H} {n : ℕ} {h : History} {first before : Image} {journal : Counters} {host : H}
    → ((j : ℕ) → j ≤ ticks_of h → IsFinishedSnapshot (length h.bodies) (first.file (snap_of j))
    → before.file (snap_of j) ≡ first.file (snap_of j))
    → ((j : ℕ) → IsOutsideTicks (ticks_of h) 0 j → before.file (snap_of j) ≡ first.file (snap_of j))
    → before.said channels.Out ≡ first.said channels.Out → HasPlayed m n h before journal host → HasPlayed m n h first journal host
played_from {n = n} {h = h} {first = first} kept others said has = record {
  at = has.at;
  kept = λ j within finished.
      let same = kept j within finished in
      has.kept j within (subst (IsFinishedSnapshot (length h.bodies)) (sym same) finished) ∙ same;
  others = λ j passed. has.others j passed ∙ others j (passed_fewer (ticks_of h) 0 n j (omega arith) passed);
  said = has.said ∙ ap (λ (l : List ℕ). l ++ lines_after (run_of h) (ticks_of h) n) said;
  cells = has.cells;
}

-- ---- what a folder may hold since

-- none came behind
pub goes_none : {h : History} {image : Image} → RepresentsRun h image → GoesOn 0 h image image
goes_none {h} {image} represents = record {
  done = 0;
  few = omega arith;
  represents = represents;
  kept = λ j within finished. refl;
  others = λ j passed. refl;
  said = refl;
  first = λ opened. sym (append-nil (image.said channels.Out));
}

pub goes_more : (few more : ℕ) {h : History} {before image : Image} → GoesOn few h before image → few ≤ more
    → GoesOn more h before image
goes_more few more {h} goes less = record {
  done = goes.done;
  few = omega (arith, goes.few, less);
  represents = goes.represents;
  kept = goes.kept;
  others = λ j passed. goes.others j (elim passed [
    | inl next ↦ inl next
    | inr last ↦ inr (passed_fewer (ticks_of h) few more j less last)
  ]);
  said = goes.said;
  first = goes.first;
}

-- what was finished when so many were done is as it was
later_kept : {H : Type 0} (m : HostModel H) (n : ℕ) {h : History} {before : Image} {journal : Counters} {host : H} (image : Image)
    → HasPlayed m n h before journal host → ((j : ℕ) → j ≤ ticks_of (played n h)
    → IsFinishedSnapshot (length (played n h).bodies) ((m.contents host).file (snap_of j))
    → image.file (snap_of j) ≡ (m.contents host).file (snap_of j))
    → (j : ℕ) → j ≤ ticks_of h → IsFinishedSnapshot (length h.bodies) (before.file (snap_of j))
    → image.file (snap_of j) ≡ before.file (snap_of j)
later_kept m n {h} {before} {host = host} image first kept j within finished =
    let same = first.kept j within finished in
    let there = subst (IsFinishedSnapshot (length h.bodies)) (sym same) finished in
    let count : length h.bodies ≡ length (played n h).bodies =
    ap (λ (bodies : List Body). length bodies) (sym (bodies-played n h)) in
    let here =
    subst (λ (c : ℕ). IsFinishedSnapshot c ((m.contents host).file (snap_of j))) count there in
    kept j (omega (arith, within, ticks-played n h)) here ∙ same

-- Behind ticks that are done and told.
pub goes_then : {H : Type 0} (m : HostModel H) (n most : ℕ) {h : History} {before image : Image} {journal : Counters} {host : H}
    → HasPlayed m n h before journal host → GoesOn most (played n h) (m.contents host) image → GoesOn (n + most) h before image
goes_then m n most {h} {before} {image} {host = host} first later = record {
  done = n + later.done;
  few = omega (arith, later.few);
  represents = subst (λ (x : History). RepresentsRun x image) (played-more n later.done h) later.represents;
  kept = later_kept m n image first later.kept;
  others = λ j passed.
      let k = ticks_of h in
      let here = ticks-played n h in
      later.others j (elim passed [
        | inl next ↦ inl (passed_behind k n (suc later.done) (suc (n + later.done)) (ticks_of (played n h)) j here (omega arith) next)
        | inr last ↦ inr (passed_behind k n most (n + most) (ticks_of (played n h)) j here refl last)
      ])
      ∙ first.others j (elim passed [
        | inl next ↦ passed_fewer k n (suc (n + later.done)) j (omega arith) next
        | inr last ↦ passed_fewer k n (n + most) j (omega arith) last
      ]);
  said =
      let number : ticks_of (played n h) ≡ ticks_of h + n = omega (arith, ticks-played n h) in
      said_then (run_of h) (ticks_of h) n later.done (before.said channels.Out) ((m.contents host).said channels.Out)
      (image.said channels.Out) first.said
      (subst (λ (k : ℕ). SaidLinesOf (run_of h) k later.done ((m.contents host).said channels.Out) (image.said channels.Out)) number
      (subst (λ (run : Run). SaidLinesOf run (ticks_of (played n h)) later.done ((m.contents host).said channels.Out)
      (image.said channels.Out)) (run-played n h) later.said));
  first = λ opened.
      let here : ticks_of h + (n + later.done) ≡ ticks_of (played n h) + later.done = omega (arith, ticks-played n h) in
      let lines = lines_after (run_of (played n h)) (ticks_of (played n h)) later.done in
      later.first (subst (λ (k : ℕ). HasOpenGate (image.file (snap_of k))) here opened)
      ∙ ap (λ (bytes : List ℕ). bytes ++ lines) first.said
      ∙ append_assoc (before.said channels.Out) (lines_after (run_of h) (ticks_of h) n) lines
      ∙ ap (λ (bytes : List ℕ). before.said channels.Out ++ bytes) (sym (lines-played h n later.done));
}

-- ---- ticks that are done and told

-- none
pub played_none : {H : Type 0} (m : HostModel H) {h : History} {journal : Counters} {host : H} → IsCheckpoint m h journal host
    → HasPlayed m 0 h (m.contents host) journal host
played_none m {h} {host = host} at = record {
  at = at;
  kept = λ j within finished. refl;
  others = λ j passed. refl;
  said = sym (append-nil ((m.contents host).said channels.Out));
  cells = λ some. absurd (some refl);
}

-- Those of another count, by the file of cells that they left.
played_both : {H : Type 0} (m : HostModel H) (n k : ℕ) {h : History} {before : Image} {one two : Counters} {middle host : H}
    → HasPlayed m n h before one middle → HasPlayed m k (played n h) (m.contents middle) two host
    → (n + k ≢ 0 → IsCellIndexOf h.log.params (state_at (run_of (played (n + k) h)) (ticks_of (played (n + k) h)))
    ((m.contents host).file cell_file))
    → HasPlayed m (n + k) h before two host
played_both m n k {h} {before} {two = two} {middle = middle} {host = host} first second cells = record {
  at = subst (λ (x : History). IsCheckpoint m x two host) (played-more n k h) second.at;
  kept = later_kept m n (m.contents host) first second.kept;
  others = λ j passed.
      let here = ticks-played n h in
      second.others j (passed_behind (ticks_of h) n k (n + k) (ticks_of (played n h)) j here refl passed)
      ∙ first.others j (passed_fewer (ticks_of h) n (n + k) j (omega arith) passed);
  said =
      second.said
      ∙ ap (λ (said : List ℕ). said ++ lines_after (run_of (played n h)) (ticks_of (played n h)) k) first.said
      ∙ append_assoc (before.said channels.Out) (lines_after (run_of h) (ticks_of h) n)
      (lines_after (run_of (played n h)) (ticks_of (played n h)) k)
      ∙ ap (λ (lines : List ℕ). before.said channels.Out ++ lines) (sym (lines-played h n k));
  cells = cells;
}

-- ticks behind ticks
pub played_then : {H : Type 0} (m : HostModel H) (n k : ℕ) {h : History} {before : Image} {one two : Counters} {middle host : H}
    → HasPlayed m n h before one middle → HasPlayed m k (played n h) (m.contents middle) two host → k ≢ 0
    → HasPlayed m (n + k) h before two host
played_then m n k {h} {host = host} first second some =
    played_both m n k first second
    (λ _. let file = (m.contents host).file cell_file in
    subst (λ (p : Params). IsCellIndexOf p (state_at (run_of (played (n + k) h)) (ticks_of (played (n + k) h))) file)
    (params-played n h)
    (subst (λ (x : History). IsCellIndexOf (played n h).log.params (state_at (run_of x) (ticks_of x)) file)
    (played-more n k h) (second.cells some)))

-- calls that end no tick and leave the file of cells
pub played_rest : {H : Type 0} (m : HostModel H) (n : ℕ) {h : History} {before : Image} {one two : Counters} {middle host : H}
    → HasPlayed m n h before one middle → HasPlayed m 0 (played n h) (m.contents middle) two host
    → (m.contents host).file cell_file ≡ (m.contents middle).file cell_file → HasPlayed m n h before two host
played_rest m n {h} {before} {two = two} {middle = middle} {host = host} first second same =
    let none : n + 0 ≡ n = omega arith in
    subst (λ (i : ℕ). HasPlayed m i h before two host) none
    (played_both m n 0 first second
    (λ some. subst (λ (i : ℕ). IsCellIndexOf h.log.params (state_at (run_of (played i h)) (ticks_of (played i h)))
    ((m.contents host).file cell_file)) (sym none)
    (subst (IsCellIndexOf h.log.params (state_at (run_of (played n h)) (ticks_of (played n h)))) (sym same)
    (first.cells (λ zero'. some (omega (arith, zero')))))))
