-- What `demo` says, piece by piece, and what its run is at the target.
use Rattle.std.proofs.Common.{◌≡◌, ◌≢◌, ◌≤◌, ◌<◌, ◌⊎◌, inl, inr, ℕ, zero, suc, ◌+◌, ◌-◌, Bool, true, false, IsTrue, List, [], ◌∷◌, ◌++◌, length, take, refl, ap, sym, subst, ◌∙◌, arith, append_assoc, append-nil, length-append}
use Rattle.std.specs.Prelude.{◌==◌, if◌then◌else◌, replicate}
use Rattle.std.proofs.Math.Seq.{take-append-add}
use Rattle.std.proofs.lemmas.Bool.{cases_lt, cases_eq}
use Rattle.std.proofs.lemmas.Bool.Decides.{nat_tests}
use Rattle.std.proofs.lemmas.List.{take_all, take-append-le, length-replicate}
use Rattle.nb_host.specs.declared.host.Channel.TheVariants as channels
use Rattle.nb_host.specs.Image.{Image}
use Rattle.nb_model.specs.declared.body.Body.{Body}
use Rattle.nb_model.specs.declared.way.Way.{Way}
use Rattle.nb_model.specs.declared.way.Way.TheVariants.{Forward, Back}
use Rattle.nb_model.specs.Leapfrog.{steps}
use Rattle.nb_model.specs.Legs.{directions_to, directions}
use Rattle.nb_format.specs.Snapshot.{IsSnapshot}
use Rattle.nb_journal.specs.Form.{progress_of}
use Rattle.nb_engine.specs.declared.going.Done.{Done}
use Rattle.nb_engine.specs.Files.{init_file}
use Rattle.nb_engine.specs.Histories.{Run, state_at, time_at, History, run_of, ticks_of, IsDueAfter, legged}
use Rattle.nb_engine.specs.Represents.{snap_of, HasOpenGate}
use Rattle.nb_engine.specs.Sessions.{aimed_at, ticks_to, IsLed}
use Rattle.nb_engine.specs.Start.{Start, started}
use Rattle.nb_engine.specs.Steps.{tick_line_of, lines_after, SaidPrefixOf, SaidLinesOf, played}
use Rattle.nb_engine.proofs.Callers.{run-ticked, ticks-ticked, time-now}
use Rattle.nb_cli.specs.Once.{list_at}

-- ---- fronts of a text

pub front_none : (text old new : List ℕ) → new ≡ old → SaidPrefixOf text old new
front_none text old new same = (0, omega arith, same ∙ sym (append-nil old))

-- one of a longer text
pub front_more : (text rest old new : List ℕ) → SaidPrefixOf text old new → SaidPrefixOf (text ++ rest) old new
front_more text rest old new front = (
  front.0,
  omega (arith, front.1, length-append text rest),
  front.2 ∙ ap (λ (l : List ℕ). old ++ l) (sym (take-append-le front.0 text rest front.1)),
)

-- one that is said behind a first text
pub front_behind : (first text old between new : List ℕ) → between ≡ old ++ first → SaidPrefixOf text between new
    → SaidPrefixOf (first ++ text) old new
front_behind first text old between new said front = (
  length first + front.0,
  omega (arith, front.1, length-append first text),
  front.2 ∙ ap (λ (l : List ℕ). l ++ take front.0 text) said ∙ append_assoc old first (take front.0 text)
      ∙ ap (λ (l : List ℕ). old ++ l) (sym (take-append-add first text front.0)),
)

-- ---- the lines of ticks

-- those of the first ticks are a front of all
lines_rest : (run : Run) (k few many : ℕ) → few ≤ many
    → (rest : List ℕ) × (lines_after run k many ≡ lines_after run k few ++ rest)
lines_rest run k few zero fewer =
    let none : few ≡ 0 = omega arith in
    ([], ap (λ (i : ℕ). lines_after run k i) (sym none) ∙ sym (append-nil (lines_after run k few)))
lines_rest run k few (suc many) fewer = elim (cases_lt few (suc many)) [
  | inl below ↦
      let line = tick_line_of run (suc (k + many)) in
      let before = lines_rest run k few many (omega arith) in
      (before.0 ++ line, ap (λ (l : List ℕ). l ++ line) before.1 ∙ append_assoc (lines_after run k few) before.0 line)
  | inr above ↦
      let same : few ≡ suc many = omega arith in
      ([], ap (λ (i : ℕ). lines_after run k i) (sym same) ∙ sym (append-nil (lines_after run k few)))
]

lines_more : (run : Run) (k few many : ℕ) (old new : List ℕ) → few ≤ many → SaidPrefixOf (lines_after run k few) old new
    → SaidPrefixOf (lines_after run k many) old new
lines_more run k few many old new fewer front =
    let more = lines_rest run k few many fewer in
    subst (λ (text : List ℕ). SaidPrefixOf text old new) (sym more.1) (front_more (lines_after run k few) more.0 old new front)

-- what was said while at most so many ticks were taken
pub lines_front : (run : Run) (k done most : ℕ) (old new : List ℕ) → done ≤ most → SaidLinesOf run k done old new
    → SaidPrefixOf (lines_after run k most) old new
lines_front run k zero most old new fewer said = front_none (lines_after run k most) old new said
lines_front run k (suc done) most old new fewer said =
    lines_more run k (suc done) most old new fewer
    (front_behind (lines_after run k done) (tick_line_of run (suc (k + done))) old (old ++ lines_after run k done) new refl said)

-- and nothing where there was none
pub lines_none : (run : Run) (k done : ℕ) (old new : List ℕ) → done ≤ 0 → SaidLinesOf run k done old new → new ≡ old
lines_none run k zero old new none said = said
lines_none run k (suc done) old new none said = absurd (omega arith)

-- ---- the run at the target

run-played : (n : ℕ) (h : History) → run_of (played n h) ≡ run_of h
run-played zero h = refl
run-played (suc n) h = run-ticked (played n h) ∙ run-played n h

ticks-played : (n : ℕ) (h : History) → ticks_of (played n h) ≡ n + ticks_of h
ticks-played zero h = omega arith
ticks-played (suc n) h = omega (arith, ticks-ticked (played n h), ticks-played n h)

pub aimed_here : (target : ℕ) (h : History) → target ≡ (progress_of h.log).time → aimed_at target h ≡ h
aimed_here target h same =
    let yes : (target == (progress_of h.log).time) ≡ true = grind (arith, nat_tests) in
    ap (λ (b : Bool). if b then h else legged target h) yes

pub aimed_away : (target : ℕ) (h : History) → target ≢ (progress_of h.log).time → aimed_at target h ≡ legged target h
aimed_away target h apart =
    let no : (target == (progress_of h.log).time) ≡ false = grind (arith, nat_tests) in
    ap (λ (b : Bool). if b then h else legged target h) no

length-directions_to : (from to : ℕ) → length (directions_to from to) ≡ (from - to) + (to - from)
length-directions_to from to =
    let ahead = length-replicate (to - from) Forward in
    let behind = length-replicate (from - to) Back in
    omega (arith, length-append (replicate (to - from) Forward) (replicate (from - to) Back), ahead, behind)

no_directions : (from to : ℕ) → to ≡ from → directions_to from to ≡ []
no_directions from to same =
    let ahead : to - from ≡ 0 = omega arith in
    let behind : from - to ≡ 0 = omega arith in
    ap (λ (n : ℕ). replicate n Forward ++ replicate (from - to) Back) ahead ∙ ap (λ (n : ℕ). replicate n Back) behind

-- no tick is done before
pub aimed_ticks : (target : ℕ) (start : Start) → ticks_of (aimed_at target (started start)) ≡ 0
aimed_ticks target start = elim (cases_eq target start.time) [
  | inl same ↦ ap ticks_of (aimed_here target (started start) same)
  | inr apart ↦ ap ticks_of (aimed_away target (started start) apart)
]

-- The list behind the ticks to the target is that of `once`.
pub aimed_state : (target : ℕ) (start : Start)
    → state_at (run_of (aimed_at target (started start))) (ticks_to target (started start)) ≡ list_at target start
aimed_state target start = elim (cases_eq target start.time) [
  | inl same ↦
      let none : ticks_to target (started start) ≡ 0 = omega (arith, same) in
      ap (λ (h : History). state_at (run_of h) (ticks_to target (started start))) (aimed_here target (started start) same)
      ∙ ap (λ (k : ℕ). state_at (run_of (started start)) k) none
      ∙ ap (λ (ways : List Way). steps start.params ways start.bodies) (sym (no_directions start.time target same))
  | inr apart ↦
      let ways = directions_to start.time target in
      let all : take (ticks_to target (started start)) (ways ++ []) ≡ ways =
      ap (take (ticks_to target (started start))) (append-nil ways)
      ∙ take_all (ticks_to target (started start)) ways (omega (arith, length-directions_to start.time target)) in
      ap (λ (h : History). state_at (run_of h) (ticks_to target (started start))) (aimed_away target (started start) apart)
      ∙ ap (λ (w : List Way). steps start.params w start.bodies) all
]

-- So is that of a run that was led there.
pub led_state : (target : ℕ) (start : Start)
    → state_at (run_of (played (ticks_to target (started start)) (aimed_at target (started start))))
    (ticks_of (played (ticks_to target (started start)) (aimed_at target (started start)))) ≡ list_at target start
led_state target start =
    let n = ticks_to target (started start) in
    let h = aimed_at target (started start) in
    let ticks : ticks_of (played n h) ≡ n = omega (arith, ticks-played n h, aimed_ticks target start) in
    ap (λ (run : Run). state_at run (ticks_of (played n h))) (run-played n h)
    ∙ ap (λ (k : ℕ). state_at (run_of h) k) ticks ∙ aimed_state target start

pub led_ticks : (target : ℕ) (start : Start)
    → ticks_of (played (ticks_to target (started start)) (aimed_at target (started start))) ≡ ticks_to target (started start)
led_ticks target start =
    let n = ticks_to target (started start) in
    let h = aimed_at target (started start) in omega (arith, ticks-played n h, aimed_ticks target start)

-- ---- its last snapshot

-- that of the last tick is there
snapshot_led : {n : ℕ} {h : History} {before image : Image} {done : Done} → IsLed n h before done image → 1 ≤ ticks_of (played n h)
    → IsSnapshot (image.file (snap_of (ticks_of (played n h)))) (state_at (run_of (played n h)) (ticks_of (played n h)))
    (time_at (run_of (played n h)) (ticks_of (played n h)))
snapshot_led {n = n} {h = h} {image = image} led some =
    let run = run_of (played n h) in
    let k = ticks_of (played n h) in
    let legs : k ≡ length (directions run.begin (take (length run.legs) run.legs)) =
    led.ended ∙ ap (λ (l : List ℕ). length (directions run.begin l)) (sym (take_all (length run.legs) run.legs (omega arith))) in
    let due : IsDueAfter run k = record { some = some; within = omega (arith, led.ended); due = inr (length run.legs, legs) } in
    let finished = led.complete k due (omega arith) in
    let opened : HasOpenGate (image.file (snap_of k)) =
    record { more = omega (arith, finished.whole); open_gate = finished.opened } in
    (led.represents.right k some (omega arith) opened).bytes

-- The last snapshot of a run from time 0 on is of the list at the target.
pub last_snapshot_led : {before image : Image} {done : Done} (target : ℕ) (start : Start) → start.time ≡ 0 → done.time ≡ target
    → IsLed (ticks_to target (started start)) (aimed_at target (started start)) before done image → (file : ℕ)
    → (target ≡ 0 → file ≡ init_file) → (target ≢ 0 → file ≡ snap_of target)
    → IsSnapshot (image.file file) (list_at target start) target
last_snapshot_led {image = image} target start zero_is there led file none some =
    let n = ticks_to target (started start) in
    let h = aimed_at target (started start) in
    let state = led_state target start in
    let ticks : ticks_of (played n h) ≡ target = omega (arith, led_ticks target start, zero_is) in
    elim (cases_eq target 0) [
      | inl is_none ↦ initial is_none
      | inr is_some ↦
          let time : time_at (run_of (played n h)) (ticks_of (played n h)) ≡ target =
          sym (time-now (played n h) led.represents.journal.journal.lawful) ∙ sym led.time_is ∙ there in
          let number : snap_of (ticks_of (played n h)) ≡ file = ap snap_of ticks ∙ sym (some is_some) in
          let first : IsSnapshot (image.file (snap_of (ticks_of (played n h))))
          (state_at (run_of (played n h)) (ticks_of (played n h))) (time_at (run_of (played n h)) (ticks_of (played n h))) =
          snapshot_led led (omega (arith, ticks, is_some)) in
          subst (λ (k : ℕ). IsSnapshot (image.file k) (list_at target start) target) number
          (subst (λ (bodies : List Body). IsSnapshot (image.file (snap_of (ticks_of (played n h)))) bodies target) state
          (subst (λ (t : ℕ). IsSnapshot (image.file (snap_of (ticks_of (played n h))))
          (state_at (run_of (played n h)) (ticks_of (played n h))) t) time first))
    ] where
      initial : target ≡ 0 → IsSnapshot (image.file file) (list_at target start) target
      initial is_none =
          let n = ticks_to target (started start) in
          let h = aimed_at target (started start) in
          let here : aimed_at target (started start) ≡ started start =
          aimed_here target (started start) (omega (arith, is_none, zero_is)) in
          let run : run_of (played n h) ≡ run_of (started start) = run-played n h ∙ ap run_of here in
          let first : IsSnapshot (image.file init_file) start.bodies start.time =
          subst (λ (r : Run). IsSnapshot (image.file init_file) r.bodies r.begin) run led.represents.start in
          let list : start.bodies ≡ list_at target start =
          ap (λ (ways : List Way). steps start.params ways start.bodies)
          (sym (no_directions start.time target (omega (arith, is_none, zero_is)))) in
          let time : start.time ≡ target = omega (arith, is_none, zero_is) in
          subst (λ (k : ℕ). IsSnapshot (image.file k) (list_at target start) target) (sym (none is_none))
          (subst (λ (bodies : List Body). IsSnapshot (image.file init_file) bodies target) list
          (subst (λ (t : ℕ). IsSnapshot (image.file init_file) start.bodies t) time first))
