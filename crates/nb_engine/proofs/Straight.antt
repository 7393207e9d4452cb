-- Where no body becomes out, the list of a run at a time is the one to which ticks lead straight from its begin.
use Rattle.std.proofs.Common.{◌≡◌, ℕ, zero, suc, ◌+◌, ◌-◌, ◌≤◌, inl, inr, List, [], ◌∷◌, ◌++◌, take, replicate, refl, sym, ap, ◌∙◌, arith, append-nil}
use Rattle.std.proofs.lemmas.Bool.{cases_lt}
use Rattle.nb_model.specs.declared.body.Body.{Body}
use Rattle.nb_model.specs.declared.params.Params.{Params}
use Rattle.nb_model.specs.declared.way.Way.{Way}
use Rattle.nb_model.specs.declared.way.Way.TheVariants.{Forward, Back}
use Rattle.nb_model.specs.Laws.{opposite, StepIsUndone}
use Rattle.nb_model.specs.Leapfrog.{escaped_count, step, steps}
use Rattle.nb_model.specs.Legs.{directions_to, directions}
use Rattle.nb_model.specs.Valid.{IsValidBodies}
use Rattle.nb_engine.specs.Histories.{Run, state_at, time_at, IsRun}
use Rattle.nb_engine.proofs.Heights.{forwards, backs, forwards-cons, backs-cons, never_below}
use Rattle.nb_engine.proofs.Steps.{steps_append, steps_valid, escaped_count-step, escaped_count-steps, escaped_count-fewer}

-- ---- the directions to a time, by how far it is

spelled : (from to forward back : ℕ) → to - from ≡ forward → from - to ≡ back
    → directions_to from to ≡ replicate forward Forward ++ replicate back Back
spelled from to forward back later earlier =
    ap (λ n. replicate n Forward ++ replicate (from - to) Back) later
    ∙ ap (λ n. replicate forward Forward ++ replicate n Back) earlier

pub directions_to-later : (from to n : ℕ) → to ≡ from + n → directions_to from to ≡ replicate n Forward
directions_to-later from to n is = spelled from to n 0 (omega arith) (omega arith) ∙ append-nil (replicate n Forward)

pub directions_to-earlier : (from to n : ℕ) → from ≡ to + n → directions_to from to ≡ replicate n Back
directions_to-earlier from to n is = spelled from to 0 n (omega arith) (omega arith)

directions_to-same : (a b c d : ℕ) → a + d ≡ c + b → directions_to a b ≡ directions_to c d
directions_to-same a b c d same = spelled a b (d - c) (c - d) (omega arith) (omega arith)

-- ---- ticks one way, and one more

replicate_push : (n : ℕ) (way : Way) → replicate n way ++ way ∷ [] ≡ replicate (suc n) way
replicate_push zero way = refl
replicate_push (suc n) way = ap (λ ways. way ∷ ways) (replicate_push n way)

one_more : (params : Params) (bodies : List Body) (way : Way) (n : ℕ)
    → step params way (steps params (replicate n way) bodies) ≡ steps params (replicate (suc n) way) bodies
one_more params bodies way n =
    sym (steps_append params (replicate n way) (way ∷ []) bodies) ∙ ap (λ ways. steps params ways bodies) (replicate_push n way)

-- the other way, where no body became out
one_less : StepIsUndone → (params : Params) (bodies : List Body) (way : Way) (n : ℕ) → IsValidBodies params bodies
    → escaped_count (steps params (replicate (suc n) way) bodies) ≡ escaped_count bodies
    → step params (opposite way) (steps params (replicate (suc n) way) bodies) ≡ steps params (replicate n way) bodies
one_less undone params bodies way n valid none =
    let before = steps params (replicate n way) bodies in
    let same = one_more params bodies way n in
    let few = escaped_count-steps params (replicate n way) bodies in
    let stayed : escaped_count (step params way before) ≡ escaped_count before =
    omega (arith, ap escaped_count same, none, few, escaped_count-step params way before) in
    ap (step params (opposite way)) (sym same)
    ∙ undone params way before (steps_valid params (replicate n way) bodies valid).each stayed

-- ---- a tick from where ticks lead straight

abbrev straight : Params → List Body → ℕ → ℕ → List Body
straight params bodies from to = steps params (directions_to from to) bodies

straight-at : (params : Params) (bodies : List Body) (from to : ℕ) (ways : List Way) → directions_to from to ≡ ways
    → straight params bodies from to ≡ steps params ways bodies
straight-at params bodies from to ways are = ap (λ w. steps params w bodies) are

straight-forward : StepIsUndone → (params : Params) (bodies : List Body) (from to : ℕ) → IsValidBodies params bodies
    → escaped_count (straight params bodies from to) ≡ escaped_count bodies
    → step params Forward (straight params bodies from to) ≡ straight params bodies from (to + 1)
straight-forward undone params bodies from to valid none =
    elim (cases_lt to from) [
      | inl below ↦
          let n = from - (to + 1) in
          let here = straight-at params bodies from to (replicate (suc n) Back)
          (directions_to-earlier from to (suc n) (omega arith)) in
          let there = straight-at params bodies from (to + 1) (replicate n Back)
          (directions_to-earlier from (to + 1) n (omega arith)) in
          ap (step params Forward) here
          ∙ one_less undone params bodies Back n valid (ap escaped_count (sym here) ∙ none) ∙ sym there
      | inr above ↦
          let n = to - from in
          let here = straight-at params bodies from to (replicate n Forward) (directions_to-later from to n (omega arith)) in
          let there = straight-at params bodies from (to + 1) (replicate (suc n) Forward)
          (directions_to-later from (to + 1) (suc n) (omega arith)) in
          ap (step params Forward) here ∙ one_more params bodies Forward n ∙ sym there
    ]

straight-back : StepIsUndone → (params : Params) (bodies : List Body) (from to : ℕ) → IsValidBodies params bodies
    → escaped_count (straight params bodies from to) ≡ escaped_count bodies
    → step params Back (straight params bodies from to) ≡ straight params bodies (from + 1) to
straight-back undone params bodies from to valid none =
    elim (cases_lt from to) [
      | inl below ↦
          let n = to - (from + 1) in
          let here = straight-at params bodies from to (replicate (suc n) Forward)
          (directions_to-later from to (suc n) (omega arith)) in
          let there = straight-at params bodies (from + 1) to (replicate n Forward)
          (directions_to-later (from + 1) to n (omega arith)) in
          ap (step params Back) here
          ∙ one_less undone params bodies Forward n valid (ap escaped_count (sym here) ∙ none) ∙ sym there
      | inr above ↦
          let n = from - to in
          let here = straight-at params bodies from to (replicate n Back) (directions_to-earlier from to n (omega arith)) in
          let there = straight-at params bodies (from + 1) to (replicate (suc n) Back)
          (directions_to-earlier (from + 1) to (suc n) (omega arith)) in
          ap (step params Back) here ∙ one_more params bodies Back n ∙ sym there
    ]

-- ---- the ticks of a run

moved : (params : Params) (bodies : List Body) (a b c d : ℕ) → a ≡ c → b ≡ d
    → straight params bodies a b ≡ straight params bodies c d
moved params bodies a b c d from to = ap (λ n. straight params bodies n b) from ∙ ap (straight params bodies c) to

goes_straight : StepIsUndone → (params : Params) (bodies : List Body) (ways : List Way) (from to : ℕ)
    → IsValidBodies params bodies
    → escaped_count (steps params ways (straight params bodies from to)) ≡ escaped_count bodies
    → steps params ways (straight params bodies from to) ≡ straight params bodies (from + backs ways) (to + forwards ways)
goes_straight undone params bodies [] from to valid none =
    moved params bodies from to (from + backs []) (to + forwards []) (omega arith) (omega arith)
goes_straight undone params bodies (Forward ∷ ways) from to valid none =
    let here = straight params bodies from to in
    let few = escaped_count-steps params (directions_to from to) bodies in
    let stayed : escaped_count here ≡ escaped_count bodies =
    omega (arith, none, few, escaped_count-steps params (Forward ∷ ways) here) in
    let one = straight-forward undone params bodies from to valid stayed in
    let rest = goes_straight undone params bodies ways from (to + 1) valid
    (ap (λ l. escaped_count (steps params ways l)) (sym one) ∙ none) in
    ap (steps params ways) one ∙ rest
    ∙ moved params bodies (from + backs ways) (to + 1 + forwards ways) (from + backs (Forward ∷ ways))
    (to + forwards (Forward ∷ ways))
    (omega (arith, backs-cons Forward ways)) (omega (arith, forwards-cons Forward ways))
goes_straight undone params bodies (Back ∷ ways) from to valid none =
    let here = straight params bodies from to in
    let few = escaped_count-steps params (directions_to from to) bodies in
    let stayed : escaped_count here ≡ escaped_count bodies =
    omega (arith, none, few, escaped_count-steps params (Back ∷ ways) here) in
    let one = straight-back undone params bodies from to valid stayed in
    let rest = goes_straight undone params bodies ways (from + 1) to valid
    (ap (λ l. escaped_count (steps params ways l)) (sym one) ∙ none) in
    ap (steps params ways) one ∙ rest
    ∙ moved params bodies (from + 1 + backs ways) (to + forwards ways) (from + backs (Back ∷ ways)) (to + forwards (Back ∷ ways))
    (omega (arith, backs-cons Back ways)) (omega (arith, forwards-cons Back ways))

run_straight : StepIsUndone → (run : Run) (k i : ℕ) → IsRun run
    → escaped_count (state_at run k) ≡ escaped_count run.bodies → i ≤ k
    → let ways = take i (directions run.begin run.legs) in
    state_at run i ≡ straight run.params run.bodies (0 + backs ways) (0 + forwards ways)
run_straight undone run k i is none less =
    let all = directions run.begin run.legs in
    let ways = take i all in
    let few = escaped_count-steps run.params ways run.bodies in
    let fewer = escaped_count-fewer run.params all i k run.bodies less in
    goes_straight undone run.params run.bodies ways 0 0 is.bodies (omega (arith, few, fewer, none))

-- at equal times the lists are equal
pub same_state : StepIsUndone → (run : Run) (k i j : ℕ) → IsRun run
    → escaped_count (state_at run k) ≡ escaped_count run.bodies → i ≤ k → j ≤ k → time_at run i ≡ time_at run j
    → state_at run i ≡ state_at run j
same_state undone run k i j is none first second same =
    let all = directions run.begin run.legs in
    let ways = take i all in
    let others = take j all in
    let one = never_below run.begin run.legs i in
    let other = never_below run.begin run.legs j in
    let apart : 0 + backs ways + (0 + forwards others) ≡ 0 + backs others + (0 + forwards ways) =
    omega (arith, one, other, same) in
    run_straight undone run k i is none first
    ∙ ap (λ w. steps run.params w run.bodies)
    (directions_to-same (0 + backs ways) (0 + forwards ways) (0 + backs others) (0 + forwards others) apart)
    ∙ sym (run_straight undone run k j is none second)
