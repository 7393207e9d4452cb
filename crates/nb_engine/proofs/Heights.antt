-- How many ticks go forward and how many back, and that none goes back from time 0.
use Rattle.std.proofs.Common.{◌≡◌, ℕ, zero, suc, ◌+◌, ◌-◌, ◌≤◌, cond, not, List, [], ◌∷◌, ◌++◌, take, replicate, arith, sym, subst, append_assoc}
use Rattle.std.specs.Prelude.{count_by}
use Rattle.std.proofs.lemmas.List.Sums.{sum_by-cons}
use Rattle.nb_model.specs.declared.way.Way.{Way}
use Rattle.nb_model.specs.declared.way.Way.TheVariants.{Forward, Back}
use Rattle.nb_model.specs.Legs.{directions_to, directions, is_forward}

abbrev pub forwards : List Way → ℕ
forwards ways = count_by is_forward ways

abbrev pub backs : List Way → ℕ
backs ways = count_by (λ way. not (is_forward way)) ways

pub forwards-cons : (way : Way) (ways : List Way) → forwards (way ∷ ways) ≡ cond (is_forward way) 1 0 + forwards ways
forwards-cons way ways = sum_by-cons (λ w. cond (is_forward w) 1 0) way ways

pub backs-cons : (way : Way) (ways : List Way) → backs (way ∷ ways) ≡ cond (not (is_forward way)) 1 0 + backs ways
backs-cons way ways = sum_by-cons (λ w. cond (not (is_forward w)) 1 0) way ways

-- None of these ticks goes back from time 0.
abbrev StaysAbove : ℕ → List Way → Type 0
StaysAbove time [] = Unit {0}
StaysAbove time (Forward ∷ ways) = StaysAbove (time + 1) ways
StaysAbove time (Back ∷ ways) = (1 ≤ time) × StaysAbove (time - 1) ways

above-forward : (n time later : ℕ) (ways : List Way) → later ≡ time + n → StaysAbove later ways
    → StaysAbove time (replicate n Forward ++ ways)
above-forward zero time later ways is above = subst (λ t. StaysAbove t ways) (omega arith) above
above-forward (suc n) time later ways is above = above-forward n (time + 1) later ways (omega arith) above

above-back : (n time earlier : ℕ) (ways : List Way) → time ≡ earlier + n → StaysAbove earlier ways
    → StaysAbove time (replicate n Back ++ ways)
above-back zero time earlier ways is above = subst (λ t. StaysAbove t ways) (omega arith) above
above-back (suc n) time earlier ways is above = (omega arith, above-back n (time - 1) earlier ways (omega arith) above)

-- forward to the greater of the two, and back from it
above-leg : (begin target : ℕ) (ways : List Way) → StaysAbove target ways → StaysAbove begin (directions_to begin target ++ ways)
above-leg begin target ways above =
    let top = begin + (target - begin) in
    let back = above-back (begin - target) top target ways (omega arith) above in
    let forward = above-forward (target - begin) begin top (replicate (begin - target) Back ++ ways) (omega arith) back in
    subst (StaysAbove begin) (sym (append_assoc (replicate (target - begin) Forward)
    (replicate (begin - target) Back) ways)) forward

above-legs : (begin : ℕ) (legs : List ℕ) → StaysAbove begin (directions begin legs)
above-legs begin [] = tt
above-legs begin (target ∷ legs) = above-leg begin target (directions target legs) (above-legs target legs)

above-first : (ways : List Way) (time k : ℕ) → StaysAbove time ways → backs (take k ways) ≤ time + forwards (take k ways)
above-first ways time zero above = omega arith
above-first [] time (suc k) above = omega arith
above-first (Forward ∷ ways) time (suc k) above =
    let rest = above-first ways (time + 1) k above in
    omega (arith, rest, forwards-cons Forward (take k ways), backs-cons Forward (take k ways))
above-first (Back ∷ ways) time (suc k) above =
    let rest = above-first ways (time - 1) k above.1 in
    omega (arith, rest, above.0, forwards-cons Back (take k ways), backs-cons Back (take k ways))

-- The first ticks of a run don't go back more often than they can.
pub never_below : (begin : ℕ) (legs : List ℕ) (k : ℕ)
    → backs (take k (directions begin legs)) ≤ begin + forwards (take k (directions begin legs))
never_below begin legs k = above-first (directions begin legs) begin k (above-legs begin legs)
