-- The first of some bodies whose ids rise.
use Rattle.std.proofs.Common.{◌≡◌, ℕ, zero, suc, ◌+◌, ◌<◌, List, [], ◌∷◌, length, take, get_or, arith, map}
use Rattle.std.specs.Prelude.{IfSome}
use Rattle.std.specs.List.Sorted.{IsStrictlyIncreasing}
use Rattle.nb_model.specs.declared.body.Body.{Body}
use Rattle.nb_format.specs.Reader.{last_of}

-- the ids of these bodies rise
abbrev pub Rise : List Body → Type 0
Rise bodies = IsStrictlyIncreasing (map (λ b. b.id) bodies)

Rise-tail : (c : Body) (bodies : List Body) → Rise (c ∷ bodies) → Rise bodies
Rise-tail c bodies rises k below =
    let next : suc k + 1 ≡ suc (k + 1) = omega arith in rw next at (rises (suc k) (omega arith))

pub last_of-take : (bodies : List Body) (i : ℕ) (d : Body) → i < length bodies → Rise bodies
    → IfSome (last_of (take i bodies)) (λ id. id < (get_or bodies i d).id)
last_of-take bodies zero d below rises = tt
last_of-take [] (suc i) d below rises = tt
last_of-take (b ∷ []) (suc i) d below rises = absurd (omega arith)
last_of-take (b ∷ c ∷ bodies) (suc zero) d below rises = rises 0 (omega arith)
last_of-take (b ∷ c ∷ bodies) (suc (suc i)) d below rises =
    last_of-take (c ∷ bodies) (suc i) d (omega arith) (Rise-tail b (c ∷ bodies) rises)
