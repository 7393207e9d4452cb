-- Many ticks, one at a time.
use Rattle.std.proofs.Common.{◌≡◌, ℕ, suc, ◌+◌, ◌-◌, ◌<◌, ◌≤◌, List, refl, ap, sym, arith}
use Rattle.std.specs.Prelude.{replicate}
use Rattle.std.proofs.lemmas.List.{append-nil}
use Rattle.nb_model.specs.declared.body.Body.{Body}
use Rattle.nb_model.specs.declared.params.Params.{Params}
use Rattle.nb_model.specs.declared.way.Way.{Way}
use Rattle.nb_model.specs.declared.way.Way.TheVariants.{Forward, Back}
use Rattle.nb_model.specs.Leapfrog.{step, steps}
use Rattle.nb_model.specs.Legs.{directions_to}

-- after k of n ticks in one direction, the next one
pub steps-next : (params : Params) (way : Way) (n k : ℕ) (bodies next : List Body) → k < n → next ≡ step params way bodies
    → steps params (replicate (n - (k + 1)) way) next ≡ steps params (replicate (n - k) way) bodies
steps-next params way n k bodies next below is =
    let left : n - k ≡ suc (n - (k + 1)) = omega arith in rw left (ap (steps params (replicate (n - (k + 1)) way)) is)

pub directions_to-later : (from to : ℕ) → from ≤ to → replicate (to - from) Forward ≡ directions_to from to
directions_to-later from to later =
    let none : from - to ≡ 0 = omega arith in rw none (sym (append-nil (replicate (to - from) Forward)))

pub directions_to-earlier : (from to : ℕ) → to ≤ from → replicate (from - to) Back ≡ directions_to from to
directions_to-earlier from to earlier =
    let none : to - from ≡ 0 = omega arith in rw none refl
