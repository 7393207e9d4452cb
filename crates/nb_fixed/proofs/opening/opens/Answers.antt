use Rattle.std.proofs.Common.{◌≡◌, ℕ, ◌*◌, inl, inr, ap, sym, ◌∙◌, arith}
use Rattle.std.specs.Prelude.{◌||◌, not, nat_lt}
use Rattle.std.proofs.Math.Dec.{leb}
use Rattle.std.proofs.lemmas.Bool.{le-ltb, lt-ltb}
use Rattle.std.proofs.lemmas.Bool.Decides.{leb_tells}
use Rattle.nb_model.specs.Octree.{cell_side}
use Rattle.nb_model.specs.Vector.{nearest_displacement, norm_squared}
use Rattle.nb_fixed.proofs.opening.opens.Goals as goal

same_test : (side den norm num far reach : ℕ) → far ≡ norm * (num * num) → reach ≡ side * den
    → leb far (reach * reach) ≡ not (nat_lt (side * side * (den * den)) (norm * (num * num)))
same_test side den norm num far reach is at =
    let product = ap (λ n. n * n) at in
    elim (leb_tells far (reach * reach)) [
      | inl near ↦ near.0 ∙ sym (ap not (le-ltb (side * side * (den * den)) (norm * (num * num)) (omega (arith, near.1))))
      | inr beyond ↦ beyond.0 ∙ sym (ap not (lt-ltb (side * side * (den * den)) (norm * (num * num)) (omega (arith, beyond.1))))
    ]

pub returns : goal.returns
returns c =
    let params = c.args.params.now in
    let norm = norm_squared (nearest_displacement params.edge c.args.from.now c.args.centre.now) in
    let at = c.from-reach.ensures ∙ c.scaled_side.ensures.value in
    ap (λ b. c.args.inside || b)
    (same_test (cell_side c.args.level) params.theta_den norm params.theta_num c.scaled_distance-far.result c.from-reach.result c.scaled_distance-far.ensures at)
