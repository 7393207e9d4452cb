use Rattle.std.proofs.Common.{◌≡◌, ◌*◌, ◌^◌, ◌≤◌, ℤ, pos, ◌+ℤ◌, ◌-ℤ◌, refl, ap, sym, subst, ◌∙◌, arith}
use Rattle.std.specs.Prelude.{◌≢◌, Some, None, unsigned_abs}
use Rattle.std.proofs.lemmas.Int.{ints}
use Rattle.std.proofs.lemmas.Option.{none-some}
use Rattle.nb_model.specs.declared.body.V3.{V3}
use Rattle.nb_model.specs.declared.edge.Edge.{Edge}
use Rattle.nb_model.specs.declared.edge.Edge.TheVariants.{Open, Wrap}
use Rattle.nb_model.specs.Limits.{half_box}
use Rattle.nb_model.specs.Vector.{displacement, nearest_along, nearest_displacement, norm_squared, square}
use Rattle.nb_model.proofs.Facts.{remainder_within}
use Rattle.nb_fixed.proofs.opening.scaled_distance.Goals as goal

same_image : (edge : Edge) (d : ℤ) → unsigned_abs d ≤ 2 ^ 31 → nearest_along edge d ≡ d
same_image Open d near = refl
same_image Wrap d near =
    let m = unsigned_abs (d +ℤ pos half_box) in
    let is : d +ℤ pos half_box ≡ pos m = omega (arith, ints, near) in
    ap (λ z. z -ℤ pos half_box) (remainder_within (d +ℤ pos half_box) m is (omega (arith, ints, near, is))) ∙ omega (arith, ints, is)

same_square : (edge : Edge) (d near : ℤ) → near ≡ d → unsigned_abs near ≤ 2 ^ 31 → square near ≡ square (nearest_along edge d)
same_square edge d near is short = ap square (is ∙ sym (same_image edge d (subst (λ z. unsigned_abs z ≤ 2 ^ 31) is short)))

same_norm : (edge : Edge) (d near : V3) → near ≡ d → unsigned_abs near.x ≤ 2 ^ 31 → unsigned_abs near.y ≤ 2 ^ 31
    → unsigned_abs near.z ≤ 2 ^ 31
    → norm_squared near ≡ norm_squared (record { x = nearest_along edge d.x; y = nearest_along edge d.y; z = nearest_along edge d.z })
same_norm edge d near is x y z =
    let at_x = same_square edge d.x near.x (ap (λ (v : V3). v.x) is) x in
    let at_y = same_square edge d.y near.y (ap (λ (v : V3). v.y) is) y in
    let at_z = same_square edge d.z near.z (ap (λ (v : V3). v.z) is) z in
    omega (arith, at_x, at_y, at_z)

pub returns-in-Some : goal.returns-in-Some
returns-in-Some c =
    let some : Some c.in-Some.norm ≢ None = λ is. none-some c.in-Some.norm (sym is) in
    let near = c.in-Some.ensures in
    let same = same_norm c.args.edge (displacement c.args.from.now c.args.to.now) c.nearest_displacement.result c.nearest_displacement.ensures.value (near.x some) (near.y some) (near.z some) in
    ap (λ n. n * c.from-in-Some.result) (c.from.ensures ∙ near.value ∙ same)
    ∙ ap (λ n. norm_squared (nearest_displacement c.args.edge c.args.from.now c.args.to.now) * n) c.from-in-Some.ensures
