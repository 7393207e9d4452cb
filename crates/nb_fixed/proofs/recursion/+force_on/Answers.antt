use Rattle.std.proofs.Common.{◌≡◌, ◌≢◌, ◌+◌, ◌<◌, ◌==◌, Bool, not, false, List, [], length, map, sym, ap, ◌∙◌, arith}
use Rattle.std.proofs.lemmas.Bool.{eqb-true, eqb-false}
use Rattle.std.proofs.lemmas.List.{nil_from_length, length-map}
use Rattle.std.proofs.lemmas.List.Elements.{All-same, All-filter}
use Rattle.nb_model.specs.declared.body.Body.{Body}
use Rattle.nb_model.specs.declared.body.V3.{V3}
use Rattle.nb_model.specs.Limits.{deepest_level}
use Rattle.nb_model.specs.Octree.{octant_at, in_octant, total_mass, centre_of_mass}
use Rattle.nb_model.specs.Vector.{plus}
use Rattle.nb_model.specs.Gravity.{force_on, pull}
use Rattle.nb_model.specs.Valid.{IsValidBody}
use Rattle.nb_model.proofs.Facts.{length-in_octant-le}
use Rattle.nb_model.proofs.Facts.{force_on_below, gm-in_octant, octant_forces-take_below}
use Rattle.nb_model.proofs.Facts.{force_on-nil, force_on-accepted, force_on-deepest_leaf, force_on-small_leaf, force_on-divided, is_accepted-opens, octant_forces_more, octant_forces_all}
use Rattle.nb_fixed.proofs.OneOctant.{octant_forces-one}
use Rattle.nb_fixed.proofs.recursion.+force_on.Goals as goal

-- a list that isn't empty, by its length
some_body : (bodies : List Body) {test : Bool} → test ≡ false → test ≡ (length bodies == 0) → bodies ≢ []
some_body bodies is_false reads none = eqb-false (length bodies) 0 (sym reads ∙ is_false) (ap length none)

pub returns-then-is_empty : goal.returns-then-is_empty
returns-then-is_empty t c =
    let bodies = c.args.bodies.now in
    let none : bodies ≡ [] = nil_from_length bodies (eqb-true (length bodies) 0 (sym c.is_empty.ensures ∙ c.if-is_empty.true)) in
    sym (ap (λ b. force_on c.args.params.now c.args.from.now c.args.level b) none ∙ force_on-nil c.args.params.now c.args.from.now c.args.level)

pub returns-then-not-opens : goal.returns-then-not-opens
returns-then-not-opens t c =
    let some = some_body c.args.bodies.now c.if-is_empty.false c.is_empty.ensures in
    let taken = is_accepted-opens c.args.params.now c.args.from.now c.down.level c.args.bodies.now _ some c.mass_and_centre-mass.ensures.centre c.is_same_cell-inside.ensures c.opens.ensures ∙ ap not c.if-not-opens.true in
    let mass : c.mass_and_centre-mass.result.0 ≡ total_mass c.args.bodies.now = c.mass_and_centre-mass.ensures.mass in
    let centre : c.mass_and_centre-mass.result.1 ≡ centre_of_mass c.args.bodies.now = c.mass_and_centre-mass.ensures.centre in
    c.pull.ensures ∙ ap (λ m. pull c.args.params.now c.args.from.now m c.mass_and_centre-mass.result.1) mass ∙ ap (λ q. pull c.args.params.now c.args.from.now (total_mass c.args.bodies.now) q) centre ∙ sym (force_on-accepted c.args.params.now c.args.from.now c.down.level c.args.bodies.now c.down.invariant.within some taken) ∙ c.down.invariant.same

pub returns-then-level-eq-DEEPEST_LEVEL : goal.returns-then-level-eq-DEEPEST_LEVEL
returns-then-level-eq-DEEPEST_LEVEL t c =
    let some = some_body c.args.bodies.now c.if-is_empty.false c.is_empty.ensures in
    let opened = is_accepted-opens c.args.params.now c.args.from.now c.down.level c.args.bodies.now _ some c.mass_and_centre-mass.ensures.centre c.is_same_cell-inside.ensures c.opens.ensures ∙ ap not c.if-not-opens.false in
    c.direct_sum.ensures ∙ sym (force_on-deepest_leaf c.args.params.now c.args.from.now c.down.level c.args.bodies.now c.if-level-eq-DEEPEST_LEVEL.true some opened) ∙ c.down.invariant.same

pub returns-then-bodies-params : goal.returns-then-bodies-params
returns-then-bodies-params t c =
    let some = some_body c.args.bodies.now c.if-is_empty.false c.is_empty.ensures in
    let opened = is_accepted-opens c.args.params.now c.args.from.now c.down.level c.args.bodies.now _ some c.mass_and_centre-mass.ensures.centre c.is_same_cell-inside.ensures c.opens.ensures ∙ ap not c.if-not-opens.false in
    c.direct_sum-then-bodies-params.ensures ∙ sym (force_on-small_leaf c.args.params.now c.args.from.now c.down.level c.args.bodies.now c.down.invariant.within c.if-bodies-params.true some opened) ∙ c.down.invariant.same

pub down-preserved : goal.down-preserved
down-preserved t c =
    let params = c.args.params.now in
    let from = c.args.from.now in
    let level = c.down.level in
    let bodies = c.args.bodies.now in
    let some = some_body bodies c.if-is_empty.false c.is_empty.ensures in
    let opened = is_accepted-opens params from level bodies _ some c.mass_and_centre-mass.ensures.centre c.is_same_cell-inside.ensures c.opens.ensures ∙ ap not c.if-not-opens.false in
    let above : level < deepest_level = omega arith in
    let all = sym c.lie_in_octant.ensures ∙ c.if-not-lie_in_octant.false in
    let same : force_on params from (level + 1) bodies ≡ force_on params from level bodies = sym (force_on-divided params from level bodies above c.if-bodies-params.false some opened ∙ octant_forces-one params from level bodies c.octant_at-first.result c.octant_at-first.ensures.bound all) in
    record { below = omega arith; within = omega arith; same = same ∙ c.down.invariant.same }

pub in_octant-requires : goal.in_octant-requires
in_octant-requires t c =
    let octants : c.deref.result.now ≡ map (λ b. octant_at c.down.level b.at) c.args.bodies.now = c.deref.ensures.value ∙ c.in_ok-octants.ensures in
    ap length octants ∙ length-map c.args.bodies.now (λ b. octant_at c.down.level b.at)

pub force_on-requires : goal.force_on-requires
force_on-requires t c =
    let bodies = c.args.bodies.now in
    let part : c.deref-in-loop-octant.result.now ≡ in_octant c.down.level bodies c.loop-octant.octant = c.deref-in-loop-octant.ensures.value ∙ c.in_ok-part.ensures c.down.level (c.deref.ensures.value ∙ c.in_ok-octants.ensures) in
    (omega arith, (c.requires.params, (c.requires.from, (omega arith, (All-same IsValidBody c.deref-in-loop-octant.result.now (in_octant c.down.level bodies c.loop-octant.octant) part (All-filter (λ b. octant_at c.down.level b.at == c.loop-octant.octant) IsValidBody bodies c.requires.each), (rw part (omega (arith, length-in_octant-le c.down.level bodies c.loop-octant.octant, c.requires.count)), rw part (gm-in_octant c.args.params.now.grav c.down.level bodies c.loop-octant.octant c.requires.gm)))))))

pub plus-total-requires-clause-first : goal.plus-total-requires-clause-first
plus-total-requires-clause-first t c =
    rw c.loop-octant.invariant (octant_forces-take_below c.args.params.now c.args.from.now c.down.level c.args.bodies.now c.loop-octant.octant c.requires.gm)

pub plus-total-requires-clause-second : goal.plus-total-requires-clause-second
plus-total-requires-clause-second t c =
    let bodies = c.args.bodies.now in
    let part : c.deref-in-loop-octant.result.now ≡ in_octant c.down.level bodies c.loop-octant.octant = c.deref-in-loop-octant.ensures.value ∙ c.in_ok-part.ensures c.down.level (c.deref.ensures.value ∙ c.in_ok-octants.ensures) in
    rw (c.in_ok-force_on.ensures, part) (force_on_below c.args.params.now c.args.from.now (c.down.level + 1) (in_octant c.down.level bodies c.loop-octant.octant) (gm-in_octant c.args.params.now.grav c.down.level bodies c.loop-octant.octant c.requires.gm))

same_plus : {v w x y : V3} → v ≡ w → x ≡ y → plus v x ≡ plus w y
same_plus first second = cc

pub loop-octant-preserved : goal.loop-octant-preserved
loop-octant-preserved t c =
    let params = c.args.params.now in
    let from = c.args.from.now in
    let bodies = c.args.bodies.now in
    let level = c.down.level in
    let octant = c.loop-octant.octant in
    let part : c.deref-in-loop-octant.result.now ≡ in_octant level bodies octant = c.deref-in-loop-octant.ensures.value ∙ c.in_ok-part.ensures level (c.deref.ensures.value ∙ c.in_ok-octants.ensures) in
    let force = c.in_ok-force_on.ensures ∙ ap (force_on params from (level + 1)) part in
    c.plus-total.ensures ∙ same_plus c.loop-octant.invariant force ∙ sym (octant_forces_more params from level bodies octant (omega arith))

pub returns : goal.returns
returns t c =
    let some = some_body c.args.bodies.now c.if-is_empty.false c.is_empty.ensures in
    let opened = is_accepted-opens c.args.params.now c.args.from.now c.down.level c.args.bodies.now _ some c.mass_and_centre-mass.ensures.centre c.is_same_cell-inside.ensures c.opens.ensures ∙ ap not c.if-not-opens.false in
    c.loop-octant.invariant ∙ octant_forces_all c.args.params.now c.args.from.now c.down.level c.args.bodies.now c.loop-octant.octant (omega arith) ∙ sym (force_on-divided c.args.params.now c.args.from.now c.down.level c.args.bodies.now (omega arith) c.if-bodies-params.false some opened) ∙ c.down.invariant.same
