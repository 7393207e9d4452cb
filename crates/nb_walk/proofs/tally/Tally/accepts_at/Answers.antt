use Rattle.std.proofs.Common.{◌≤◌, ◌-◌, ◌*◌, ◌/◌, ◌^◌, eqb, refl, ap, sym, subst, ◌∙◌, not}
use Rattle.nb_model.specs.Limits.{deepest_level}
use Rattle.nb_key.specs.Morton.{IsKey, IsKeyAt}
use Rattle.nb_walk.proofs.KeyLevels.{criterion_is, its_level, level_most}
use Rattle.nb_walk.proofs.Tallies.{target_held}
use Rattle.nb_walk.proofs.tally.Tally.accepts_at.Goals as goal

pub overflow_sub-inside : goal.overflow_sub-inside
overflow_sub-inside c =
    let is_key = subst IsKey c.number-number.ensures.number c.number-number.ensures.key in
    subst (λ l. l ≤ 21) (sym c.requires.level) (level_most c.args.key is_key)

pub opens-requires-clause-level : goal.opens-requires-clause-level
opens-requires-clause-level c =
    let is_key = subst IsKey c.number-number.ensures.number c.number-number.ensures.key in
    subst (λ l. l ≤ deepest_level) (sym c.requires.level) (level_most c.args.key is_key)

pub returns : goal.returns
returns c =
    let params = c.args.params.now in
    let p = c.args.self.now.target in
    let key = c.args.key in
    let level = c.args.level in
    let number = c.number-number.result in
    let bits = 3 * (21 - level) in
    let inside = eqb (c.args.self.now.key / 2 ^ bits) number in
    let is_key = subst IsKey c.number-number.ensures.number c.number-number.ensures.key in
    let at = subst (λ l. IsKeyAt l key) (sym c.requires.level) (its_level key is_key) in
    let held = target_held level key number bits c.args.self.now.key p at c.number-number.ensures.number c.requires.key refl in
    ap not c.opens.ensures
    ∙ criterion_is params p level key c.args.centre.now inside at held
