use Rattle.std.proofs.Common.{◌≡◌, ◌∙◌}
use Rattle.nb_key.specs.Morton.{position, morton_key}
use Rattle.nb_key.proofs.Ranges.{held, held_range, held_same}
use Rattle.nb_key.proofs.key.Key.contains.Goals as goal

pub returns-clause-cell : goal.returns-clause-cell
returns-clause-cell c = λ level is.
    let deepest : c.result.inside.number ≡ morton_key (position c.args.x c.args.y c.args.z) = c.result.view_is ∙ c.of.ensures.value in
    rw (deepest, c.self.view_is) (held level c.args.self c.bits_below.result (position c.args.x c.args.y c.args.z) is (c.bits_below.ensures.bits level is))

pub returns-clause-range : goal.returns-clause-range
returns-clause-range c = λ level is.
    let deepest : c.result.inside.number ≡ morton_key (position c.args.x c.args.y c.args.z) = c.result.view_is ∙ c.of.ensures.value in
    rw (deepest, c.self.view_is) (held_range level c.args.self c.bits_below.result (position c.args.x c.args.y c.args.z) is (c.bits_below.ensures.bits level is))

pub returns-clause-same : goal.returns-clause-same
returns-clause-same c = λ level p is in_p of_p.
    let deepest : c.result.inside.number ≡ morton_key (position c.args.x c.args.y c.args.z) = c.result.view_is ∙ c.of.ensures.value in
    rw (deepest, c.self.view_is)
    (held_same level c.args.self c.bits_below.result (position c.args.x c.args.y c.args.z) p is (c.bits_below.ensures.bits level is)
    (record { x = c.requires.x; y = c.requires.y; z = c.requires.z }) in_p of_p)
