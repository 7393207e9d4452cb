use Rattle.std.proofs.Common.{◌≡◌, ◌+◌, ◌*◌, arith, refl, sym, ap, ◌∙◌, subst}
use Rattle.nb_model.specs.Limits.{gm_limit}
use Rattle.nb_model.specs.Valid.{IsBelow}
use Rattle.nb_model.specs.Vector.{plus}
use Rattle.nb_walk.specs.declared.term.Term.TheVariants as term
use Rattle.nb_walk.specs.Shown.{IsAtMost}
use Rattle.nb_walk.proofs.Tallies.{gm_two, at_most, adds_one, below_limit, pull_below_limit}
use Rattle.nb_walk.proofs.tally.Tally.add.Goals as goal

pub plus-self-requires-clause-a : goal.plus-self-requires-clause-a
plus-self-requires-clause-a c = below_limit c.args.params.now.grav c.args.self.now.taken c.args.most c.args.self.now.sum (omega arith) c.requires.gm c.requires.range

pub plus-self-requires-clause-b : goal.plus-self-requires-clause-b
plus-self-requires-clause-b c =
    subst (IsBelow gm_limit) (sym c.pull-more.ensures)
    (pull_below_limit c.args.params.now c.args.self.now.target c.args.mass c.args.most c.args.centre.now (omega arith) c.requires.gm)

pub pull-more-requires-clause-gm : goal.pull-more-requires-clause-gm
pull-more-requires-clause-gm c =
    let g = c.args.params.now.grav in
    let less = gm_two g c.args.mass 0 c.args.most (omega arith) in
    let none : g * 0 ≡ 0 = omega arith in
    omega (arith, c.requires.gm)

pub returns-clause-added : goal.returns-clause-added
returns-clause-added c = λ _.
    adds_one c.args.params.now (term.Cell c.args.mass c.args.centre.now) c.args.self.now (record c.args.self.now { sum = c.plus-self.result; taken = c.args.self.now.taken + c.args.mass })
    refl refl (c.plus-self.ensures ∙ ap (plus c.args.self.now.sum) c.pull-more.ensures) refl

pub returns-clause-range : goal.returns-clause-range
returns-clause-range c =
    subst (IsAtMost (c.args.params.now.grav * (c.args.self.now.taken + c.args.mass))) (sym (c.plus-self.ensures ∙ ap (plus c.args.self.now.sum) c.pull-more.ensures))
    (at_most c.args.params.now c.args.self.now.target c.args.mass c.args.self.now.taken c.args.centre.now c.args.self.now.sum c.requires.range)
