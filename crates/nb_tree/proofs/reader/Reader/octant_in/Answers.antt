use Rattle.std.proofs.Common.{◌≡◌, ◌-◌, sym, subst, ◌∙◌}
use Rattle.nb_key.specs.Morton.{key_at}
use Rattle.nb_tree.specs.declared.reader.Ahead.{Ahead}
use Rattle.nb_tree.proofs.Fronts.{same_ahead}
use Rattle.nb_tree.proofs.Keys.{in_octant_ahead, not_ahead}
use Rattle.nb_tree.proofs.reader.Reader.octant_in.Goals as goal

pub returns-then-child-number-clause-none : goal.returns-then-child-number-clause-none
returns-then-child-number-clause-none c = λ lies.
    let is = c.requires.reader.ahead c.in-Some.ahead c.in-Some.is in
    let same = same_ahead lies.next c.in-Some.ahead (sym lies.there ∙ c.in-Some.is) in
    not_ahead c.args.depth c.args.key c.number.result c.in-Some.ahead.body.at (c.number.ensures.number ∙ is.key) c.requires.depth
    (λ here. c.if-child-number.true (here ∙ sym c.number-2.ensures.number)) (subst (λ (a : Ahead). key_at (20 - c.args.depth) a.body.at ≡ c.args.key) same lies.lies)

pub returns-clause-some : goal.returns-clause-some
returns-clause-some c =
    let is = c.requires.reader.ahead c.in-Some.ahead c.in-Some.is in
    record {
      next = c.in-Some.ahead;
      there = c.in-Some.is;
      lies = in_octant_ahead c.args.depth c.args.key c.number.result c.in-Some.ahead.body.at (c.number.ensures.number ∙ is.key) c.requires.depth
          (c.if-child-number.false ∙ c.number-2.ensures.number);
    }
