use Rattle.std.proofs.Common.{◌+◌, arith, sym, ap, ◌∙◌, subst, inr, [], ◌∷◌}
use Rattle.std.specs.Prelude.{sum_by}
use Rattle.std.proofs.lemmas.List.Sums.{sum_by-append, sum_by-cons}
use Rattle.nb_walk.specs.declared.term.Term.TheVariants as term
use Rattle.nb_walk.specs.Terms.{term_mass}
use Rattle.nb_walk.specs.Taking.{Adds, page_terms}
use Rattle.nb_walk.proofs.Tallies.{adds_none, adds_more, adds_body, no_bodies, next_body, front_weighs}
use Rattle.nb_walk.proofs.tally.Tally.add_bodies.Goals as goal

pub loop-i-init : goal.loop-i-init
loop-i-init c = record {
  later = omega arith;
  added = subst (λ ts. Adds c.args.params.now ts c.args.self.now c.args.self.now) (sym (no_bodies c.args.page.now c.args.from)) (adds_none c.args.params.now c.args.self.now);
  within = λ few. few;
  range = c.requires.range;
}

pub returns-then-not-add-clause-refused : goal.returns-then-not-add-clause-refused
returns-then-not-add-clause-refused c = λ _.
    let bytes = c.args.page.now in
    let from = c.args.from in
    let i = c.loop-i.i in
    let t = term.Body c.in-Some.body in
    let heavy = c.add.ensures.refused c.if-not-add.true in
    let before = c.loop-i.invariant.added.taken in
    let next = ap (sum_by term_mass) (next_body bytes from i c.in-Some.body c.loop-i.invariant.later (omega arith) c.in-Some.ensures.1)
    ∙ sum_by-append term_mass (page_terms bytes from i) (t ∷ []) in
    let one = sum_by-cons term_mass t [] in
    let front = front_weighs bytes from (i + 1) c.args.end (omega arith) in
    let same = c.from.ensures in
    inr (omega arith)

pub loop-i-preserved : goal.loop-i-preserved
loop-i-preserved c =
    let bytes = c.args.page.now in
    let from = c.args.from in
    let i = c.loop-i.i in
    let t = term.Body c.in-Some.body in
    let later = c.loop-i.invariant.later in
    let own = adds_body c.args.params.now c.in-Some.body c.from.result c.loop-i.self c.add.new.self c.from.ensures (c.add.ensures.added c.if-not-add.false) in
    let both = adds_more c.args.params.now (page_terms bytes from i) (t ∷ []) c.args.self.now c.loop-i.self c.add.new.self c.loop-i.invariant.added own in
    record {
      later = omega arith;
      added = subst (λ ts. Adds c.args.params.now ts c.args.self.now c.add.new.self) (sym (next_body bytes from i c.in-Some.body later (omega arith) c.in-Some.ensures.1)) both;
      within = λ few. c.add.ensures.within c.if-not-add.false;
      range = c.add.ensures.range;
    }
