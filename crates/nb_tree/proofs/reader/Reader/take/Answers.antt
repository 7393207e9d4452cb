use Rattle.std.proofs.Common.{◌≡◌, ◌+◌, Err, sym, ap, subst, ◌∙◌, arith, rules}
use Rattle.nb_cache.specs.View.{seen}
use Rattle.nb_tree.specs.Refusals.{IsMisplaced}
use Rattle.nb_tree.specs.Passes.{body_ahead}
use Rattle.nb_tree.proofs.Fronts.{read_next, unfollowed, held_ahead, order_next, missing, told_some}
use Rattle.nb_tree.specs.declared.tree_error.TreeError.TheVariants.{Damaged}
use Rattle.nb_tree.proofs.reader.Reader.take.Goals as goal

pub follows-requires-clause-ahead : goal.follows-requires-clause-ahead
follows-requires-clause-ahead g c = c.requires.reader.ahead c.in-Some.ahead c.in-Some.is

pub returns-then-not-follows-clause-damaged : goal.returns-then-not-follows-clause-damaged
returns-then-not-follows-clause-damaged g c = λ name is tells held.
    let file = seen g.H.Host.meaning c.args.cache.now c.args.host.now c.args.self.now.file in
    let same : c.page_name.result ≡ name = cc in
    subst (IsMisplaced c.args.self.now.file c.args.self.now.count file) (sym c.page_name.ensures.value ∙ same)
    (unfollowed c.args.self.now.file c.args.self.now.taken c.in-Some.ahead.body c.in_ok-next.next
    (held.order c.in-Some.ahead c.in-Some.is) (held.body c.in-Some.ahead c.in-Some.is) c.in_ok-next.ensures.some (told_some _ c.in_ok-next.next tells c.in_ok-next.ensures.body)
    (λ follows. absurd (let true_is = c.follows.ensures.1 follows in let false_is = c.if-not-follows.true in search rules)))

pub returns-clause-at : goal.returns-clause-at
returns-clause-at g c = λ tells front fronts at.
    ap body_ahead c.inside-self.ensures
    ∙ read_next fronts c.args.self.now.taken c.in-Some.ahead.body c.in_ok-next.next (sym at ∙ ap body_ahead c.in-Some.is)
    c.in_ok-next.ensures.none c.in_ok-next.ensures.some (told_some _ c.in_ok-next.next tells c.in_ok-next.ensures.has)
    (told_some _ c.in_ok-next.next tells c.in_ok-next.ensures.body) (c.if-not-follows.ensures.0 (search rules))

pub returns-clause-held : goal.returns-clause-held
returns-clause-held g c = λ tells held.
    let file = seen g.H.Host.meaning c.args.cache.now c.args.host.now c.args.self.now.file in
    let body = told_some _ c.in_ok-next.next tells c.in_ok-next.ensures.body in
    record {
      body = held_ahead file (c.args.self.now.taken + 1) c.in_ok-next.next c.inside-self.result c.inside-self.ensures body;
      order = order_next file c.args.self.now.taken c.in-Some.ahead.body c.in_ok-next.next c.inside-self.result
          (held.body c.in-Some.ahead c.in-Some.is) c.inside-self.ensures (told_some _ c.in_ok-next.next tells c.in_ok-next.ensures.has) body
          (c.if-not-follows.ensures.0 (search rules)) (held.order c.in-Some.ahead c.in-Some.is);
    }

pub returns-in_err-next-clause-damaged : goal.returns-in_err-next-clause-damaged
returns-in_err-next-clause-damaged g c = λ name is tells held.
    let error : c.read.result ≡ Err (Damaged name) = search rules in
    missing c.args.self.now.file c.args.self.now.count (c.args.self.now.taken + 1)
    (seen g.H.Host.meaning c.args.cache.now c.args.host.now c.args.self.now.file) name
    (c.read.ensures.named name error) (c.read.ensures.below name error)
    (λ j below. held.order c.in-Some.ahead c.in-Some.is j (omega arith)) (c.read.ensures.damaged name error tells)
