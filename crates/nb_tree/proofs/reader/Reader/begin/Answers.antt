use Rattle.std.proofs.Common.{◌≡◌, Err, ap, ◌∙◌, arith, rules}
use Rattle.nb_cache.specs.View.{seen}
use Rattle.nb_tree.specs.Passes.{body_ahead}
use Rattle.nb_tree.proofs.Fronts.{read_at, held_ahead, order_first, missing, told_some}
use Rattle.nb_tree.specs.declared.tree_error.TreeError.TheVariants.{Damaged}
use Rattle.nb_tree.proofs.reader.Reader.begin.Goals as goal

pub returns-clause-at : goal.returns-clause-at
returns-clause-at g c = λ tells front fronts.
    ap body_ahead c.inside.ensures
    ∙ read_at fronts 0 c.in_ok-next.next (omega arith)
    c.in_ok-next.ensures.none c.in_ok-next.ensures.some (told_some _ c.in_ok-next.next tells c.in_ok-next.ensures.has)
    (told_some _ c.in_ok-next.next tells c.in_ok-next.ensures.body) (λ before. absurd (omega arith))

pub returns-clause-held : goal.returns-clause-held
returns-clause-held g c = λ tells.
    let file = seen g.H.Host.meaning c.args.cache.now c.args.host.now c.args.file in
    record {
      body = held_ahead file 0 c.in_ok-next.next c.inside.result c.inside.ensures (told_some _ c.in_ok-next.next tells c.in_ok-next.ensures.body);
      order = order_first file c.in_ok-next.next c.inside.result c.inside.ensures (told_some _ c.in_ok-next.next tells c.in_ok-next.ensures.has);
    }

pub returns-in_err-next-clause-damaged : goal.returns-in_err-next-clause-damaged
returns-in_err-next-clause-damaged g c = λ name is tells.
    let error : c.read.result ≡ Err (Damaged name) = search rules in
    missing c.args.file c.args.count 0 (seen g.H.Host.meaning c.args.cache.now c.args.host.now c.args.file) name
    (c.read.ensures.named name error) (c.read.ensures.below name error) (λ j below. absurd (omega arith))
    (c.read.ensures.damaged name error tells)
