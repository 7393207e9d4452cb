use Rattle.std.proofs.Common.{◌≡◌, None, [], ◌∷◌, ◌++◌, sym, ap, ◌∙◌, subst}
use Rattle.std.specs.Prelude.{◌≢◌}
use Rattle.nb_walk.specs.declared.item.Item.TheVariants as item
use Rattle.nb_walk.proofs.Courses.{waits, looks}
use Rattle.nb_walk.proofs.walk.visit_item.Goals as goal

pub returns-in-Cell-clause-wants : goal.returns-in-Cell-clause-wants
returns-in-Cell-clause-wants g c = λ name.
    let cells = g.L.Lender.cells c.args.lender.now in
    let bodies = g.L.Lender.bodies c.args.lender.now in
    let old = c.args.items.now.items in
    let front = c.take_last.new.items.items in
    let x = item.Cell c.in-Cell.key c.in-Cell.page in
    let there : old ≡ front ++ x ∷ [] = c.in-Some.ensures.items ∙ ap (λ y. front ++ y ∷ []) c.in-Cell.is in
    let wait = waits cells bodies c.args.tree.now old front x c.requires.some there name in
    let want = c.visit_cell.ensures.wants name in
    (λ e. wait.0 (want.0 e), λ u. want.1 (wait.1 u))

pub returns-in-Cell-clause-damaged : goal.returns-in-Cell-clause-damaged
returns-in-Cell-clause-damaged g c = λ name blames.
    let cells = g.L.Lender.cells c.args.lender.now in
    let bodies = g.L.Lender.bodies c.args.lender.now in
    let old = c.args.items.now.items in
    let front = c.take_last.new.items.items in
    let x = item.Cell c.in-Cell.key c.in-Cell.page in
    let there : old ≡ front ++ x ∷ [] = c.in-Some.ensures.items ∙ ap (λ y. front ++ y ∷ []) c.in-Cell.is in
    let why = c.visit_cell.ensures.damaged name blames in
    looks cells bodies c.args.tree.now old front x name c.requires.some there why.0 why.1

pub returns-in-Bodies-clause-wants : goal.returns-in-Bodies-clause-wants
returns-in-Bodies-clause-wants g c = λ name.
    let cells = g.L.Lender.cells c.args.lender.now in
    let bodies = g.L.Lender.bodies c.args.lender.now in
    let old = c.args.items.now.items in
    let front = c.take_last.new.items.items in
    let x = item.Bodies c.in-Bodies.from c.in-Bodies.count in
    let there : old ≡ front ++ x ∷ [] = c.in-Some.ensures.items ∙ ap (λ y. front ++ y ∷ []) c.in-Bodies.is in
    let wait = waits cells bodies c.args.tree.now old front x c.requires.some there name in
    let want = c.visit_bodies.ensures.wants name in (
      λ e. let both = want.0 e in wait.0 (both.0, subst (λ n. bodies n.page ≡ None) both.0 both.1),
      λ u. let both = wait.1 u in want.1 (both.0, subst (λ n. bodies n.page ≡ None) (sym both.0) both.1),
    )

pub returns-in-Bodies-clause-damaged : goal.returns-in-Bodies-clause-damaged
returns-in-Bodies-clause-damaged g c = λ name blames.
    let cells = g.L.Lender.cells c.args.lender.now in
    let bodies = g.L.Lender.bodies c.args.lender.now in
    let old = c.args.items.now.items in
    let front = c.take_last.new.items.items in
    let x = item.Bodies c.in-Bodies.from c.in-Bodies.count in
    let there : old ≡ front ++ x ∷ [] = c.in-Some.ensures.items ∙ ap (λ y. front ++ y ∷ []) c.in-Bodies.is in
    let why = c.visit_bodies.ensures.damaged name blames in
    looks cells bodies c.args.tree.now old front x name c.requires.some there why.0 (subst (λ n. bodies n.page ≢ None) why.0 why.1)
