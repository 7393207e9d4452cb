use Rattle.std.proofs.Common.{◌≡◌, ◌↔◌, [], length, sym, ap, ◌∙◌, subst}
use Rattle.nb_model.specs.Valid.{IsInBox}
use Rattle.nb_record.proofs.Callers.{tree_in_box}
use Rattle.nb_walk.specs.declared.visit.Visit.TheVariants as visit
use Rattle.nb_walk.specs.Group.{walk_of}
use Rattle.nb_walk.specs.Shown.{WaitsFor}
use Rattle.nb_walk.specs.Walk.{WalkValue, IsWalkOn, VisitsTree}
use Rattle.nb_walk.proofs.Courses.{nothing_next, none_left}
use Rattle.nb_walk.proofs.Pulling.{angle}
use Rattle.nb_walk.proofs.Visits.{none_next, visits_item}
use Rattle.nb_walk.proofs.Walking.{ended}
use Rattle.nb_walk.proofs.walk.Walk.visit.Goals as goal

pub returns-then-tree-eq0-clause-tree : goal.returns-then-tree-eq0-clause-tree
returns-then-tree-eq0-clause-tree g c = λ files bodies of_tree shows on.
    let params = c.args.params.now in
    let tree = c.args.tree.now in
    let w = c.args.self.now in
    let file = files tree.cells in
    let within = subst (λ v. IsInBox v.target) c.self.view_is c.self.invariant.0 in
    let box = tree_in_box tree files params bodies of_tree in
    let none = none_left (angle params w.target) params tree files bodies of_tree c.if-tree-eq0.true w.items on.items in
    let emptied : WalkValue → WalkValue = λ v. record { target = v.target; sum = v.sum; taken = v.taken; items = [] } in
    let new : walk_of c.self.inside.tally c.clear.new.self.items ≡ emptied w = ap (λ l. walk_of c.self.inside.tally l) c.clear.ensures ∙ ap emptied c.self.view_is in
    record {
      on = subst (IsWalkOn params bodies tree file) (sym new) (ended params bodies tree file box w within none on);
      sound = tt;
      fewer = tt;
    }

pub returns-clause-wants : goal.returns-clause-wants
returns-clause-wants g c = λ name.
    let cells = g.L.Lender.cells c.args.lender.now in
    let bodies = g.L.Lender.bodies c.args.lender.now in
    subst (λ v. (c.visit_item.result ≡ visit.Wants name) ↔ WaitsFor cells bodies c.args.tree.now v.items name) c.self.view_is (c.visit_item.ensures.wants name)

pub returns-clause-finished : goal.returns-clause-finished
returns-clause-finished g c =
    let tree = c.args.tree.now in
    let none = c.visit_item.ensures.finished in
    let own = ap (λ v. v.items) c.self.view_is in (
      λ e. nothing_next (g.L.Lender.cells c.args.lender.now) (g.L.Lender.bodies c.args.lender.now) tree c.args.self.now.items (ap length (sym own ∙ none.0 e)),
      λ e. none.1 (own ∙ none_next tree c.args.self.now.items c.if-tree-eq0.false e),
    )

pub returns-clause-tree : goal.returns-clause-tree
returns-clause-tree g c = λ files bodies of_tree shows on.
    let params = c.args.params.now in
    let tree = c.args.tree.now in
    let file = files tree.cells in
    let inside = c.self.inside in
    let new = c.visit_item.new in
    let result = c.visit_item.result in
    let own = c.visit_item.ensures in
    let box = tree_in_box tree files params bodies of_tree in
    let before = subst (IsWalkOn params bodies tree file) (sym c.self.view_is) on in
    subst (λ v. VisitsTree params bodies tree file v (walk_of new.tally new.items.items) result) c.self.view_is
    (visits_item params bodies tree file box inside.tally new.tally inside.items.items new.items.items result c.self.invariant.0 before
    (λ unfinished. own.tree unfinished files bodies of_tree shows before.items) own.same
    (λ e. let done = own.done e in (done.0 ∙ sym (own.finished.0 e), done.1)))
