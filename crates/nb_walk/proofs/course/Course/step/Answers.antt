use Rattle.std.proofs.Common.{◌≡◌, None, [], ◌∷◌, ◌++◌, length, append-nil, sym, ap, ◌∙◌, subst, refl}
use Rattle.std.specs.Prelude.{◌≢◌}
use Rattle.nb_walk.specs.declared.item.Item.TheVariants as item
use Rattle.nb_walk.specs.Left.{AreItemsOf}
use Rattle.nb_walk.specs.Course.{IsMove}
use Rattle.nb_walk.specs.Looks.{next_bodies}
use Rattle.nb_walk.proofs.Looks.{same_look}
use Rattle.nb_walk.proofs.Courses.{nothing_next, next_is, waits, no_wait, looks, none_left, finished_empty, nothing_left, same_along}
use Rattle.nb_walk.proofs.course.Course.step.Goals.{in-Cell, in-Bodies}
use Rattle.nb_walk.proofs.course.Course.step.Goals as goal

pub returns-then-tree-eq0-clause-tree : goal.returns-then-tree-eq0-clause-tree
returns-then-tree-eq0-clause-tree g c = λ files bodies of_tree shows items.
    let w = g.O.Opening.meaning c.args.self.now.opening c.args.params.now c.args.self.now.target in
    let old = c.args.self.now.items in
    finished_empty w c.args.params.now c.args.tree.now files bodies of_tree old old refl items
    (none_left w c.args.params.now c.args.tree.now files bodies of_tree c.if-tree-eq0.true old items)

pub returns-in_default-clause-wants : goal.returns-in_default-clause-wants
returns-in_default-clause-wants g c = λ name.
    let cells = g.L.Lender.cells c.args.lender.now in
    let bodies = g.L.Lender.bodies c.args.lender.now in
    let old = c.args.self.now.items in
    let none : length old ≡ 0 = ap (λ v. length v.items) (sym c.self.view_is) ∙ c.take_last.ensures.empty c.in_default.is in
    (λ e. absurd (cc), λ wait. absurd (no_wait cells bodies c.args.tree.now old (nothing_next cells bodies c.args.tree.now old none) name wait))

pub returns-in_default-clause-finished : goal.returns-in_default-clause-finished
returns-in_default-clause-finished g c =
    let old = c.args.self.now.items in
    let none : length old ≡ 0 = ap (λ v. length v.items) (sym c.self.view_is) ∙ c.take_last.ensures.empty c.in_default.is in
    (λ e. nothing_next (g.L.Lender.cells c.args.lender.now) (g.L.Lender.bodies c.args.lender.now) c.args.tree.now old none, λ e. refl)

pub returns-in_default-clause-tree : goal.returns-in_default-clause-tree
returns-in_default-clause-tree g c = λ files bodies of_tree shows items.
    let w = g.O.Opening.meaning c.args.self.now.opening c.args.params.now c.args.self.now.target in
    let old = c.args.self.now.items in
    let none : length old ≡ 0 = ap (λ v. length v.items) (sym c.self.view_is) ∙ c.take_last.ensures.empty c.in_default.is in
    let was : old ≡ c.take_last.new.items.items ++ [] = ap (λ v. v.items) (sym c.self.view_is) ∙ c.in_default.ensures.items in
    finished_empty w c.args.params.now c.args.tree.now files bodies of_tree old c.take_last.new.items.items (was ∙ append-nil c.take_last.new.items.items) items
    (nothing_left w c.args.params.now c.args.tree.now files bodies of_tree old none)

pub returns-clause-wants : goal.returns-clause-wants
returns-clause-wants g c = λ name.
    let tree = c.args.tree.now in
    let cells = g.L.Lender.cells c.args.lender.now in
    let bodies = g.L.Lender.bodies c.args.lender.now in
    let old = c.args.self.now.items in
    let front = c.take_last.new.items.items in
    let was : old ≡ front ++ c.in-Some.item ∷ [] = ap (λ v. v.items) (sym c.self.view_is) ∙ c.in-Some.ensures.items in
    elim c.match-item.branch [
      | in-Cell w ↦
          let x = item.Cell w.in-Cell.key w.in-Cell.page in
          let there : old ≡ front ++ x ∷ [] = was ∙ ap (λ y. front ++ y ∷ []) w.in-Cell.is in
          let wait = waits cells bodies tree old front x c.if-tree-eq0.false there name in
          let want = w.cell_step.ensures.wants name in
          (λ e. wait.0 (want.0 (sym w.result-is ∙ e)), λ u. w.result-is ∙ want.1 (wait.1 u))
      | in-Bodies w ↦
          let x = item.Bodies w.in-Bodies.from w.in-Bodies.count in
          let there : old ≡ front ++ x ∷ [] = was ∙ ap (λ y. front ++ y ∷ []) w.in-Bodies.is in
          let wait = waits cells bodies tree old front x c.if-tree-eq0.false there name in
          let want = w.bodies_step.ensures.wants name in (
            λ e. let both = want.0 (sym w.result-is ∙ e) in wait.0 (both.0, subst (λ n. bodies n.page ≡ None) both.0 both.1),
            λ u. let both = wait.1 u in w.result-is ∙ want.1 (both.0, subst (λ n. bodies n.page ≡ None) (sym both.0) both.1),
          )
    ]

pub returns-clause-damaged : goal.returns-clause-damaged
returns-clause-damaged g c = λ name blames.
    let tree = c.args.tree.now in
    let cells = g.L.Lender.cells c.args.lender.now in
    let bodies = g.L.Lender.bodies c.args.lender.now in
    let old = c.args.self.now.items in
    let front = c.take_last.new.items.items in
    let was : old ≡ front ++ c.in-Some.item ∷ [] = ap (λ v. v.items) (sym c.self.view_is) ∙ c.in-Some.ensures.items in
    elim c.match-item.branch [
      | in-Cell w ↦
          let x = item.Cell w.in-Cell.key w.in-Cell.page in
          let there : old ≡ front ++ x ∷ [] = was ∙ ap (λ y. front ++ y ∷ []) w.in-Cell.is in
          let why = w.cell_step.ensures.damaged name (sym w.result-is ∙ blames) in
          looks cells bodies tree old front x name c.if-tree-eq0.false there why.0 why.1
      | in-Bodies w ↦
          let x = item.Bodies w.in-Bodies.from w.in-Bodies.count in
          let there : old ≡ front ++ x ∷ [] = was ∙ ap (λ y. front ++ y ∷ []) w.in-Bodies.is in
          let why = w.bodies_step.ensures.damaged name (sym w.result-is ∙ blames) in
          looks cells bodies tree old front x name c.if-tree-eq0.false there why.0 (subst (λ n. bodies n.page ≢ None) why.0 why.1)
    ]

pub returns-clause-finished : goal.returns-clause-finished
returns-clause-finished g c =
    let tree = c.args.tree.now in
    let cells = g.L.Lender.cells c.args.lender.now in
    let bodies = g.L.Lender.bodies c.args.lender.now in
    let old = c.args.self.now.items in
    let front = c.take_last.new.items.items in
    let was : old ≡ front ++ c.in-Some.item ∷ [] = ap (λ v. v.items) (sym c.self.view_is) ∙ c.in-Some.ensures.items in
    let next = next_is cells bodies tree old front c.in-Some.item c.if-tree-eq0.false was in
    elim c.match-item.branch [
      | in-Cell w ↦ (λ e. absurd (w.cell_step.ensures.unfinished (sym w.result-is ∙ e)), λ e. absurd (let both = sym next ∙ e in cc))
      | in-Bodies w ↦ (λ e. absurd (w.bodies_step.ensures.unfinished (sym w.result-is ∙ e)), λ e. absurd (let both = sym next ∙ e in cc))
    ]

pub returns-clause-tree : goal.returns-clause-tree
returns-clause-tree g c = λ files all of_tree shows items.
    let tree = c.args.tree.now in
    let params = c.args.params.now in
    let meaning = g.O.Opening.meaning in
    let now = c.args.self.now in
    let inside = c.self.inside in
    let v = meaning inside.opening params inside.target in
    let u = meaning now.opening params now.target in
    let vu = ap (λ (a : _). meaning a.opening params a.target) c.self.view_is in
    let old = now.items in
    let front = c.take_last.new.items.items in
    let was : old ≡ front ++ c.in-Some.item ∷ [] = ap (λ v. v.items) (sym c.self.view_is) ∙ c.in-Some.ensures.items in
    let end = c.match-item.self-inside.items.items in
    elim c.match-item.branch [
      | in-Cell w ↦
          let x = item.Cell w.in-Cell.key w.in-Cell.page in
          let there : old ≡ front ++ x ∷ [] = was ∙ ap (λ y. front ++ y ∷ []) w.in-Cell.is in
          let along = w.cell_step.ensures.tree files all of_tree shows (subst (AreItemsOf params all tree (files tree.cells)) there items) in
          same_along v u params tree files all (front ++ x ∷ []) old w.cell_step.new.items.items end w.cell_step.result c.match-item.result vu (sym there)
          (sym (ap (λ s. s.items.items) w.self-inside-is)) (sym w.result-is) along
      | in-Bodies w ↦
          let x = item.Bodies w.in-Bodies.from w.in-Bodies.count in
          let there : old ≡ front ++ x ∷ [] = was ∙ ap (λ y. front ++ y ∷ []) w.in-Bodies.is in
          let along = w.bodies_step.ensures.tree u params files all of_tree shows (subst (AreItemsOf params all tree (files tree.cells)) there items) in
          same_along u u params tree files all (front ++ x ∷ []) old w.bodies_step.new.items.items end w.bodies_step.result c.match-item.result refl (sym there)
          (sym (ap (λ s. s.items.items) w.self-inside-is)) (sym w.result-is) along
    ]

pub returns-clause-look : goal.returns-clause-look
returns-clause-look g c = λ moved.
    let tree = c.args.tree.now in
    let cells = g.L.Lender.cells c.args.lender.now in
    let bodies = g.L.Lender.bodies c.args.lender.now in
    let old = c.args.self.now.items in
    let front = c.take_last.new.items.items in
    let was : old ≡ front ++ c.in-Some.item ∷ [] = ap (λ v. v.items) (sym c.self.view_is) ∙ c.in-Some.ensures.items in
    let end = c.match-item.self-inside.items.items in
    elim c.match-item.branch [
      | in-Cell w ↦
          let x = item.Cell w.in-Cell.key w.in-Cell.page in
          same_look next_bodies cells bodies tree (front ++ x ∷ []) old w.cell_step.new.items.items end (was ∙ ap (λ y. front ++ y ∷ []) w.in-Cell.is)
          (ap (λ s. s.items.items) w.self-inside-is) (w.cell_step.ensures.look (subst IsMove w.result-is moved))
      | in-Bodies w ↦
          let x = item.Bodies w.in-Bodies.from w.in-Bodies.count in
          same_look next_bodies cells bodies tree (front ++ x ∷ []) old w.bodies_step.new.items.items end (was ∙ ap (λ y. front ++ y ∷ []) w.in-Bodies.is)
          (ap (λ s. s.items.items) w.self-inside-is) (w.bodies_step.ensures.look (subst IsMove w.result-is moved))
    ]
