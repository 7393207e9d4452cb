use Rattle.std.proofs.Common.{arith, subst, inl, inr}
use Rattle.nb_record.proofs.Callers.{cell_within}
use Rattle.nb_walk.specs.Angle.{level_of}
use Rattle.nb_walk.specs.Items.{chain_page}
use Rattle.nb_record.specs.Looking.{IsLook}
use Rattle.nb_walk.proofs.Looks.{has_cell, has_next}
use Rattle.nb_walk.proofs.Seeing.{Seen, shown_seen}
use Rattle.nb_walk.proofs.sight.look_at.Goals as goal

pub returns-then-first-count-clause-tree : goal.returns-then-first-count-clause-tree
returns-then-first-count-clause-tree g c = λ files params bodies of_tree shows item.
    let tree = c.args.tree.now in
    let key = c.args.key in
    let cell = c.in-Found.cell in
    let seen = subst (Seen params bodies tree (files tree.cells) key c.args.page) c.in-Found.is
    (shown_seen params bodies tree files (g.L.Lender.cells c.args.lender.now) (g.L.Lender.bodies c.args.lender.now) key c.args.page c.page_at-at.result c.look.result of_tree shows item c.page_at-at.ensures c.look.ensures.look) in
    let within = cell_within params bodies (level_of key) cell seen.1 in
    let count = of_tree.count in
    absurd (omega arith)

pub returns-then-next-tree-clause-tree : goal.returns-then-next-tree-clause-tree
returns-then-next-tree-clause-tree g c = λ files params bodies of_tree shows item.
    let tree = c.args.tree.now in
    let key = c.args.key in
    let seen = subst (Seen params bodies tree (files tree.cells) key c.args.page) c.in-Next.is
    (shown_seen params bodies tree files (g.L.Lender.cells c.args.lender.now) (g.L.Lender.bodies c.args.lender.now) key c.args.page c.page_at-at.result c.look.result of_tree shows item c.page_at-at.ensures c.look.ensures.look) in
    let within = seen.0 in
    absurd (omega arith)

pub returns-else-first-count-clause-tree : goal.returns-else-first-count-clause-tree
returns-else-first-count-clause-tree g c = λ files params bodies of_tree shows item.
    let tree = c.args.tree.now in
    subst (Seen params bodies tree (files tree.cells) c.args.key c.args.page) c.in-Found.is
    (shown_seen params bodies tree files (g.L.Lender.cells c.args.lender.now) (g.L.Lender.bodies c.args.lender.now) c.args.key c.args.page c.page_at-at.result c.look.result of_tree shows item c.page_at-at.ensures c.look.ensures.look)

pub returns-else-next-tree-clause-tree : goal.returns-else-next-tree-clause-tree
returns-else-next-tree-clause-tree g c = λ files params bodies of_tree shows item.
    let tree = c.args.tree.now in
    let seen = subst (Seen params bodies tree (files tree.cells) c.args.key c.args.page) c.in-Next.is
    (shown_seen params bodies tree files (g.L.Lender.cells c.args.lender.now) (g.L.Lender.bodies c.args.lender.now) c.args.key c.args.page c.page_at-at.result c.look.result of_tree shows item c.page_at-at.ensures c.look.ensures.look) in
    (seen.1, seen.2)

pub returns-in-Gone-clause-tree : goal.returns-in-Gone-clause-tree
returns-in-Gone-clause-tree g c = λ files params bodies of_tree shows item.
    let tree = c.args.tree.now in
    let seen =
    (shown_seen params bodies tree files (g.L.Lender.cells c.args.lender.now) (g.L.Lender.bodies c.args.lender.now) c.args.key c.args.page c.page_at-at.result c.look.result of_tree shows item c.page_at-at.ensures c.look.ensures.look) in
    elim c.in-Gone.is [ inl gone ↦ absurd (subst (Seen params bodies tree (files tree.cells) c.args.key c.args.page) gone seen) | inr bad ↦ absurd (subst (Seen params bodies tree (files tree.cells) c.args.key c.args.page) bad.1 seen) ]

pub returns-else-first-count-clause-page : goal.returns-else-first-count-clause-page
returns-else-first-count-clause-page g c =
    let cells = g.L.Lender.cells c.args.lender.now in
    let key = c.args.key in
    let at = chain_page c.args.tree.now.bits key c.args.page in
    has_cell key at (cells at) c.look.result c.in-Found.cell (subst (λ p. IsLook key p (cells p) c.look.result) c.page_at-at.ensures c.look.ensures.look) c.in-Found.is

pub returns-else-next-tree-clause-page : goal.returns-else-next-tree-clause-page
returns-else-next-tree-clause-page g c =
    let cells = g.L.Lender.cells c.args.lender.now in
    let key = c.args.key in
    let at = chain_page c.args.tree.now.bits key c.args.page in
    has_next key at (cells at) c.look.result c.in-Next.next (subst (λ p. IsLook key p (cells p) c.look.result) c.page_at-at.ensures c.look.ensures.look) c.in-Next.is
