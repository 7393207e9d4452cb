use Rattle.std.proofs.Common.{refl}
use Rattle.nb_walk.proofs.Visits.{visited_more, visited_sound, visited_takes, visited_looked, visited_stopped, stopped}
use Rattle.nb_walk.proofs.alone.run_own.Goals as goal

pub loop-name-preserved : goal.loop-name-preserved
loop-name-preserved g c =
    let cells = g.L.Lender.cells c.args.lender.now in
    let bodies = g.L.Lender.bodies c.args.lender.now in
    let own = c.in-Moved.ensures in
    visited_more cells bodies c.args.params.now c.args.tree.now c.args.items.now.items c.loop-name.items.items c.visit_item.new.items.items
    c.args.tally.now c.loop-name.tally c.visit_item.new.tally c.loop-name.invariant own.room
    (record { target = own.target; key = own.key; range = own.range; within = own.within }) (own.look refl) own.lower (own.tree (λ e. cc))

pub returns-in-Wants-clause-took : goal.returns-in-Wants-clause-took
returns-in-Wants-clause-took g c =
    let cells = g.L.Lender.cells c.args.lender.now in
    let bodies = g.L.Lender.bodies c.args.lender.now in
    let params = c.args.params.now in
    let tree = c.args.tree.now in
    let old = c.args.items.now.items in
    let mid = c.loop-name.items.items in
    let new = c.visit_item.new.items.items in
    let a = c.args.tally.now in
    let b = c.loop-name.tally in
    let d = c.visit_item.new.tally in
    let own = c.visit_item.ensures in
    let end = stopped cells bodies params tree mid new b d c.visit_item.result c.requires.some c.in-Wants.is own.wants own.same own.finished own.done in
    visited_takes cells bodies params tree old new a d c.requires.tally (visited_stopped cells bodies params tree old mid new a b d c.loop-name.invariant end)

pub returns-in-Wants-clause-rests : goal.returns-in-Wants-clause-rests
returns-in-Wants-clause-rests g c =
    let cells = g.L.Lender.cells c.args.lender.now in
    let bodies = g.L.Lender.bodies c.args.lender.now in
    let params = c.args.params.now in
    let tree = c.args.tree.now in
    let old = c.args.items.now.items in
    let mid = c.loop-name.items.items in
    let new = c.visit_item.new.items.items in
    let a = c.args.tally.now in
    let b = c.loop-name.tally in
    let d = c.visit_item.new.tally in
    let own = c.visit_item.ensures in
    let end = stopped cells bodies params tree mid new b d c.visit_item.result c.requires.some c.in-Wants.is own.wants own.same own.finished own.done in
    end.rests

pub returns-in-Wants-clause-looked : goal.returns-in-Wants-clause-looked
returns-in-Wants-clause-looked g c =
    let cells = g.L.Lender.cells c.args.lender.now in
    let bodies = g.L.Lender.bodies c.args.lender.now in
    let params = c.args.params.now in
    let tree = c.args.tree.now in
    let old = c.args.items.now.items in
    let mid = c.loop-name.items.items in
    let new = c.visit_item.new.items.items in
    let a = c.args.tally.now in
    let b = c.loop-name.tally in
    let d = c.visit_item.new.tally in
    let own = c.visit_item.ensures in
    let end = stopped cells bodies params tree mid new b d c.visit_item.result c.requires.some c.in-Wants.is own.wants own.same own.finished own.done in
    visited_looked cells bodies params tree old new a d (visited_stopped cells bodies params tree old mid new a b d c.loop-name.invariant end) end.rests

pub returns-in-Damaged-clause-sound : goal.returns-in-Damaged-clause-sound
returns-in-Damaged-clause-sound g c = λ files bodies of_tree shows are mass.
    let cells_shown = g.L.Lender.cells c.args.lender.now in
    let bodies_shown = g.L.Lender.bodies c.args.lender.now in
    absurd (visited_sound cells_shown bodies_shown c.args.params.now c.args.tree.now c.args.items.now.items c.loop-name.items.items c.visit_item.new.items.items
    c.args.tally.now c.loop-name.tally c.visit_item.new.tally c.in-Damaged.name c.requires.tally c.loop-name.invariant (c.in-Damaged.ensures.tree (λ e. cc)) files bodies of_tree shows are mass)
