use Rattle.std.proofs.Common.{length, subst, arith}
use Rattle.std.specs.Prelude.{IsOk}
use Rattle.std.proofs.lemmas.Bool.{false≢true}
use Rattle.std.proofs.lemmas.Result.{on_ok_weaker}
use Rattle.nb_walk.specs.Group.{group_walks}
use Rattle.nb_walk.proofs.Rounds.{group_length, each_run, each_kept, each_on, turned_run, rests_alone, run_alone, goes_on, on_ok_both, finished_run, finished_rests}
use Rattle.nb_walk.proofs.group.Group.run.Goals as goal

pub returns-then-tree-eq0-clause-kept : goal.returns-then-tree-eq0-clause-kept
returns-then-tree-eq0-clause-kept g c =
    let ran = finished_run (g.L.Lender.cells c.args.lender.now) (g.L.Lender.bodies c.args.lender.now) c.args.params.now c.args.tree.now c.args.self.now c.finish.new.self c.requires.group c.finish.ensures.group c.requires.tallies c.finish.ensures.tallies c.finish.ensures.finished c.if-tree-eq0.true in
    λ i d within. (ran i d within).kept

pub returns-then-tree-eq0-clause-ran : goal.returns-then-tree-eq0-clause-ran
returns-then-tree-eq0-clause-ran g c =
    finished_run (g.L.Lender.cells c.args.lender.now) (g.L.Lender.bodies c.args.lender.now) c.args.params.now c.args.tree.now c.args.self.now c.finish.new.self c.requires.group c.finish.ensures.group c.requires.tallies c.finish.ensures.tallies c.finish.ensures.finished c.if-tree-eq0.true

pub returns-then-tree-eq0-clause-rests : goal.returns-then-tree-eq0-clause-rests
returns-then-tree-eq0-clause-rests g c =
    finished_rests (g.L.Lender.cells c.args.lender.now) (g.L.Lender.bodies c.args.lender.now) c.args.params.now c.args.tree.now c.args.self.now c.finish.new.self c.requires.group c.finish.ensures.group c.requires.tallies c.finish.ensures.tallies c.finish.ensures.finished

pub returns-in_err-run_alone-clause-kept : goal.returns-in_err-run_alone-clause-kept
returns-in_err-run_alone-clause-kept g c =
    let old = c.args.self.now in
    let turned = c.turn.new.self in
    let cells = g.L.Lender.cells c.args.lender.now in
    let bodies = g.L.Lender.bodies c.args.lender.now in
    let params = c.args.params.now in
    let tree = c.args.tree.now in
    let count = c.turn.ensures.rooms.count in
    let first = turned_run cells bodies params tree old turned c.requires.group c.turn.ensures.tallies c.turn.ensures.owns c.turn.ensures.none c.turn.ensures.same c.requires.tallies in
    each_kept cells bodies params tree (length old.tallies.items) (group_walks old) (group_walks turned) (group_walks c.run_alone.new.self) first (λ i d within. c.run_alone.ensures.kept i d (omega arith))

pub returns-in_err-run_alone-clause-sound : goal.returns-in_err-run_alone-clause-sound
returns-in_err-run_alone-clause-sound g c = λ files all of_tree shows on.
    let old = c.args.self.now in
    let turned = c.turn.new.self in
    let cells = g.L.Lender.cells c.args.lender.now in
    let bodies = g.L.Lender.bodies c.args.lender.now in
    let params = c.args.params.now in
    let tree = c.args.tree.now in
    let count = c.turn.ensures.rooms.count in
    let first = turned_run cells bodies params tree old turned c.requires.group c.turn.ensures.tallies c.turn.ensures.owns c.turn.ensures.none c.turn.ensures.same c.requires.tallies in
    let was = group_length old c.requires.group in
    let long = group_length turned c.turn.ensures.group in
    let still = each_on cells bodies params tree files all of_tree shows (length old.tallies.items) (group_walks old) (group_walks turned) (omega arith) (omega arith) first on in
    absurd (false≢true (subst (λ r. IsOk r) c.in_err-run_alone.was (c.run_alone.ensures.sound files all of_tree shows still)))

pub pass-requires-clause-rests : goal.pass-requires-clause-rests
pass-requires-clause-rests g c =
    let old = c.args.self.now in
    let turned = c.turn.new.self in
    rests_alone (g.L.Lender.cells c.args.lender.now) (g.L.Lender.bodies c.args.lender.now) c.args.params.now c.args.tree.now old turned c.requires.group c.turn.ensures.tallies c.turn.ensures.owns c.turn.ensures.none c.turn.ensures.same
    c.run_alone.new.self c.run_alone.ensures.items c.run_alone.ensures.waits c.run_alone.ensures.rooms.count c.in_ok-run_alone.ensures.ran

pub returns-clause-kept : goal.returns-clause-kept
returns-clause-kept g c =
    let old = c.args.self.now in
    let turned = c.turn.new.self in
    let alone = c.run_alone.new.self in
    let cells = g.L.Lender.cells c.args.lender.now in
    let bodies = g.L.Lender.bodies c.args.lender.now in
    let params = c.args.params.now in
    let tree = c.args.tree.now in
    let count = c.turn.ensures.rooms.count in
    let counted = c.run_alone.ensures.rooms.count in
    let first = run_alone cells bodies params tree old turned c.requires.group c.turn.ensures.tallies c.turn.ensures.owns c.turn.ensures.none c.turn.ensures.same
    alone c.run_alone.ensures.items c.run_alone.ensures.waits counted c.in_ok-run_alone.ensures.ran c.requires.tallies in
    each_kept cells bodies params tree (length old.tallies.items) (group_walks old) (group_walks alone) (group_walks c.pass.new.self) first (λ i d within. c.pass.ensures.kept i d (omega arith))

pub returns-clause-ran : goal.returns-clause-ran
returns-clause-ran g c =
    let old = c.args.self.now in
    let turned = c.turn.new.self in
    let alone = c.run_alone.new.self in
    let cells = g.L.Lender.cells c.args.lender.now in
    let bodies = g.L.Lender.bodies c.args.lender.now in
    let params = c.args.params.now in
    let tree = c.args.tree.now in
    let count = c.turn.ensures.rooms.count in
    let counted = c.run_alone.ensures.rooms.count in
    let first = run_alone cells bodies params tree old turned c.requires.group c.turn.ensures.tallies c.turn.ensures.owns c.turn.ensures.none c.turn.ensures.same
    alone c.run_alone.ensures.items c.run_alone.ensures.waits counted c.in_ok-run_alone.ensures.ran c.requires.tallies in
    on_ok_weaker c.pass.result (λ ran. each_run cells bodies params tree (length old.tallies.items) (group_walks old) (group_walks alone) (group_walks c.pass.new.self) first (λ i d within. ran i d (omega arith))) c.pass.ensures.ran

pub returns-clause-goes_on : goal.returns-clause-goes_on
returns-clause-goes_on g c =
    let old = c.args.self.now in
    let turned = c.turn.new.self in
    let alone = c.run_alone.new.self in
    let cells = g.L.Lender.cells c.args.lender.now in
    let bodies = g.L.Lender.bodies c.args.lender.now in
    let params = c.args.params.now in
    let tree = c.args.tree.now in
    let counted = c.run_alone.ensures.rooms.count in
    on_ok_both c.pass.result
    (λ ran shared some. goes_on cells bodies params tree old turned c.requires.group c.turn.ensures.tallies c.turn.ensures.owns c.turn.ensures.none c.turn.ensures.same
    alone c.run_alone.ensures.items c.run_alone.ensures.waits counted c.in_ok-run_alone.ensures.ran c.requires.tallies c.pass.new.self ran shared)
    c.pass.ensures.ran c.pass.ensures.goes_on

pub returns-clause-sound : goal.returns-clause-sound
returns-clause-sound g c = λ files all of_tree shows on.
    let old = c.args.self.now in
    let turned = c.turn.new.self in
    let alone = c.run_alone.new.self in
    let cells = g.L.Lender.cells c.args.lender.now in
    let bodies = g.L.Lender.bodies c.args.lender.now in
    let params = c.args.params.now in
    let tree = c.args.tree.now in
    let count = c.turn.ensures.rooms.count in
    let counted = c.run_alone.ensures.rooms.count in
    let first = run_alone cells bodies params tree old turned c.requires.group c.turn.ensures.tallies c.turn.ensures.owns c.turn.ensures.none c.turn.ensures.same
    alone c.run_alone.ensures.items c.run_alone.ensures.waits counted c.in_ok-run_alone.ensures.ran c.requires.tallies in
    let was = group_length old c.requires.group in
    let long = group_length alone c.run_alone.ensures.group in
    let still = each_on cells bodies params tree files all of_tree shows (length old.tallies.items) (group_walks old) (group_walks alone) (omega arith) (omega arith) first on in
    c.pass.ensures.sound files all of_tree shows still
