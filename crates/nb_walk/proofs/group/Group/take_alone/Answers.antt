use Rattle.std.proofs.Common.{◌<◌, [], ◌∷◌, is_ok, length, ap, ◌∙◌, refl, arith, vec_len}
use Rattle.std.specs.Prelude.{vec_capacity}
use Rattle.std.proofs.lemmas.List.{length-append}
use Rattle.nb_walk.specs.declared.shared.SharedItem.{SharedItem}
use Rattle.nb_walk.specs.Group.{group_walks, walks_with}
use Rattle.nb_walk.specs.Room.{IsItemInRange}
use Rattle.nb_walk.specs.Shared.{IsShared}
use Rattle.nb_walk.specs.Shown.{shown_for}
use Rattle.nb_walk.proofs.HandingOut.{group_with, handed_run, handed_kept, handed_takes, handed_length, walks_many, unseen_of, on_ok_then}
use Rattle.nb_walk.proofs.Outcomes.{pushed_on}
use Rattle.nb_walk.proofs.Rounds.{each_on}
use Rattle.nb_walk.proofs.SharedLooks.{all_one, group_waits}
use Rattle.nb_walk.proofs.group.Group.take_alone.Goals as goal

pub returns-then-not-is_shown-clause-group : goal.returns-then-not-is_shown-clause-group
returns-then-not-is_shown-clause-group g c =
    let cells = g.L.Lender.cells c.args.lender.now in
    let bodies = g.L.Lender.bodies c.args.lender.now in
    let params = c.args.params.now in
    let tree = c.args.tree.now in
    let old = c.args.self.now in
    let e = c.args.entry in
    let group = c.requires.group in
    let free : vec_len old.waits < vec_capacity old.waits = omega (arith, c.requires.room, group.waits, old.waits.ok.0, length-append old.items.items old.waits.items) in
    let pushed = pushed_on old.waits c.push.new.self e (is_ok c.push.result) c.push.ensures.items c.push.ensures.succeeds free in
    group_with old _ (e ∷ []) group refl refl refl refl group.rooms pushed (all_one (λ (s : SharedItem). IsItemInRange s.item) e c.requires.small) (all_one (IsShared (length old.tallies.items)) e c.requires.shared)
    c.push.ensures.capacity (omega (arith, c.requires.room))

pub returns-then-not-is_shown-clause-took : goal.returns-then-not-is_shown-clause-took
returns-then-not-is_shown-clause-took g c =
    let cells = g.L.Lender.cells c.args.lender.now in
    let bodies = g.L.Lender.bodies c.args.lender.now in
    let params = c.args.params.now in
    let tree = c.args.tree.now in
    let old = c.args.self.now in
    let e = c.args.entry in
    let group = c.requires.group in
    let free : vec_len old.waits < vec_capacity old.waits = omega (arith, c.requires.room, group.waits, old.waits.ok.0, length-append old.items.items old.waits.items) in
    let pushed = pushed_on old.waits c.push.new.self e (is_ok c.push.result) c.push.ensures.items c.push.ensures.succeeds free in
    let unseen = unseen_of (shown_for cells bodies tree e.item) c.is_shown.result c.if-not-is_shown.true c.is_shown.ensures.1 in
    group_waits cells bodies params tree old e group.owns _ c.requires.tallies refl refl refl pushed unseen

pub returns-then-not-is_shown-clause-kept : goal.returns-then-not-is_shown-clause-kept
returns-then-not-is_shown-clause-kept g c = λ i d below. ((returns-then-not-is_shown-clause-took g c).ran i d below).kept

pub returns-clause-kept : goal.returns-clause-kept
returns-clause-kept g c =
    let cells = g.L.Lender.cells c.args.lender.now in
    let bodies = g.L.Lender.bodies c.args.lender.now in
    let params = c.args.params.now in
    let tree = c.args.tree.now in
    let old = c.args.self.now in
    let e = c.args.entry in
    let group = c.requires.group in
    let mid = c.hand_out.new.self in
    let hands = c.hand_out.ensures.hands in
    let count = c.run_alone.ensures.rooms.count in
    handed_kept cells bodies params tree old e mid group c.requires.tallies c.hand_out.ensures.group hands c.run_alone.new.self c.run_alone.ensures.items c.run_alone.ensures.waits count c.run_alone.ensures.kept

pub returns-clause-took : goal.returns-clause-took
returns-clause-took g c =
    let cells = g.L.Lender.cells c.args.lender.now in
    let bodies = g.L.Lender.bodies c.args.lender.now in
    let params = c.args.params.now in
    let tree = c.args.tree.now in
    let old = c.args.self.now in
    let e = c.args.entry in
    let group = c.requires.group in
    let mid = c.hand_out.new.self in
    let hands = c.hand_out.ensures.hands in
    let count = c.run_alone.ensures.rooms.count in
    let shown = c.is_shown.ensures.0 c.if-not-is_shown.false in
    on_ok_then c.run_alone.result
    (λ runs. handed_takes cells bodies params tree old e mid group c.requires.tallies c.hand_out.ensures.group hands c.run_alone.new.self c.run_alone.ensures.items c.run_alone.ensures.waits count runs shown)
    c.run_alone.ensures.ran

pub returns-clause-sound : goal.returns-clause-sound
returns-clause-sound g c = λ files all of_tree shows on.
    let cells = g.L.Lender.cells c.args.lender.now in
    let bodies = g.L.Lender.bodies c.args.lender.now in
    let params = c.args.params.now in
    let tree = c.args.tree.now in
    let old = c.args.self.now in
    let e = c.args.entry in
    let group = c.requires.group in
    let mid = c.hand_out.new.self in
    let hands = c.hand_out.ensures.hands in
    let count = c.run_alone.ensures.rooms.count in
    let first = handed_run cells bodies params tree old e mid group c.requires.tallies c.hand_out.ensures.group hands in
    let many = ap (λ v. length v.items) hands.tallies in
    let still = each_on cells bodies params tree files all of_tree shows (length old.tallies.items) (walks_with old e) (group_walks mid) (handed_length old e group) (walks_many mid c.hand_out.ensures.group ∙ many) first on in
    c.run_alone.ensures.sound files all of_tree shows still
