use Rattle.std.proofs.Common.{length, sym, refl, subst, ◌∙◌}
use Rattle.std.specs.Prelude.{IsOk}
use Rattle.std.proofs.lemmas.Bool.{false≢true}
use Rattle.std.proofs.lemmas.List.Elements.{All-contains}
use Rattle.nb_walk.specs.declared.group.Group.{Group}
use Rattle.nb_walk.specs.Group.{all_shared}
use Rattle.nb_walk.specs.Room.{IsItemInRange}
use Rattle.nb_walk.specs.Shared.{IsShared}
use Rattle.nb_walk.proofs.Passes.{passed_none, passed_all, passed_more, passed_same, bound_falls, left_group, left_room, is_among, kept_on, still_on, rooms_then}
use Rattle.nb_walk.proofs.group.Group.pass.Goals as goal

pub loop-entry-init : goal.loop-entry-init
loop-entry-init g c = passed_none (g.L.Lender.cells c.args.lender.now) (g.L.Lender.bodies c.args.lender.now) c.args.params.now c.args.tree.now c.args.self.now c.requires.group c.requires.tallies c.requires.rests

pub returns-in_default-clause-group : goal.returns-in_default-clause-group
returns-in_default-clause-group g c =
    let cells = g.L.Lender.cells c.args.lender.now in
    let bodies = g.L.Lender.bodies c.args.lender.now in
    let params = c.args.params.now in
    let tree = c.args.tree.now in
    let now = c.loop-entry.self in
    let rest : Group = record { tallies = now.tallies; owns = now.owns; items = c.take_one.new.entries; waits = now.waits; room = now.room } in
    let none = c.in_default.ensures.none refl in
    let ended = passed_same cells bodies params tree c.args.self.now now rest (none.0 ∙ sym none.1) c.take_one.ensures.capacity c.loop-entry.invariant in
    ended.group

pub returns-in_default-clause-tallies : goal.returns-in_default-clause-tallies
returns-in_default-clause-tallies g c = c.loop-entry.invariant.tallies

pub returns-in_default-clause-rooms : goal.returns-in_default-clause-rooms
returns-in_default-clause-rooms g c =
    let cells = g.L.Lender.cells c.args.lender.now in
    let bodies = g.L.Lender.bodies c.args.lender.now in
    let params = c.args.params.now in
    let tree = c.args.tree.now in
    let now = c.loop-entry.self in
    let rest : Group = record { tallies = now.tallies; owns = now.owns; items = c.take_one.new.entries; waits = now.waits; room = now.room } in
    let none = c.in_default.ensures.none refl in
    let ended = passed_same cells bodies params tree c.args.self.now now rest (none.0 ∙ sym none.1) c.take_one.ensures.capacity c.loop-entry.invariant in
    ended.rooms

pub returns-in_default-clause-kept : goal.returns-in_default-clause-kept
returns-in_default-clause-kept g c =
    let cells = g.L.Lender.cells c.args.lender.now in
    let bodies = g.L.Lender.bodies c.args.lender.now in
    let params = c.args.params.now in
    let tree = c.args.tree.now in
    let now = c.loop-entry.self in
    let rest : Group = record { tallies = now.tallies; owns = now.owns; items = c.take_one.new.entries; waits = now.waits; room = now.room } in
    let none = c.in_default.ensures.none refl in
    let ended = passed_same cells bodies params tree c.args.self.now now rest (none.0 ∙ sym none.1) c.take_one.ensures.capacity c.loop-entry.invariant in
    (λ i d within. (ended.ran i d within).kept)

pub returns-in_default-clause-ran : goal.returns-in_default-clause-ran
returns-in_default-clause-ran g c =
    let cells = g.L.Lender.cells c.args.lender.now in
    let bodies = g.L.Lender.bodies c.args.lender.now in
    let params = c.args.params.now in
    let tree = c.args.tree.now in
    let now = c.loop-entry.self in
    let rest : Group = record { tallies = now.tallies; owns = now.owns; items = c.take_one.new.entries; waits = now.waits; room = now.room } in
    let none = c.in_default.ensures.none refl in
    let ended = passed_same cells bodies params tree c.args.self.now now rest (none.0 ∙ sym none.1) c.take_one.ensures.capacity c.loop-entry.invariant in
    ended.ran

pub returns-in_default-clause-goes_on : goal.returns-in_default-clause-goes_on
returns-in_default-clause-goes_on g c =
    let cells = g.L.Lender.cells c.args.lender.now in
    let bodies = g.L.Lender.bodies c.args.lender.now in
    let params = c.args.params.now in
    let tree = c.args.tree.now in
    let now = c.loop-entry.self in
    let rest : Group = record { tallies = now.tallies; owns = now.owns; items = c.take_one.new.entries; waits = now.waits; room = now.room } in
    let none = c.in_default.ensures.none refl in
    let ended = passed_same cells bodies params tree c.args.self.now now rest (none.0 ∙ sym none.1) c.take_one.ensures.capacity c.loop-entry.invariant in
    passed_all cells bodies params tree c.args.self.now rest ended none.1

pub returns-in_default-clause-rests : goal.returns-in_default-clause-rests
returns-in_default-clause-rests g c = c.loop-entry.invariant.rests

pub take-requires-clause-group : goal.take-requires-clause-group
take-requires-clause-group g c =
    let now = c.loop-entry.self in
    let rest : Group = record { tallies = now.tallies; owns = now.owns; items = c.take_one.new.entries; waits = now.waits; room = now.room } in
    left_group now rest c.in-Some.entry c.in-Some.ensures.some c.loop-entry.invariant.group c.take_one.ensures.capacity

pub take-requires-clause-tallies : goal.take-requires-clause-tallies
take-requires-clause-tallies g c = c.loop-entry.invariant.tallies

pub take-requires-clause-shared : goal.take-requires-clause-shared
take-requires-clause-shared g c =
    let now = c.loop-entry.self in
    let rest : Group = record { tallies = now.tallies; owns = now.owns; items = c.take_one.new.entries; waits = now.waits; room = now.room } in
    All-contains (IsShared (length now.tallies.items)) (all_shared now) c.in-Some.entry c.loop-entry.invariant.group.shared (is_among now rest c.in-Some.entry c.in-Some.ensures.some)

pub take-requires-clause-small : goal.take-requires-clause-small
take-requires-clause-small g c =
    let now = c.loop-entry.self in
    let rest : Group = record { tallies = now.tallies; owns = now.owns; items = c.take_one.new.entries; waits = now.waits; room = now.room } in
    All-contains (λ x. IsItemInRange x.item) (all_shared now) c.in-Some.entry c.loop-entry.invariant.group.small (is_among now rest c.in-Some.entry c.in-Some.ensures.some)

pub take-requires-clause-room : goal.take-requires-clause-room
take-requires-clause-room g c =
    let now = c.loop-entry.self in
    let rest : Group = record { tallies = now.tallies; owns = now.owns; items = c.take_one.new.entries; waits = now.waits; room = now.room } in
    left_room now rest c.in-Some.entry c.in-Some.ensures.some c.loop-entry.invariant.group

pub loop-entry-smaller : goal.loop-entry-smaller
loop-entry-smaller g c =
    let now = c.loop-entry.self in
    let rest : Group = record { tallies = now.tallies; owns = now.owns; items = c.take_one.new.entries; waits = now.waits; room = now.room } in
    bound_falls (g.L.Lender.cells c.args.lender.now) (g.L.Lender.bodies c.args.lender.now) c.args.params.now c.args.tree.now c.args.self.now now rest c.take.new.self c.in-Some.entry c.in-Some.ensures.some c.loop-entry.invariant c.in_ok-take.ensures.took

pub loop-entry-preserved : goal.loop-entry-preserved
loop-entry-preserved g c =
    let now = c.loop-entry.self in
    let rest : Group = record { tallies = now.tallies; owns = now.owns; items = c.take_one.new.entries; waits = now.waits; room = now.room } in
    passed_more (g.L.Lender.cells c.args.lender.now) (g.L.Lender.bodies c.args.lender.now) c.args.params.now c.args.tree.now c.args.self.now now rest c.take.new.self c.in-Some.entry c.in-Some.ensures.some c.loop-entry.invariant c.in_ok-take.ensures.took c.take.ensures.group c.take.ensures.tallies c.take.ensures.rooms

pub returns-in_err-take-clause-rooms : goal.returns-in_err-take-clause-rooms
returns-in_err-take-clause-rooms g c =
    let now = c.loop-entry.self in
    let rest : Group = record { tallies = now.tallies; owns = now.owns; items = c.take_one.new.entries; waits = now.waits; room = now.room } in
    rooms_then c.args.self.now now c.take.new.self c.loop-entry.invariant.rooms (let rooms = c.take.ensures.rooms in record { count = rooms.count; room = rooms.room; tallies = rooms.tallies; owns = rooms.owns })

pub returns-in_err-take-clause-kept : goal.returns-in_err-take-clause-kept
returns-in_err-take-clause-kept g c =
    let now = c.loop-entry.self in
    let rest : Group = record { tallies = now.tallies; owns = now.owns; items = c.take_one.new.entries; waits = now.waits; room = now.room } in
    kept_on (g.L.Lender.cells c.args.lender.now) (g.L.Lender.bodies c.args.lender.now) c.args.params.now c.args.tree.now c.args.self.now now rest c.take.new.self c.in-Some.entry c.in-Some.ensures.some c.loop-entry.invariant c.take.ensures.kept

pub returns-in_err-take-clause-sound : goal.returns-in_err-take-clause-sound
returns-in_err-take-clause-sound g c = λ files bodies of_tree shows on.
    let now = c.loop-entry.self in
    let rest : Group = record { tallies = now.tallies; owns = now.owns; items = c.take_one.new.entries; waits = now.waits; room = now.room } in
    let fine = c.take.ensures.sound files bodies of_tree shows (still_on (g.L.Lender.cells c.args.lender.now) (g.L.Lender.bodies c.args.lender.now) c.args.params.now c.args.tree.now c.args.self.now now rest c.take.new.self c.in-Some.entry c.in-Some.ensures.some c.loop-entry.invariant files bodies of_tree shows c.requires.group on) in
    absurd (false≢true (subst (λ r. IsOk r) c.in_err-take.was fine))
