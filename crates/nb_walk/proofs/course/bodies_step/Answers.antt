use Rattle.std.proofs.Common.{◌+◌, ◌-◌, ◌/◌, Some, Ok, [], ◌∷◌, append-nil, arith, sym, ap, ◌∙◌, subst, refl}
use Rattle.nb_record.specs.declared.sizes.TheConstants.{BODIES_PER_PAGE}
use Rattle.nb_walk.specs.declared.item.Item.TheVariants as item
use Rattle.nb_walk.specs.Room.{HasRoom}
use Rattle.nb_walk.specs.Looks.{next_bodies}
use Rattle.nb_walk.proofs.Looks.{next_some, next_none, look_bodies}
use Rattle.nb_walk.proofs.Rooms.{room_front, room_depth, room_small, room_push}
use Rattle.nb_walk.proofs.Stepping.{lent, page_has, page_checks, bodies_of_item, step_body, step_last}
use Rattle.nb_walk.proofs.course.bodies_step.Goals as goal

pub push-requires : goal.push-requires
push-requires g c =
    let depth = room_depth c.args.items.now.items (item.Bodies c.args.from c.args.count) c.requires.room in
    (omega arith, omega arith)

pub overflow_add-from : goal.overflow_add-from
overflow_add-from g c =
    let small = room_small c.args.items.now.items (item.Bodies c.args.from c.args.count) c.requires.room in
    omega arith

pub push-requires-then-count-gt1 : goal.push-requires-then-count-gt1
push-requires-then-count-gt1 g c =
    let depth = room_depth c.args.items.now.items (item.Bodies c.args.from c.args.count) c.requires.room in
    (omega arith, omega arith)

pub returns-in-Some-Err-clause-room : goal.returns-in-Some-Err-clause-room
returns-in-Some-Err-clause-room g c = room_front c.args.items.now.items (item.Bodies c.args.from c.args.count) c.requires.room

pub returns-in-Some-Err-clause-tree : goal.returns-in-Some-Err-clause-tree
returns-in-Some-Err-clause-tree g c = λ accepts params files bodies of_tree shows items.
    let front = c.args.items.now.items in
    let own = bodies_of_item accepts params c.args.tree.now files bodies of_tree front c.args.from c.args.count items in
    absurd (page_checks params c.args.tree.now files bodies (g.L.Lender.cells c.args.lender.now) (g.L.Lender.bodies c.args.lender.now) c.args.from c.body_page.result c.in-Some-Err.field-0-0
    of_tree shows (omega arith) c.body_page.ensures (c.in-Some-Err.is ∙ ap (λ r. Some r) c.in-Some-Err.field-0-is))

pub returns-in-None-body_at-clause-room : goal.returns-in-None-body_at-clause-room
returns-in-None-body_at-clause-room g c = room_front c.args.items.now.items (item.Bodies c.args.from c.args.count) c.requires.room

pub returns-in-None-body_at-clause-tree : goal.returns-in-None-body_at-clause-tree
returns-in-None-body_at-clause-tree g c = λ accepts params files bodies of_tree shows items.
    let front = c.args.items.now.items in
    let own = bodies_of_item accepts params c.args.tree.now files bodies of_tree front c.args.from c.args.count items in
    let has = page_has params c.args.tree.now files bodies (g.L.Lender.cells c.args.lender.now) (g.L.Lender.bodies c.args.lender.now) c.args.from c.body_page.result c.in-Some-Ok.page
    of_tree shows (omega arith) c.body_page.ensures (c.in-Some-Ok.is ∙ ap (λ r. Some r) c.in-Some-Ok.field-0-is) in
    absurd (c.in-None-body_at.ensures has.within has.form)

pub returns-then-count-gt1-clause-room : goal.returns-then-count-gt1-clause-room
returns-then-count-gt1-clause-room g c =
    let front = c.args.items.now.items in
    let x = item.Bodies c.args.from c.args.count in
    let small = room_small front x c.requires.room in
    subst HasRoom (sym c.push-then-count-gt1.ensures.items)
    (room_push front (item.Bodies (c.args.from + 1) (c.args.count - 1)) (room_front front x c.requires.room) (omega arith, omega arith) (room_depth front x c.requires.room))

pub returns-then-count-gt1-clause-tree : goal.returns-then-count-gt1-clause-tree
returns-then-count-gt1-clause-tree g c = λ accepts params files bodies of_tree shows items.
    let front = c.args.items.now.items in
    let own = bodies_of_item accepts params c.args.tree.now files bodies of_tree front c.args.from c.args.count items in
    let has = page_has params c.args.tree.now files bodies (g.L.Lender.cells c.args.lender.now) (g.L.Lender.bodies c.args.lender.now) c.args.from c.body_page.result c.in-Some-Ok.page
    of_tree shows (omega arith) c.body_page.ensures (c.in-Some-Ok.is ∙ ap (λ r. Some r) c.in-Some-Ok.field-0-is) in
    step_body accepts params c.args.tree.now files bodies of_tree front c.args.from c.args.count c.in-Some.body c.push-then-count-gt1.new.self.items items
    (has.is ∙ ap (λ b. Some b) (sym c.in-Some.ensures.2)) c.if-count-gt1.true c.push-then-count-gt1.ensures.items

pub returns-else-count-gt1-clause-room : goal.returns-else-count-gt1-clause-room
returns-else-count-gt1-clause-room g c = room_front c.args.items.now.items (item.Bodies c.args.from c.args.count) c.requires.room

pub returns-else-count-gt1-clause-tree : goal.returns-else-count-gt1-clause-tree
returns-else-count-gt1-clause-tree g c = λ accepts params files bodies of_tree shows items.
    let front = c.args.items.now.items in
    let own = bodies_of_item accepts params c.args.tree.now files bodies of_tree front c.args.from c.args.count items in
    let has = page_has params c.args.tree.now files bodies (g.L.Lender.cells c.args.lender.now) (g.L.Lender.bodies c.args.lender.now) c.args.from c.body_page.result c.in-Some-Ok.page
    of_tree shows (omega arith) c.body_page.ensures (c.in-Some-Ok.is ∙ ap (λ r. Some r) c.in-Some-Ok.field-0-is) in
    step_last accepts params c.args.tree.now files bodies of_tree front c.args.from c.args.count c.in-Some.body front items
    (has.is ∙ ap (λ b. Some b) (sym c.in-Some.ensures.2)) c.if-count-gt1.false refl

pub returns-then-count-gt1-clause-look : goal.returns-then-count-gt1-clause-look
returns-then-count-gt1-clause-look g c = λ moved.
    let cells = g.L.Lender.cells c.args.lender.now in
    let bodies = g.L.Lender.bodies c.args.lender.now in
    let front = c.args.items.now.items in
    let from = c.args.from in
    let count = c.args.count in
    let answers = c.in-Some-Ok.is ∙ ap (λ r. Some r) c.in-Some-Ok.field-0-is in
    let page = lent (from / BODIES_PER_PAGE) (bodies (from / BODIES_PER_PAGE)) c.body_page.result (Ok c.in-Some-Ok.page) c.body_page.ensures answers in
    let rest = item.Bodies (from + 1) (count - 1) ∷ [] in
    look_bodies next_bodies cells bodies c.args.tree.now front c.push-then-count-gt1.new.self.items rest from count page.0 page.1 c.push-then-count-gt1.ensures.items
    (sym (next_some from count c.if-count-gt1.true))

pub returns-else-count-gt1-clause-look : goal.returns-else-count-gt1-clause-look
returns-else-count-gt1-clause-look g c = λ moved.
    let cells = g.L.Lender.cells c.args.lender.now in
    let bodies = g.L.Lender.bodies c.args.lender.now in
    let front = c.args.items.now.items in
    let from = c.args.from in
    let count = c.args.count in
    let answers = c.in-Some-Ok.is ∙ ap (λ r. Some r) c.in-Some-Ok.field-0-is in
    let page = lent (from / BODIES_PER_PAGE) (bodies (from / BODIES_PER_PAGE)) c.body_page.result (Ok c.in-Some-Ok.page) c.body_page.ensures answers in
    look_bodies next_bodies cells bodies c.args.tree.now front front [] from count page.0 page.1 (sym (append-nil front)) (sym (next_none from count c.if-count-gt1.false))
