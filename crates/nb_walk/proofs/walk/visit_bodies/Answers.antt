use Rattle.std.proofs.Common.{◌≡◌, ◌+◌, ◌-◌, ◌/◌, ◌%◌, ◌<◌, [], ◌∷◌, append-nil, Some, Ok, arith, sym, ap, ◌∙◌, subst, inl, inr}
use Rattle.std.specs.Prelude.{sum_by}
use Rattle.nb_record.specs.Records.{body_record, IsBodyRecord}
use Rattle.nb_record.specs.declared.sizes.TheConstants.{BODIES_PER_PAGE}
use Rattle.nb_walk.specs.declared.item.Item.TheVariants as item
use Rattle.nb_walk.specs.Room.{HasRoom}
use Rattle.nb_walk.specs.Taking.{Adds}
use Rattle.nb_walk.specs.Terms.{term_mass}
use Rattle.nb_walk.specs.Looks.{later_bodies}
use Rattle.nb_walk.proofs.Looks.{later_some, later_none, look_bodies}
use Rattle.nb_walk.proofs.Rooms.{room_front, room_depth, room_small, room_push}
use Rattle.nb_walk.proofs.Pulling.{angle}
use Rattle.nb_walk.proofs.Stepping.{lent, page_checks, bodies_of_item}
use Rattle.nb_walk.proofs.Takes.{Lent, page_range, takes_page, takes_rest, range_heavy, has_body}
use Rattle.nb_walk.proofs.walk.visit_bodies.Goals as goal

pub push-requires : goal.push-requires
push-requires g c =
    let depth = room_depth c.args.items.now.items (item.Bodies c.args.from c.args.count) c.requires.room in
    (omega arith, omega arith)

pub push-requires-then-count-here : goal.push-requires-then-count-here
push-requires-then-count-here g c =
    let depth = room_depth c.args.items.now.items (item.Bodies c.args.from c.args.count) c.requires.room in
    (omega arith, omega arith)

pub overflow_add-from : goal.overflow_add-from
overflow_add-from g c =
    let small = room_small c.args.items.now.items (item.Bodies c.args.from c.args.count) c.requires.room in
    omega arith

pub returns-in-Some-Err-clause-tree : goal.returns-in-Some-Err-clause-tree
returns-in-Some-Err-clause-tree g c = λ files bodies of_tree shows items.
    let params = c.args.params.now in
    let front = c.args.items.now.items in
    let own = bodies_of_item (angle params c.args.tally.now.target) params c.args.tree.now files bodies of_tree front c.args.from c.args.count items in
    absurd (page_checks params c.args.tree.now files bodies (g.L.Lender.cells c.args.lender.now) (g.L.Lender.bodies c.args.lender.now) c.args.from c.body_page.result c.in-Some-Err.field-0-0
    of_tree shows (omega arith) c.body_page.ensures (c.in-Some-Err.is ∙ ap (λ r. Some r) c.in-Some-Err.field-0-is))

pub returns-then-index-here-clause-tree : goal.returns-then-index-here-clause-tree
returns-then-index-here-clause-tree g c = λ files bodies of_tree shows items.
    let params = c.args.params.now in
    let tree = c.args.tree.now in
    let front = c.args.items.now.items in
    let from = c.args.from in
    let bytes = c.in-Some-Ok.page in
    let here = c.min-here.result in
    let small = c.min-here.ensures in
    let own = bodies_of_item (angle params c.args.tally.now.target) params tree files bodies of_tree front from c.args.count items in
    let lent : Lent params tree files bodies of_tree front (g.L.Lender.bodies c.args.lender.now) from bytes = record { answer = c.body_page.result; is = c.body_page.ensures; some = c.in-Some-Ok.is ∙ ap (λ r. Some r) c.in-Some-Ok.field-0-is } in
    let has = has_body params tree files bodies of_tree front (g.L.Lender.cells c.args.lender.now) (g.L.Lender.bodies c.args.lender.now) from c.args.count (here - 1) bytes shows lent own.1 (omega arith) (omega arith) in
    let within = has.within in
    let more = c.if-index-here.true in
    let count = c.count.ensures.value in
    absurd (omega arith)

pub returns-then-not-add_bodies-clause-tree : goal.returns-then-not-add_bodies-clause-tree
returns-then-not-add_bodies-clause-tree g c = λ files bodies of_tree shows items.
    let params = c.args.params.now in
    let tree = c.args.tree.now in
    let front = c.args.items.now.items in
    let a = c.args.tally.now in
    let cells_shown = g.L.Lender.cells c.args.lender.now in
    let bodies_shown = g.L.Lender.bodies c.args.lender.now in
    let from = c.args.from in
    let index = from % BODIES_PER_PAGE in
    let bytes = c.in-Some-Ok.page in
    let here = c.min-here.result in
    let small = c.min-here.ensures in
    let own = bodies_of_item (angle params a.target) params tree files bodies of_tree front from c.args.count items in
    let lent : Lent params tree files bodies of_tree front bodies_shown from bytes = record { answer = c.body_page.result; is = c.body_page.ensures; some = c.in-Some-Ok.is ∙ ap (λ r. Some r) c.in-Some-Ok.field-0-is } in
    let count = c.count.ensures.value in
    elim (c.add_bodies.ensures.refused c.if-not-add_bodies.true) [
      | inl bad ↦
          let i = bad.0 in
          let from_index = bad.1 in
          let below = bad.2 in
          let back : index + (i - index) ≡ i = omega arith in
          let has = has_body params tree files bodies of_tree front cells_shown bodies_shown from c.args.count (i - index) bytes shows lent own.1 (omega arith) (omega arith) in
          absurd (bad.3 (subst (λ k. IsBodyRecord (body_record k bytes)) back has.form))
      | inr heavy ↦
          let same = page_range params tree files bodies of_tree front cells_shown bodies_shown from c.args.count here bytes shows lent own.1 (omega arith) (omega arith) (omega arith) in
          range_heavy params tree files bodies of_tree front from c.args.count here a (omega arith) (subst (λ ts. tree.mass < a.taken + sum_by term_mass ts) same heavy)
    ]

pub returns-then-count-here-clause-room : goal.returns-then-count-here-clause-room
returns-then-count-here-clause-room g c =
    let front = c.args.items.now.items in
    let x = item.Bodies c.args.from c.args.count in
    let room = room_small front x c.requires.room in
    let more = c.if-count-here.true in
    subst HasRoom (sym c.push-then-count-here.ensures.items)
    (room_push front (item.Bodies (c.args.from + c.min-here.result) (c.args.count - c.min-here.result)) (room_front front x c.requires.room) (omega arith, omega arith) (room_depth front x c.requires.room))

pub returns-then-count-here-clause-tree : goal.returns-then-count-here-clause-tree
returns-then-count-here-clause-tree g c = λ files bodies of_tree shows items.
    let params = c.args.params.now in
    let tree = c.args.tree.now in
    let front = c.args.items.now.items in
    let a = c.args.tally.now in
    let cells_shown = g.L.Lender.cells c.args.lender.now in
    let bodies_shown = g.L.Lender.bodies c.args.lender.now in
    let from = c.args.from in
    let bytes = c.in-Some-Ok.page in
    let here = c.min-here.result in
    let small = c.min-here.ensures in
    let more = c.if-count-here.true in
    let count = c.count.ensures.value in
    let own = bodies_of_item (angle params a.target) params tree files bodies of_tree front from c.args.count items in
    let lent : Lent params tree files bodies of_tree front bodies_shown from bytes = record { answer = c.body_page.result; is = c.body_page.ensures; some = c.in-Some-Ok.is ∙ ap (λ r. Some r) c.in-Some-Ok.field-0-is } in
    let same = page_range params tree files bodies of_tree front cells_shown bodies_shown from c.args.count here bytes shows lent own.1 (omega arith) (omega arith) (omega arith) in
    takes_page params tree files bodies of_tree front from c.args.count here c.push-then-count-here.new.self.items a c.add_bodies.new.self items more (omega arith) (omega arith) c.push-then-count-here.ensures.items
    (subst (λ ts. Adds params ts a c.add_bodies.new.self) same (c.add_bodies.ensures.added c.if-not-add_bodies.false))

pub returns-else-count-here-clause-room : goal.returns-else-count-here-clause-room
returns-else-count-here-clause-room g c = room_front c.args.items.now.items (item.Bodies c.args.from c.args.count) c.requires.room

pub returns-else-count-here-clause-tree : goal.returns-else-count-here-clause-tree
returns-else-count-here-clause-tree g c = λ files bodies of_tree shows items.
    let params = c.args.params.now in
    let tree = c.args.tree.now in
    let front = c.args.items.now.items in
    let a = c.args.tally.now in
    let cells_shown = g.L.Lender.cells c.args.lender.now in
    let bodies_shown = g.L.Lender.bodies c.args.lender.now in
    let from = c.args.from in
    let bytes = c.in-Some-Ok.page in
    let here = c.min-here.result in
    let small = c.min-here.ensures in
    let less = c.if-count-here.false in
    let count = c.count.ensures.value in
    let own = bodies_of_item (angle params a.target) params tree files bodies of_tree front from c.args.count items in
    let lent : Lent params tree files bodies of_tree front bodies_shown from bytes = record { answer = c.body_page.result; is = c.body_page.ensures; some = c.in-Some-Ok.is ∙ ap (λ r. Some r) c.in-Some-Ok.field-0-is } in
    let same = page_range params tree files bodies of_tree front cells_shown bodies_shown from c.args.count here bytes shows lent own.1 (omega arith) (omega arith) (omega arith) in
    takes_rest params tree files bodies of_tree front from c.args.count here a c.add_bodies.new.self items less (omega arith)
    (subst (λ ts. Adds params ts a c.add_bodies.new.self) same (c.add_bodies.ensures.added c.if-not-add_bodies.false))

pub returns-in-Some-Err-clause-room : goal.returns-in-Some-Err-clause-room
returns-in-Some-Err-clause-room g c = subst HasRoom (sym c.push-in-Some-Err.ensures.items) c.requires.room

pub returns-then-index-here-clause-room : goal.returns-then-index-here-clause-room
returns-then-index-here-clause-room g c = subst HasRoom (sym c.push-then-index-here.ensures.items) c.requires.room

pub returns-then-not-add_bodies-clause-room : goal.returns-then-not-add_bodies-clause-room
returns-then-not-add_bodies-clause-room g c = subst HasRoom (sym c.push-then-not-add_bodies.ensures.items) c.requires.room

pub push-requires-in-Some-Err : goal.push-requires-in-Some-Err
push-requires-in-Some-Err g c =
    let depth = room_depth c.args.items.now.items (item.Bodies c.args.from c.args.count) c.requires.room in
    (omega arith, omega arith)

pub push-requires-then-index-here : goal.push-requires-then-index-here
push-requires-then-index-here g c =
    let depth = room_depth c.args.items.now.items (item.Bodies c.args.from c.args.count) c.requires.room in
    (omega arith, omega arith)

pub push-requires-then-not-add_bodies : goal.push-requires-then-not-add_bodies
push-requires-then-not-add_bodies g c =
    let depth = room_depth c.args.items.now.items (item.Bodies c.args.from c.args.count) c.requires.room in
    (omega arith, omega arith)

pub returns-then-count-here-clause-look : goal.returns-then-count-here-clause-look
returns-then-count-here-clause-look g c = λ moved.
    let cells = g.L.Lender.cells c.args.lender.now in
    let bodies = g.L.Lender.bodies c.args.lender.now in
    let front = c.args.items.now.items in
    let from = c.args.from in
    let count = c.args.count in
    let here = c.min-here.result in
    let small = c.min-here.ensures in
    let answers = c.in-Some-Ok.is ∙ ap (λ r. Some r) c.in-Some-Ok.field-0-is in
    let page = lent (from / BODIES_PER_PAGE) (bodies (from / BODIES_PER_PAGE)) c.body_page.result (Ok c.in-Some-Ok.page) c.body_page.ensures answers in
    let more = c.if-count-here.true in
    let rest = item.Bodies (from + here) (count - here) ∷ [] in
    look_bodies later_bodies cells bodies c.args.tree.now front c.push-then-count-here.new.self.items rest from count page.0 page.1 c.push-then-count-here.ensures.items
    (sym (later_some from count here (omega arith) (omega arith)))

pub returns-else-count-here-clause-look : goal.returns-else-count-here-clause-look
returns-else-count-here-clause-look g c = λ moved.
    let cells = g.L.Lender.cells c.args.lender.now in
    let bodies = g.L.Lender.bodies c.args.lender.now in
    let front = c.args.items.now.items in
    let from = c.args.from in
    let count = c.args.count in
    let here = c.min-here.result in
    let small = c.min-here.ensures in
    let answers = c.in-Some-Ok.is ∙ ap (λ r. Some r) c.in-Some-Ok.field-0-is in
    let page = lent (from / BODIES_PER_PAGE) (bodies (from / BODIES_PER_PAGE)) c.body_page.result (Ok c.in-Some-Ok.page) c.body_page.ensures answers in
    let less = c.if-count-here.false in
    look_bodies later_bodies cells bodies c.args.tree.now front front [] from count page.0 page.1 (sym (append-nil front)) (sym (later_none from count (omega arith)))
