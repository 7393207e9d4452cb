use Rattle.std.proofs.Common.{◌≡◌, ◌*◌, ◌<◌, ◌≤◌, None, [], ◌∷◌, ◌++◌, length, arith, sym, ◌∙◌, subst, refl, append-nil}
use Rattle.nb_walk.specs.declared.item.Item.TheVariants as item
use Rattle.nb_walk.specs.declared.step.Step.TheVariants as step
use Rattle.nb_walk.specs.declared.term.Term.TheVariants as term
use Rattle.nb_walk.specs.Angle.{level_of}
use Rattle.nb_walk.specs.Items.{chain_page, page_for}
use Rattle.nb_walk.specs.Left.{step_bound, item_bound}
use Rattle.nb_walk.specs.Room.{HasRoom}
use Rattle.nb_walk.specs.Looks.{opened_items, next_bodies}
use Rattle.nb_walk.specs.Sight.{SeesOver, SeesPage}
use Rattle.nb_walk.proofs.Looks.{look_opened, look_accepted, look_passed}
use Rattle.nb_walk.proofs.Rooms.{room_front, room_depth, room_small, room_push, depth_free, divided_level}
use Rattle.nb_walk.proofs.Lefts.{bound_among, bound_some, bound_opened}
use Rattle.nb_walk.proofs.Stepping.{unwanted, wanted, cell_item_of, step_accepted, step_opened, step_next}
use Rattle.nb_walk.proofs.course.cell_step.Goals as goal

pub returns-then-whole-clause-wants : goal.returns-then-whole-clause-wants
returns-then-whole-clause-wants g c =
    unwanted c.look_at.result (step.Term (term.Cell c.mass.result c.centre.result))
    (λ name. (name ≡ page_for c.args.tree.now (item.Cell c.args.key c.args.page)) × (g.L.Lender.cells c.args.lender.now (chain_page c.args.tree.now.bits c.args.key c.args.page) ≡ None))
    c.look_at.ensures.wants (λ name e. let is = c.in-Cell.is in cc) (λ name e. cc)

pub returns-then-whole-clause-room : goal.returns-then-whole-clause-room
returns-then-whole-clause-room g c = room_front c.args.items.now.items (item.Cell c.args.key c.args.page) c.requires.room

pub returns-then-whole-clause-lower : goal.returns-then-whole-clause-lower
returns-then-whole-clause-lower g c = λ moves.
    let front = c.args.items.now.items in
    let x = item.Cell c.args.key c.args.page in
    subst (λ l. step_bound c.args.tree.now l < step_bound c.args.tree.now (front ++ x ∷ [])) (append-nil front) (bound_among c.args.tree.now front [] x (bound_some c.args.tree.now x))

pub returns-then-whole-clause-tree : goal.returns-then-whole-clause-tree
returns-then-whole-clause-tree g c = λ files bodies of_tree shows items.
    let tree = c.args.tree.now in
    let front = c.args.items.now.items in
    let w = g.O.Opening.meaning c.args.opening.now c.args.params.now c.args.target.now in
    let cell_item = cell_item_of w c.args.params.now tree files bodies of_tree front c.args.key c.args.page c.requires.some items in
    let seen = subst (SeesOver c.args.params.now bodies tree (files tree.cells) c.args.key c.args.page) c.in-Cell.is (c.look_at.ensures.tree files c.args.params.now bodies of_tree shows cell_item) in
    step_accepted w c.args.params.now tree files bodies of_tree front c.in-Cell.cell c.args.key c.args.page c.mass.result c.centre.result items seen
    (sym c.whole.ensures ∙ c.if-whole.true) c.mass.ensures.value c.centre.ensures.value

pub open-requires-clause-room : goal.open-requires-clause-room
open-requires-clause-room g c = room_front c.args.items.now.items (item.Cell c.args.key c.args.page) c.requires.room

pub open-requires-clause-depth : goal.open-requires-clause-depth
open-requires-clause-depth g c =
    subst (λ k. length c.args.items.now.items ≤ 7 * level_of k) (sym c.in-Cell.ensures.key) (room_depth c.args.items.now.items (item.Cell c.args.key c.args.page) c.requires.room)

pub push-requires : goal.push-requires
push-requires g c =
    let front = c.args.items.now.items in
    let x = item.Cell c.args.key c.args.page in
    (omega arith, depth_free (length front) c.args.key (room_small front x c.requires.room).0 (room_depth front x c.requires.room))

pub push-requires-in-Wants : goal.push-requires-in-Wants
push-requires-in-Wants g c =
    let front = c.args.items.now.items in
    let x = item.Cell c.args.key c.args.page in
    (omega arith, depth_free (length front) c.args.key (room_small front x c.requires.room).0 (room_depth front x c.requires.room))

pub returns-else-whole-clause-wants : goal.returns-else-whole-clause-wants
returns-else-whole-clause-wants g c =
    unwanted c.look_at.result step.Moved
    (λ name. (name ≡ page_for c.args.tree.now (item.Cell c.args.key c.args.page)) × (g.L.Lender.cells c.args.lender.now (chain_page c.args.tree.now.bits c.args.key c.args.page) ≡ None))
    c.look_at.ensures.wants (λ name e. let is = c.in-Cell.is in cc) (λ name e. cc)

pub returns-else-whole-clause-lower : goal.returns-else-whole-clause-lower
returns-else-whole-clause-lower g c = λ moves.
    let tree = c.args.tree.now in
    let front = c.args.items.now.items in
    let cell = c.in-Cell.cell in
    let key = c.args.key in
    let form = c.in-Cell.ensures.form in
    let lower = bound_opened tree cell c.args.page form.key (λ some. divided_level cell cell.kids form refl some) c.in-Cell.ensures.within in
    let there : step_bound tree (opened_items cell) < item_bound tree (item.Cell key c.args.page) = subst (λ k. step_bound tree (opened_items cell) < item_bound tree (item.Cell k c.args.page)) c.in-Cell.ensures.key lower in
    subst (λ l. step_bound tree l < step_bound tree (front ++ item.Cell key c.args.page ∷ [])) (sym c.open.ensures.items) (bound_among tree front (opened_items cell) (item.Cell key c.args.page) there)

pub returns-else-whole-clause-tree : goal.returns-else-whole-clause-tree
returns-else-whole-clause-tree g c = λ files bodies of_tree shows items.
    let tree = c.args.tree.now in
    let front = c.args.items.now.items in
    let w = g.O.Opening.meaning c.args.opening.now c.args.params.now c.args.target.now in
    let cell_item = cell_item_of w c.args.params.now tree files bodies of_tree front c.args.key c.args.page c.requires.some items in
    let seen = subst (SeesOver c.args.params.now bodies tree (files tree.cells) c.args.key c.args.page) c.in-Cell.is (c.look_at.ensures.tree files c.args.params.now bodies of_tree shows cell_item) in
    step_opened w c.args.params.now tree files bodies of_tree front c.in-Cell.cell c.args.key c.args.page c.open.new.items.items items seen
    (sym c.whole.ensures ∙ c.if-whole.false) c.open.ensures.items

pub returns-in-Next-clause-wants : goal.returns-in-Next-clause-wants
returns-in-Next-clause-wants g c =
    unwanted c.look_at.result step.Moved
    (λ name. (name ≡ page_for c.args.tree.now (item.Cell c.args.key c.args.page)) × (g.L.Lender.cells c.args.lender.now (chain_page c.args.tree.now.bits c.args.key c.args.page) ≡ None))
    c.look_at.ensures.wants (λ name e. let is = c.in-Next.is in cc) (λ name e. cc)

pub returns-in-Next-clause-room : goal.returns-in-Next-clause-room
returns-in-Next-clause-room g c =
    let front = c.args.items.now.items in
    let x = item.Cell c.args.key c.args.page in
    let next = c.in-Next.ensures.next in
    let pages = c.requires.pages in
    subst HasRoom (sym c.push.ensures.items)
    (room_push front (item.Cell c.args.key c.in-Next.next) (room_front front x c.requires.room) ((room_small front x c.requires.room).0, omega arith) (room_depth front x c.requires.room))

pub returns-in-Next-clause-tree : goal.returns-in-Next-clause-tree
returns-in-Next-clause-tree g c = λ files bodies of_tree shows items.
    let tree = c.args.tree.now in
    let front = c.args.items.now.items in
    let w = g.O.Opening.meaning c.args.opening.now c.args.params.now c.args.target.now in
    let cell_item = cell_item_of w c.args.params.now tree files bodies of_tree front c.args.key c.args.page c.requires.some items in
    let seen = subst (SeesOver c.args.params.now bodies tree (files tree.cells) c.args.key c.args.page) c.in-Next.is (c.look_at.ensures.tree files c.args.params.now bodies of_tree shows cell_item) in
    step_next w c.args.params.now tree files bodies of_tree front c.args.key c.args.page c.in-Next.next c.push.new.self.items items seen c.push.ensures.items

pub returns-in-Wants-clause-wants : goal.returns-in-Wants-clause-wants
returns-in-Wants-clause-wants g c =
    wanted c.look_at.result c.in-Wants.name
    (λ name. (name ≡ page_for c.args.tree.now (item.Cell c.args.key c.args.page)) × (g.L.Lender.cells c.args.lender.now (chain_page c.args.tree.now.bits c.args.key c.args.page) ≡ None))
    c.look_at.ensures.wants c.in-Wants.is

pub returns-in-Damaged-clause-room : goal.returns-in-Damaged-clause-room
returns-in-Damaged-clause-room g c = room_front c.args.items.now.items (item.Cell c.args.key c.args.page) c.requires.room

pub returns-in-Damaged-clause-tree : goal.returns-in-Damaged-clause-tree
returns-in-Damaged-clause-tree g c = λ files bodies of_tree shows items.
    let tree = c.args.tree.now in
    let front = c.args.items.now.items in
    let w = g.O.Opening.meaning c.args.opening.now c.args.params.now c.args.target.now in
    let cell_item = cell_item_of w c.args.params.now tree files bodies of_tree front c.args.key c.args.page c.requires.some items in
    absurd (subst (SeesOver c.args.params.now bodies tree (files tree.cells) c.args.key c.args.page) c.in-Damaged.is (c.look_at.ensures.tree files c.args.params.now bodies of_tree shows cell_item))

pub returns-then-whole-clause-look : goal.returns-then-whole-clause-look
returns-then-whole-clause-look g c = λ moved.
    let cells = g.L.Lender.cells c.args.lender.now in
    let bodies = g.L.Lender.bodies c.args.lender.now in
    let tree = c.args.tree.now in
    let key = c.args.key in
    let front = c.args.items.now.items in
    look_accepted next_bodies cells bodies tree front front key c.args.page c.in-Cell.cell
    (subst (SeesPage (cells (chain_page tree.bits key c.args.page)) key) c.in-Cell.is c.look_at.ensures.page) refl

pub returns-else-whole-clause-look : goal.returns-else-whole-clause-look
returns-else-whole-clause-look g c = λ moved.
    let cells = g.L.Lender.cells c.args.lender.now in
    let bodies = g.L.Lender.bodies c.args.lender.now in
    let tree = c.args.tree.now in
    let key = c.args.key in
    let front = c.args.items.now.items in
    look_opened next_bodies cells bodies tree front c.open.new.items.items key c.args.page c.in-Cell.cell
    (subst (SeesPage (cells (chain_page tree.bits key c.args.page)) key) c.in-Cell.is c.look_at.ensures.page) c.open.ensures.items

pub returns-in-Next-clause-look : goal.returns-in-Next-clause-look
returns-in-Next-clause-look g c = λ moved.
    let cells = g.L.Lender.cells c.args.lender.now in
    let bodies = g.L.Lender.bodies c.args.lender.now in
    let tree = c.args.tree.now in
    let key = c.args.key in
    let front = c.args.items.now.items in
    look_passed next_bodies cells bodies tree front c.push.new.self.items key c.args.page c.in-Next.next
    (subst (SeesPage (cells (chain_page tree.bits key c.args.page)) key) c.in-Next.is c.look_at.ensures.page) c.push.ensures.items
