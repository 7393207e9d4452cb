use Rattle.std.proofs.Common.{◌≡◌, ◌*◌, ◌<◌, ◌≤◌, None, [], ◌∷◌, ◌++◌, length, arith, sym, ap, ◌∙◌, subst, refl, append-nil}
use Rattle.nb_walk.specs.declared.item.Item.TheVariants as item
use Rattle.nb_walk.specs.declared.term.Term.TheVariants as term
use Rattle.nb_walk.specs.declared.visit.Visit.TheVariants as visit
use Rattle.nb_walk.specs.Angle.{level_of}
use Rattle.nb_walk.specs.Items.{chain_page, page_for}
use Rattle.nb_walk.specs.Left.{step_bound, item_bound}
use Rattle.nb_walk.specs.Room.{HasRoom}
use Rattle.nb_walk.specs.Sight.{SeesOver, SeesPage}
use Rattle.nb_walk.specs.Taking.{Adds}
use Rattle.nb_walk.specs.Looks.{opened_items, later_bodies}
use Rattle.nb_walk.proofs.Looks.{look_opened, look_accepted, look_passed}
use Rattle.nb_walk.proofs.Rooms.{room_front, room_depth, room_small, room_push, depth_free, divided_level}
use Rattle.nb_walk.proofs.Lefts.{bound_among, bound_some, bound_opened}
use Rattle.nb_walk.proofs.Pulling.{angle}
use Rattle.nb_walk.proofs.Stepping.{cell_item_of}
use Rattle.nb_walk.proofs.Takes.{visit_unwanted, visit_wanted, takes_accepted, accepted_heavy, takes_opened, takes_next}
use Rattle.nb_walk.proofs.walk.visit_cell.Goals as goal

pub open-requires-clause-depth : goal.open-requires-clause-depth
open-requires-clause-depth g c =
    subst (λ k. length c.args.items.now.items ≤ 7 * level_of k) (sym c.in-Cell.ensures.key) (room_depth c.args.items.now.items (item.Cell c.args.key c.args.page) c.requires.room)

pub open-requires-clause-room : goal.open-requires-clause-room
open-requires-clause-room g c = room_front c.args.items.now.items (item.Cell c.args.key c.args.page) c.requires.room

pub returns-then-not-accepts-clause-wants : goal.returns-then-not-accepts-clause-wants
returns-then-not-accepts-clause-wants g c =
    visit_unwanted c.look_at.result visit.Moved
    (λ name. (name ≡ page_for c.args.tree.now (item.Cell c.args.key c.args.page)) × (g.L.Lender.cells c.args.lender.now (chain_page c.args.tree.now.bits c.args.key c.args.page) ≡ None))
    c.look_at.ensures.wants (λ name e. let is = c.in-Cell.is in cc) (λ name e. cc)

pub returns-then-not-accepts-clause-lower : goal.returns-then-not-accepts-clause-lower
returns-then-not-accepts-clause-lower g c =
    let tree = c.args.tree.now in
    let front = c.args.items.now.items in
    let cell = c.in-Cell.cell in
    let key = c.args.key in
    let form = c.in-Cell.ensures.form in
    let lower = bound_opened tree cell c.args.page form.key (λ some. divided_level cell cell.kids form refl some) c.in-Cell.ensures.within in
    let there : step_bound tree (opened_items cell) < item_bound tree (item.Cell key c.args.page) = subst (λ k. step_bound tree (opened_items cell) < item_bound tree (item.Cell k c.args.page)) c.in-Cell.ensures.key lower in
    subst (λ l. step_bound tree l < step_bound tree (front ++ item.Cell key c.args.page ∷ [])) (sym c.open.ensures.items) (bound_among tree front (opened_items cell) (item.Cell key c.args.page) there)

pub returns-then-not-accepts-clause-tree : goal.returns-then-not-accepts-clause-tree
returns-then-not-accepts-clause-tree g c = λ files bodies of_tree shows items.
    let tree = c.args.tree.now in
    let params = c.args.params.now in
    let front = c.args.items.now.items in
    let a = c.args.tally.now in
    let cell_item = cell_item_of (angle params a.target) params tree files bodies of_tree front c.args.key c.args.page c.requires.some items in
    let seen = subst (SeesOver params bodies tree (files tree.cells) c.args.key c.args.page) c.in-Cell.is (c.look_at.ensures.tree files params bodies of_tree shows cell_item) in
    takes_opened params tree files bodies of_tree front c.in-Cell.cell c.args.key c.args.page c.open.new.items.items a items seen
    (sym c.accepts.ensures ∙ c.if-not-accepts.true) c.open.ensures.items

pub returns-then-not-add-clause-wants : goal.returns-then-not-add-clause-wants
returns-then-not-add-clause-wants g c =
    visit_unwanted c.look_at.result (visit.Damaged (record { file = c.args.tree.now.cells; page = c.page_at.result }))
    (λ name. (name ≡ page_for c.args.tree.now (item.Cell c.args.key c.args.page)) × (g.L.Lender.cells c.args.lender.now (chain_page c.args.tree.now.bits c.args.key c.args.page) ≡ None))
    c.look_at.ensures.wants (λ name e. let is = c.in-Cell.is in cc) (λ name e. cc)

pub returns-then-not-add-clause-damaged : goal.returns-then-not-add-clause-damaged
returns-then-not-add-clause-damaged g c = λ name e.
    let tree = c.args.tree.now in
    let there = ap (λ p. record { file = tree.cells; page = p }) c.page_at.ensures in
    let same : record { file = tree.cells; page = c.page_at.result } ≡ name = cc in (
      sym same ∙ there,
      λ none. let wants = (c.look_at.ensures.wants (page_for tree (item.Cell c.args.key c.args.page))).1 (refl, none) in let is = c.in-Cell.is in cc,
    )

pub returns-then-not-add-clause-tree : goal.returns-then-not-add-clause-tree
returns-then-not-add-clause-tree g c = λ files bodies of_tree shows items.
    let tree = c.args.tree.now in
    let params = c.args.params.now in
    let front = c.args.items.now.items in
    let a = c.args.tally.now in
    let cell_item = cell_item_of (angle params a.target) params tree files bodies of_tree front c.args.key c.args.page c.requires.some items in
    let seen = subst (SeesOver params bodies tree (files tree.cells) c.args.key c.args.page) c.in-Cell.is (c.look_at.ensures.tree files params bodies of_tree shows cell_item) in
    let heavy = c.add.ensures.refused c.if-not-add.true in
    let mass = c.mass.ensures.value in
    accepted_heavy params tree files bodies of_tree front c.in-Cell.cell c.args.key c.args.page a items seen
    (sym c.accepts.ensures ∙ c.if-not-accepts.false) (omega arith)

pub push-requires : goal.push-requires
push-requires g c =
    let front = c.args.items.now.items in
    let x = item.Cell c.args.key c.args.page in
    (omega arith, depth_free (length front) c.args.key (room_small front x c.requires.room).0 (room_depth front x c.requires.room))

pub push-requires-in-Wants : goal.push-requires-in-Wants
push-requires-in-Wants g c =
    let front = c.args.items.now.items in
    let x = item.Cell c.args.key c.args.page in
    (omega arith, depth_free (length front) c.args.key (room_small front x c.requires.room).0 (room_depth front x c.requires.room))

pub returns-else-not-add-clause-wants : goal.returns-else-not-add-clause-wants
returns-else-not-add-clause-wants g c =
    visit_unwanted c.look_at.result visit.Moved
    (λ name. (name ≡ page_for c.args.tree.now (item.Cell c.args.key c.args.page)) × (g.L.Lender.cells c.args.lender.now (chain_page c.args.tree.now.bits c.args.key c.args.page) ≡ None))
    c.look_at.ensures.wants (λ name e. let is = c.in-Cell.is in cc) (λ name e. cc)

pub returns-else-not-add-clause-room : goal.returns-else-not-add-clause-room
returns-else-not-add-clause-room g c = room_front c.args.items.now.items (item.Cell c.args.key c.args.page) c.requires.room

pub returns-else-not-add-clause-lower : goal.returns-else-not-add-clause-lower
returns-else-not-add-clause-lower g c =
    let front = c.args.items.now.items in
    let x = item.Cell c.args.key c.args.page in
    subst (λ l. step_bound c.args.tree.now l < step_bound c.args.tree.now (front ++ x ∷ [])) (append-nil front) (bound_among c.args.tree.now front [] x (bound_some c.args.tree.now x))

pub returns-else-not-add-clause-tree : goal.returns-else-not-add-clause-tree
returns-else-not-add-clause-tree g c = λ files bodies of_tree shows items.
    let tree = c.args.tree.now in
    let params = c.args.params.now in
    let front = c.args.items.now.items in
    let a = c.args.tally.now in
    let cell = c.in-Cell.cell in
    let cell_item = cell_item_of (angle params a.target) params tree files bodies of_tree front c.args.key c.args.page c.requires.some items in
    let seen = subst (SeesOver params bodies tree (files tree.cells) c.args.key c.args.page) c.in-Cell.is (c.look_at.ensures.tree files params bodies of_tree shows cell_item) in
    let added = c.add.ensures.added c.if-not-add.false in
    let as_cell = subst (λ m. Adds params (term.Cell m cell.centre ∷ []) a c.add.new.self) c.mass.ensures.value
    (subst (λ p. Adds params (term.Cell c.mass.result p ∷ []) a c.add.new.self) c.centre.ensures.value added) in
    takes_accepted params tree files bodies of_tree front cell c.args.key c.args.page a c.add.new.self items seen
    (sym c.accepts.ensures ∙ c.if-not-accepts.false) as_cell

pub returns-in-Next-clause-wants : goal.returns-in-Next-clause-wants
returns-in-Next-clause-wants g c =
    visit_unwanted c.look_at.result visit.Moved
    (λ name. (name ≡ page_for c.args.tree.now (item.Cell c.args.key c.args.page)) × (g.L.Lender.cells c.args.lender.now (chain_page c.args.tree.now.bits c.args.key c.args.page) ≡ None))
    c.look_at.ensures.wants (λ name e. let is = c.in-Next.is in cc) (λ name e. cc)

pub returns-in-Next-clause-room : goal.returns-in-Next-clause-room
returns-in-Next-clause-room g c =
    let front = c.args.items.now.items in
    let x = item.Cell c.args.key c.args.page in
    let next = c.in-Next.ensures.next in
    let pages = c.requires.tree.pages in
    subst HasRoom (sym c.push-in-Next.ensures.items)
    (room_push front (item.Cell c.args.key c.in-Next.next) (room_front front x c.requires.room) ((room_small front x c.requires.room).0, omega arith) (room_depth front x c.requires.room))

pub returns-in-Next-clause-tree : goal.returns-in-Next-clause-tree
returns-in-Next-clause-tree g c = λ files bodies of_tree shows items.
    let tree = c.args.tree.now in
    let params = c.args.params.now in
    let front = c.args.items.now.items in
    let a = c.args.tally.now in
    let cell_item = cell_item_of (angle params a.target) params tree files bodies of_tree front c.args.key c.args.page c.requires.some items in
    let seen = subst (SeesOver params bodies tree (files tree.cells) c.args.key c.args.page) c.in-Next.is (c.look_at.ensures.tree files params bodies of_tree shows cell_item) in
    takes_next params tree files bodies of_tree front c.args.key c.args.page c.in-Next.next c.push-in-Next.new.self.items a items seen c.push-in-Next.ensures.items

pub returns-in-Wants-clause-wants : goal.returns-in-Wants-clause-wants
returns-in-Wants-clause-wants g c =
    visit_wanted c.look_at.result c.in-Wants.name
    (λ name. (name ≡ page_for c.args.tree.now (item.Cell c.args.key c.args.page)) × (g.L.Lender.cells c.args.lender.now (chain_page c.args.tree.now.bits c.args.key c.args.page) ≡ None))
    c.look_at.ensures.wants c.in-Wants.is

pub returns-in-Damaged-clause-tree : goal.returns-in-Damaged-clause-tree
returns-in-Damaged-clause-tree g c = λ files bodies of_tree shows items.
    let tree = c.args.tree.now in
    let params = c.args.params.now in
    let front = c.args.items.now.items in
    let a = c.args.tally.now in
    let cell_item = cell_item_of (angle params a.target) params tree files bodies of_tree front c.args.key c.args.page c.requires.some items in
    absurd (subst (SeesOver params bodies tree (files tree.cells) c.args.key c.args.page) c.in-Damaged.is (c.look_at.ensures.tree files params bodies of_tree shows cell_item))

pub push-requires-in-Next : goal.push-requires-in-Next
push-requires-in-Next g c =
    let front = c.args.items.now.items in
    let x = item.Cell c.args.key c.args.page in
    (omega arith, depth_free (length front) c.args.key (room_small front x c.requires.room).0 (room_depth front x c.requires.room))

pub push-requires-in-Damaged : goal.push-requires-in-Damaged
push-requires-in-Damaged g c =
    let front = c.args.items.now.items in
    let x = item.Cell c.args.key c.args.page in
    (omega arith, depth_free (length front) c.args.key (room_small front x c.requires.room).0 (room_depth front x c.requires.room))

pub returns-then-not-add-clause-room : goal.returns-then-not-add-clause-room
returns-then-not-add-clause-room g c = subst HasRoom (sym c.push.ensures.items) c.requires.room

pub returns-in-Damaged-clause-room : goal.returns-in-Damaged-clause-room
returns-in-Damaged-clause-room g c = subst HasRoom (sym c.push-in-Damaged.ensures.items) c.requires.room

pub returns-then-not-accepts-clause-look : goal.returns-then-not-accepts-clause-look
returns-then-not-accepts-clause-look g c = λ moved.
    let cells = g.L.Lender.cells c.args.lender.now in
    let bodies = g.L.Lender.bodies c.args.lender.now in
    let tree = c.args.tree.now in
    let key = c.args.key in
    let front = c.args.items.now.items in
    look_opened later_bodies cells bodies tree front c.open.new.items.items key c.args.page c.in-Cell.cell
    (subst (SeesPage (cells (chain_page tree.bits key c.args.page)) key) c.in-Cell.is c.look_at.ensures.page) c.open.ensures.items

pub returns-else-not-add-clause-look : goal.returns-else-not-add-clause-look
returns-else-not-add-clause-look g c = λ moved.
    let cells = g.L.Lender.cells c.args.lender.now in
    let bodies = g.L.Lender.bodies c.args.lender.now in
    let tree = c.args.tree.now in
    let key = c.args.key in
    let front = c.args.items.now.items in
    look_accepted later_bodies cells bodies tree front front key c.args.page c.in-Cell.cell
    (subst (SeesPage (cells (chain_page tree.bits key c.args.page)) key) c.in-Cell.is c.look_at.ensures.page) refl

pub returns-in-Next-clause-look : goal.returns-in-Next-clause-look
returns-in-Next-clause-look g c = λ moved.
    let cells = g.L.Lender.cells c.args.lender.now in
    let bodies = g.L.Lender.bodies c.args.lender.now in
    let tree = c.args.tree.now in
    let key = c.args.key in
    let front = c.args.items.now.items in
    look_passed later_bodies cells bodies tree front c.push-in-Next.new.self.items key c.args.page c.in-Next.next
    (subst (SeesPage (cells (chain_page tree.bits key c.args.page)) key) c.in-Next.is c.look_at.ensures.page) c.push-in-Next.ensures.items
