use Rattle.std.proofs.Common.{◌≡◌, ◌+◌, ◌<◌, List, [], ◌∷◌, length, get_or, is_ok, true, None, arith, sym, ap, ◌∙◌, subst, refl, inl, inr}
use Rattle.std.specs.Prelude.{◌≢◌}
use Rattle.std.proofs.lemmas.List.{length-map}
use Rattle.std.proofs.lemmas.List.Elements.{All-map}
use Rattle.nb_host.specs.declared.page_name.PageName.{PageName}
use Rattle.nb_walk.specs.declared.item.Item.{Item}
use Rattle.nb_walk.specs.declared.item.Item.TheVariants as item
use Rattle.nb_walk.specs.declared.shared.SharedItem.{SharedItem}
use Rattle.nb_walk.specs.declared.tally.Tally.{Tally}
use Rattle.nb_walk.specs.Angle.{by_angle}
use Rattle.nb_walk.specs.Group.{TakesShared}
use Rattle.nb_walk.specs.Items.{chain_page, page_for}
use Rattle.nb_walk.specs.Left.{item_bound, step_bound}
use Rattle.nb_walk.specs.Looks.{opened_items}
use Rattle.nb_walk.specs.Part.{KeepsTally, TakesPart}
use Rattle.nb_walk.specs.Room.{IsItemInRange}
use Rattle.nb_walk.specs.Running.{Each, EachAt}
use Rattle.nb_walk.specs.Shared.{shared_by, IsShared}
use Rattle.nb_walk.specs.Shown.{shown_for}
use Rattle.nb_walk.proofs.Lefts.{bound_opened, bound_next}
use Rattle.nb_walk.proofs.Meetings.{no_tally}
use Rattle.nb_walk.proofs.Rooms.{divided_level}
use Rattle.nb_walk.proofs.SharedLooks.{TakesOne, part_next, no_damage, too_much, all_one, opened_small, opened_few}
use Rattle.nb_walk.proofs.Outcomes.{pushed_on, bound_of, bound_none, with_tallies, with_shared, free_waits, free_items, IsMet, met_same, met_by, met_push, met_tallies, met_group, group_wait, met_cells, met_unopened, met_still, met_takes, back_kept, back_blames, waits_takes, waits_kept, no_damage_of, no_weight_of}
use Rattle.nb_walk.proofs.group.Group.take_cell.Given.{Over}
use Rattle.nb_walk.proofs.group.Group.take_cell.Goals as goal

-- ---- the page isn't shown

pub returns-in-Wants-clause-group : goal.returns-in-Wants-clause-group
returns-in-Wants-clause-group g c =
    let old = c.args.self.now in
    let push = c.push-in-Wants in
    let all = pushed_on old.waits push.new.self c.args.entry (is_ok push.result) push.ensures.items push.ensures.succeeds (free_waits old c.requires.group c.requires.room) in
    group_wait c.args.params.now c.args.tree.now old c.requires.group c.requires.room c.requires.tallies c.args.entry push.new.self c.requires.small c.requires.shared all push.ensures.capacity

pub returns-in-Wants-clause-kept : goal.returns-in-Wants-clause-kept
returns-in-Wants-clause-kept g c =
    let old = c.args.self.now in
    let tree = c.args.tree.now in
    let cells = g.L.Lender.cells c.args.lender.now in
    let bodies = g.L.Lender.bodies c.args.lender.now in
    let push = c.push-in-Wants in
    let unseen = subst (λ x. shown_for cells bodies tree x ≡ None) (sym c.requires.item) ((c.look_at.ensures.wants c.in-Wants.field-0).0 c.in-Wants.is).1 in
    let all = pushed_on old.waits push.new.self c.args.entry (is_ok push.result) push.ensures.items push.ensures.succeeds (free_waits old c.requires.group c.requires.room) in
    waits_kept c.args.params.now tree old c.requires.group c.requires.room c.requires.tallies cells bodies c.args.entry push.new.self all unseen

pub returns-in-Wants-clause-took : goal.returns-in-Wants-clause-took
returns-in-Wants-clause-took g c =
    let old = c.args.self.now in
    let tree = c.args.tree.now in
    let cells = g.L.Lender.cells c.args.lender.now in
    let bodies = g.L.Lender.bodies c.args.lender.now in
    let push = c.push-in-Wants in
    let unseen = subst (λ x. shown_for cells bodies tree x ≡ None) (sym c.requires.item) ((c.look_at.ensures.wants c.in-Wants.field-0).0 c.in-Wants.is).1 in
    let all = pushed_on old.waits push.new.self c.args.entry (is_ok push.result) push.ensures.items push.ensures.succeeds (free_waits old c.requires.group c.requires.room) in
    waits_takes c.args.params.now tree old c.requires.group c.requires.room c.requires.tallies cells bodies c.args.entry push.new.self all unseen

-- ---- the page isn't the tree's

bad_back : (g : Over) (c : goal.After-push-in-Damaged g) → IsMet c.args.params.now c.args.tree.now c.args.self.now (c.args.entry ∷ []) (with_shared c.args.self.now c.push-in-Damaged.new.self)
bad_back g c =
    let old = c.args.self.now in
    let push = c.push-in-Damaged in
    let same = met_same c.args.params.now c.args.tree.now old c.requires.tallies in
    let all = pushed_on old.items push.new.self c.args.entry (is_ok push.result) push.ensures.items push.ensures.succeeds (free_items c.args.params.now c.args.tree.now old c.requires.group c.requires.room old same) in
    met_push c.args.params.now c.args.tree.now old c.requires.group c.requires.room old (c.args.entry ∷ []) push.new.self same all push.ensures.capacity

pub returns-in-Damaged-clause-group : goal.returns-in-Damaged-clause-group
returns-in-Damaged-clause-group g c =
    let old = c.args.self.now in
    met_group c.args.params.now c.args.tree.now old c.requires.group c.requires.room c.requires.tallies (c.args.entry ∷ []) (with_shared old c.push-in-Damaged.new.self) (bad_back g c)
    (all_one (λ s. IsItemInRange s.item) c.args.entry c.requires.small) (all_one (IsShared (length old.tallies.items)) c.args.entry c.requires.shared) (omega arith)

pub returns-in-Damaged-clause-kept : goal.returns-in-Damaged-clause-kept
returns-in-Damaged-clause-kept g c =
    back_kept c.args.params.now c.args.tree.now c.args.self.now c.requires.group c.requires.room c.requires.tallies (g.L.Lender.cells c.args.lender.now) (g.L.Lender.bodies c.args.lender.now) c.args.entry
    (with_shared c.args.self.now c.push-in-Damaged.new.self) (bad_back g c)

pub returns-in-Damaged-clause-damaged : goal.returns-in-Damaged-clause-damaged
returns-in-Damaged-clause-damaged g c = λ name e.
    let tree = c.args.tree.now in
    let cells = g.L.Lender.cells c.args.lender.now in
    let bodies = g.L.Lender.bodies c.args.lender.now in
    let same : c.in-Damaged.name ≡ name = cc in
    let blamed = c.look_at.ensures.damaged c.in-Damaged.name c.in-Damaged.is in
    back_blames c.args.params.now tree c.args.self.now c.requires.group c.requires.room c.requires.tallies cells bodies c.args.entry (with_shared c.args.self.now c.push-in-Damaged.new.self) name (bad_back g c) c.requires.shared
    (ap (page_for tree) c.requires.item ∙ sym blamed.0 ∙ same) (subst (λ x. shown_for cells bodies tree x ≢ None) (sym c.requires.item) blamed.1)

pub returns-in-Damaged-clause-sound : goal.returns-in-Damaged-clause-sound
returns-in-Damaged-clause-sound g c = λ files bodies of_tree shows on.
    let tree = c.args.tree.now in
    let cells = g.L.Lender.cells c.args.lender.now in
    let shown = g.L.Lender.bodies c.args.lender.now in
    absurd (no_damage_of c.args.params.now tree c.args.self.now c.requires.group c.requires.room c.requires.tallies cells shown c.args.entry bodies (files tree.cells) on (item.Cell c.args.key c.args.page) c.requires.item c.requires.shared
    (no_damage cells shown c.args.params.now tree c.args.key c.args.page c.requires.some c.look_at.result c.look_at.ensures.tree c.in-Damaged.name c.in-Damaged.is files bodies of_tree shows))

-- ---- the page lacks the cell

next_met : (g : Over) (c : goal.After-push-in-Next g) → IsMet c.args.params.now c.args.tree.now c.args.self.now (shared_by c.args.entry.block c.args.entry.walks (item.Cell c.args.key c.in-Next.next ∷ []))
    (with_shared c.args.self.now c.push-in-Next.new.self)
next_met g c =
    let old = c.args.self.now in
    let push = c.push-in-Next in
    let one : SharedItem = record { item = item.Cell c.args.key c.in-Next.next; block = c.args.entry.block; walks = c.args.entry.walks } in
    let same = met_same c.args.params.now c.args.tree.now old c.requires.tallies in
    let all = pushed_on old.items push.new.self one (is_ok push.result) push.ensures.items push.ensures.succeeds (free_items c.args.params.now c.args.tree.now old c.requires.group c.requires.room old same) in
    met_push c.args.params.now c.args.tree.now old c.requires.group c.requires.room old (one ∷ []) push.new.self same all push.ensures.capacity

next_took : (g : Over) (c : goal.After-push-in-Next g) → TakesShared (g.L.Lender.cells c.args.lender.now) (g.L.Lender.bodies c.args.lender.now) c.args.params.now c.args.tree.now c.args.self.now c.args.entry
    (with_shared c.args.self.now c.push-in-Next.new.self)
next_took g c =
    let old = c.args.self.now in
    let params = c.args.params.now in
    let tree = c.args.tree.now in
    let cells = g.L.Lender.cells c.args.lender.now in
    let shown = g.L.Lender.bodies c.args.lender.now in
    let key = c.args.key in
    let next = c.in-Next.next in
    let later = c.in-Next.ensures.next in
    let each = met_still params tree old c.requires.group c.requires.room c.requires.tallies cells shown c.args.entry (item.Cell key next ∷ [])
    (λ a tally. subst (λ x. TakesPart cells shown params tree 1 (x ∷ []) (item.Cell key next ∷ []) a a) (sym c.requires.item)
    (part_next cells shown params tree key c.args.page c.requires.some c.look_at.result c.look_at.ensures.tree next a c.in-Next.is tally later.0 later.1)) in
    met_takes params tree old c.requires.group c.requires.room c.requires.tallies cells shown c.args.entry (shared_by c.args.entry.block c.args.entry.walks (item.Cell key next ∷ [])) (with_shared old c.push-in-Next.new.self)
    (next_met g c) each (bound_of tree c.args.entry c.args.entry.block c.args.entry.walks (item.Cell key next ∷ []) (item.Cell key c.args.page) c.requires.item (bound_next tree key c.args.page next later.0 later.1))

pub returns-in-Next-clause-group : goal.returns-in-Next-clause-group
returns-in-Next-clause-group g c =
    let old = c.args.self.now in
    let one : SharedItem = record { item = item.Cell c.args.key c.in-Next.next; block = c.args.entry.block; walks = c.args.entry.walks } in
    let shared = c.requires.shared in
    let own = subst IsItemInRange c.requires.item c.requires.small in
    let later = c.in-Next.ensures.next.1 in
    let pages = c.requires.tree.pages in
    met_group c.args.params.now c.args.tree.now old c.requires.group c.requires.room c.requires.tallies (one ∷ []) (with_shared old c.push-in-Next.new.self) (next_met g c)
    (all_one (λ s. IsItemInRange s.item) one (own.0, omega arith)) (all_one (IsShared (length old.tallies.items)) one (record { walk = shared.walk; has = shared.has; below = shared.below })) (omega arith)

pub returns-in-Next-clause-kept : goal.returns-in-Next-clause-kept
returns-in-Next-clause-kept g c = λ i d below. ((next_took g c).ran i d below).kept

pub returns-in-Next-clause-took : goal.returns-in-Next-clause-took
returns-in-Next-clause-took g c = next_took g c

-- ---- one would take too much

refused_back : (g : Over) (c : goal.After-page_at g) → IsMet c.args.params.now c.args.tree.now c.args.self.now (c.args.entry ∷ []) (with_shared (with_tallies c.args.self.now c.meet_cell.new.tallies) c.push.new.self)
refused_back g c =
    let old = c.args.self.now in
    let params = c.args.params.now in
    let tree = c.args.tree.now in
    let xs = c.meet_cell.new.tallies in
    let push = c.push in
    let met = met_by params tree old c.deref_mut.result.now xs c.deref_mut.ensures.value c.meet_cell.ensures.count c.meet_cell.ensures.kept in
    let all = pushed_on old.items push.new.self c.args.entry (is_ok push.result) push.ensures.items push.ensures.succeeds (free_items params tree old c.requires.group c.requires.room (with_tallies old xs) met) in
    met_push params tree old c.requires.group c.requires.room (with_tallies old xs) (c.args.entry ∷ []) push.new.self met all push.ensures.capacity

pub returns-in_default-clause-group : goal.returns-in_default-clause-group
returns-in_default-clause-group g c =
    let old = c.args.self.now in
    met_group c.args.params.now c.args.tree.now old c.requires.group c.requires.room c.requires.tallies (c.args.entry ∷ []) (with_shared (with_tallies old c.meet_cell.new.tallies) c.push.new.self) (refused_back g c)
    (all_one (λ s. IsItemInRange s.item) c.args.entry c.requires.small) (all_one (IsShared (length old.tallies.items)) c.args.entry c.requires.shared) (omega arith)

pub returns-in_default-clause-kept : goal.returns-in_default-clause-kept
returns-in_default-clause-kept g c =
    back_kept c.args.params.now c.args.tree.now c.args.self.now c.requires.group c.requires.room c.requires.tallies (g.L.Lender.cells c.args.lender.now) (g.L.Lender.bodies c.args.lender.now) c.args.entry
    (with_shared (with_tallies c.args.self.now c.meet_cell.new.tallies) c.push.new.self) (refused_back g c)

pub returns-in_default-clause-damaged : goal.returns-in_default-clause-damaged
returns-in_default-clause-damaged g c = λ name e.
    let tree = c.args.tree.now in
    let cells = g.L.Lender.cells c.args.lender.now in
    let bodies = g.L.Lender.bodies c.args.lender.now in
    let key = c.args.key in
    let there : ◌≡◌ {A = PageName} (record { file = tree.cells; page = c.page_at.result }) (page_for tree (item.Cell key c.args.page)) = ap (λ p. record { file = tree.cells; page = p }) c.page_at.ensures in
    let same : ◌≡◌ {A = PageName} (record { file = tree.cells; page = c.page_at.result }) name = cc in
    let shown : cells (chain_page tree.bits key c.args.page) ≢ None = λ none. let wants = (c.look_at.ensures.wants (page_for tree (item.Cell key c.args.page))).1 (refl, none) in let is = c.in-Cell.is in cc in
    back_blames c.args.params.now tree c.args.self.now c.requires.group c.requires.room c.requires.tallies cells bodies c.args.entry (with_shared (with_tallies c.args.self.now c.meet_cell.new.tallies) c.push.new.self) name (refused_back g c)
    c.requires.shared (ap (page_for tree) c.requires.item ∙ sym there ∙ same) (subst (λ x. shown_for cells bodies tree x ≢ None) (sym c.requires.item) shown)

pub returns-in_default-clause-sound : goal.returns-in_default-clause-sound
returns-in_default-clause-sound g c = λ files bodies of_tree shows on.
    let old = c.args.self.now in
    let params = c.args.params.now in
    let tree = c.args.tree.now in
    let cells = g.L.Lender.cells c.args.lender.now in
    let shown = g.L.Lender.bodies c.args.lender.now in
    let cell = c.in-Cell.cell in
    let same = c.deref_mut.ensures.value in
    let heavy = c.meet_cell.ensures.refused c.in_default.is in
    let i = heavy.0 in
    let weighs = subst (λ (l : List Tally). (by_angle params (get_or l i no_tally).target cell.key cell.centre ≡ true) × (tree.mass < (get_or l i no_tally).taken + cell.mass)) same (heavy.3 no_tally) in
    absurd (no_weight_of params tree old c.requires.group c.requires.room c.requires.tallies cells shown c.args.entry bodies (files tree.cells) on (item.Cell c.args.key c.args.page) c.requires.item i
    (subst (λ (l : List Tally). i < length l) same heavy.1) heavy.2
    (too_much cells shown params tree c.args.key c.args.page c.requires.some c.look_at.result c.look_at.ensures.tree cell (get_or old.tallies.items i no_tally) c.in-Cell.is weighs.0 weighs.1 files bodies of_tree shows))

-- ---- none opened it

taken_took : (g : Over) (c : goal.Else-opened-ne0 g) → TakesShared (g.L.Lender.cells c.args.lender.now) (g.L.Lender.bodies c.args.lender.now) c.args.params.now c.args.tree.now c.args.self.now c.args.entry
    (with_tallies c.args.self.now c.meet_cell.new.tallies)
taken_took g c =
    let old = c.args.self.now in
    let params = c.args.params.now in
    let tree = c.args.tree.now in
    let cells = g.L.Lender.cells c.args.lender.now in
    let shown = g.L.Lender.bodies c.args.lender.now in
    let cell = c.in-Cell.cell in
    let xs = c.meet_cell.new.tallies in
    let opened = c.in-Some.opened in
    let met = met_by params tree old c.deref_mut.result.now xs c.deref_mut.ensures.value c.meet_cell.ensures.count c.meet_cell.ensures.kept in
    let each = met_cells params tree old c.requires.group c.requires.room c.requires.tallies cells shown c.args.entry c.args.key c.args.page opened c.requires.some c.look_at.result c.look_at.ensures.tree cell c.deref_mut.result.now xs
    c.requires.item c.in-Cell.is c.in-Cell.ensures.form c.in-Cell.ensures.key c.in-Cell.ensures.within c.deref_mut.ensures.value c.meet_cell.ensures.count c.meet_cell.ensures.kept (c.meet_cell.ensures.met opened c.in-Some.is) in
    met_takes params tree old c.requires.group c.requires.room c.requires.tallies cells shown c.args.entry [] (with_tallies old xs) met
    (met_unopened params tree old c.requires.group c.requires.room c.requires.tallies cells shown c.args.entry opened (opened_items cell) (with_tallies old xs) c.if-opened-ne0.false each)
    (bound_none tree c.args.entry)

pub returns-else-opened-ne0-clause-kept : goal.returns-else-opened-ne0-clause-kept
returns-else-opened-ne0-clause-kept g c = λ i d below. ((taken_took g c).ran i d below).kept

pub returns-else-opened-ne0-clause-took : goal.returns-else-opened-ne0-clause-took
returns-else-opened-ne0-clause-took g c = taken_took g c

-- ---- some opened it

opened_met : (g : Over) (c : goal.After-open g) → IsMet c.args.params.now c.args.tree.now c.args.self.now (shared_by c.args.entry.block c.in-Some.opened (opened_items c.in-Cell.cell)) c.open.new.self
opened_met g c =
    let old = c.args.self.now in
    let params = c.args.params.now in
    let tree = c.args.tree.now in
    let xs = c.meet_cell.new.tallies in
    let open_ = c.open.ensures in
    let met = met_by params tree old c.deref_mut.result.now xs c.deref_mut.ensures.value c.meet_cell.ensures.count c.meet_cell.ensures.kept in
    record {
      count = ap (λ v. length v.items) open_.tallies ∙ met.count;
      kept = subst (λ v. Each (KeepsTally params tree.mass) (length old.tallies.items) old.tallies.items v.items) (sym open_.tallies) met.kept;
      owns = open_.owns;
      waits = open_.waits;
      room = open_.room;
      items = open_.items;
      capacity = open_.capacity;
    }

opened_took : (g : Over) (c : goal.After-open g) → TakesShared (g.L.Lender.cells c.args.lender.now) (g.L.Lender.bodies c.args.lender.now) c.args.params.now c.args.tree.now c.args.self.now c.args.entry c.open.new.self
opened_took g c =
    let old = c.args.self.now in
    let params = c.args.params.now in
    let tree = c.args.tree.now in
    let cells = g.L.Lender.cells c.args.lender.now in
    let shown = g.L.Lender.bodies c.args.lender.now in
    let cell = c.in-Cell.cell in
    let key = c.args.key in
    let xs = c.meet_cell.new.tallies in
    let opened = c.in-Some.opened in
    let form = c.in-Cell.ensures.form in
    let pushed = shared_by c.args.entry.block opened (opened_items cell) in
    let each = met_cells params tree old c.requires.group c.requires.room c.requires.tallies cells shown c.args.entry key c.args.page opened c.requires.some c.look_at.result c.look_at.ensures.tree cell c.deref_mut.result.now xs
    c.requires.item c.in-Cell.is form c.in-Cell.ensures.key c.in-Cell.ensures.within c.deref_mut.ensures.value c.meet_cell.ensures.count c.meet_cell.ensures.kept (c.meet_cell.ensures.met opened c.in-Some.is) in
    let now = subst (λ v. EachAt (TakesOne cells shown params tree c.args.entry pushed) (length old.tallies.items) old.tallies.items v.items) (sym c.open.ensures.tallies) each in
    let lower = bound_opened tree cell c.args.page form.key (λ some. divided_level cell cell.kids form refl some) c.in-Cell.ensures.within in
    let there : step_bound tree (opened_items cell) < item_bound tree (item.Cell key c.args.page) = subst (λ k. step_bound tree (opened_items cell) < item_bound tree (item.Cell k c.args.page)) c.in-Cell.ensures.key lower in
    met_takes params tree old c.requires.group c.requires.room c.requires.tallies cells shown c.args.entry pushed c.open.new.self (opened_met g c) now
    (bound_of tree c.args.entry c.args.entry.block opened (opened_items cell) (item.Cell key c.args.page) c.requires.item there)

pub returns-then-opened-ne0-clause-group : goal.returns-then-opened-ne0-clause-group
returns-then-opened-ne0-clause-group g c =
    let old = c.args.self.now in
    let cell = c.in-Cell.cell in
    let opened = c.in-Some.opened in
    let same = c.deref_mut.ensures.value in
    let share : Item → SharedItem = λ x. record { item = x; block = c.args.entry.block; walks = opened } in
    let few = opened_few cell in
    let shared : (x : Item) → IsShared (length old.tallies.items) (record { item = x; block = c.args.entry.block; walks = opened }) = λ x.
    elim (c.meet_cell.ensures.some opened c.in-Some.is) [
      | inl none ↦ absurd (c.if-opened-ne0.true none)
      | inr one ↦ record { walk = one.0; has = one.2; below = λ i has. subst (λ (l : List Tally). i < length l) same (c.meet_cell.ensures.inside opened i c.in-Some.is has) }
    ] in
    met_group c.args.params.now c.args.tree.now old c.requires.group c.requires.room c.requires.tallies (shared_by c.args.entry.block opened (opened_items cell)) c.open.new.self (opened_met g c)
    (All-map (λ s. IsItemInRange s.item) share (opened_items cell) (opened_small cell c.in-Cell.ensures.form))
    (All-map (IsShared (length old.tallies.items)) share (opened_items cell) (λ k d below. shared (get_or (opened_items cell) k d)))
    (omega (arith, length-map (opened_items cell) share))

pub returns-then-opened-ne0-clause-tallies : goal.returns-then-opened-ne0-clause-tallies
returns-then-opened-ne0-clause-tallies g c =
    met_tallies c.args.params.now c.args.tree.now c.args.self.now c.requires.group c.requires.room c.requires.tallies (shared_by c.args.entry.block c.in-Some.opened (opened_items c.in-Cell.cell)) c.open.new.self (opened_met g c)

pub returns-then-opened-ne0-clause-kept : goal.returns-then-opened-ne0-clause-kept
returns-then-opened-ne0-clause-kept g c = λ i d below. ((opened_took g c).ran i d below).kept

pub returns-then-opened-ne0-clause-took : goal.returns-then-opened-ne0-clause-took
returns-then-opened-ne0-clause-took g c = opened_took g c
