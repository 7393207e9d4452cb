use Rattle.std.proofs.Common.{◌≡◌, ◌+◌, ◌-◌, ◌/◌, ◌%◌, ◌<◌, ◌≤◌, List, [], ◌∷◌, length, get_or, is_ok, Some, None, Ok, Err, arith, sym, ap, ◌∙◌, subst, inl, inr}
use Rattle.std.specs.Prelude.{◌≢◌, sum_by}
use Rattle.nb_record.specs.declared.sizes.TheConstants.{BODIES_PER_PAGE}
use Rattle.nb_host.specs.declared.page_name.PageName.{PageName}
use Rattle.nb_walk.specs.declared.item.Item.TheVariants as item
use Rattle.nb_walk.specs.declared.shared.SharedItem.{SharedItem}
use Rattle.nb_walk.specs.declared.tally.Tally.{Tally}
use Rattle.std.proofs.lemmas.List.Sums.{sum_by-cons}
use Rattle.nb_walk.specs.Group.{TakesShared}
use Rattle.nb_walk.specs.Items.{page_for}
use Rattle.nb_walk.specs.Left.{item_bound}
use Rattle.nb_walk.specs.Part.{TakesPart}
use Rattle.nb_walk.specs.Room.{IsItemInRange}
use Rattle.nb_walk.specs.Shared.{shared_by, IsShared}
use Rattle.nb_walk.specs.Shown.{shown_for}
use Rattle.nb_walk.specs.Taking.{page_terms}
use Rattle.nb_walk.specs.Terms.{term_mass}
use Rattle.nb_walk.proofs.Meetings.{no_tally}
use Rattle.nb_walk.proofs.SharedLooks.{IsLent, part_page, part_rest, has_all, has_record, too_many, no_bad_page, all_one}
use Rattle.nb_walk.proofs.Outcomes.{pushed_on, bound_of, bound_none, not_shown, was_shown, with_tallies, with_shared, free_waits, free_items, IsMet, met_same, met_by, met_push, met_tallies, met_group, group_wait, met_bodies, met_takes, back_kept, back_blames, waits_takes, waits_kept, no_damage_of, no_weight_of}
use Rattle.nb_walk.proofs.group.Group.take_bodies.Given.{Over}
use Rattle.nb_walk.proofs.group.Group.take_bodies.Goals.{then-index-here-via-then-index-here, then-index-here-via-else-index-here+then-not-meet_bodies}
use Rattle.nb_walk.proofs.group.Group.take_bodies.Goals as goal

-- ---- the page isn't shown

pub returns-in-None-clause-group : goal.returns-in-None-clause-group
returns-in-None-clause-group g c =
    let old = c.args.self.now in
    let all = pushed_on old.waits c.push.new.self c.args.entry (is_ok c.push.result) c.push.ensures.items c.push.ensures.succeeds (free_waits old c.requires.group c.requires.room) in
    group_wait c.args.params.now c.args.tree.now old c.requires.group c.requires.room c.requires.tallies c.args.entry c.push.new.self c.requires.small c.requires.shared all c.push.ensures.capacity

pub returns-in-None-clause-kept : goal.returns-in-None-clause-kept
returns-in-None-clause-kept g c =
    let old = c.args.self.now in
    let tree = c.args.tree.now in
    let cells = g.L.Lender.cells c.args.lender.now in
    let bodies = g.L.Lender.bodies c.args.lender.now in
    let page = c.args.from / BODIES_PER_PAGE in
    let unseen = subst (λ x. shown_for cells bodies tree x ≡ None) (sym c.requires.item) (not_shown page (bodies page) c.body_page.result c.body_page.ensures c.in-None.is) in
    let all = pushed_on old.waits c.push.new.self c.args.entry (is_ok c.push.result) c.push.ensures.items c.push.ensures.succeeds (free_waits old c.requires.group c.requires.room) in
    waits_kept c.args.params.now tree old c.requires.group c.requires.room c.requires.tallies cells bodies c.args.entry c.push.new.self all unseen

pub returns-in-None-clause-took : goal.returns-in-None-clause-took
returns-in-None-clause-took g c =
    let old = c.args.self.now in
    let tree = c.args.tree.now in
    let cells = g.L.Lender.cells c.args.lender.now in
    let bodies = g.L.Lender.bodies c.args.lender.now in
    let page = c.args.from / BODIES_PER_PAGE in
    let unseen = subst (λ x. shown_for cells bodies tree x ≡ None) (sym c.requires.item) (not_shown page (bodies page) c.body_page.result c.body_page.ensures c.in-None.is) in
    let all = pushed_on old.waits c.push.new.self c.args.entry (is_ok c.push.result) c.push.ensures.items c.push.ensures.succeeds (free_waits old c.requires.group c.requires.room) in
    waits_takes c.args.params.now tree old c.requires.group c.requires.room c.requires.tallies cells bodies c.args.entry c.push.new.self all unseen

-- ---- the page is bad

bad_back : (g : Over) (c : goal.After-push-in-Some-Err g) → IsMet c.args.params.now c.args.tree.now c.args.self.now (c.args.entry ∷ []) (with_shared c.args.self.now c.push-in-Some-Err.new.self)
bad_back g c =
    let old = c.args.self.now in
    let push = c.push-in-Some-Err in
    let same = met_same c.args.params.now c.args.tree.now old c.requires.tallies in
    let all = pushed_on old.items push.new.self c.args.entry (is_ok push.result) push.ensures.items push.ensures.succeeds (free_items c.args.params.now c.args.tree.now old c.requires.group c.requires.room old same) in
    met_push c.args.params.now c.args.tree.now old c.requires.group c.requires.room old (c.args.entry ∷ []) push.new.self same all push.ensures.capacity

pub returns-in-Some-Err-clause-group : goal.returns-in-Some-Err-clause-group
returns-in-Some-Err-clause-group g c =
    let old = c.args.self.now in
    met_group c.args.params.now c.args.tree.now old c.requires.group c.requires.room c.requires.tallies (c.args.entry ∷ []) (with_shared old c.push-in-Some-Err.new.self) (bad_back g c)
    (all_one (λ s. IsItemInRange s.item) c.args.entry c.requires.small) (all_one (IsShared (length old.tallies.items)) c.args.entry c.requires.shared) (omega arith)

pub returns-in-Some-Err-clause-kept : goal.returns-in-Some-Err-clause-kept
returns-in-Some-Err-clause-kept g c =
    let old = c.args.self.now in
    back_kept c.args.params.now c.args.tree.now old c.requires.group c.requires.room c.requires.tallies (g.L.Lender.cells c.args.lender.now) (g.L.Lender.bodies c.args.lender.now) c.args.entry
    (with_shared old c.push-in-Some-Err.new.self) (bad_back g c)

pub returns-in-Some-Err-clause-damaged : goal.returns-in-Some-Err-clause-damaged
returns-in-Some-Err-clause-damaged g c = λ name e.
    let old = c.args.self.now in
    let tree = c.args.tree.now in
    let cells = g.L.Lender.cells c.args.lender.now in
    let bodies = g.L.Lender.bodies c.args.lender.now in
    let page = c.args.from / BODIES_PER_PAGE in
    let same : ◌≡◌ {A = PageName} (record { file = tree.bodies; page = page }) name = cc in
    let shown = was_shown page (bodies page) c.body_page.result (Err c.in-Some-Err.field-0-0) c.body_page.ensures (c.in-Some-Err.is ∙ ap (λ r. Some r) c.in-Some-Err.field-0-is) in
    back_blames c.args.params.now tree old c.requires.group c.requires.room c.requires.tallies cells bodies c.args.entry (with_shared old c.push-in-Some-Err.new.self) name (bad_back g c) c.requires.shared
    (ap (page_for tree) c.requires.item ∙ same) (subst (λ x. shown_for cells bodies tree x ≢ None) (sym c.requires.item) shown)

pub returns-in-Some-Err-clause-sound : goal.returns-in-Some-Err-clause-sound
returns-in-Some-Err-clause-sound g c = λ files bodies of_tree shows on.
    let old = c.args.self.now in
    let tree = c.args.tree.now in
    let cells = g.L.Lender.cells c.args.lender.now in
    let shown = g.L.Lender.bodies c.args.lender.now in
    absurd (no_damage_of c.args.params.now tree old c.requires.group c.requires.room c.requires.tallies cells shown c.args.entry bodies (files tree.cells) on (item.Bodies c.args.from c.args.count) c.requires.item c.requires.shared
    (no_bad_page cells shown c.args.params.now tree c.args.from c.args.count c.body_page.result c.in-Some-Err.field-0-0 c.body_page.ensures (c.in-Some-Err.is ∙ ap (λ r. Some r) c.in-Some-Err.field-0-is) files bodies of_tree shows))

-- ---- the bodies that stand on the page were taken, and more stand behind them

more_met : (g : Over) (c : goal.After-push-then-count-here g) → IsMet c.args.params.now c.args.tree.now c.args.self.now
    (shared_by c.args.entry.block c.args.entry.walks (item.Bodies (c.args.from + c.min-here.result) (c.args.count - c.min-here.result) ∷ []))
    (with_shared (with_tallies c.args.self.now c.meet_bodies.new.tallies) c.push-then-count-here.new.self)
more_met g c =
    let old = c.args.self.now in
    let params = c.args.params.now in
    let tree = c.args.tree.now in
    let push = c.push-then-count-here in
    let xs = c.meet_bodies.new.tallies in
    let one : SharedItem = record { item = item.Bodies (c.args.from + c.min-here.result) (c.args.count - c.min-here.result); block = c.args.entry.block; walks = c.args.entry.walks } in
    let met = met_by params tree old c.deref_mut.result.now xs c.deref_mut.ensures.value c.meet_bodies.ensures.count c.meet_bodies.ensures.kept in
    let all = pushed_on old.items push.new.self one (is_ok push.result) push.ensures.items push.ensures.succeeds (free_items params tree old c.requires.group c.requires.room (with_tallies old xs) met) in
    met_push params tree old c.requires.group c.requires.room (with_tallies old xs) (one ∷ []) push.new.self met all push.ensures.capacity

more_took : (g : Over) (c : goal.After-push-then-count-here g) → TakesShared (g.L.Lender.cells c.args.lender.now) (g.L.Lender.bodies c.args.lender.now) c.args.params.now c.args.tree.now c.args.self.now c.args.entry
    (with_shared (with_tallies c.args.self.now c.meet_bodies.new.tallies) c.push-then-count-here.new.self)
more_took g c =
    let old = c.args.self.now in
    let params = c.args.params.now in
    let tree = c.args.tree.now in
    let cells = g.L.Lender.cells c.args.lender.now in
    let shown = g.L.Lender.bodies c.args.lender.now in
    let from = c.args.from in
    let count = c.args.count in
    let here = c.min-here.result in
    let index = from % BODIES_PER_PAGE in
    let bytes = c.in-Some-Ok.page in
    let xs = c.meet_bodies.new.tallies in
    let rest = item.Bodies (from + here) (count - here) in
    let small = c.min-here.ensures in
    let pages = c.count.ensures.value in
    let on = c.if-index-here.false in
    let more = c.if-count-here.true in
    let one = sum_by-cons (item_bound tree) rest [] in
    let lent : IsLent cells shown params tree from bytes = record { answer = c.body_page.result; is = c.body_page.ensures; some = c.in-Some-Ok.is ∙ ap (λ r. Some r) c.in-Some-Ok.field-0-is } in
    let each = met_bodies params tree old c.requires.group c.requires.room c.requires.tallies cells shown c.args.entry (page_terms bytes index (index + here)) (rest ∷ []) c.deref_mut.result.now xs c.deref_mut.ensures.value
    c.meet_bodies.ensures.count c.meet_bodies.ensures.kept (c.meet_bodies.ensures.added c.if-not-meet_bodies.false)
    (λ a b kept added. subst (λ x. TakesPart cells shown params tree 1 (x ∷ []) (rest ∷ []) a b) (sym c.requires.item)
    (part_page cells shown params tree from count here bytes lent (omega arith) (omega arith) a b (omega arith) more (omega arith) (omega arith) kept added)) in
    met_takes params tree old c.requires.group c.requires.room c.requires.tallies cells shown c.args.entry (shared_by c.args.entry.block c.args.entry.walks (rest ∷ [])) (with_shared (with_tallies old xs) c.push-then-count-here.new.self)
    (more_met g c) each (bound_of tree c.args.entry c.args.entry.block c.args.entry.walks (rest ∷ []) (item.Bodies from count) c.requires.item (omega arith))

pub returns-then-count-here-clause-group : goal.returns-then-count-here-clause-group
returns-then-count-here-clause-group g c =
    let old = c.args.self.now in
    let rest : SharedItem = record { item = item.Bodies (c.args.from + c.min-here.result) (c.args.count - c.min-here.result); block = c.args.entry.block; walks = c.args.entry.walks } in
    let shared = c.requires.shared in
    let own = subst IsItemInRange c.requires.item c.requires.small in
    let low = own.0 in
    let high = own.1 in
    let more = c.if-count-here.true in
    met_group c.args.params.now c.args.tree.now old c.requires.group c.requires.room c.requires.tallies (rest ∷ []) (with_shared (with_tallies old c.meet_bodies.new.tallies) c.push-then-count-here.new.self) (more_met g c)
    (all_one (λ s. IsItemInRange s.item) rest (omega arith, omega arith)) (all_one (IsShared (length old.tallies.items)) rest (record { walk = shared.walk; has = shared.has; below = shared.below })) (omega arith)

pub returns-then-count-here-clause-kept : goal.returns-then-count-here-clause-kept
returns-then-count-here-clause-kept g c = λ i d below. ((more_took g c).ran i d below).kept

pub returns-then-count-here-clause-took : goal.returns-then-count-here-clause-took
returns-then-count-here-clause-took g c = more_took g c

-- ---- all of them were

all_took : (g : Over) (c : goal.Else-count-here g) → TakesShared (g.L.Lender.cells c.args.lender.now) (g.L.Lender.bodies c.args.lender.now) c.args.params.now c.args.tree.now c.args.self.now c.args.entry
    (with_tallies c.args.self.now c.meet_bodies.new.tallies)
all_took g c =
    let old = c.args.self.now in
    let params = c.args.params.now in
    let tree = c.args.tree.now in
    let cells = g.L.Lender.cells c.args.lender.now in
    let shown = g.L.Lender.bodies c.args.lender.now in
    let from = c.args.from in
    let count = c.args.count in
    let here = c.min-here.result in
    let index = from % BODIES_PER_PAGE in
    let bytes = c.in-Some-Ok.page in
    let xs = c.meet_bodies.new.tallies in
    let small = c.min-here.ensures in
    let pages = c.count.ensures.value in
    let on = c.if-index-here.false in
    let less = c.if-count-here.false in
    let lent : IsLent cells shown params tree from bytes = record { answer = c.body_page.result; is = c.body_page.ensures; some = c.in-Some-Ok.is ∙ ap (λ r. Some r) c.in-Some-Ok.field-0-is } in
    let met = met_by params tree old c.deref_mut.result.now xs c.deref_mut.ensures.value c.meet_bodies.ensures.count c.meet_bodies.ensures.kept in
    let each = met_bodies params tree old c.requires.group c.requires.room c.requires.tallies cells shown c.args.entry (page_terms bytes index (index + here)) [] c.deref_mut.result.now xs c.deref_mut.ensures.value
    c.meet_bodies.ensures.count c.meet_bodies.ensures.kept (c.meet_bodies.ensures.added c.if-not-meet_bodies.false)
    (λ a b kept added. subst (λ x. TakesPart cells shown params tree 1 (x ∷ []) [] a b) (sym c.requires.item)
    (part_rest cells shown params tree from count here bytes lent (omega arith) (omega arith) a b (omega arith) less kept added)) in
    met_takes params tree old c.requires.group c.requires.room c.requires.tallies cells shown c.args.entry [] (with_tallies old xs) met each (bound_none tree c.args.entry)

pub returns-else-count-here-clause-kept : goal.returns-else-count-here-clause-kept
returns-else-count-here-clause-kept g c = λ i d below. ((all_took g c).ran i d below).kept

pub returns-else-count-here-clause-took : goal.returns-else-count-here-clause-took
returns-else-count-here-clause-took g c = all_took g c

-- ---- the page lacks the bodies, or one would take too much

refused_met : (g : Over) (c : goal.After-push-then-index-here g) → IsMet c.args.params.now c.args.tree.now c.args.self.now [] c.then-index-here.self
refused_met g c =
    let old = c.args.self.now in
    let params = c.args.params.now in
    let tree = c.args.tree.now in
    elim c.then-index-here.branch [
      | then-index-here-via-then-index-here w ↦ subst (IsMet params tree old []) (sym w.self-is) (met_same params tree old c.requires.tallies)
      | then-index-here-via-else-index-here+then-not-meet_bodies w ↦
          subst (IsMet params tree old []) (sym w.self-is) (met_by params tree old w.deref_mut.result.now w.meet_bodies.new.tallies w.deref_mut.ensures.value w.meet_bodies.ensures.count w.meet_bodies.ensures.kept)
    ]

refused_back : (g : Over) (c : goal.After-push-then-index-here g) → IsMet c.args.params.now c.args.tree.now c.args.self.now (c.args.entry ∷ []) (with_shared c.then-index-here.self c.push-then-index-here.new.self)
refused_back g c =
    let old = c.args.self.now in
    let mid = c.then-index-here.self in
    let push = c.push-then-index-here in
    let met = refused_met g c in
    let all = pushed_on mid.items push.new.self c.args.entry (is_ok push.result) push.ensures.items push.ensures.succeeds (free_items c.args.params.now c.args.tree.now old c.requires.group c.requires.room mid met) in
    met_push c.args.params.now c.args.tree.now old c.requires.group c.requires.room mid (c.args.entry ∷ []) push.new.self met all push.ensures.capacity

pub returns-then-index-here-clause-group : goal.returns-then-index-here-clause-group
returns-then-index-here-clause-group g c =
    let old = c.args.self.now in
    met_group c.args.params.now c.args.tree.now old c.requires.group c.requires.room c.requires.tallies (c.args.entry ∷ []) (with_shared c.then-index-here.self c.push-then-index-here.new.self) (refused_back g c)
    (all_one (λ s. IsItemInRange s.item) c.args.entry c.requires.small) (all_one (IsShared (length old.tallies.items)) c.args.entry c.requires.shared) (omega arith)

pub returns-then-index-here-clause-tallies : goal.returns-then-index-here-clause-tallies
returns-then-index-here-clause-tallies g c =
    met_tallies c.args.params.now c.args.tree.now c.args.self.now c.requires.group c.requires.room c.requires.tallies [] c.then-index-here.self (refused_met g c)

pub returns-then-index-here-clause-kept : goal.returns-then-index-here-clause-kept
returns-then-index-here-clause-kept g c =
    back_kept c.args.params.now c.args.tree.now c.args.self.now c.requires.group c.requires.room c.requires.tallies (g.L.Lender.cells c.args.lender.now) (g.L.Lender.bodies c.args.lender.now) c.args.entry
    (with_shared c.then-index-here.self c.push-then-index-here.new.self) (refused_back g c)

pub returns-then-index-here-clause-damaged : goal.returns-then-index-here-clause-damaged
returns-then-index-here-clause-damaged g c = λ name e.
    let tree = c.args.tree.now in
    let cells = g.L.Lender.cells c.args.lender.now in
    let bodies = g.L.Lender.bodies c.args.lender.now in
    let page = c.args.from / BODIES_PER_PAGE in
    let same : ◌≡◌ {A = PageName} (record { file = tree.bodies; page = page }) name = cc in
    let shown = was_shown page (bodies page) c.body_page.result (Ok c.in-Some-Ok.page) c.body_page.ensures (c.in-Some-Ok.is ∙ ap (λ r. Some r) c.in-Some-Ok.field-0-is) in
    back_blames c.args.params.now tree c.args.self.now c.requires.group c.requires.room c.requires.tallies cells bodies c.args.entry (with_shared c.then-index-here.self c.push-then-index-here.new.self) name (refused_back g c) c.requires.shared
    (ap (page_for tree) c.requires.item ∙ same) (subst (λ x. shown_for cells bodies tree x ≢ None) (sym c.requires.item) shown)

pub returns-then-index-here-clause-sound : goal.returns-then-index-here-clause-sound
returns-then-index-here-clause-sound g c = λ files bodies of_tree shows on.
    let old = c.args.self.now in
    let params = c.args.params.now in
    let tree = c.args.tree.now in
    let cells = g.L.Lender.cells c.args.lender.now in
    let shown = g.L.Lender.bodies c.args.lender.now in
    let from = c.args.from in
    let count = c.args.count in
    let here = c.min-here.result in
    let index = from % BODIES_PER_PAGE in
    let bytes = c.in-Some-Ok.page in
    let x = item.Bodies from count in
    let small = c.min-here.ensures in
    let own = subst IsItemInRange c.requires.item c.requires.small in
    let low = own.0 in
    let pages = c.count.ensures.value in
    let lent : IsLent cells shown params tree from bytes = record { answer = c.body_page.result; is = c.body_page.ensures; some = c.in-Some-Ok.is ∙ ap (λ r. Some r) c.in-Some-Ok.field-0-is } in
    let few : here ≤ count = omega arith in
    let on_page : index + here ≤ BODIES_PER_PAGE = omega arith in
    elim c.then-index-here.branch [
      | then-index-here-via-then-index-here w ↦
          let more = w.if-index-here.true in
          absurd (no_damage_of params tree old c.requires.group c.requires.room c.requires.tallies cells shown c.args.entry bodies (files tree.cells) on x c.requires.item c.requires.shared
          (has_all cells shown params tree from count here bytes lent few on_page (omega arith) (omega arith) files bodies of_tree shows))
      | then-index-here-via-else-index-here+then-not-meet_bodies w ↦
          let less = w.if-index-here.false in
          let same = w.deref_mut.ensures.value in
          elim (w.meet_bodies.ensures.refused w.if-not-meet_bodies.true) [
            | inl bad ↦
                absurd (no_damage_of params tree old c.requires.group c.requires.room c.requires.tallies cells shown c.args.entry bodies (files tree.cells) on x c.requires.item c.requires.shared
                (has_record cells shown params tree from count here bytes lent few on_page bad.0 bad.1 bad.2 bad.3 files bodies of_tree shows))
            | inr heavy ↦
                let i = heavy.0 in
                let a = get_or old.tallies.items i no_tally in
                let weighs = subst (λ (l : List Tally). tree.mass < (get_or l i no_tally).taken + sum_by term_mass (page_terms bytes index (index + here))) same (heavy.3 no_tally) in
                absurd (no_weight_of params tree old c.requires.group c.requires.room c.requires.tallies cells shown c.args.entry bodies (files tree.cells) on x c.requires.item i
                (subst (λ (l : List Tally). i < length l) same heavy.1) heavy.2
                (too_many cells shown params tree from count here bytes lent few on_page a (omega arith) weighs files bodies of_tree shows))
          ]
    ]
