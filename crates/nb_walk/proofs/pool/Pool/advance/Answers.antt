use Rattle.std.proofs.Common.{rules, ◌≡◌, ◌≢◌, true, false, Err, Some, [], length, map, refl, sym, ap, ◌∙◌, subst, arith, vec_len}
use Rattle.std.specs.Prelude.{All, Contains, OnOk, IsOk}
use Rattle.nb_walk.specs.Group.{all_shared, group_walks, pooled_walks}
use Rattle.nb_walk.specs.Pool.{BlamesOne, all_needs}
use Rattle.nb_walk.specs.Running.{KeepsWalk, HasRun}
use Rattle.nb_walk.specs.Walk.{IsWalkOn}
use Rattle.nb_walk.proofs.Pools.{step_of, each_to, tallies_in, new_targets, new_range, new_within, new_bound, new_lower, new_tree, goes_at, bound_lower, went_at, group_in, group_unasked, at_rest, group_settled, same_walks, wanted, finished_all, none_wanted, some_waits, is_ended, all_back, on_err}
use Rattle.nb_model.specs.Leapfrog.{unescaped}
use Rattle.nb_walk.proofs.Courses.{empty_list}
use Rattle.nb_walk.proofs.Sharing.{walks_length}
use Rattle.nb_walk.proofs.pool.Pool.advance.Goals as goal

pub run-requires-clause-tallies : goal.run-requires-clause-tallies
run-requires-clause-tallies g c =
    let inside = c.self.inside in
    tallies_in c.args.params.now inside.asked inside.group c.args.self.now.walks (ap (λ v. v.walks) c.self.view_is) c.self.invariant.0.owns c.self.invariant.0.tallies c.requires.range

pub returns-in_err-run-clause-targets : goal.returns-in_err-run-clause-targets
returns-in_err-run-clause-targets g c =
    let params = c.args.params.now in
    let tree = c.args.tree.now in
    let inside = c.self.inside in
    let old = inside.group in
    let mid = c.run.new.self in
    let was = c.args.self.now.walks in
    let s = step_of inside.asked false old mid mid was (ap (λ v. v.walks) c.self.view_is) c.self.invariant.0.owns c.run.ensures.group.owns c.run.ensures.rooms.count refl in
    new_targets was (pooled_walks false mid) (group_walks old) (group_walks mid) s.was_is s.are_is s.long params tree (each_to (KeepsWalk params tree) old (group_walks mid) c.self.invariant.0.owns c.run.ensures.kept)

pub returns-in_err-run-clause-range : goal.returns-in_err-run-clause-range
returns-in_err-run-clause-range g c =
    let params = c.args.params.now in
    let tree = c.args.tree.now in
    let inside = c.self.inside in
    let old = inside.group in
    let mid = c.run.new.self in
    let was = c.args.self.now.walks in
    let s = step_of inside.asked false old mid mid was (ap (λ v. v.walks) c.self.view_is) c.self.invariant.0.owns c.run.ensures.group.owns c.run.ensures.rooms.count refl in
    new_range was (pooled_walks false mid) (group_walks old) (group_walks mid) s.was_is s.are_is s.long params tree (each_to (KeepsWalk params tree) old (group_walks mid) c.self.invariant.0.owns c.run.ensures.kept)

pub returns-in_err-run-clause-within : goal.returns-in_err-run-clause-within
returns-in_err-run-clause-within g c =
    let params = c.args.params.now in
    let tree = c.args.tree.now in
    let inside = c.self.inside in
    let old = inside.group in
    let mid = c.run.new.self in
    let was = c.args.self.now.walks in
    let s = step_of inside.asked false old mid mid was (ap (λ v. v.walks) c.self.view_is) c.self.invariant.0.owns c.run.ensures.group.owns c.run.ensures.rooms.count refl in
    new_within was (pooled_walks false mid) (group_walks old) (group_walks mid) s.was_is s.are_is s.long params tree (each_to (KeepsWalk params tree) old (group_walks mid) c.self.invariant.0.owns c.run.ensures.kept)

pub returns-in_err-run-clause-bound : goal.returns-in_err-run-clause-bound
returns-in_err-run-clause-bound g c =
    let params = c.args.params.now in
    let tree = c.args.tree.now in
    let inside = c.self.inside in
    let old = inside.group in
    let mid = c.run.new.self in
    let was = c.args.self.now.walks in
    let s = step_of inside.asked false old mid mid was (ap (λ v. v.walks) c.self.view_is) c.self.invariant.0.owns c.run.ensures.group.owns c.run.ensures.rooms.count refl in
    new_bound was (pooled_walks false mid) (group_walks old) (group_walks mid) s.was_is s.are_is s.long params tree (each_to (KeepsWalk params tree) old (group_walks mid) c.self.invariant.0.owns c.run.ensures.kept)

pub returns-in_err-run-clause-damaged : goal.returns-in_err-run-clause-damaged
returns-in_err-run-clause-damaged g c = λ name e.
    let handed_on : c.from_residual.result ≡ Err c.in_err-run.field-0.0 = search rules in
    let blamed : c.in_err-run.field-0.0 ≡ name = cc in
    let error : c.run.result ≡ Err name = c.in_err-run.was ∙ ap (λ n. Err n) blamed in
    subst (λ l. BlamesOne (g.L.Lender.cells c.args.lender.now) (g.L.Lender.bodies c.args.lender.now) c.args.tree.now l name) (sym (group_in false c.run.new.self)) (c.run.ensures.damaged name error)

pub returns-in_err-run-clause-unasked : goal.returns-in_err-run-clause-unasked
returns-in_err-run-clause-unasked g c = on_err c.from_residual.result (group_unasked false c.run.new.self)

pub returns-in_err-run-clause-sound : goal.returns-in_err-run-clause-sound
returns-in_err-run-clause-sound g c = λ files bodies of_tree shows on.
    let inside = c.self.inside in
    let old = inside.group in
    let is = ap (λ v. v.walks) c.self.view_is in
    let P = IsWalkOn c.args.params.now bodies c.args.tree.now (files c.args.tree.now.cells) in
    let all = subst (All P) (ap (λ l. map (λ w. w.walk) l) (sym is) ∙ group_in inside.asked old) (all_back P c.args.self.now.walks on) in
    let fine = c.run.ensures.sound files bodies of_tree shows all in
    absurd (let bad = subst IsOk c.in_err-run.was fine in cc)

pub returns-in_err-run-clause-tree : goal.returns-in_err-run-clause-tree
returns-in_err-run-clause-tree g c = λ files bodies of_tree shows on.
    let inside = c.self.inside in
    let old = inside.group in
    let is = ap (λ v. v.walks) c.self.view_is in
    let P = IsWalkOn c.args.params.now bodies c.args.tree.now (files c.args.tree.now.cells) in
    let all = subst (All P) (ap (λ l. map (λ w. w.walk) l) (sym is) ∙ group_in inside.asked old) (all_back P c.args.self.now.walks on) in
    let fine = c.run.ensures.sound files bodies of_tree shows all in
    absurd (let bad = subst IsOk c.in_err-run.was fine in cc)

pub returns-clause-targets : goal.returns-clause-targets
returns-clause-targets g c =
    let cells = g.L.Lender.cells c.args.lender.now in
    let bodies = g.L.Lender.bodies c.args.lender.now in
    let params = c.args.params.now in
    let tree = c.args.tree.now in
    let inside = c.self.inside in
    let old = inside.group in
    let mid = c.run.new.self in
    let new = c.ask.new.self in
    let was = c.args.self.now.walks in
    let own_mid = c.run.ensures.group.owns in
    let own_new = c.ask.ensures.group.owns in
    let count = ap (λ t. length t.items) c.ask.ensures.tallies in
    let same = same_walks mid new c.ask.ensures.tallies c.ask.ensures.items c.ask.ensures.waits (omega arith) c.ask.ensures.owns in
    let s = step_of inside.asked true old mid new was (ap (λ v. v.walks) c.self.view_is) c.self.invariant.0.owns own_mid c.run.ensures.rooms.count same in
    new_targets was (pooled_walks true new) (group_walks old) (group_walks mid) s.was_is s.are_is s.long params tree (each_to (KeepsWalk params tree) old (group_walks mid) c.self.invariant.0.owns c.run.ensures.kept)

pub returns-clause-range : goal.returns-clause-range
returns-clause-range g c =
    let cells = g.L.Lender.cells c.args.lender.now in
    let bodies = g.L.Lender.bodies c.args.lender.now in
    let params = c.args.params.now in
    let tree = c.args.tree.now in
    let inside = c.self.inside in
    let old = inside.group in
    let mid = c.run.new.self in
    let new = c.ask.new.self in
    let was = c.args.self.now.walks in
    let own_mid = c.run.ensures.group.owns in
    let own_new = c.ask.ensures.group.owns in
    let count = ap (λ t. length t.items) c.ask.ensures.tallies in
    let same = same_walks mid new c.ask.ensures.tallies c.ask.ensures.items c.ask.ensures.waits (omega arith) c.ask.ensures.owns in
    let s = step_of inside.asked true old mid new was (ap (λ v. v.walks) c.self.view_is) c.self.invariant.0.owns own_mid c.run.ensures.rooms.count same in
    new_range was (pooled_walks true new) (group_walks old) (group_walks mid) s.was_is s.are_is s.long params tree (each_to (KeepsWalk params tree) old (group_walks mid) c.self.invariant.0.owns c.run.ensures.kept)

pub returns-clause-within : goal.returns-clause-within
returns-clause-within g c =
    let cells = g.L.Lender.cells c.args.lender.now in
    let bodies = g.L.Lender.bodies c.args.lender.now in
    let params = c.args.params.now in
    let tree = c.args.tree.now in
    let inside = c.self.inside in
    let old = inside.group in
    let mid = c.run.new.self in
    let new = c.ask.new.self in
    let was = c.args.self.now.walks in
    let own_mid = c.run.ensures.group.owns in
    let own_new = c.ask.ensures.group.owns in
    let count = ap (λ t. length t.items) c.ask.ensures.tallies in
    let same = same_walks mid new c.ask.ensures.tallies c.ask.ensures.items c.ask.ensures.waits (omega arith) c.ask.ensures.owns in
    let s = step_of inside.asked true old mid new was (ap (λ v. v.walks) c.self.view_is) c.self.invariant.0.owns own_mid c.run.ensures.rooms.count same in
    new_within was (pooled_walks true new) (group_walks old) (group_walks mid) s.was_is s.are_is s.long params tree (each_to (KeepsWalk params tree) old (group_walks mid) c.self.invariant.0.owns c.run.ensures.kept)

pub returns-clause-bound : goal.returns-clause-bound
returns-clause-bound g c =
    let cells = g.L.Lender.cells c.args.lender.now in
    let bodies = g.L.Lender.bodies c.args.lender.now in
    let params = c.args.params.now in
    let tree = c.args.tree.now in
    let inside = c.self.inside in
    let old = inside.group in
    let mid = c.run.new.self in
    let new = c.ask.new.self in
    let was = c.args.self.now.walks in
    let own_mid = c.run.ensures.group.owns in
    let own_new = c.ask.ensures.group.owns in
    let count = ap (λ t. length t.items) c.ask.ensures.tallies in
    let same = same_walks mid new c.ask.ensures.tallies c.ask.ensures.items c.ask.ensures.waits (omega arith) c.ask.ensures.owns in
    let s = step_of inside.asked true old mid new was (ap (λ v. v.walks) c.self.view_is) c.self.invariant.0.owns own_mid c.run.ensures.rooms.count same in
    new_bound was (pooled_walks true new) (group_walks old) (group_walks mid) s.was_is s.are_is s.long params tree (each_to (KeepsWalk params tree) old (group_walks mid) c.self.invariant.0.owns c.run.ensures.kept)

pub returns-clause-settled : goal.returns-clause-settled
returns-clause-settled g c =
    let cells = g.L.Lender.cells c.args.lender.now in
    let bodies = g.L.Lender.bodies c.args.lender.now in
    let params = c.args.params.now in
    let tree = c.args.tree.now in
    let inside = c.self.inside in
    let old = inside.group in
    let mid = c.run.new.self in
    let new = c.ask.new.self in
    let was = c.args.self.now.walks in
    let own_mid = c.run.ensures.group.owns in
    let own_new = c.ask.ensures.group.owns in
    let count = ap (λ t. length t.items) c.ask.ensures.tallies in
    let same = same_walks mid new c.ask.ensures.tallies c.ask.ensures.items c.ask.ensures.waits (omega arith) c.ask.ensures.owns in
    let s = step_of inside.asked true old mid new was (ap (λ v. v.walks) c.self.view_is) c.self.invariant.0.owns own_mid c.run.ensures.rooms.count same in
    let rests = c.in_ok-run.ensures.rests in
    let tallies = c.ask.ensures.tallies in
    let needs = c.ask.ensures.needs c.in_ok-run.ensures.empty in
    let empty = ap (λ l. l.items) c.ask.ensures.items ∙ c.in_ok-run.ensures.empty in
    let still = at_rest cells bodies tree mid new (omega arith) c.ask.ensures.waits c.ask.ensures.owns own_mid rests in
    let settled = group_settled cells bodies tree new own_new empty needs still in
    settled

pub returns-clause-wants : goal.returns-clause-wants
returns-clause-wants g c =
    let cells = g.L.Lender.cells c.args.lender.now in
    let bodies = g.L.Lender.bodies c.args.lender.now in
    let params = c.args.params.now in
    let tree = c.args.tree.now in
    let inside = c.self.inside in
    let old = inside.group in
    let mid = c.run.new.self in
    let new = c.ask.new.self in
    let was = c.args.self.now.walks in
    let own_mid = c.run.ensures.group.owns in
    let own_new = c.ask.ensures.group.owns in
    let count = ap (λ t. length t.items) c.ask.ensures.tallies in
    let same = same_walks mid new c.ask.ensures.tallies c.ask.ensures.items c.ask.ensures.waits (omega arith) c.ask.ensures.owns in
    let s = step_of inside.asked true old mid new was (ap (λ v. v.walks) c.self.view_is) c.self.invariant.0.owns own_mid c.run.ensures.rooms.count same in
    let wants = wanted tree new c.gather.new.wants.items c.sort_names.new.names.items own_new c.sort_names.ensures.rising c.gather.ensures.names c.gather.ensures.pages c.sort_names.ensures.same in
    wants

pub returns-clause-answer : goal.returns-clause-answer
returns-clause-answer g c =
    let cells = g.L.Lender.cells c.args.lender.now in
    let bodies = g.L.Lender.bodies c.args.lender.now in
    let params = c.args.params.now in
    let tree = c.args.tree.now in
    let inside = c.self.inside in
    let old = inside.group in
    let mid = c.run.new.self in
    let new = c.ask.new.self in
    let was = c.args.self.now.walks in
    let own_mid = c.run.ensures.group.owns in
    let own_new = c.ask.ensures.group.owns in
    let count = ap (λ t. length t.items) c.ask.ensures.tallies in
    let same = same_walks mid new c.ask.ensures.tallies c.ask.ensures.items c.ask.ensures.waits (omega arith) c.ask.ensures.owns in
    let s = step_of inside.asked true old mid new was (ap (λ v. v.walks) c.self.view_is) c.self.invariant.0.owns own_mid c.run.ensures.rooms.count same in
    let rests = c.in_ok-run.ensures.rests in
    let tallies = c.ask.ensures.tallies in
    let needs = c.ask.ensures.needs c.in_ok-run.ensures.empty in
    let empty = ap (λ l. l.items) c.ask.ensures.items ∙ c.in_ok-run.ensures.empty in
    let still = at_rest cells bodies tree mid new (omega arith) c.ask.ensures.waits c.ask.ensures.owns own_mid rests in
    let settled = group_settled cells bodies tree new own_new empty needs still in
    let wants = wanted tree new c.gather.new.wants.items c.sort_names.new.names.items own_new c.sort_names.ensures.rising c.gather.ensures.names c.gather.ensures.pages c.sort_names.ensures.same in
    let names = c.sort_names.new.names.items in
    let end = is_ended names (vec_len c.sort_names.new.names) c.is_empty.result c.sort_names.new.names.ok.0 c.is_empty.ensures in (
      λ done. finished_all cells bodies tree (pooled_walks true new) names settled wants (end.0 done),
      λ done. end.1 (none_wanted cells bodies tree (pooled_walks true new) names settled wants done),
    )

pub returns-clause-waits : goal.returns-clause-waits
returns-clause-waits g c = λ some.
    let cells = g.L.Lender.cells c.args.lender.now in
    let bodies = g.L.Lender.bodies c.args.lender.now in
    let params = c.args.params.now in
    let tree = c.args.tree.now in
    let inside = c.self.inside in
    let old = inside.group in
    let mid = c.run.new.self in
    let new = c.ask.new.self in
    let was = c.args.self.now.walks in
    let own_mid = c.run.ensures.group.owns in
    let own_new = c.ask.ensures.group.owns in
    let count = ap (λ t. length t.items) c.ask.ensures.tallies in
    let same = same_walks mid new c.ask.ensures.tallies c.ask.ensures.items c.ask.ensures.waits (omega arith) c.ask.ensures.owns in
    let s = step_of inside.asked true old mid new was (ap (λ v. v.walks) c.self.view_is) c.self.invariant.0.owns own_mid c.run.ensures.rooms.count same in
    let wants = wanted tree new c.gather.new.wants.items c.sort_names.new.names.items own_new c.sort_names.ensures.rising c.gather.ensures.names c.gather.ensures.pages c.sort_names.ensures.same in
    let names = c.sort_names.new.names.items in
    let end = is_ended names (vec_len c.sort_names.new.names) c.is_empty.result c.sort_names.new.names.ok.0 c.is_empty.ensures in
    let is_false : c.is_empty.result ≡ false = cc in
    some_waits tree (pooled_walks true new) names wants (λ none. absurd (let yes_ = end.1 none in cc))

pub returns-clause-lower : goal.returns-clause-lower
returns-clause-lower g c = λ can.
    let cells = g.L.Lender.cells c.args.lender.now in
    let bodies = g.L.Lender.bodies c.args.lender.now in
    let params = c.args.params.now in
    let tree = c.args.tree.now in
    let inside = c.self.inside in
    let old = inside.group in
    let mid = c.run.new.self in
    let new = c.ask.new.self in
    let was = c.args.self.now.walks in
    let own_mid = c.run.ensures.group.owns in
    let own_new = c.ask.ensures.group.owns in
    let count = ap (λ t. length t.items) c.ask.ensures.tallies in
    let same = same_walks mid new c.ask.ensures.tallies c.ask.ensures.items c.ask.ensures.waits (omega arith) c.ask.ensures.owns in
    let s = step_of inside.asked true old mid new was (ap (λ v. v.walks) c.self.view_is) c.self.invariant.0.owns own_mid c.run.ensures.rooms.count same in
    let goes = c.in_ok-run.ensures.goes_on in
    let ended = c.run.ensures.finished in
    let long : length (group_walks mid) ≡ length old.tallies.items = omega (arith, walks_length 0 mid.tallies.items mid.owns.items (all_shared mid) own_mid, c.run.ensures.rooms.count) in
    let needs : length (group_walks old) ≡ length old.tallies.items = walks_length 0 old.tallies.items old.owns.items (all_shared old) c.self.invariant.0.owns in
    let needed = subst (λ l. Contains (all_needs l) (Some can.item)) (sym (ap (λ v. v.walks) c.self.view_is)) can.needed in
    let at = goes_at inside.asked old can.item c.self.invariant.0.owns c.self.invariant.7 needed in
    new_lower was (pooled_walks true new) (group_walks old) (group_walks mid) s.was_is s.are_is s.long params tree (each_to (KeepsWalk params tree) old (group_walks mid) c.self.invariant.0.owns c.run.ensures.kept) at.at (let inside_ = at.within in omega arith)
    (bound_lower cells bodies params tree old mid can.item c.self.invariant.0.owns long goes (λ none. subst (λ r. OnOk r (All (λ w. w.items ≡ []) (group_walks mid))) c.in_ok-run.was (ended none)) can.shown at)

pub returns-clause-tree : goal.returns-clause-tree
returns-clause-tree g c = λ files all of_tree shows on.
    let cells = g.L.Lender.cells c.args.lender.now in
    let bodies = g.L.Lender.bodies c.args.lender.now in
    let params = c.args.params.now in
    let tree = c.args.tree.now in
    let inside = c.self.inside in
    let old = inside.group in
    let mid = c.run.new.self in
    let new = c.ask.new.self in
    let was = c.args.self.now.walks in
    let own_mid = c.run.ensures.group.owns in
    let own_new = c.ask.ensures.group.owns in
    let count = ap (λ t. length t.items) c.ask.ensures.tallies in
    let same = same_walks mid new c.ask.ensures.tallies c.ask.ensures.items c.ask.ensures.waits (omega arith) c.ask.ensures.owns in
    let s = step_of inside.asked true old mid new was (ap (λ v. v.walks) c.self.view_is) c.self.invariant.0.owns own_mid c.run.ensures.rooms.count same in
    let goes = c.in_ok-run.ensures.goes_on in
    let ended = c.run.ensures.finished in
    let long : length (group_walks mid) ≡ length old.tallies.items = omega (arith, walks_length 0 mid.tallies.items mid.owns.items (all_shared mid) own_mid, c.run.ensures.rooms.count) in
    let needs : length (group_walks old) ≡ length old.tallies.items = walks_length 0 old.tallies.items old.owns.items (all_shared old) c.self.invariant.0.owns in
    new_tree was (pooled_walks true new) (group_walks old) (group_walks mid) s.was_is s.are_is s.long cells bodies params tree (each_to (HasRun cells bodies params tree 0) old (group_walks mid) c.self.invariant.0.owns c.in_ok-run.ensures.ran) files all of_tree shows on
    (λ some can.
    let needed = subst (λ l. Contains (all_needs l) (Some can.item)) (sym (ap (λ v. v.walks) c.self.view_is)) can.needed in
    let at = goes_at inside.asked old can.item c.self.invariant.0.owns c.self.invariant.7 needed in
    let there : tree.count ≢ 0 = λ e. some (empty_list (unescaped all) (sym of_tree.count ∙ e)) in
    (at.at, (let inside_ = at.within in omega arith), went_at cells bodies params tree old mid can.item c.self.invariant.0.owns (goes there) at can.shown))
