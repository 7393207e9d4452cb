use Rattle.std.proofs.Common.{arith, rules, ◌≡◌, ◌++◌, ◌∷◌, [], None, length, sym, ap, refl, ◌∙◌, subst, inl, inr}
use Rattle.std.specs.Prelude.{IsOk, vec_len, vec_capacity}
use Rattle.std.specs.Result.{is_ok}
use Rattle.std.proofs.lemmas.Bool.{cond-true}
use Rattle.nb_walk.specs.declared.group.Group.{Group}
use Rattle.nb_walk.specs.declared.group.Own.{Own}
use Rattle.nb_walk.specs.Group.{own_items, walk_of, IsOwnTally}
use Rattle.nb_walk.specs.Items.{root_items}
use Rattle.nb_walk.proofs.Joins.{HasRoot, begun_group, begun_walks}
use Rattle.nb_walk.proofs.group.Group.begin.Goals.{then-not-join_root, else-not-join_root}
use Rattle.nb_walk.proofs.group.Group.begin.Goals as goal

pub returns-clause-group : goal.returns-clause-group
returns-clause-group c =
    let walk = c.len-walk.result in
    let old = c.args.self.now in
    let mid = c.join_root.new.self in
    let from : Group = record { tallies = c.push-2.new.self; owns = c.push-3.new.self; items = mid.items; waits = mid.waits; room = mid.room } in
    let o : Own = record { items = c.if-not-join_root.items; need = None } in
    let joins = c.join_root.ensures in
    let count : walk ≡ length old.tallies.items = (let size = old.tallies.ok.0 in c.len-walk.ensures ∙ size) in
    let t1 : vec_len mid.tallies ≡ vec_len old.tallies = ap (λ v. vec_len v) joins.tallies in
    let t2 : vec_capacity mid.tallies ≡ vec_capacity old.tallies = ap (λ v. vec_capacity v) joins.tallies in
    let o1 : vec_len mid.owns ≡ vec_len old.owns = ap (λ v. vec_len v) joins.owns in
    let o2 : vec_capacity mid.owns ≡ vec_capacity old.owns = ap (λ v. vec_capacity v) joins.owns in
    let t3 = old.tallies.ok.0 in
    let o3 = old.owns.ok.0 in
    let room = c.requires.tallies in
    let room_owns = c.requires.owns in
    let fits : IsOk c.push-2.result = c.push-2.ensures.succeeds (omega arith) in
    let fits_own : IsOk c.push-3.result = c.push-3.ensures.succeeds (omega arith) in
    let tallies : from.tallies.items ≡ mid.tallies.items ++ c.start.result ∷ [] = c.push-2.ensures.items ∙ cond-true (is_ok c.push-2.result) (mid.tallies.items ++ c.start.result ∷ []) mid.tallies.items fits in
    let owns : from.owns.items ≡ mid.owns.items ++ o ∷ [] = c.push-3.ensures.items ∙ cond-true (is_ok c.push-3.result) (mid.owns.items ++ o ∷ []) mid.owns.items fits_own in
    let root : HasRoot c.join_root.result (own_items o) = elim c.if-not-join_root.branch [
      | then-not-join_root w ↦ inl (search rules, ap (λ v. v.items) w.items-is ∙ w.push.ensures.items ∙ ap (λ l. l ++ w.default.result ∷ []) c.new-items.ensures ∙ ap (λ x. x ∷ []) w.default.ensures)
      | else-not-join_root w ↦ inr (search rules, ap (λ v. v.items) w.items-is ∙ c.new-items.ensures)
    ] in
    begun_group walk c.join_root.result old mid from c.start.result o c.requires.group count joins tallies owns root
    (subst IsOwnTally (sym c.start.ensures) (record { target = c.requires.target; key = refl }))

pub returns-clause-walks : goal.returns-clause-walks
returns-clause-walks c =
    let walk = c.len-walk.result in
    let old = c.args.self.now in
    let mid = c.join_root.new.self in
    let from : Group = record { tallies = c.push-2.new.self; owns = c.push-3.new.self; items = mid.items; waits = mid.waits; room = mid.room } in
    let o : Own = record { items = c.if-not-join_root.items; need = None } in
    let joins = c.join_root.ensures in
    let count : walk ≡ length old.tallies.items = (let size = old.tallies.ok.0 in c.len-walk.ensures ∙ size) in
    let t1 : vec_len mid.tallies ≡ vec_len old.tallies = ap (λ v. vec_len v) joins.tallies in
    let t2 : vec_capacity mid.tallies ≡ vec_capacity old.tallies = ap (λ v. vec_capacity v) joins.tallies in
    let o1 : vec_len mid.owns ≡ vec_len old.owns = ap (λ v. vec_len v) joins.owns in
    let o2 : vec_capacity mid.owns ≡ vec_capacity old.owns = ap (λ v. vec_capacity v) joins.owns in
    let t3 = old.tallies.ok.0 in
    let o3 = old.owns.ok.0 in
    let room = c.requires.tallies in
    let room_owns = c.requires.owns in
    let fits : IsOk c.push-2.result = c.push-2.ensures.succeeds (omega arith) in
    let fits_own : IsOk c.push-3.result = c.push-3.ensures.succeeds (omega arith) in
    let tallies : from.tallies.items ≡ mid.tallies.items ++ c.start.result ∷ [] = c.push-2.ensures.items ∙ cond-true (is_ok c.push-2.result) (mid.tallies.items ++ c.start.result ∷ []) mid.tallies.items fits in
    let owns : from.owns.items ≡ mid.owns.items ++ o ∷ [] = c.push-3.ensures.items ∙ cond-true (is_ok c.push-3.result) (mid.owns.items ++ o ∷ []) mid.owns.items fits_own in
    let root : HasRoot c.join_root.result (own_items o) = elim c.if-not-join_root.branch [
      | then-not-join_root w ↦ inl (search rules, ap (λ v. v.items) w.items-is ∙ w.push.ensures.items ∙ ap (λ l. l ++ w.default.result ∷ []) c.new-items.ensures ∙ ap (λ x. x ∷ []) w.default.ensures)
      | else-not-join_root w ↦ inr (search rules, ap (λ v. v.items) w.items-is ∙ c.new-items.ensures)
    ] in
    begun_walks walk c.join_root.result old mid from c.start.result o c.requires.group count joins tallies owns root c.args.target
    (ap (λ a. walk_of a root_items) c.start.ensures)
