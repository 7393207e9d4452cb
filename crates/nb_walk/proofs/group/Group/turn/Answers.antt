use Rattle.std.proofs.Common.{arith, ◌≡◌, ◌++◌, ◌≤◌, length-append, [], ◌∙◌}
use Rattle.std.specs.Prelude.{IsOk, vec_capacity}
use Rattle.std.specs.Result.{is_ok}
use Rattle.std.proofs.lemmas.Bool.{cond-true}
use Rattle.std.proofs.lemmas.List.Sorted.{length_permutation}
use Rattle.nb_walk.specs.declared.group.Group.{Group}
use Rattle.nb_walk.proofs.Rounds.{turned_is_group, turned_items}
use Rattle.nb_walk.proofs.group.Group.turn.Goals as goal

pub returns-clause-group : goal.returns-clause-group
returns-clause-group c =
    let g = c.args.self.now in
    let from : Group = record { tallies = g.tallies; owns = g.owns; items = c.append.new.self; waits = c.append.new.other; room = g.room } in
    let reversed = c.reverse.new.self.items in
    let few = c.requires.group.few in
    let room = c.requires.group.items in
    let sizes = g.items.ok.0 in
    let waiting = c.reverse.new.self.ok.0 in
    let long = length-append g.items.items g.waits.items in
    let same = length_permutation g.waits.items reversed c.reverse.ensures.permutation in
    let fits : IsOk c.append.result = c.append.ensures.succeeds (omega arith) in
    let items : from.items.items ≡ g.items.items ++ reversed = c.append.ensures.items ∙ cond-true (is_ok c.append.result) (g.items.items ++ reversed) g.items.items fits in
    let none : from.waits.items ≡ [] = c.append.ensures.other_items ∙ cond-true (is_ok c.append.result) [] reversed fits in
    let capacity : vec_capacity g.waits ≤ vec_capacity from.waits = (let reverses = c.reverse.ensures.capacity in let keeps = c.append.ensures.other_capacity in omega arith) in
    turned_is_group g from reversed c.requires.group c.reverse.ensures.permutation items none c.append.ensures.capacity capacity

pub returns-clause-same : goal.returns-clause-same
returns-clause-same c =
    let g = c.args.self.now in
    let from : Group = record { tallies = g.tallies; owns = g.owns; items = c.append.new.self; waits = c.append.new.other; room = g.room } in
    let reversed = c.reverse.new.self.items in
    let few = c.requires.group.few in
    let room = c.requires.group.items in
    let sizes = g.items.ok.0 in
    let waiting = c.reverse.new.self.ok.0 in
    let long = length-append g.items.items g.waits.items in
    let same = length_permutation g.waits.items reversed c.reverse.ensures.permutation in
    let fits : IsOk c.append.result = c.append.ensures.succeeds (omega arith) in
    let items : from.items.items ≡ g.items.items ++ reversed = c.append.ensures.items ∙ cond-true (is_ok c.append.result) (g.items.items ++ reversed) g.items.items fits in
    let none : from.waits.items ≡ [] = c.append.ensures.other_items ∙ cond-true (is_ok c.append.result) [] reversed fits in
    turned_items g from reversed c.requires.group c.reverse.ensures.permutation items none
