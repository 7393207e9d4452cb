use Rattle.std.proofs.Common.{rules, ◌≡◌, ◌<◌, ◌≤◌, Err, length, get_or, get_or-set_same, sym, ap, ◌∙◌, refl, subst, arith}
use Rattle.std.specs.Prelude.{IsOk, OnOk}
use Rattle.std.specs.Vec.{with_item}
use Rattle.nb_walk.specs.declared.group.Group.{Group}
use Rattle.nb_walk.specs.declared.group.Own.{Own}
use Rattle.nb_walk.specs.Group.{own_items}
use Rattle.nb_walk.specs.declared.tally.Tally.{Tally}
use Rattle.nb_walk.specs.Left.{step_bound}
use Rattle.nb_walk.specs.Part.{KeepsTally, TakesPart, OnPart}
use Rattle.nb_walk.specs.Room.{HasRoom}
use Rattle.nb_walk.specs.Shown.{BlamesNext}
use Rattle.nb_walk.proofs.OwnRuns.{KeepsOwns, RanOwn, keeps_set, keeps_walks, runs_more, runs_own, own_blames, own_sound, no_less}
use Rattle.nb_walk.proofs.Runs.{any_default}
use Rattle.nb_walk.proofs.group.Group.run_alone.Goals as goal

pub run_own-requires-clause-room : goal.run_own-requires-clause-room
run_own-requires-clause-room g c =
    let keeps = c.loop-i.invariant.keeps in
    let owns = keeps.group.owns in
    let count = keeps.rooms.count in
    let o = c.index_mut.result.now in
    subst (λ p. HasRoom (own_items p)) (sym c.index_mut.ensures.value) (keeps.group.rooms c.loop-i.i _ (omega arith))

pub loop-i-preserved : goal.loop-i-preserved
loop-i-preserved g c =
    let cells = g.L.Lender.cells c.args.lender.now in
    let bodies = g.L.Lender.bodies c.args.lender.now in
    let params = c.args.params.now in
    let tree = c.args.tree.now in
    let start = c.args.self.now in
    let now = c.loop-i.self in
    let i = c.loop-i.i in
    let b = c.run_own.new.tally in
    let o : Own = record { items = c.run_own.new.items; need = c.index_mut.result.now.need } in
    let new : Group = record { tallies = with_item now.tallies i b; owns = with_item now.owns i o; items = now.items; waits = now.waits; room = now.room } in
    let runs = c.loop-i.invariant in
    let keeps = runs.keeps in
    let owns = keeps.group.owns in
    let count = keeps.rooms.count in
    let within : i < length now.tallies.items = omega arith in
    let inside : i < length now.owns.items = omega arith in
    let tally_is : (a : Tally) → c.index_mut-in-loop-i.result.now ≡ get_or now.tallies.items i a = λ a. c.index_mut-in-loop-i.ensures.value ∙ any_default now.tallies.items i _ a within in
    let own_is : (e : Own) → c.index_mut.result.now ≡ get_or now.owns.items i e = λ e. c.index_mut.ensures.value ∙ any_default now.owns.items i _ e inside in
    let kept : (a : Tally) → KeepsTally params tree.mass (get_or now.tallies.items i a) b = λ a. subst (λ t. KeepsTally params tree.mass t b) (tally_is a) c.run_own.ensures.kept in
    let bound : (e : Own) → step_bound tree (own_items o) ≤ step_bound tree (own_items (get_or now.owns.items i e)) = λ e. subst (λ p. step_bound tree (own_items o) ≤ step_bound tree (own_items p)) (own_is e) c.run_own.ensures.bound in
    let ran : (a : Tally) (e : Own) → RanOwn cells bodies params tree (own_items (get_or now.owns.items i e)) (own_items o) (get_or now.tallies.items i a) b = λ a e.
    subst (λ p. RanOwn cells bodies params tree (own_items p) (own_items o) (get_or now.tallies.items i a) b) (own_is e)
    (subst (λ t. RanOwn cells bodies params tree (own_items c.index_mut.result.now) (own_items o) t b) (tally_is a)
    (record {
      took = c.in_ok-run_own.ensures.took;
      rests = c.in_ok-run_own.ensures.rests;
      looked = λ can. subst (λ r. OnOk r (TakesPart cells bodies params tree 1 (own_items c.index_mut.result.now) (own_items o) c.index_mut-in-loop-i.result.now b)) c.in_ok-run_own.was (c.run_own.ensures.looked can);
      stays = c.run_own.ensures.stays;
    })) in
    runs_more cells bodies params tree start now new i b o within (record { tallies = refl; owns = refl; items = refl; waits = refl; room = refl; tallies_room = no_less _ _ refl; owns_room = no_less _ _ refl }) runs c.run_own.ensures.room (λ a e. (kept a, bound e, ran a e))

pub returns-in_err-run_own-clause-group : goal.returns-in_err-run_own-clause-group
returns-in_err-run_own-clause-group g c =
    let cells = g.L.Lender.cells c.args.lender.now in
    let bodies = g.L.Lender.bodies c.args.lender.now in
    let params = c.args.params.now in
    let tree = c.args.tree.now in
    let start = c.args.self.now in
    let now = c.loop-i.self in
    let i = c.loop-i.i in
    let b = c.run_own.new.tally in
    let o : Own = record { items = c.run_own.new.items; need = c.index_mut.result.now.need } in
    let new : Group = record { tallies = with_item now.tallies i b; owns = with_item now.owns i o; items = now.items; waits = now.waits; room = now.room } in
    let runs = c.loop-i.invariant in
    let keeps = runs.keeps in
    let owns = keeps.group.owns in
    let count = keeps.rooms.count in
    let within : i < length now.tallies.items = omega arith in
    let inside : i < length now.owns.items = omega arith in
    let tally_is : (a : Tally) → c.index_mut-in-loop-i.result.now ≡ get_or now.tallies.items i a = λ a. c.index_mut-in-loop-i.ensures.value ∙ any_default now.tallies.items i _ a within in
    let own_is : (e : Own) → c.index_mut.result.now ≡ get_or now.owns.items i e = λ e. c.index_mut.ensures.value ∙ any_default now.owns.items i _ e inside in
    let kept : (a : Tally) → KeepsTally params tree.mass (get_or now.tallies.items i a) b = λ a. subst (λ t. KeepsTally params tree.mass t b) (tally_is a) c.run_own.ensures.kept in
    let bound : (e : Own) → step_bound tree (own_items o) ≤ step_bound tree (own_items (get_or now.owns.items i e)) = λ e. subst (λ p. step_bound tree (own_items o) ≤ step_bound tree (own_items p)) (own_is e) c.run_own.ensures.bound in
    let all : KeepsOwns params tree start new = keeps_set params tree start now new i b o within (record { tallies = refl; owns = refl; items = refl; waits = refl; room = refl; tallies_room = no_less _ _ refl; owns_room = no_less _ _ refl }) keeps c.run_own.ensures.room kept bound in
    all.group

pub returns-in_err-run_own-clause-tallies : goal.returns-in_err-run_own-clause-tallies
returns-in_err-run_own-clause-tallies g c =
    let cells = g.L.Lender.cells c.args.lender.now in
    let bodies = g.L.Lender.bodies c.args.lender.now in
    let params = c.args.params.now in
    let tree = c.args.tree.now in
    let start = c.args.self.now in
    let now = c.loop-i.self in
    let i = c.loop-i.i in
    let b = c.run_own.new.tally in
    let o : Own = record { items = c.run_own.new.items; need = c.index_mut.result.now.need } in
    let new : Group = record { tallies = with_item now.tallies i b; owns = with_item now.owns i o; items = now.items; waits = now.waits; room = now.room } in
    let runs = c.loop-i.invariant in
    let keeps = runs.keeps in
    let owns = keeps.group.owns in
    let count = keeps.rooms.count in
    let within : i < length now.tallies.items = omega arith in
    let inside : i < length now.owns.items = omega arith in
    let tally_is : (a : Tally) → c.index_mut-in-loop-i.result.now ≡ get_or now.tallies.items i a = λ a. c.index_mut-in-loop-i.ensures.value ∙ any_default now.tallies.items i _ a within in
    let own_is : (e : Own) → c.index_mut.result.now ≡ get_or now.owns.items i e = λ e. c.index_mut.ensures.value ∙ any_default now.owns.items i _ e inside in
    let kept : (a : Tally) → KeepsTally params tree.mass (get_or now.tallies.items i a) b = λ a. subst (λ t. KeepsTally params tree.mass t b) (tally_is a) c.run_own.ensures.kept in
    let bound : (e : Own) → step_bound tree (own_items o) ≤ step_bound tree (own_items (get_or now.owns.items i e)) = λ e. subst (λ p. step_bound tree (own_items o) ≤ step_bound tree (own_items p)) (own_is e) c.run_own.ensures.bound in
    let all : KeepsOwns params tree start new = keeps_set params tree start now new i b o within (record { tallies = refl; owns = refl; items = refl; waits = refl; room = refl; tallies_room = no_less _ _ refl; owns_room = no_less _ _ refl }) keeps c.run_own.ensures.room kept bound in
    all.tallies

pub returns-in_err-run_own-clause-kept : goal.returns-in_err-run_own-clause-kept
returns-in_err-run_own-clause-kept g c =
    let cells = g.L.Lender.cells c.args.lender.now in
    let bodies = g.L.Lender.bodies c.args.lender.now in
    let params = c.args.params.now in
    let tree = c.args.tree.now in
    let start = c.args.self.now in
    let now = c.loop-i.self in
    let i = c.loop-i.i in
    let b = c.run_own.new.tally in
    let o : Own = record { items = c.run_own.new.items; need = c.index_mut.result.now.need } in
    let new : Group = record { tallies = with_item now.tallies i b; owns = with_item now.owns i o; items = now.items; waits = now.waits; room = now.room } in
    let runs = c.loop-i.invariant in
    let keeps = runs.keeps in
    let owns = keeps.group.owns in
    let count = keeps.rooms.count in
    let within : i < length now.tallies.items = omega arith in
    let inside : i < length now.owns.items = omega arith in
    let tally_is : (a : Tally) → c.index_mut-in-loop-i.result.now ≡ get_or now.tallies.items i a = λ a. c.index_mut-in-loop-i.ensures.value ∙ any_default now.tallies.items i _ a within in
    let own_is : (e : Own) → c.index_mut.result.now ≡ get_or now.owns.items i e = λ e. c.index_mut.ensures.value ∙ any_default now.owns.items i _ e inside in
    let kept : (a : Tally) → KeepsTally params tree.mass (get_or now.tallies.items i a) b = λ a. subst (λ t. KeepsTally params tree.mass t b) (tally_is a) c.run_own.ensures.kept in
    let bound : (e : Own) → step_bound tree (own_items o) ≤ step_bound tree (own_items (get_or now.owns.items i e)) = λ e. subst (λ p. step_bound tree (own_items o) ≤ step_bound tree (own_items p)) (own_is e) c.run_own.ensures.bound in
    keeps_walks params tree start new c.requires.group (keeps_set params tree start now new i b o within (record { tallies = refl; owns = refl; items = refl; waits = refl; room = refl; tallies_room = no_less _ _ refl; owns_room = no_less _ _ refl }) keeps c.run_own.ensures.room kept bound)

pub returns-in_err-run_own-clause-damaged : goal.returns-in_err-run_own-clause-damaged
returns-in_err-run_own-clause-damaged g c = λ name e.
    let handed_on : c.from_residual.result ≡ Err c.in_err-run_own.field-0.0 = search rules in
    let blamed : c.in_err-run_own.field-0.0 ≡ name = cc in
    let error : c.run_own.result ≡ Err name = c.in_err-run_own.was ∙ ap (λ n. Err n) blamed in
    let cells = g.L.Lender.cells c.args.lender.now in
    let bodies = g.L.Lender.bodies c.args.lender.now in
    let params = c.args.params.now in
    let tree = c.args.tree.now in
    let start = c.args.self.now in
    let now = c.loop-i.self in
    let i = c.loop-i.i in
    let b = c.run_own.new.tally in
    let o : Own = record { items = c.run_own.new.items; need = c.index_mut.result.now.need } in
    let new : Group = record { tallies = with_item now.tallies i b; owns = with_item now.owns i o; items = now.items; waits = now.waits; room = now.room } in
    let runs = c.loop-i.invariant in
    let keeps = runs.keeps in
    let owns = keeps.group.owns in
    let count = keeps.rooms.count in
    let within : i < length now.tallies.items = omega arith in
    let inside : i < length now.owns.items = omega arith in
    let tally_is : (a : Tally) → c.index_mut-in-loop-i.result.now ≡ get_or now.tallies.items i a = λ a. c.index_mut-in-loop-i.ensures.value ∙ any_default now.tallies.items i _ a within in
    let own_is : (e : Own) → c.index_mut.result.now ≡ get_or now.owns.items i e = λ e. c.index_mut.ensures.value ∙ any_default now.owns.items i _ e inside in
    let kept : (a : Tally) → KeepsTally params tree.mass (get_or now.tallies.items i a) b = λ a. subst (λ t. KeepsTally params tree.mass t b) (tally_is a) c.run_own.ensures.kept in
    let bound : (e : Own) → step_bound tree (own_items o) ≤ step_bound tree (own_items (get_or now.owns.items i e)) = λ e. subst (λ p. step_bound tree (own_items o) ≤ step_bound tree (own_items p)) (own_is e) c.run_own.ensures.bound in
    let all : KeepsOwns params tree start new = keeps_set params tree start now new i b o within (record { tallies = refl; owns = refl; items = refl; waits = refl; room = refl; tallies_room = no_less _ _ refl; owns_room = no_less _ _ refl }) keeps c.run_own.ensures.room kept bound in
    let looks = c.run_own.ensures.damaged name error in
    let many = all.rooms.count in
    own_blames cells bodies params tree new i name all.group (omega arith) c.requires.some
    (λ p. subst (λ q. BlamesNext cells bodies tree (own_items q) name) (sym (get_or-set_same now.owns.items i o p inside)) looks)

pub returns-in_err-run_own-clause-sound : goal.returns-in_err-run_own-clause-sound
returns-in_err-run_own-clause-sound g c = λ files all of_tree shows on.
    let cells = g.L.Lender.cells c.args.lender.now in
    let bodies = g.L.Lender.bodies c.args.lender.now in
    let params = c.args.params.now in
    let tree = c.args.tree.now in
    let start = c.args.self.now in
    let now = c.loop-i.self in
    let i = c.loop-i.i in
    let b = c.run_own.new.tally in
    let o : Own = record { items = c.run_own.new.items; need = c.index_mut.result.now.need } in
    let new : Group = record { tallies = with_item now.tallies i b; owns = with_item now.owns i o; items = now.items; waits = now.waits; room = now.room } in
    let runs = c.loop-i.invariant in
    let keeps = runs.keeps in
    let owns = keeps.group.owns in
    let count = keeps.rooms.count in
    let within : i < length now.tallies.items = omega arith in
    let inside : i < length now.owns.items = omega arith in
    let tally_is : (a : Tally) → c.index_mut-in-loop-i.result.now ≡ get_or now.tallies.items i a = λ a. c.index_mut-in-loop-i.ensures.value ∙ any_default now.tallies.items i _ a within in
    let own_is : (e : Own) → c.index_mut.result.now ≡ get_or now.owns.items i e = λ e. c.index_mut.ensures.value ∙ any_default now.owns.items i _ e inside in
    let kept : (a : Tally) → KeepsTally params tree.mass (get_or now.tallies.items i a) b = λ a. subst (λ t. KeepsTally params tree.mass t b) (tally_is a) c.run_own.ensures.kept in
    let bound : (e : Own) → step_bound tree (own_items o) ≤ step_bound tree (own_items (get_or now.owns.items i e)) = λ e. subst (λ p. step_bound tree (own_items o) ≤ step_bound tree (own_items p)) (own_is e) c.run_own.ensures.bound in
    let P = IsOk c.run_own.result in
    let fine = own_sound cells bodies params tree start now i files all of_tree shows c.requires.group (omega arith) runs on P
    (λ a e.
    subst (λ p. OnPart params tree cells bodies (own_items p) (get_or now.tallies.items i a) (λ bs f. P)) (own_is e)
    (subst (λ t. OnPart params tree cells bodies (own_items c.index_mut.result.now) t (λ bs f. P)) (tally_is a) c.run_own.ensures.sound)) in
    absurd (let bad = subst IsOk c.in_err-run_own.was fine in cc)

pub returns-clause-kept : goal.returns-clause-kept
returns-clause-kept g c = keeps_walks c.args.params.now c.args.tree.now c.args.self.now c.loop-i.self c.requires.group c.loop-i.invariant.keeps

pub returns-clause-ran : goal.returns-clause-ran
returns-clause-ran g c =
    let cells = g.L.Lender.cells c.args.lender.now in
    let bodies = g.L.Lender.bodies c.args.lender.now in
    let test = c.loop-i-test.false in
    let end = c.len-i-end.ensures in
    let long = c.args.self.now.tallies.ok.0 in
    runs_own cells bodies c.args.params.now c.args.tree.now c.args.self.now c.loop-i.self c.requires.group c.requires.tallies c.loop-i.i (omega arith) c.loop-i.invariant
