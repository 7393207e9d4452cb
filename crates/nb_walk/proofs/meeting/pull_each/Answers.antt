use Rattle.std.proofs.Common.{◌+◌, ◌*◌, ◌<◌, ◌≤◌, ◌⊎◌, [], ◌∷◌, length, get_or, sym, ◌∙◌, refl, subst, arith}
use Rattle.nb_walk.specs.declared.tally.Tally.{Tally}
use Rattle.nb_walk.specs.declared.term.Term.TheVariants as term
use Rattle.nb_walk.specs.Part.{KeepsTally}
use Rattle.nb_walk.specs.Running.{Each, EachAt}
use Rattle.nb_walk.specs.Taking.{Adds}
use Rattle.nb_walk.proofs.Meetings.{Adding, left_here, no_tally, keeps_same, keeps_added, tally_at, added_none, added_one, added_not, added_all}
use Rattle.nb_walk.proofs.Runs.{SameFrom, each_set, same_more, same_later, item_at}
use Rattle.nb_walk.proofs.meeting.pull_each.Goals.{else-has-via-then-has+else-not-add, else-has-via-else-has}
use Rattle.nb_walk.proofs.meeting.pull_each.Goals as goal

pub loop-i-init : goal.loop-i-init
loop-i-init c =
    let params = c.args.params.now in
    let old = c.args.tallies.now in
    record {
      kept = λ k d below. keeps_same params c.args.most (get_or old k d) (get_or old k d) (c.requires.tallies k d below) refl;
      added = added_none params c.args.entry.now (term.Cell c.args.mass c.args.centre.now ∷ []) old;
      rest = λ k d from. refl;
    }

pub add-requires-clause-target : goal.add-requires-clause-target
add-requires-clause-target c =
    let within : c.loop-i.i < length c.loop-i.tallies = omega arith in
    (tally_at c.args.params.now c.args.tallies.now c.loop-i.tallies c.loop-i.i no_tally c.requires.tallies c.loop-i.auto.tallies within c.loop-i.invariant.rest).target

pub add-requires-clause-range : goal.add-requires-clause-range
add-requires-clause-range c =
    let within : c.loop-i.i < length c.loop-i.tallies = omega arith in
    (tally_at c.args.params.now c.args.tallies.now c.loop-i.tallies c.loop-i.i no_tally c.requires.tallies c.loop-i.auto.tallies within c.loop-i.invariant.rest).range

pub returns-then-not-add-clause-kept : goal.returns-then-not-add-clause-kept
returns-then-not-add-clause-kept c =
    let params = c.args.params.now in
    let old = c.args.tallies.now in
    let now = c.loop-i.tallies in
    let i = c.loop-i.i in
    let within : i < length now = omega arith in
    let stays = c.add.ensures.same c.if-not-add.true in
    each_set (KeepsTally params c.args.most) old now (length old) i c.add.new.self c.loop-i.invariant.kept within
    (λ d. keeps_same params c.args.most (get_or old i d) c.add.new.self (c.requires.tallies i d (omega arith)) (stays ∙ item_at old now i no_tally within c.loop-i.invariant.rest d))

pub returns-then-not-add-clause-refused : goal.returns-then-not-add-clause-refused
returns-then-not-add-clause-refused c = λ _.
    let e = c.args.entry.now in
    let old = c.args.tallies.now in
    let now = c.loop-i.tallies in
    let i = c.loop-i.i in
    let within : i < length now = omega arith in
    let has = left_here e i c.loop-i.auto.i (omega arith) ∙ sym c.has.ensures ∙ c.if-has.true in
    (i, omega arith, has, λ d. subst (λ t. c.args.most < t.taken + c.args.mass) (item_at old now i no_tally within c.loop-i.invariant.rest d) (c.add.ensures.refused c.if-not-add.true))

pub loop-i-preserved : goal.loop-i-preserved
loop-i-preserved c =
    let params = c.args.params.now in
    let e = c.args.entry.now in
    let most = c.args.most in
    let terms = term.Cell c.args.mass c.args.centre.now ∷ [] in
    let old = c.args.tallies.now in
    let now = c.loop-i.tallies in
    let i = c.loop-i.i in
    let within : i < length now = omega arith in
    let has = left_here e i c.loop-i.auto.i (omega arith) ∙ sym c.has.ensures in
    elim c.else-has.branch [
      | else-has-via-then-has+else-not-add w ↦
          let b = w.add.new.self in
          let was = item_at old now i no_tally within c.loop-i.invariant.rest in
          let added : (d : Tally) → Adds params terms (get_or old i d) b = λ d. subst (λ t. Adds params terms t b) (was d) (w.add.ensures.added w.if-not-add.false) in
          let few = w.add.ensures.within w.if-not-add.false in
          record {
            kept = subst (λ l. Each (KeepsTally params most) (length old) old l) (sym w.tallies-is)
                (each_set (KeepsTally params most) old now (length old) i b c.loop-i.invariant.kept within
                (λ d. keeps_added params most terms (get_or old i d) b (added d) w.add.ensures.range few));
            added = subst (λ l. EachAt (Adding params e terms) (i + 1) old l) (sym w.tallies-is)
                (added_one params e terms i old now b c.loop-i.invariant.added within (has ∙ w.if-has.true) added);
            rest = subst (λ l. SameFrom (i + 1) old l) (sym w.tallies-is) (same_more old now i b c.loop-i.invariant.rest);
          }
      | else-has-via-else-has w ↦ record {
        kept = subst (λ l. Each (KeepsTally params most) (length old) old l) (sym w.tallies-is) c.loop-i.invariant.kept;
        added = subst (λ l. EachAt (Adding params e terms) (i + 1) old l) (sym w.tallies-is)
            (added_not params e terms i old now c.loop-i.invariant.added c.loop-i.invariant.rest (has ∙ w.if-has.false));
        rest = subst (λ l. SameFrom (i + 1) old l) (sym w.tallies-is) (same_later old now i c.loop-i.invariant.rest);
      }
    ]

pub returns-clause-kept : goal.returns-clause-kept
returns-clause-kept c = c.loop-i.invariant.kept

pub returns-clause-added : goal.returns-clause-added
returns-clause-added c = λ _.
    let e = c.args.entry.now in
    let old = c.args.tallies.now in
    let end : (length old ≤ c.loop-i.i) ⊎ (e.block * 64 + 64 ≤ c.loop-i.i) = grind arith in
    added_all c.args.params.now e (term.Cell c.args.mass c.args.centre.now ∷ []) c.loop-i.i (length old) old c.loop-i.tallies c.loop-i.invariant.added c.loop-i.invariant.rest end
