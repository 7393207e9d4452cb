use Rattle.std.proofs.Common.{◌≡◌, ℕ, ◌+◌, ◌-◌, ◌*◌, ◌^◌, ◌<◌, ◌≤◌, ◌⊎◌, inl, inr, true, false, [], ◌∷◌, length, get_or, set, sym, ◌∙◌, refl, subst, arith}
use Rattle.nb_walk.specs.declared.tally.Tally.{Tally}
use Rattle.nb_walk.specs.declared.term.Term.TheVariants as term
use Rattle.nb_walk.specs.Angle.{by_angle}
use Rattle.nb_walk.specs.Part.{KeepsTally}
use Rattle.nb_walk.specs.Running.{Each, EachAt}
use Rattle.nb_walk.specs.Shared.{is_left_to}
use Rattle.nb_walk.specs.Taking.{Adds}
use Rattle.nb_walk.proofs.KeyLevels.{level_is}
use Rattle.nb_walk.proofs.Meetings.{Meeting, of_set, left_here, left_below, left_with_same, below_more, below_with, shared_first, keeps_same, keeps_added, tally_at, no_tally, heavy_at, adds_at, angle_at, met_none, met_opens, met_takes, met_not, met_all}
use Rattle.nb_walk.proofs.Runs.{SameFrom, each_set, same_more, same_later, item_at}
use Rattle.nb_walk.proofs.meeting.meet_cell.Goals.{then-has+then-not-accepts_at, then-has+else-not-accepts_at+else-not-add, else-has}
use Rattle.nb_walk.proofs.meeting.meet_cell.Goals as goal

pub loop-i-init : goal.loop-i-init
loop-i-init c =
    let params = c.args.params.now in
    let e = c.args.entry.now in
    let old = c.args.tallies.now in
    let none : 0 ≡ e.block * 64 - e.block * 64 = omega arith in
    let one : 0 < 2 ^ 0 = omega arith in
    record {
      kept = λ k d below. keeps_same params c.args.most (get_or old k d) (get_or old k d) (c.requires.tallies k d below) refl;
      met = met_none params c.args.cell.now e old;
      rest = λ k d from. refl;
      below = subst (λ n. 0 < 2 ^ n) none one;
      some = inl refl;
    }

pub accepts_at-requires-clause-target : goal.accepts_at-requires-clause-target
accepts_at-requires-clause-target c =
    let within : c.loop-i.i < length c.loop-i.tallies = omega arith in
    (tally_at c.args.params.now c.args.tallies.now c.loop-i.tallies c.loop-i.i no_tally c.requires.tallies c.loop-i.auto.tallies within c.loop-i.invariant.rest).target

pub accepts_at-requires-clause-key : goal.accepts_at-requires-clause-key
accepts_at-requires-clause-key c =
    let within : c.loop-i.i < length c.loop-i.tallies = omega arith in
    (tally_at c.args.params.now c.args.tallies.now c.loop-i.tallies c.loop-i.i no_tally c.requires.tallies c.loop-i.auto.tallies within c.loop-i.invariant.rest).key

pub accepts_at-requires-clause-level : goal.accepts_at-requires-clause-level
accepts_at-requires-clause-level c = sym (level_is c.level-level.result c.key-key.result c.level-level.ensures)

pub with-opened-requires-clause-below : goal.with-opened-requires-clause-below
with-opened-requires-clause-below c = c.loop-i.invariant.below

pub add-requires-clause-target : goal.add-requires-clause-target
add-requires-clause-target c =
    let within : c.loop-i.i < length c.loop-i.tallies = omega arith in
    (tally_at c.args.params.now c.args.tallies.now c.loop-i.tallies c.loop-i.i no_tally c.requires.tallies c.loop-i.auto.tallies within c.loop-i.invariant.rest).target

pub add-requires-clause-range : goal.add-requires-clause-range
add-requires-clause-range c =
    let within : c.loop-i.i < length c.loop-i.tallies = omega arith in
    (tally_at c.args.params.now c.args.tallies.now c.loop-i.tallies c.loop-i.i no_tally c.requires.tallies c.loop-i.auto.tallies within c.loop-i.invariant.rest).range

pub returns-then-not-add-clause-kept : goal.returns-then-not-add-clause-kept
returns-then-not-add-clause-kept c =
    let params = c.args.params.now in
    let old = c.args.tallies.now in
    let now = c.loop-i.tallies in
    let i = c.loop-i.i in
    let within : i < length now = omega arith in
    let stays = c.add.ensures.same c.if-not-add.true in
    each_set (KeepsTally params c.args.most) old now (length old) i c.add.new.self c.loop-i.invariant.kept within
    (λ d. keeps_same params c.args.most (get_or old i d) c.add.new.self (c.requires.tallies i d (omega arith)) (stays ∙ item_at old now i no_tally within c.loop-i.invariant.rest d))

pub returns-then-not-add-clause-refused : goal.returns-then-not-add-clause-refused
returns-then-not-add-clause-refused c = λ _.
    let params = c.args.params.now in
    let e = c.args.entry.now in
    let cell = c.args.cell.now in
    let old = c.args.tallies.now in
    let now = c.loop-i.tallies in
    let i = c.loop-i.i in
    let within : i < length now = omega arith in
    let has = left_here e i c.loop-i.auto.i (omega arith) ∙ sym c.has.ensures ∙ c.if-has.true in
    let was = item_at old now i no_tally within c.loop-i.invariant.rest in (
      i,
      omega arith,
      has,
      λ d. (
        angle_at params (get_or now i no_tally) (get_or old i d) c.key-key.result cell.key c.centre-centre.result cell.centre c.accepts_at.result true
            c.accepts_at.ensures c.if-not-accepts_at.false (was d) c.key-key.ensures.value c.centre-centre.ensures.value,
        heavy_at c.args.most (get_or now i no_tally) (get_or old i d) c.mass-mass.result cell.mass (was d) c.mass-mass.ensures.value (c.add.ensures.refused c.if-not-add.true),
      ),
    )

pub loop-i-preserved : goal.loop-i-preserved
loop-i-preserved c =
    let params = c.args.params.now in
    let e = c.args.entry.now in
    let cell = c.args.cell.now in
    let most = c.args.most in
    let first = e.block * 64 in
    let terms = term.Cell cell.mass cell.centre ∷ [] in
    let old = c.args.tallies.now in
    let now = c.loop-i.tallies in
    let i = c.loop-i.i in
    let opened = c.loop-i.opened in
    let rest = c.loop-i.invariant.rest in
    let within : i < length now = omega arith in
    let from : first ≤ i = c.loop-i.auto.i in
    let before_end : i < first + 64 = omega arith in
    let has = left_here e i from before_end ∙ sym c.has.ensures in
    let was = item_at old now i no_tally within rest in
    elim c.if-has.branch [
      | then-has+then-not-accepts_at w ↦
          let more = w.with-opened.result in
          let near : (d : Tally) → by_angle params (get_or old i d).target cell.key cell.centre ≡ false =
          λ d. angle_at params (get_or now i no_tally) (get_or old i d) c.key-key.result cell.key c.centre-centre.result cell.centre w.accepts_at.result false
          w.accepts_at.ensures w.if-not-accepts_at.true (was d) c.key-key.ensures.value c.centre-centre.ensures.value in
          record {
            kept = subst (λ l. Each (KeepsTally params most) (length old) old l) (sym w.tallies-is) c.loop-i.invariant.kept;
            met = subst (λ l. EachAt (Meeting params cell e c.if-has.opened) (i + 1) old l) (sym w.tallies-is)
                (subst (λ o. EachAt (Meeting params cell e o) (i + 1) old now) (sym w.opened-is)
                (met_opens params cell e opened more i old now c.loop-i.invariant.met rest w.with-opened.ensures.sets from before_end (has ∙ w.if-has.true) near));
            rest = subst (λ l. SameFrom (i + 1) old l) (sym w.tallies-is) (same_later old now i rest);
            below = subst (λ o. o < 2 ^ (i + 1 - first)) (sym w.opened-is) (below_with more first i from w.with-opened.ensures.below);
            some = inr (i, omega arith, subst (λ o. is_left_to i (of_set e o) ≡ true) (sym w.opened-is) (left_with_same e opened more i w.with-opened.ensures.sets from before_end));
          }
      | then-has+else-not-accepts_at+else-not-add w ↦
          let b = w.add.new.self in
          let far : (d : Tally) → by_angle params (get_or old i d).target cell.key cell.centre ≡ true =
          λ d. angle_at params (get_or now i no_tally) (get_or old i d) c.key-key.result cell.key c.centre-centre.result cell.centre w.accepts_at.result true
          w.accepts_at.ensures w.if-not-accepts_at.false (was d) c.key-key.ensures.value c.centre-centre.ensures.value in
          let added : (d : Tally) → Adds params terms (get_or old i d) b =
          λ d. adds_at params (get_or now i no_tally) (get_or old i d) b c.mass-mass.result cell.mass c.centre-centre.result cell.centre
          (was d) c.mass-mass.ensures.value c.centre-centre.ensures.value (w.add.ensures.added w.if-not-add.false) in
          let few = w.add.ensures.within w.if-not-add.false in
          record {
            kept = subst (λ l. Each (KeepsTally params most) (length old) old l) (sym w.tallies-is)
                (each_set (KeepsTally params most) old now (length old) i b c.loop-i.invariant.kept within
                (λ d. keeps_added params most terms (get_or old i d) b (added d) w.add.ensures.range few));
            met = subst (λ l. EachAt (Meeting params cell e c.if-has.opened) (i + 1) old l) (sym w.tallies-is)
                (subst (λ o. EachAt (Meeting params cell e o) (i + 1) old (set now i b)) (sym w.opened-is)
                (met_takes params cell e opened i old now b c.loop-i.invariant.met c.loop-i.invariant.below from within (has ∙ w.if-has.true) far added));
            rest = subst (λ l. SameFrom (i + 1) old l) (sym w.tallies-is) (same_more old now i b rest);
            below = subst (λ o. o < 2 ^ (i + 1 - first)) (sym w.opened-is) (below_more opened first i from c.loop-i.invariant.below);
            some = subst (λ o. (o ≡ 0) ⊎ ((k : ℕ) × (k < length old) × (is_left_to k (of_set e o) ≡ true))) (sym w.opened-is) c.loop-i.invariant.some;
          }
      | else-has w ↦ record {
        kept = subst (λ l. Each (KeepsTally params most) (length old) old l) (sym w.tallies-is) c.loop-i.invariant.kept;
        met = subst (λ l. EachAt (Meeting params cell e c.if-has.opened) (i + 1) old l) (sym w.tallies-is)
            (subst (λ o. EachAt (Meeting params cell e o) (i + 1) old now) (sym w.opened-is)
            (met_not params cell e opened i old now c.loop-i.invariant.met rest c.loop-i.invariant.below from (has ∙ w.if-has.false)));
        rest = subst (λ l. SameFrom (i + 1) old l) (sym w.tallies-is) (same_later old now i rest);
        below = subst (λ o. o < 2 ^ (i + 1 - first)) (sym w.opened-is) (below_more opened first i from c.loop-i.invariant.below);
        some = subst (λ o. (o ≡ 0) ⊎ ((k : ℕ) × (k < length old) × (is_left_to k (of_set e o) ≡ true))) (sym w.opened-is) c.loop-i.invariant.some;
      }
    ]

pub returns-clause-kept : goal.returns-clause-kept
returns-clause-kept c = c.loop-i.invariant.kept

pub returns-clause-met : goal.returns-clause-met
returns-clause-met c = λ opened is.
    let e = c.args.entry.now in
    let old = c.args.tallies.now in
    let same : c.loop-i.opened ≡ opened = cc in
    let end : (length old ≤ c.loop-i.i) ⊎ (e.block * 64 + 64 ≤ c.loop-i.i) = grind arith in
    subst (λ o. EachAt (Meeting c.args.params.now c.args.cell.now e o) (length old) old c.loop-i.tallies) same
    (met_all c.args.params.now c.args.cell.now e c.loop-i.opened c.loop-i.i (length old) old c.loop-i.tallies c.loop-i.invariant.met c.loop-i.invariant.rest end)

pub returns-clause-some : goal.returns-clause-some
returns-clause-some c = λ opened is.
    let e = c.args.entry.now in
    let old = c.args.tallies.now in
    let same : c.loop-i.opened ≡ opened = cc in
    subst (λ o. (o ≡ 0) ⊎ ((k : ℕ) × (k < length old) × (is_left_to k (of_set e o) ≡ true))) same c.loop-i.invariant.some

pub returns-clause-inside : goal.returns-clause-inside
returns-clause-inside c = λ opened i is left.
    let e = c.args.entry.now in
    let same : opened ≡ c.loop-i.opened = cc in
    let first = shared_first (length c.args.tallies.now) e c.requires.shared in
    let less = left_below e c.loop-i.opened c.loop-i.i i c.loop-i.invariant.below c.loop-i.auto.i (subst (λ o. is_left_to i (of_set e o) ≡ true) same left) in
    omega arith
