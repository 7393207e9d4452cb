use Rattle.std.proofs.Common.{◌≡◌, ◌+◌, ◌<◌, inr, [], ◌∷◌, length, get_or, sym, ap, ◌∙◌, refl, subst, arith}
use Rattle.std.specs.Prelude.{sum_by}
use Rattle.std.proofs.lemmas.List.Sums.{sum_by-append, sum_by-cons}
use Rattle.nb_walk.specs.declared.tally.Tally.{Tally}
use Rattle.nb_walk.specs.declared.term.Term.TheVariants as term
use Rattle.nb_walk.specs.Group.{AddsTo}
use Rattle.nb_walk.specs.Running.{EachAt}
use Rattle.nb_walk.specs.Shared.{is_left_to}
use Rattle.nb_walk.specs.Taking.{Adds, page_terms}
use Rattle.nb_walk.specs.Terms.{term_mass}
use Rattle.nb_walk.proofs.Meetings.{Adding, keeps_same, keeps_then, kept_tally, adds_to_none, adds_to_body, adds_to_more}
use Rattle.nb_walk.proofs.Tallies.{no_bodies, next_body, front_weighs}
use Rattle.nb_walk.proofs.meeting.meet_bodies.Goals as goal

pub loop-at-init : goal.loop-at-init
loop-at-init c =
    let params = c.args.params.now in
    let e = c.args.entry.now in
    let old = c.args.tallies.now in
    record {
      kept = λ k d below. keeps_same params c.args.most (get_or old k d) (get_or old k d) (c.requires.tallies k d below) refl;
      added = subst (λ terms. EachAt (Adding params e terms) (length old) old old) (sym (no_bodies c.args.page.now c.args.from))
          (λ k d below. adds_to_none params (is_left_to k e) (get_or old k d));
    }

pub returns-in_default-clause-kept : goal.returns-in_default-clause-kept
returns-in_default-clause-kept c = c.loop-at.invariant.kept

pub pull_each-requires-clause-tallies : goal.pull_each-requires-clause-tallies
pull_each-requires-clause-tallies c = λ k d below.
    let within : k < length c.args.tallies.now = omega arith in
    kept_tally c.args.params.now c.args.most (get_or c.args.tallies.now k d) (get_or c.loop-at.tallies k d) (c.requires.tallies k d within) (c.loop-at.invariant.kept k d within)

pub returns-then-not-pull_each-clause-kept : goal.returns-then-not-pull_each-clause-kept
returns-then-not-pull_each-clause-kept c = λ k d below.
    keeps_then c.args.params.now c.args.most (get_or c.args.tallies.now k d) (get_or c.loop-at.tallies k d) (get_or c.pull_each.new.tallies k d)
    (c.loop-at.invariant.kept k d below) (c.pull_each.ensures.kept k d (omega arith))

pub returns-then-not-pull_each-clause-refused : goal.returns-then-not-pull_each-clause-refused
returns-then-not-pull_each-clause-refused c = λ _.
    let params = c.args.params.now in
    let e = c.args.entry.now in
    let old = c.args.tallies.now in
    let mid = c.loop-at.tallies in
    let bytes = c.args.page.now in
    let from = c.args.from in
    let at = c.loop-at.at in
    let t = term.Body c.in-Some.body in
    let one = c.pull_each.ensures.refused c.if-not-pull_each.true in
    let i = one.0 in
    let within : i < length old = omega arith in
    let next = ap (sum_by term_mass) (next_body bytes from at c.in-Some.body c.loop-at.auto.at (omega arith) c.in-Some.ensures.1)
    ∙ sum_by-append term_mass (page_terms bytes from at) (t ∷ []) in
    let last = sum_by-cons term_mass t [] in
    let front = front_weighs bytes from (at + 1) c.args.end (omega arith) in
    let same = c.from.ensures in
    let heavy : (d : Tally) → c.args.most < (get_or old i d).taken + sum_by term_mass (page_terms bytes from c.args.end) =
    λ d.
    let added : Adds params (page_terms bytes from at) (get_or old i d) (get_or mid i d) =
    subst (λ h. AddsTo params h (page_terms bytes from at) (get_or old i d) (get_or mid i d)) one.2 (c.loop-at.invariant.added i d within) in
    let before = added.taken in
    let over = one.3 d in
    omega arith in
    inr (i, within, one.2, heavy)

pub loop-at-preserved : goal.loop-at-preserved
loop-at-preserved c =
    let params = c.args.params.now in
    let e = c.args.entry.now in
    let old = c.args.tallies.now in
    let mid = c.loop-at.tallies in
    let new = c.pull_each.new.tallies in
    let bytes = c.args.page.now in
    let from = c.args.from in
    let at = c.loop-at.at in
    let b = c.in-Some.body in
    let pulled = c.pull_each.ensures.added c.if-not-pull_each.false in
    record {
      kept = λ k d below.
          keeps_then params c.args.most (get_or old k d) (get_or mid k d) (get_or new k d) (c.loop-at.invariant.kept k d below) (c.pull_each.ensures.kept k d (omega arith));
      added = subst (λ terms. EachAt (Adding params e terms) (length old) old new) (sym (next_body bytes from at b c.loop-at.auto.at (omega arith) c.in-Some.ensures.1))
          (λ k d below.
          adds_to_more params (is_left_to k e) (page_terms bytes from at) (term.Body b ∷ []) (get_or old k d) (get_or mid k d) (get_or new k d)
          (c.loop-at.invariant.added k d below)
          (adds_to_body params (is_left_to k e) b c.from.result (get_or mid k d) (get_or new k d) c.from.ensures (pulled k d (omega arith))));
    }

pub returns-clause-kept : goal.returns-clause-kept
returns-clause-kept c = c.loop-at.invariant.kept

pub returns-clause-added : goal.returns-clause-added
returns-clause-added c = λ _.
    let same : c.loop-at.at ≡ c.args.end = omega arith in
    subst (λ at. EachAt (Adding c.args.params.now c.args.entry.now (page_terms c.args.page.now c.args.from at)) (length c.args.tallies.now) c.args.tallies.now c.loop-at.tallies) same c.loop-at.invariant.added
