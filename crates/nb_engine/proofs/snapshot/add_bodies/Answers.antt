use Rattle.std.proofs.Common.{◌≡◌, ◌⊎◌, true, inr, Err, List, [], ◌∷◌, refl, sym, ap, subst, ◌∙◌, arith, rules}
use Rattle.nb_model.specs.declared.body.Body.{Body}
use Rattle.nb_cache.specs.View.{seen}
use Rattle.nb_tick.specs.Slots.{sorted_file}
use Rattle.nb_engine.specs.Refusal.{of_host, of_order, NeedsNoCause}
use Rattle.nb_engine.specs.Snapshots.{HoldsByIds, IsEnd, IsPageDamaged}
use Rattle.nb_engine.proofs.Frames.{session_ran, session_cached, session_by, session_ended}
use Rattle.nb_engine.proofs.SnapshotSteps.{order_rose, order_fell, host_rose, host_fell, order_cause, none_but, settled_leads, sorted_agrees, file_agrees, well_then, is_ok, adding_none, adding_read, unfinished_read, read_there, record_there, not_behind, no_body, adding_file, adding_added, unfinished_added, all_added}
use Rattle.nb_engine.proofs.snapshot.add_bodies.Goals as goal

pub loop-index-init : goal.loop-index-init
loop-index-init g c =
    adding_none g.H.Host.meaning c.args.filling c.args.cache.now c.args.host.now c.args.count c.requires.none c.requires.first
    c.requires.settled

pub body_at-requires-clause-in_step : goal.body_at-requires-clause-in_step
body_at-requires-clause-in_step g c = c.loop-index.invariant.settled.in_step

-- where a body can't be read

pub returns-in_err-body-clause-refused : goal.returns-in_err-body-clause-refused
returns-in_err-body-clause-refused g c =
    unfinished_read c.requires.file c.loop-index.invariant c.body_at.ensures.ran

pub returns-in_err-body-clause-cause : goal.returns-in_err-body-clause-cause
returns-in_err-body-clause-cause g c =
    let m = g.H.Host.meaning in
    let error = c.in_err-body.field-0.0 in
    let Holds = λ (bodies : List Body). HoldsByIds c.args.count bodies (seen m c.args.cache.now c.args.host.now sorted_file) in
    let handed_on : c.from_residual.result ≡ Err (of_order error) = search rules in
    let At = IsEnd m c.args.count c.args.cache.now c.args.host.now in
    let why : NeedsNoCause (of_order error) ⊎ IsPageDamaged m At Holds (of_order error) =
    order_cause error (λ name is.
    subst (IsPageDamaged m At Holds) (sym (ap of_order is))
    (no_body c.loop-index.invariant c.loop-index-test.true name (c.body_at.ensures.damaged name (c.in_err-body.was ∙ ap Err is)))) in
    rw handed_on why

pub returns-in_err-body-clause-ran : goal.returns-in_err-body-clause-ran
returns-in_err-body-clause-ran g c =
    let so_far = c.loop-index.invariant in
    let error = c.in_err-body.field-0.0 in
    let handed_on : c.from_residual.result ≡ Err (of_order error) = search rules in
    well_then so_far.went is_ok
    (session_cached c.body_at.ensures.ran
    (sorted_agrees (sorted_file ∷ c.args.filling.file ∷ []) (0, omega arith, refl)
    (settled_leads none_but so_far.settled c.body_at.ensures.ran.writes))
    (order_rose error c.in_err-body.was handed_on) (order_fell error c.in_err-body.was handed_on))

-- where its id isn't above the last one

pub returns-then-not-comes_behind-clause-refused :
    goal.returns-then-not-comes_behind-clause-refused
returns-then-not-comes_behind-clause-refused g c =
    unfinished_read c.requires.file c.loop-index.invariant c.body_at.ensures.ran

pub returns-then-not-comes_behind-clause-cause : goal.returns-then-not-comes_behind-clause-cause
returns-then-not-comes_behind-clause-cause g c =
    let body = c.in_ok-body.body in
    inr (not_behind body c.loop-index.invariant c.loop-index-test.true
    (read_there body c.loop-index.invariant c.in_ok-body.ensures.listed)
    (record_there body c.loop-index.invariant c.in_ok-body.ensures.read)
    (λ above. let yes : c.comes_behind.result ≡ true = c.comes_behind.ensures.1 above in absurd (cc))
    _ c.page_name.result refl c.page_name.ensures.value)

pub returns-then-not-comes_behind-clause-ran : goal.returns-then-not-comes_behind-clause-ran
returns-then-not-comes_behind-clause-ran g c =
    let read = adding_read c.requires.file c.loop-index.invariant c.body_at.ensures.ran (search rules) in
    session_ended read.went is_ok (λ same. absurd (cc))

-- the next body

pub add-requires-clause-room : goal.add-requires-clause-room
add-requires-clause-room g c =
    let so_far = c.loop-index.invariant in
    let count = ap (λ p. p.count) so_far.planned in
    omega (arith, so_far.added, count, c.requires.count, c.loop-index-test.true)

pub add-requires-clause-rises : goal.add-requires-clause-rises
add-requires-clause-rises g c = λ id is.
    let yes : c.comes_behind.result ≡ true = search rules in
    c.comes_behind.ensures.0 yes id (c.loop-index.invariant.last_is ∙ is)

-- where it can't be added

pub returns-in_err-filling-clause-refused : goal.returns-in_err-filling-clause-refused
returns-in_err-filling-clause-refused g c =
    let read = adding_read c.requires.file c.loop-index.invariant c.body_at.ensures.ran (search rules) in
    unfinished_added read c.add.ensures.ran

pub returns-in_err-filling-clause-ran : goal.returns-in_err-filling-clause-ran
returns-in_err-filling-clause-ran g c =
    let read = adding_read c.requires.file c.loop-index.invariant c.body_at.ensures.ran (search rules) in
    let error = c.in_err-filling.field-0.0 in
    let handed_on : c.from_residual-in_err-filling.result ≡ Err (of_host error) = search rules in
    well_then read.went is_ok
    (session_by
    (session_ran c.add.ensures.ran (host_rose error c.in_err-filling.was handed_on) (host_fell error c.in_err-filling.was handed_on))
    (file_agrees (sorted_file ∷ c.args.filling.file ∷ []) (adding_file read) c.add.ensures.ran.leads))

-- where it is added

pub loop-index-preserved : goal.loop-index-preserved
loop-index-preserved g c =
    let body = c.in_ok-body.body in
    let read = adding_read c.requires.file c.loop-index.invariant c.body_at.ensures.ran (search rules) in
    let there = read_there body c.loop-index.invariant c.in_ok-body.ensures.listed in
    let record_is = record_there body c.loop-index.invariant c.in_ok-body.ensures.read in
    adding_added body c.requires.file read there record_is c.in_ok-filling.ensures.added c.in_ok-filling.ensures.filled
    c.add.ensures.ran (search rules)

-- where all are

pub returns-clause-settled : goal.returns-clause-settled
returns-clause-settled g c = c.loop-index.invariant.settled

pub returns-clause-pages : goal.returns-clause-pages
returns-clause-pages g c = c.loop-index.invariant.pages

pub returns-clause-full : goal.returns-clause-full
returns-clause-full g c =
    let so_far = c.loop-index.invariant in
    (so_far.planned, omega (arith, so_far.added, c.loop-index-test.false))

pub returns-clause-added : goal.returns-clause-added
returns-clause-added g c =
    let all : c.loop-index.index ≡ c.args.count = omega (arith, c.loop-index-test.false) in
    all_added all c.loop-index.invariant

pub returns-clause-refused : goal.returns-clause-refused
returns-clause-refused g c = λ plan start is. (c.loop-index.invariant.being plan start is).being.since

pub returns-clause-ran : goal.returns-clause-ran
returns-clause-ran g c = session_ended c.loop-index.invariant.went is_ok (λ same. absurd (cc))
