use Rattle.std.proofs.Common.{◌≡◌, ◌⊎◌, inl, inr, ℕ, List, [], ◌∷◌, rules, Ok, Err, refl, sym, subst, ap, ◌∙◌}
use Rattle.nb_model.specs.declared.body.Body.{Body}
use Rattle.nb_host.specs.declared.page_name.PageName.{PageName}
use Rattle.nb_cache.specs.View.{seen}
use Rattle.nb_cache.proofs.Callers.{step_stays}
use Rattle.nb_format.specs.declared.snap_error.SnapError.{SnapError}
use Rattle.nb_format.specs.declared.snap_error.SnapError.TheVariants as snap
use Rattle.nb_format.specs.Reader.{MayFollow, IsBehind, HasRead}
use Rattle.nb_format.specs.Snapshot.{IsSnapshot}
use Rattle.nb_format.specs.SnapshotRefusal.{IsOfRecord}
use Rattle.nb_record.specs.Order.{HoldsBodies}
use Rattle.nb_tick.specs.Slots.{drifted_file}
use Rattle.nb_engine.specs.declared.refusal.Refusal.{Refusal}
use Rattle.nb_engine.specs.Files.{init_file}
use Rattle.nb_engine.specs.Refusal.{NeedsNoCause, of_order, of_second_reading}
use Rattle.nb_engine.specs.Snapshots.{IsPageDamaged}
use Rattle.nb_engine.specs.Start.{IsCopyEnd}
use Rattle.nb_engine.proofs.CachedCalls.{went_none, went_on, went_to, ran_reading}
use Rattle.nb_engine.proofs.Reading.{HasGiven-none, not_ended}
use Rattle.nb_engine.proofs.SecondReadings.{second_fault, order_is_fault, second_cause, order_cause, refused_never, holds_nothing, open_still, seen_still, next_below, next_number, room_left, copied_more}
use Rattle.nb_engine.proofs.Surveys.{room_for, census_given}
use Rattle.nb_engine.proofs.run_start.copy_bodies.Goals as goal

pub loop-body-init : goal.loop-body-init
loop-body-init g c =
    let m = g.H.Host.meaning in
    record {
      bodies = [];
      given = HasGiven-none init_file m.tells ((m.contents c.args.host.now).file init_file) c.args.reader c.requires.start;
      counted = refl;
      holds = λ tells empty. holds_nothing _ empty;
      went = went_none m (drifted_file ∷ []) c.args.cache.now c.args.host.now c.requires.in_step;
    }

-- Where the reader refuses.

pub returns-in-Err-clause-cause : goal.returns-in-Err-clause-cause
returns-in-Err-clause-cause g c =
    let m = g.H.Host.meaning in
    let kept = c.loop-body.invariant in
    let file = (m.contents c.args.host.now).file init_file in
    let Holds : List Body → Type 0 = λ bodies. HasRead c.args.reader file []
    × (seen m c.args.cache.now c.args.host.now drifted_file ≡ []) × ((time : ℕ) × IsSnapshot file bodies time) in
    let At : PageName → Type 0 = IsCopyEnd m c.args.reader c.args.cache.now c.args.host.now in
    let count = c.loop-body.census.count in
    subst (λ (why : Refusal). NeedsNoCause why ⊎ IsPageDamaged m At Holds why) (sym c.second_refusal.ensures)
    (second_cause At Holds c.in-Err.error count
    (λ by. record {
      index = count;
      below = next_below kept (λ e. let ended = c.in-Err.ensures.end.1 e in absurd (cc));
      place =
          inl (
            refl,
            λ told begun. record {
              error = c.in-Err.error;
              first = c.in-Err.ensures.first file kept.bodies told (kept.given.has told begun)
                  (open_still c.requires.unwritten c.requires.start kept told) by;
              of_record = subst (λ (n : ℕ). IsOfRecord n c.in-Err.error) (next_number kept) (c.in-Err.ensures.code by);
            },
          );
    })
    (λ by told bodies holds.
    refused_never (c.in-Err.ensures.first file kept.bodies told (kept.given.has told holds.0)
    (open_still c.requires.unwritten c.requires.start kept told) by) bodies holds.2.0 holds.2.1))

pub returns-in-Err-clause-ran : goal.returns-in-Err-clause-ran
returns-in-Err-clause-ran g c =
    let kept = c.loop-body.invariant in
    let count = c.loop-body.census.count in
    went_to kept.went (ran_reading (drifted_file ∷ []) c.loop-body.cache c.next.ensures.ran kept.went.writes.in_step)
    (λ faulted. c.in-Err.is ∙ ap Err (second_fault c.in-Err.error count (cc)))
    (λ error.
    let same : c.in-Err.error ≡ snap.Fault = (cc) in
    ap Err (c.second_refusal.ensures ∙ ap (λ (e : SnapError). of_second_reading e count) same))

-- Where it is at its end.

pub returns-in-Ok-None-clause-counted : goal.returns-in-Ok-None-clause-counted
returns-in-Ok-None-clause-counted g c = let kept = c.loop-body.invariant in census_given kept.given kept.counted

pub returns-in-Ok-None-clause-copied : goal.returns-in-Ok-None-clause-copied
returns-in-Ok-None-clause-copied g c = λ told begun empty.
    let m = g.H.Host.meaning in
    let kept = c.loop-body.invariant in
    let file = (m.contents c.args.host.now).file init_file in
    let ended = c.in-Ok-None.is ∙ ap Ok c.in-Ok-None.field-0-is in (
      kept.bodies,
      kept.counted,
      subst (λ (time : ℕ). IsSnapshot file kept.bodies time) kept.given.time
          (c.next.ensures.whole file kept.bodies (kept.given.has told begun) ended),
      subst (λ (bytes : List ℕ). HoldsBodies bytes kept.bodies)
          (sym (seen_still c.loop-body.cache drifted_file c.next.ensures.ran.leads)) (kept.holds told empty),
    )

pub returns-in-Ok-None-clause-ran : goal.returns-in-Ok-None-clause-ran
returns-in-Ok-None-clause-ran g c =
    let kept = c.loop-body.invariant in
    went_to kept.went (ran_reading (drifted_file ∷ []) c.loop-body.cache c.next.ensures.ran kept.went.writes.in_step)
    (λ faulted. absurd (cc)) (λ error. absurd (cc))

-- One body more.

pub push_body-requires-clause-index : goal.push_body-requires-clause-index
push_body-requires-clause-index g c = let kept = c.loop-body.invariant in (census_given kept.given kept.counted).count

pub push_body-requires-clause-in_step : goal.push_body-requires-clause-in_step
push_body-requires-clause-in_step g c =
    step_stays c.loop-body.cache c.next.ensures.ran.leads c.loop-body.invariant.went.writes.in_step

pub returns-in_err-push_body-clause-cause : goal.returns-in_err-push_body-clause-cause
returns-in_err-push_body-clause-cause g c =
    let m = g.H.Host.meaning in
    let kept = c.loop-body.invariant in
    let file = (m.contents c.args.host.now).file init_file in
    let Holds : List Body → Type 0 = λ bodies. HasRead c.args.reader file []
    × (seen m c.args.cache.now c.args.host.now drifted_file ≡ []) × ((time : ℕ) × IsSnapshot file bodies time) in
    let error = c.in_err-push_body.field-0.0 in
    let handed_on : c.from_residual.result ≡ Err (of_order error) = search rules in
    let At : PageName → Type 0 = IsCopyEnd m c.args.reader c.args.cache.now c.args.host.now in
    let cause : NeedsNoCause (of_order error) ⊎ IsPageDamaged m At Holds (of_order error) =
    order_cause At Holds error (λ name is.
    let bad = c.push_body.ensures.damaged name (c.in_err-push_body.was ∙ ap Err is) in (
      record {
        index = c.loop-body.census.count;
        below = next_below kept (λ e. not_ended c.in-Ok-Some.field-0-is (c.in-Ok-Some.ensures.end.1 e));
        place = inr (bad.page, λ told empty. room_left kept c.next.ensures.ran.leads bad told empty);
      },
      λ told bodies holds. room_left kept c.next.ensures.ran.leads bad told holds.1,
    )) in
    rw handed_on cause

pub returns-in_err-push_body-clause-ran : goal.returns-in_err-push_body-clause-ran
returns-in_err-push_body-clause-ran g c =
    let kept = c.loop-body.invariant in
    let error = c.in_err-push_body.field-0.0 in
    let handed_on : c.from_residual.result ≡ Err (of_order error) = search rules in
    let read = ran_reading (drifted_file ∷ []) c.loop-body.cache c.next.ensures.ran kept.went.writes.in_step in
    went_to (went_on kept.went read (search rules)) c.push_body.ensures.ran
    (λ faulted. c.in_err-push_body.was ∙ ap Err (order_is_fault error (cc))) (λ error. search rules)

pub with-census-requires-clause-room : goal.with-census-requires-clause-room
with-census-requires-clause-room g c =
    let kept = c.loop-body.invariant in
    (room_for kept.given kept.counted (λ e. not_ended c.in-Ok-Some.field-0-is (c.in-Ok-Some.ensures.end.1 e))).count

pub with-census-requires-clause-light : goal.with-census-requires-clause-light
with-census-requires-clause-light g c =
    let kept = c.loop-body.invariant in
    (room_for kept.given kept.counted (λ e. not_ended c.in-Ok-Some.field-0-is (c.in-Ok-Some.ensures.end.1 e))).mass

pub with-census-requires-clause-few : goal.with-census-requires-clause-few
with-census-requires-clause-few g c =
    let kept = c.loop-body.invariant in
    (room_for kept.given kept.counted (λ e. not_ended c.in-Ok-Some.field-0-is (c.in-Ok-Some.ensures.end.1 e))).gone

pub loop-body-preserved : goal.loop-body-preserved
loop-body-preserved g c =
    let kept = c.loop-body.invariant in
    let body = c.in-Ok-Some.body in
    let follows : MayFollow c.loop-body.reader body = rw c.in-Ok-Some.field-0-is at c.in-Ok-Some.ensures.follows in
    let behind : IsBehind body c.loop-body.reader c.next.new.self = rw c.in-Ok-Some.field-0-is at c.in-Ok-Some.ensures.moved in
    let read_on = ran_reading (drifted_file ∷ []) c.loop-body.cache c.next.ensures.ran kept.went.writes.in_step in
    copied_more body c.requires.unwritten c.requires.start kept
    (λ e. not_ended c.in-Ok-Some.field-0-is (c.in-Ok-Some.ensures.end.1 e)) follows behind
    (λ bytes bodies told read open'.
    let next = c.in-Ok-Some.ensures.body bytes bodies told read open' in
    rw c.in-Ok-Some.field-0-is at next)
    c.next.ensures.ran.leads c.in_ok-push_body.ensures.pushed
    (went_on (went_on kept.went read_on (search rules)) c.push_body.ensures.ran (search rules))
    c.with-census.ensures.count c.with-census.ensures.mass c.with-census.ensures.gone
