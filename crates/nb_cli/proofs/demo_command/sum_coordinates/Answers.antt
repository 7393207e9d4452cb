use Rattle.std.proofs.Common.{◌≡◌, ◌⊎◌, ◌<◌, ◌^◌, IsOk, Err, List, [], ◌∷◌, ◌++◌, length, refl, sym, ap, subst, ◌∙◌, arith, rules}
use Rattle.std.proofs.lemmas.List.{length_push}
use Rattle.nb_model.specs.declared.body.Body.{Body}
use Rattle.nb_host.proofs.Callers.{ok_is_no_error}
use Rattle.nb_format.specs.declared.snap_error.SnapError.{SnapError}
use Rattle.nb_format.specs.declared.snap_error.SnapError.TheVariants as snap
use Rattle.nb_format.specs.Reader.{count_of, MayFollow, IsBehind}
use Rattle.nb_format.specs.Snapshot.{IsSnapshot}
use Rattle.nb_engine.specs.declared.refusal.Refusal.{Refusal}
use Rattle.nb_engine.specs.Refusal.{NeedsNoCause}
use Rattle.nb_engine.proofs.Callers.{not_ended}
use Rattle.nb_cli.specs.Demo.{of_reading_back, coordinate_sum, IsUnlike}
use Rattle.nb_cli.proofs.ReadingBack.{read_back_cause, read_back_fault, refused_never, read_whole, read_back_none, read_back_told, reads_still, open_still, read_back_more, read_back_ran, coordinate_sum-push}
use Rattle.nb_cli.proofs.demo_command.sum_coordinates.Goals as goal

pub loop-index-init : goal.loop-index-init
loop-index-init g c =
    let fine : IsOk c.begin_reading.result = search rules in
    record {
      bodies = [];
      read = read_back_none c.in_ok-reader.ensures.start c.in_ok-reader.ensures.header c.begin_reading.ensures.ran
          (ok_is_no_error fine);
      count = refl;
      sum_is = refl;
      small = omega arith;
    }

pub returns-in-Err-clause-cause : goal.returns-in-Err-clause-cause
returns-in-Err-clause-cause g c =
    let m = g.H.Host.meaning in
    let kept = c.loop-index.invariant in
    let bytes = (m.contents c.args.host.now).file c.args.file in
    let Written : Type 0 = (bodies : List Body) × IsSnapshot bytes bodies c.args.time × (length bodies ≡ c.args.count) in
    subst (λ (why : Refusal). NeedsNoCause why ⊎ IsUnlike m c.args.file Written why) (sym c.unread.ensures)
    (read_back_cause Written c.in-Err.error c.args.file c.loop-index.index
    (λ by told written.
    refused_never (c.in-Err.ensures.first bytes kept.bodies told (read_back_told kept.read told) (reads_still kept.read) by)
    written.0 c.args.time written.1))

pub returns-in-Err-clause-ran : goal.returns-in-Err-clause-ran
returns-in-Err-clause-ran g c =
    let index = c.loop-index.index in
    read_back_ran c.loop-index.invariant.read c.next.ensures.ran
    (λ faulted. c.in-Err.is ∙ ap Err (read_back_fault c.in-Err.error c.args.file index (cc)))
    (λ faulted.
    let same : c.in-Err.error ≡ snap.Fault = (cc) in
    ap Err (c.unread.ensures ∙ ap (λ (e : SnapError). of_reading_back e c.args.file index) same))

pub loop-index-preserved : goal.loop-index-preserved
loop-index-preserved g c =
    let kept = c.loop-index.invariant in
    let body = c.in-Ok-Some.body in
    let follows : MayFollow c.loop-index.reader body = rw c.in-Ok-Some.field-0-is at c.in-Ok-Some.ensures.follows in
    let behind : IsBehind body c.loop-index.reader c.next.new.self = rw c.in-Ok-Some.field-0-is at c.in-Ok-Some.ensures.moved in
    let box = follows.stored.valid.at in
    let x : body.at.x < 2 ^ 40 = box.x in
    let y : body.at.y < 2 ^ 40 = box.y in
    let z : body.at.z < 2 ^ 40 = box.z in
    record {
      bodies = kept.bodies ++ body ∷ [];
      read = read_back_more body kept.read (λ e. not_ended c.in-Ok-Some.field-0-is (c.in-Ok-Some.ensures.end.1 e)) follows behind
          (λ told.
          let next = c.in-Ok-Some.ensures.body _ kept.bodies told (read_back_told kept.read told) (open_still kept.read) in
          rw c.in-Ok-Some.field-0-is at next)
          c.next.ensures.ran (search rules);
      count = omega (arith, length_push kept.bodies body);
      sum_is = omega (arith, coordinate_sum-push kept.bodies body);
      small = omega arith;
    }

pub returns-clause-sum : goal.returns-clause-sum
returns-clause-sum g c = λ told bodies is.
    let kept = c.loop-index.invariant in
    let all : length kept.bodies ≡ count_of c.loop-index.reader = omega (arith, kept.count, kept.read.given.count, c.in_ok-reader.ensures.count) in
    kept.sum_is ∙ ap coordinate_sum (sym (read_whole (read_back_told kept.read told) all is))
