use Rattle.std.proofs.Common.{◌≡◌, [], rules, Err, refl, sym, ◌∙◌}
use Rattle.nb_host.proofs.Callers.{stays_contents, stays_both, leads_none}
use Rattle.nb_format.specs.Reader.{MayFollow, IsBehind}
use Rattle.nb_engine.specs.Files.{init_file}
use Rattle.nb_engine.proofs.Reading.{HasGiven-none, HasGiven-more, IsBad, IsFrontOf-same, not_ended, file-same}
use Rattle.nb_engine.proofs.Surveys.{room_for, census-more, census_given}
use Rattle.nb_engine.proofs.init_file.survey.Goals as goal

pub loop-body-init : goal.loop-body-init
loop-body-init g c =
    let m = g.H.Host.meaning in
    record {
      given = ([], HasGiven-none init_file m.tells ((m.contents c.args.host.now).file init_file) c.args.reader c.requires, refl);
      stays = leads_none m c.args.host.now (λ image. refl);
      faults = refl;
      tally = refl;
    }

pub returns-in_err-body-clause-bad : goal.returns-in_err-body-clause-bad
returns-in_err-body-clause-bad g c =
    let kept = c.loop-body.invariant in
    let file = (g.H.Host.meaning.contents c.args.host.now).file init_file in
    let handed_on : c.from_residual.result ≡ Err c.in_err-body.field-0.0 = search rules in
    let why : IsBad g.H.Host.meaning.tells c.args.reader file c.in_err-body.field-0.0 = λ by told begun.
    c.in_err-body.ensures.first _ _ told (kept.given.1.has told begun)
    (file-same (stays_contents kept.stays) (kept.given.1.file ∙ c.requires.file)) by in
    rw handed_on why

pub with-census-requires-clause-room : goal.with-census-requires-clause-room
with-census-requires-clause-room g c =
    let given = c.loop-body.invariant.given in
    (room_for given.1 given.2 (λ e. not_ended c.in-Some.is (c.in_ok-body.ensures.end.1 e))).count

pub with-census-requires-clause-light : goal.with-census-requires-clause-light
with-census-requires-clause-light g c =
    let given = c.loop-body.invariant.given in
    (room_for given.1 given.2 (λ e. not_ended c.in-Some.is (c.in_ok-body.ensures.end.1 e))).mass

pub with-census-requires-clause-few : goal.with-census-requires-clause-few
with-census-requires-clause-few g c =
    let given = c.loop-body.invariant.given in
    (room_for given.1 given.2 (λ e. not_ended c.in-Some.is (c.in_ok-body.ensures.end.1 e))).gone

pub with-census-requires-clause-small : goal.with-census-requires-clause-small
with-census-requires-clause-small g c =
    let follows : MayFollow c.loop-body.reader c.in-Some.body = rw c.in-Some.is at c.in_ok-body.ensures.follows in
    follows.stored.valid.mass

pub loop-body-preserved : goal.loop-body-preserved
loop-body-preserved g c =
    let kept = c.loop-body.invariant in
    let body = c.in-Some.body in
    let follows : MayFollow c.loop-body.reader body = rw c.in-Some.is at c.in_ok-body.ensures.follows in
    let behind : IsBehind body c.loop-body.reader c.next.new.self = rw c.in-Some.is at c.in_ok-body.ensures.moved in
    let file = file-same (stays_contents kept.stays) (kept.given.1.file ∙ c.requires.file) in
    record {
      given = (
        _,
        HasGiven-more kept.given.1 (λ e. not_ended c.in-Some.is (c.in_ok-body.ensures.end.1 e)) follows behind
            (λ told read.
            let next = c.in_ok-body.ensures.body _ _ told read
            (record { reads = λ _. IsFrontOf-same _ (sym file); images = λ _ _ _. tt }) in
            rw c.in-Some.is at next),
        census-more kept.given.0 body kept.given.2 c.with-census.ensures.count c.with-census.ensures.mass c.with-census.ensures.gone,
      );
      stays = stays_both kept.stays c.next.ensures.ran.leads;
      faults = c.next.ensures.ran.spared (search rules) ∙ kept.faults;
      tally = c.next.ensures.ran.tally ∙ kept.tally;
    }

pub returns-clause-counted : goal.returns-clause-counted
returns-clause-counted g c = let given = c.loop-body.invariant.given in census_given given.1 given.2
