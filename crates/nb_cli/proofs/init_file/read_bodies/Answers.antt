use Rattle.std.proofs.Common.{◌≡◌, List, [], ◌∷◌, ◌++◌, rules, arith, Err, subst, sym, ◌∙◌}
use Rattle.std.proofs.lemmas.Grind.{common_steps}
use Rattle.nb_host.proofs.Callers.{stays_contents, stays_both}
use Rattle.nb_model.specs.declared.body.Body.{Body}
use Rattle.nb_format.specs.declared.snap_error.SnapError.TheVariants as snap
use Rattle.nb_format.specs.Reader.{MayFollow, IsBehind}
use Rattle.nb_engine.specs.Files.{init_file}
use Rattle.nb_engine.proofs.Callers.{HasGiven, HasGiven-more, IsBad, IsFrontOf-same, not_ended, file-same}
use Rattle.nb_cli.proofs.init_file.read_bodies.Goals as goal

pub returns-in_err-body-clause-bad : goal.returns-in_err-body-clause-bad
returns-in_err-body-clause-bad g c =
    let kept = c.loop-bodies.invariant in
    let file = (g.H.Host.meaning.contents c.args.host.now).file init_file in
    let handed_on : c.from_residual.result ≡ Err c.in_err-body.field-0.0 = search rules in
    let why : IsBad g.H.Host.meaning.tells c.args.reader file c.in_err-body.field-0.0 = λ by told begun.
    c.in_err-body.ensures.first _ _ told (kept.given.has told begun) (file-same (stays_contents kept.stays) (kept.given.file ∙ c.requires.file)) by in
    rw handed_on why

pub loop-bodies-preserved : goal.loop-bodies-preserved
loop-bodies-preserved g c =
    let kept = c.loop-bodies.invariant in
    let body = c.in-Some.body in
    let items : c.push.new.self.items ≡ c.loop-bodies.bodies.items ++ body ∷ [] = grind (arith, common_steps) in
    let follows : MayFollow c.loop-bodies.reader body = rw c.in-Some.is at c.in_ok-body.ensures.follows in
    let behind : IsBehind body c.loop-bodies.reader c.next.new.self = rw c.in-Some.is at c.in_ok-body.ensures.moved in
    let more = HasGiven-more kept.given (λ e. not_ended c.in-Some.is (c.in_ok-body.ensures.end.1 e)) follows behind (λ told read.
    let next = c.in_ok-body.ensures.body _ _ told read (record { reads = λ _. IsFrontOf-same _ (sym (file-same (stays_contents kept.stays) (kept.given.file ∙ c.requires.file))); images = λ _ _ _. tt }) in
    rw c.in-Some.is at next) in
    record {
      given = let P : List Body → Type 0 = λ bodies. HasGiven g.H.Host.meaning.tells ((g.H.Host.meaning.contents c.args.host.now).file init_file) c.args.reader c.next.new.self bodies in subst P (sym items) more;
      stays = stays_both kept.stays c.next.ensures.ran.leads;
      faults = c.next.ensures.ran.spared (search rules) ∙ kept.faults;
      tally = c.next.ensures.ran.tally ∙ kept.tally;
    }

pub returns-in_err-map_err-clause-ran : goal.returns-in_err-map_err-clause-ran
returns-in_err-map_err-clause-ran g c =
    let m = g.H.Host.meaning in
    let kept = c.loop-bodies.invariant in
    let faults : m.faults c.next.new.host ≡ m.faults c.args.host.now = c.next.ensures.ran.spared (search rules) ∙ kept.faults in
    let no_memory : c.from_residual-in_err-map_err.result ≡ Err snap.NoMemory = search rules in
    record {
      leads = stays_both kept.stays c.next.ensures.ran.leads;
      count = omega (arith, faults);
      rose = λ is. absurd (cc);
      spared = λ _. faults;
      tally = c.next.ensures.ran.tally ∙ kept.tally;
    }
