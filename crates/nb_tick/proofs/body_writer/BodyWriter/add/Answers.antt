use Rattle.std.proofs.Common.{◌≡◌, ◌+◌, [], ◌∷◌, refl, sym, subst, rules}
use Rattle.nb_cache.specs.View.{seen}
use Rattle.nb_cache.proofs.Callers.{writes_begins}
use Rattle.nb_tick.specs.Writer.{WriterValue, HasAdded}
use Rattle.nb_tick.proofs.Written.{written_pushed}
use Rattle.nb_tick.proofs.body_writer.BodyWriter.add.Goals as goal

pub returns-then-self-eq-MOST_BODIES-clause-ran : goal.returns-then-self-eq-MOST_BODIES-clause-ran
returns-then-self-eq-MOST_BODIES-clause-ran g c = record {
  writes = writes_begins g.H.Host.meaning (c.args.self.now.file ∷ []) c.args.cache.now c.args.host.now c.requires.in_step;
  rose = λ faulted. absurd (cc);
  spared = λ _. refl;
}

pub returns-clause-added : goal.returns-clause-added
returns-clause-added g c =
    let before : WriterValue = record { file = c.self.inside.file; count = c.self.inside.count } in
    let after : WriterValue = record { file = c.self.inside.file; count = c.self.inside.count + 1 } in
    let same : c.args.self.now ≡ before = search rules in
    let m = g.H.Host.meaning in
    subst (λ (w : WriterValue). HasAdded m (record { body = c.args.body.now; kick = c.args.kick.now }) c.args.cache.now c.args.host.now w c.push_body.new.cache c.push_body.new.host after)
    (sym same)
    (record {
      count_is = refl;
      written = λ tells list has.
          written_pushed (seen m c.args.cache.now c.args.host.now) (seen m c.push_body.new.cache c.push_body.new.host) before after list
          c.args.body.now c.args.kick.now refl refl (c.in_ok-push_body.ensures.pushed.told tells) has;
    })
