use Rattle.std.proofs.Common.{◌++◌, ◌∷◌, [], refl, sym, subst, arith, rules}
use Rattle.std.proofs.lemmas.List.Elements.{All-head, All-tail}
use Rattle.nb_model.specs.Valid.{IsValidBody, IsDriftedBody}
use Rattle.nb_model.proofs.Facts.{kicked_again_body}
use Rattle.nb_cache.proofs.Callers.{writes_begins}
use Rattle.nb_order.specs.declared.body_file.KickedBody.{KickedBody}
use Rattle.nb_tick.proofs.kicking.KickerReceiver.take.Goals as goal

pub returns-then-not-is_valid-clause-goes_on : goal.returns-then-not-is_valid-clause-goes_on
returns-then-not-is_valid-clause-goes_on g c = λ tells more fits.
    let k : KickedBody = record { body = c.args.body.now; kick = c.args.kick.now } in
    let slow = All-head (λ (one : KickedBody). IsDriftedBody one.body) k more fits.1 in
    let valid : IsValidBody c.accelerate-kicked.result =
    subst IsValidBody (sym c.accelerate-kicked.ensures) (kicked_again_body c.args.self.now.way c.args.body.now c.args.kick.now slow c.requires.kick) in
    absurd (search rules)

pub returns-then-not-is_valid-clause-ran : goal.returns-then-not-is_valid-clause-ran
returns-then-not-is_valid-clause-ran g c = record {
  writes = writes_begins g.H.Host.meaning (c.args.self.now.writer.file ∷ []) c.args.cache.now c.args.host.now c.requires.in_step;
  rose = λ faulted. absurd (cc);
  spared = λ _. refl;
}

pub returns-clause-goes_on : goal.returns-clause-goes_on
returns-clause-goes_on g c = λ tells more fits.
    let k : KickedBody = record { body = c.args.body.now; kick = c.args.kick.now } in
    let added = c.in_ok-add.ensures.added in
    let can = fits.0 in (
      (
        record {
          list = can.list ++ record { body = c.accelerate-kicked.result; kick = c.args.kick.now } ∷ [];
          written = added.written tells can.list can.written;
          room = omega (arith, can.room, added.count_is);
        },
        All-tail (λ (one : KickedBody). IsDriftedBody one.body) k more fits.1,
      ),
      λ name is. absurd (cc),
    )
