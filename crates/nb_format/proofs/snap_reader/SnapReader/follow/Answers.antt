use Rattle.std.proofs.Common.{refl, rules, arith}
use Rattle.std.proofs.lemmas.Bool.{false≢true}
use Rattle.nb_format.proofs.RecordBytes.{Fit, record_of_ok}
use Rattle.nb_format.proofs.RecordRefusals.{id_order_is, follow_accepted, follow_refused}
use Rattle.nb_format.proofs.snap_reader.SnapReader.follow.Goals as goal

pub returns-then-not-rises-clause-refusal : goal.returns-then-not-rises-clause-refusal
returns-then-not-rises-clause-refusal c =
    let f = c.decode-fields.result in
    let fit : Fit f = record {
      id = omega arith;
      mass = omega arith;
      flag = omega arith;
      x = omega arith;
      y = omega arith;
      z = omega arith;
      velocity = record { x = search rules; y = search rules; z = search rules };
    } in
    id_order_is c.args.self.now.read c.args.self.now.last c.args.bytes.now f fit c.decode-fields.ensures
    (λ above. false≢true (c.if-not-rises.ensures.1 above))

pub returns-clause-spelled : goal.returns-clause-spelled
returns-clause-spelled c = record_of_ok c.args.bytes.now c.decode-fields.result c.body.result c.decode-fields.ensures c.body.ensures.fields

pub returns-clause-accepted : goal.returns-clause-accepted
returns-clause-accepted c =
    let f = c.decode-fields.result in
    let fit : Fit f = record {
      id = omega arith;
      mass = omega arith;
      flag = omega arith;
      x = omega arith;
      y = omega arith;
      z = omega arith;
      velocity = record { x = search rules; y = search rules; z = search rules };
    } in
    follow_accepted c.args.self.now.read c.args.self.now.last c.args.bytes.now f c.body.result fit c.decode-fields.ensures
    (c.if-not-rises.ensures.0 refl) c.body.ensures.fields c.body.ensures.stored

pub returns-clause-refusal : goal.returns-clause-refusal
returns-clause-refusal c =
    let f = c.decode-fields.result in
    let fit : Fit f = record {
      id = omega arith;
      mass = omega arith;
      flag = omega arith;
      x = omega arith;
      y = omega arith;
      z = omega arith;
      velocity = record { x = search rules; y = search rules; z = search rules };
    } in
    follow_refused c.args.self.now.read c.args.self.now.last c.args.bytes.now f c.body.result fit c.decode-fields.ensures
    (c.if-not-rises.ensures.0 refl) c.body.ensures.refusal
