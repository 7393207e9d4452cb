use Rattle.std.proofs.Common.{sym, ap, subst, ◌∙◌, arith, rules}
use Rattle.nb_format.specs.Fields.{fields_bytes}
use Rattle.nb_format.proofs.RecordBytes.{Fit, body_bytes_is, stored_from_fit}
use Rattle.nb_format.proofs.record.encode.Goals as goal

pub returns-clause-bytes : goal.returns-clause-bytes
returns-clause-bytes c = c.encode.ensures ∙ ap fields_bytes c.of.ensures ∙ sym (body_bytes_is c.args.body.now)

pub returns-clause-stored : goal.returns-clause-stored
returns-clause-stored c = λ valid.
    let fit : Fit c.of.result = record {
      id = omega arith;
      mass = omega arith;
      flag = omega arith;
      x = omega arith;
      y = omega arith;
      z = omega arith;
      velocity = record { x = search rules; y = search rules; z = search rules };
    } in
    stored_from_fit c.args.body.now (subst Fit c.of.ensures fit) valid
