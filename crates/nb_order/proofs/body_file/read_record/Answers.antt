use Rattle.std.proofs.Common.{ap, sym, ◌∙◌}
use Rattle.nb_record.specs.Records.{body_record, body_of, kick_of}
use Rattle.nb_order.proofs.Reading.{checked_same}
use Rattle.nb_order.proofs.body_file.read_record.Goals as goal

pub returns-in-Some-clause-body : goal.returns-in-Some-clause-body
returns-in-Some-clause-body c =
    c.in-Some.ensures.1
    ∙ ap (λ l. body_of (body_record c.args.index l)) (checked_same c.args.page c.args.bytes.now c.in-Ok.bodies (sym c.check.ensures.value ∙ c.in-Ok.is))

pub returns-in-Some-clause-kick : goal.returns-in-Some-clause-kick
returns-in-Some-clause-kick c =
    c.kick.ensures.value
    ∙ ap (λ l. kick_of (body_record c.args.index l)) (checked_same c.args.page c.args.bytes.now c.in-Ok.bodies (sym c.check.ensures.value ∙ c.in-Ok.is))
