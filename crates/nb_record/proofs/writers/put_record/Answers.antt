use Rattle.nb_record.proofs.Rows.{two_writes}
use Rattle.nb_record.proofs.writers.put_record.Goals as goal

pub returns-clause-bytes : goal.returns-clause-bytes
returns-clause-bytes c =
    rw (c.put_kick.ensures, c.put_body.ensures.bytes) (two_writes c.args.offset c.args.into.now c.args.body.now c.args.kick.now c.requires)
