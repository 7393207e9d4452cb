use Rattle.nb_journal.proofs.Spelled.{parse_leg, parse_tick}
use Rattle.nb_journal.proofs.reading.parse.Goals as goal

pub returns-then-bytes-eq-LEG : goal.returns-then-bytes-eq-LEG
returns-then-bytes-eq-LEG c = λ entry fits is.
    parse_leg entry c.args.bytes.now c.u64_at-first.result c.u64_at-first.type_inv c.u64_at-first.ensures c.if-bytes-eq-LEG.true fits is

pub returns : goal.returns
returns c = λ entry fits is.
    parse_tick entry c.args.bytes.now c.u64_at-first.result c.u64_at.result c.u64_at-first.type_inv c.u64_at.type_inv
    c.u64_at-first.ensures c.u64_at.ensures c.if-bytes-eq-LEG.false fits is
