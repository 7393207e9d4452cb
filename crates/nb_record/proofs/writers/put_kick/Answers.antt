use Rattle.std.proofs.Common.{◌≡◌, sym, ap, rules}
use Rattle.std.specs.Int.{w64, cast_unsigned}
use Rattle.nb_record.specs.Fields.{written}
use Rattle.nb_record.proofs.Rows.{vector_row}
use Rattle.nb_record.proofs.writers.put_kick.Goals as goal

pub returns : goal.returns
returns c =
    let vx : c.cast_unsigned.result ≡ cast_unsigned w64 c.args.kick.now.x = search rules in
    let vy : c.cast_unsigned-2.result ≡ cast_unsigned w64 c.args.kick.now.y = search rules in
    let vz : c.cast_unsigned-3.result ≡ cast_unsigned w64 c.args.kick.now.z = search rules in
    rw (c.put_words.ensures.bytes, vx, vy, vz) (ap (λ row. written c.args.offset row c.args.into.now) (sym (vector_row c.args.kick.now)))
