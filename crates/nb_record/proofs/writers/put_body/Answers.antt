use Rattle.std.proofs.Common.{◌≡◌, ◌+◌, ◌∷◌, [], cond, ◌∙◌, ap, arith, rules}
use Rattle.std.specs.Int.{w64, cast_unsigned}
use Rattle.std.specs.List.{flat_map}
use Rattle.nb_record.specs.Fields.{u64_bytes, u32_bytes, written}
use Rattle.nb_record.proofs.Writes.{length-u64_bytes, length-u32_bytes}
use Rattle.nb_record.proofs.Rows.{body_row, four_writes}
use Rattle.nb_record.proofs.writers.put_body.Goals as goal

pub returns-clause-bytes : goal.returns-clause-bytes
returns-clause-bytes c =
    let vx : c.cast_unsigned.result ≡ cast_unsigned w64 c.args.body.now.v.x = search rules in
    let vy : c.cast_unsigned-2.result ≡ cast_unsigned w64 c.args.body.now.v.y = search rules in
    let vz : c.cast_unsigned-3.result ≡ cast_unsigned w64 c.args.body.now.v.z = search rules in
    let start : c.args.offset + 0 ≡ c.args.offset = omega arith in
    let first : c.put_word.new.into ≡ written c.args.offset (u64_bytes c.args.body.now.id) c.args.into.now = c.put_word.ensures ∙ ap (λ offset. written offset (u64_bytes c.args.body.now.id) c.args.into.now) start in
    rw (body_row c.args.body.now, c.put_words.ensures.bytes, vx, vy, vz, c.put_short-2.ensures, c.flag_of.ensures, c.put_short.ensures, first)
    (four_writes c.args.offset c.args.into.now (u64_bytes c.args.body.now.id) (u32_bytes c.args.body.now.mass) (u32_bytes (cond c.args.body.now.out 1 0))
    (flat_map u64_bytes (c.args.body.now.at.x ∷ c.args.body.now.at.y ∷ c.args.body.now.at.z ∷ cast_unsigned w64 c.args.body.now.v.x ∷ cast_unsigned w64 c.args.body.now.v.y ∷ cast_unsigned w64 c.args.body.now.v.z ∷ []))
    c.requires (length-u64_bytes c.args.body.now.id) (length-u32_bytes c.args.body.now.mass) (length-u32_bytes (cond c.args.body.now.out 1 0)))
