use Rattle.nb_format.proofs.RecordBytes.{fields_decoded, signed_back}
use Rattle.nb_format.proofs.record.Fields.decode.Goals as goal

pub returns : goal.returns
returns c =
    fields_decoded c.args.bytes.now _ _ _ _ c.told-bytes
    (record { id = c.u64_at.ensures; mass = c.u32_at.ensures; flag = c.u32_at-2.ensures; x = c.u64_at-2.ensures; y = c.u64_at-3.ensures; z = c.u64_at-4.ensures; vx = c.u64_at-5.ensures; vy = c.u64_at-6.ensures; vz = c.u64_at-7.ensures })
    (signed_back _ _ c.u64_at-5.type_inv c.cast_signed.ensures)
    (signed_back _ _ c.u64_at-6.type_inv c.cast_signed-2.ensures)
    (signed_back _ _ c.u64_at-7.type_inv c.cast_signed-3.ensures)
