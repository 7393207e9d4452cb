use Rattle.std.proofs.Common.{[], refl, ◌∙◌, ap, rules}
use Rattle.std.specs.Int.{w64, to_le_bytes}
use Rattle.nb_format.proofs.Parts.{put_more}
use Rattle.nb_format.proofs.RecordBytes.{fields_encoded, signed_kept}
use Rattle.nb_format.proofs.record.Fields.encode.Goals as goal

pub returns : goal.returns
returns c =
    let id = put_more c.put.new.bytes c.put.new.bytes [] _ _ 0 8 refl c.put.ensures.front c.to_le_bytes.ensures refl in
    let mass = put_more _ _ _ _ _ 8 4 id c.put-2.ensures.front c.to_le_bytes-2.ensures refl in
    let flag = put_more _ _ _ _ _ 12 4 mass c.put-3.ensures.front c.to_le_bytes-3.ensures refl in
    let x = put_more _ _ _ _ _ 16 8 flag c.put-4.ensures.front c.to_le_bytes-4.ensures refl in
    let y = put_more _ _ _ _ _ 24 8 x c.put-5.ensures.front c.to_le_bytes-5.ensures refl in
    let z = put_more _ _ _ _ _ 32 8 y c.put-6.ensures.front c.to_le_bytes-6.ensures refl in
    let vx = put_more _ _ _ _ _ 40 8 z c.put-7.ensures.front (c.to_le_bytes-7.ensures ∙ ap (to_le_bytes w64) (signed_kept _ c.args.self.now.v.x (search rules) c.cast_unsigned.ensures)) refl in
    let vy = put_more _ _ _ _ _ 48 8 vx c.put-8.ensures.front (c.to_le_bytes-8.ensures ∙ ap (to_le_bytes w64) (signed_kept _ c.args.self.now.v.y (search rules) c.cast_unsigned-2.ensures)) refl in
    let vz = put_more _ _ _ _ _ 56 8 vy c.put-9.ensures.front (c.to_le_bytes-9.ensures ∙ ap (to_le_bytes w64) (signed_kept _ c.args.self.now.v.z (search rules) c.cast_unsigned-3.ensures)) refl in
    fields_encoded _ c.args.self.now (c.put-9.ensures.length ∙ c.put-8.ensures.length ∙ c.put-7.ensures.length ∙ c.put-6.ensures.length ∙ c.put-5.ensures.length ∙ c.put-4.ensures.length ∙ c.put-3.ensures.length ∙ c.put-2.ensures.length ∙ c.put.ensures.length) vz
