use Rattle.std.proofs.Common.{[], refl, ◌∙◌}
use Rattle.nb_format.proofs.Parts.{put_more}
use Rattle.nb_format.proofs.HeaderBytes.{header_put}
use Rattle.nb_format.proofs.header.encode.Goals as goal

pub returns : goal.returns
returns c =
    let opened = put_more c.put.new.bytes c.put.new.bytes [] _ _ 0 1 refl c.put.ensures.front refl refl in
    let named = put_more _ _ _ _ _ 1 7 opened c.put-2.ensures.front refl refl in
    let counted = put_more _ _ _ _ _ 8 8 named c.put-3.ensures.front c.to_le_bytes.ensures refl in
    let timed = put_more _ _ _ _ _ 16 8 counted c.put-4.ensures.front c.to_le_bytes-2.ensures refl in
    let whole = put_more _ _ _ _ _ 24 8 timed c.put-5.ensures.front refl refl in
    let long = c.put-5.ensures.length ∙ c.put-4.ensures.length ∙ c.put-3.ensures.length ∙ c.put-2.ensures.length ∙ c.put.ensures.length in
    header_put c.put-5.new.bytes c.args.count c.args.time long whole
