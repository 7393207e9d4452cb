-- The bytes so far and the one that was pushed are those of one more offset.
use Rattle.std.proofs.Common.{ℕ, List, ◌++◌, [], ◌∷◌, map, Some, sym, ap, ◌∙◌, arith}
use Rattle.std.specs.List.{range_with_len}
use Rattle.std.proofs.lemmas.List.FromFn.{map-range_with_len_more}
use Rattle.nb_host.specs.Disk.{filled_byte}
use Rattle.nb_host.specs.Files.{changed_file}
use Rattle.nb_host.proofs.stored_file.Changes.filled_with.Goals as goal

pub loop-offset-preserved : goal.loop-offset-preserved
loop-offset-preserved c = λ bytes.
    let byte = filled_byte c.args.filler (changed_file bytes (Some c.args.self.now)) in
    let offset = c.loop-offset.offset in
    c.in_ok-push.ensures.items
    ∙ ap (λ (all : List ℕ). all ++ c.filled_byte.result ∷ []) (c.loop-offset.invariant bytes)
    ∙ ap (λ (b : ℕ). map byte (range_with_len 0 offset) ++ b ∷ []) (c.filled_byte.ensures bytes)
    ∙ sym (map-range_with_len_more byte 0 offset offset (omega arith))
