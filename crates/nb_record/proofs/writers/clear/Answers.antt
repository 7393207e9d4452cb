use Rattle.std.proofs.Common.{◌≡◌, ◌++◌, drop, ap, ◌∙◌, arith}
use Rattle.std.specs.Prelude.{replicate}
use Rattle.std.proofs.lemmas.List.{append-nil, drop_all}
use Rattle.nb_host.specs.declared.page_name.TheConstants.{PAGE_SIZE}
use Rattle.nb_record.specs.Writing.{zero_page}
use Rattle.nb_record.proofs.writers.clear.Goals as goal

pub returns : goal.returns
unfolding zero_page
returns c =
    let all : c.loop-byte.byte-index ≡ PAGE_SIZE = omega arith in
    c.loop-byte.invariant
    ∙ ap (λ i. replicate i 0 ++ drop i c.args.into.now) all
    ∙ ap (λ l. replicate PAGE_SIZE 0 ++ l) (drop_all PAGE_SIZE c.args.into.now (omega arith))
    ∙ append-nil (replicate PAGE_SIZE 0)
