use Rattle.std.proofs.Common.{ℕ, List, ◌++◌, drop, replicate, ap, ◌∙◌}
use Rattle.std.proofs.lemmas.List.{drop-replicate}
use Rattle.nb_journal.specs.Counters.{log_under}
use Rattle.nb_journal.specs.Form.{header, header_fields}
use Rattle.nb_journal.proofs.form.page.Goals as goal

pub returns : goal.returns
unfolding header
returns c =
    ap (λ (w : List ℕ). w ++ drop 88 (replicate 4096 0)) (c.copy_from_slice.ensures.after ∙ c.page_front.ensures)
    ∙ ap (λ (w : List ℕ). header_fields c.args.gate (log_under c.args.heading.now) ++ w) (drop-replicate 88 4096 0)
