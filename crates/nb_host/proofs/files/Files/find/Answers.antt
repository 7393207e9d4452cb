-- Each file before the one that is found has another number, and so has each where none is found.
use Rattle.std.proofs.Common.{List, get_or, arith, eq-eqb, ap, sym, ◌∙◌}
use Rattle.nb_host.specs.declared.stored_file.StoredFile.{StoredFile}
use Rattle.nb_host.proofs.StoredFiles.{first_is_position, none_is_position}
use Rattle.nb_host.proofs.files.Files.find.Goals as goal

pub returns-then-file-number-clause-index : goal.returns-then-file-number-clause-index
returns-then-file-number-clause-index c =
    let files = c.args.self.now.list.items in
    let file = c.file-item.result in
    let read : List StoredFile → StoredFile = λ items. get_or items c.loop-index.index file in
    let named = ap (λ (s : StoredFile). s.number) (sym (c.file-item.is ∙ ap read c.deref-file-items.ensures.value)) in
    first_is_position files c.args.number c.loop-index.index file c.loop-index.invariant (omega arith)
    (eq-eqb (read files).number c.args.number (named ∙ c.if-file-number.true))

pub returns-clause-index : goal.returns-clause-index
returns-clause-index c =
    c.len.ensures ∙ c.args.self.now.list.ok.0
    ∙ none_is_position c.args.self.now.list.items c.args.number
    (λ k other below. c.loop-index.invariant k other (omega (arith, c.loop-index-test.false)))
