-- The file has grown to the range's end, so the bytes put there are the write.
use Rattle.std.proofs.Common.{◌∙◌}
use Rattle.nb_host.proofs.Grown.{written_back}
use Rattle.nb_host.proofs.stored_file.overwrite.Goals as goal

pub returns-clause-ok : goal.returns-clause-ok
returns-clause-ok c =
    let file = c.args.file.now.items in
    let grown = c.grow.new.file in
    written_back c.args.at grown.len c.args.bytes.now file grown.items c.replace.new.file
    c.requires.some c.in_ok-grow.ensures.ok (rw c.deref_mut.ensures.value at c.replace.ensures)
    (c.replace.auto.file ∙ c.deref_mut.ensures.len)
