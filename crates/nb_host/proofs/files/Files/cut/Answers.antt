-- The file that was found or added is put back as the cut leaves it.
use Rattle.std.proofs.lemmas.Result.{on_ok_weaker, on_err_weaker}
use Rattle.nb_host.specs.Disk.{cut_file}
use Rattle.nb_host.proofs.StoredFiles.{found-put_back, found-put_same}
use Rattle.nb_host.proofs.files.Files.cut.Goals as goal

pub returns-clause-ok : goal.returns-clause-ok
returns-clause-ok c =
    let index = c.in_ok-index.ensures in
    on_ok_weaker c.cut.result
    (λ changed.
    found-put_back c.slot.new.self.list.items c.args.self.now.list.items c.args.number c.in_ok-index.index
    c.index_mut.result.now c.cut.new.self (cut_file c.args.len) index.index index.within c.cut.ensures.number
    c.index_mut.ensures.value changed index.same)
    c.cut.ensures.ok

pub returns-clause-err : goal.returns-clause-err
returns-clause-err c =
    let index = c.in_ok-index.ensures in
    on_err_weaker c.cut.result
    (λ kept.
    found-put_same c.slot.new.self.list.items c.args.self.now.list.items c.args.number c.in_ok-index.index
    c.index_mut.result.now c.cut.new.self index.index index.within c.cut.ensures.number
    c.index_mut.ensures.value kept index.same)
    c.cut.ensures.err
