-- The file that was found or added is put back with these bytes.
use Rattle.std.proofs.Common.{ℕ, List, ap, ◌∙◌, rules}
use Rattle.nb_host.specs.Disk.{synced_file}
use Rattle.nb_host.proofs.StoredFiles.{found-put_back}
use Rattle.nb_host.proofs.files.Files.place.Goals as goal

pub returns-clause-ok : goal.returns-clause-ok
returns-clause-ok c =
    let index = c.in_ok-index.ensures in
    found-put_back c.slot.new.self.list.items c.args.self.now.list.items c.args.number c.in_ok-index.index
    c.index_mut.result.now c.place.new.self (λ _. synced_file c.args.bytes.now) index.index index.within
    c.place.ensures.number c.index_mut.ensures.value
    (c.place.ensures.file ∙ ap (λ (bytes : List ℕ). synced_file bytes) (search rules)) index.same
