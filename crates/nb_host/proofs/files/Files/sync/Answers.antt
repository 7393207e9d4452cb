-- Each file is done.
use Rattle.std.proofs.Common.{◌≡◌, List, refl, ◌∙◌, arith, ap, length, ◌≤◌}
use Rattle.nb_host.specs.Disk.{DiskFile, synced_file}
use Rattle.nb_host.specs.Files.{disk_file_of, found}
use Rattle.nb_host.specs.declared.stored_file.StoredFile.{StoredFile}
use Rattle.nb_host.proofs.StoredFiles.{found-done, found-change, items_back}
use Rattle.nb_host.proofs.files.Files.sync.Goals as goal

pub returns : goal.returns
returns c = λ number.
    let old = c.args.self.now.list.items in
    let change : DiskFile → DiskFile = λ file. synced_file file.reads in
    let all : length old ≤ c.loop-file.file-index =
    omega (arith, c.loop-file-test.false, c.deref_mut-file-items.ensures.len, c.args.self.now.list.ok.0)
    in
    let back = items_back c.args.self.now.list.len old c.loop-file.file-items c.args.self.now.list.ok.0
    c.loop-file.invariant.counts
    in
    ap (λ (items : List StoredFile). found disk_file_of items number) back
    ∙ found-done (λ o n. (n.number ≡ o.number) × (disk_file_of n ≡ change (disk_file_of o))) disk_file_of
    (λ s. change (disk_file_of s)) old c.loop-file.file-items c.loop-file.file-index (λ o n done. done)
    c.loop-file.invariant all number
    ∙ found-change change refl old number
