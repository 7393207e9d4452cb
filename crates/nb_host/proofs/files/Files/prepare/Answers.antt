-- Each file that is made ready stays as it was.
use Rattle.std.proofs.Common.{◌≡◌, ℕ, ◌+◌, ◌<◌, ◌≤◌, List, [], length, set, ap, ◌∙◌, arith}
use Rattle.std.proofs.lemmas.List.{get_or_default, length-set}
use Rattle.nb_host.specs.Disk.{DiskFile, synced_file, left_file}
use Rattle.nb_host.specs.Files.{disk_file_of, ready_of, found}
use Rattle.nb_host.specs.declared.outcome.Outcome.TheVariants.{Filled}
use Rattle.nb_host.specs.declared.stored_file.StoredFile.{StoredFile}
use Rattle.nb_host.proofs.StoredFiles.{done_weaken, one_more_done, found-done, found-kept, found-change, filled_synced, items_back}
use Rattle.nb_host.proofs.files.Files.prepare.Goals as goal

abbrev kept : StoredFile → StoredFile → Type 0
kept o n = (n.number ≡ o.number) × (disk_file_of n ≡ disk_file_of o)

abbrev ready : ℕ → StoredFile → StoredFile → Type 0
ready filler o n = (n.number ≡ o.number) × (disk_file_of n ≡ disk_file_of o)
    × (ready_of n ≡ synced_file (left_file (Filled filler) (disk_file_of o)))

pub returns-in_err-prepare-clause-same : goal.returns-in_err-prepare-clause-same
returns-in_err-prepare-clause-same c = λ number.
    let old = c.args.self.now.list.items in
    let items = c.loop-file.file-items in
    let index = c.loop-file.file-index in
    let len = c.args.self.now.list.ok.0 in
    let counts = c.loop-file.invariant.counts in
    let within : index < length old =
    omega (arith, c.loop-file-test.true, c.deref_mut-file-items.ensures.len, len)
    in
    let inside : index < length items = omega (arith, within, counts) in
    let prepared = c.prepare.new.self in
    let so_far =
    done_weaken (ready c.args.filler) kept old items index (λ o n done. (done.0, done.1)) c.loop-file.invariant
    in
    let one_more = one_more_done kept old items index prepared so_far within (λ other.
    let read = get_or_default items index c.file-item.result other inside in
    (c.prepare.ensures.number ∙ ap (λ (s : StoredFile). s.number) read, c.prepare.ensures.same ∙ ap disk_file_of read))
    in
    let back = items_back c.args.self.now.list.len old (set items index prepared) len
    (length-set items index prepared ∙ counts)
    in
    ap (λ (items : List StoredFile). found disk_file_of items number) back
    ∙ found-kept kept old (set items index prepared) (index + 1) (λ o n done. done) one_more number

pub returns-clause-ok : goal.returns-clause-ok
returns-clause-ok c = λ number.
    let old = c.args.self.now.list.items in
    let len = c.args.self.now.list.ok.0 in
    let change : DiskFile → DiskFile = λ file. synced_file (left_file (Filled c.args.filler) file) in
    let all : length old ≤ c.loop-file.file-index =
    omega (arith, c.loop-file-test.false, c.deref_mut-file-items.ensures.len, len)
    in
    let back = items_back c.args.self.now.list.len old c.loop-file.file-items len c.loop-file.invariant.counts in
    ap (λ (items : List StoredFile). found ready_of items number) back
    ∙ found-done (ready c.args.filler) ready_of (λ s. change (disk_file_of s)) old c.loop-file.file-items
    c.loop-file.file-index (λ o n done. (done.0, done.2)) c.loop-file.invariant all number
    ∙ found-change change (ap synced_file (filled_synced c.args.filler [])) old number

pub returns-clause-same : goal.returns-clause-same
returns-clause-same c = λ number.
    let old = c.args.self.now.list.items in
    let back = items_back c.args.self.now.list.len old c.loop-file.file-items c.args.self.now.list.ok.0
    c.loop-file.invariant.counts
    in
    ap (λ (items : List StoredFile). found disk_file_of items number) back
    ∙ found-kept (ready c.args.filler) old c.loop-file.file-items c.loop-file.file-index
    (λ o n done. (done.0, done.1)) c.loop-file.invariant number
