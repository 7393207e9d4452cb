-- Where the file isn't there it has no bytes, and else they are those of the one that is found.
use Rattle.std.proofs.Common.{ℕ, ◌<◌, ◌≤◌, length, get_or, ap, sym, ◌∙◌, arith}
use Rattle.std.specs.List.{position_or_len}
use Rattle.nb_host.specs.Disk.{DiskFile}
use Rattle.nb_host.specs.Files.{disk_file_of}
use Rattle.nb_host.proofs.StoredFiles.{is_file, found-absent, found-present}
use Rattle.nb_host.proofs.files.Files.bytes.Goals as goal

pub returns-then-index-len : goal.returns-then-index-len
returns-then-index-len c =
    let files = c.args.self.now.list.items in
    let none : length files ≤ position_or_len (is_file c.args.number) files =
    omega (arith, c.find-index.ensures.index, c.if-index-len.true, c.len.ensures, c.args.self.now.list.ok.0)
    in
    ap (λ (file : DiskFile). file.reads) (sym (found-absent files c.args.number none))

pub returns : goal.returns
returns c =
    let files = c.args.self.now.list.items in
    let number = c.args.number in
    let first = position_or_len (is_file number) files in
    let file = c.index.result.now in
    let at = c.find-index.ensures.index in
    let within : first < length files =
    omega (arith, at, c.find-index.ensures.within, c.if-index-len.false, c.len.ensures, c.args.self.now.list.ok.0)
    in
    c.bytes.ensures ∙ ap (λ s. (disk_file_of s).reads) (c.index.ensures ∙ ap (λ (i : ℕ). get_or files i file) at)
    ∙ ap (λ (f : DiskFile). f.reads) (found-present files number file within)
