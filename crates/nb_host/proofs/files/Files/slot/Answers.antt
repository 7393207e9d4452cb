use Rattle.std.proofs.Common.{List, ap, ◌∙◌, arith}
use Rattle.nb_host.specs.Files.{disk_file_of, found}
use Rattle.nb_host.specs.declared.stored_file.StoredFile.{StoredFile}
use Rattle.nb_host.proofs.StoredFiles.{found-added}
use Rattle.nb_host.proofs.files.Files.slot.Goals as goal

pub returns-in_ok-push-clause-same : goal.returns-in_ok-push-clause-same
returns-in_ok-push-clause-same c = λ number.
    ap (λ (files : List StoredFile). found disk_file_of files number) c.in_ok-push.ensures.items
    ∙ found-added c.args.self.now.list.items c.new.result number c.new.ensures.file

pub returns-else-index-len-clause-within : goal.returns-else-index-len-clause-within
returns-else-index-len-clause-within c =
    omega (arith, c.find-index.ensures.within, c.if-index-len.false, c.len.ensures, c.args.self.now.list.ok.0)
