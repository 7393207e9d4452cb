use Rattle.std.proofs.Common.{◌≡◌}
use Rattle.nb_host.specs.Disk.{synced_file, left_file}
use Rattle.nb_host.specs.Files.{disk_file_of, ready_of}
use Rattle.nb_host.specs.declared.outcome.Outcome.TheVariants.{Filled}
use Rattle.nb_host.specs.declared.stored_file.StoredFile.{StoredFile}
use Rattle.nb_host.proofs.StoredFiles.{IsDone}
use Rattle.nb_host.proofs.files.Files.prepare.Given as goal

abbrev pub invariant-loop-file : goal.invariant-loop-file
invariant-loop-file l =
    let done : StoredFile → StoredFile → Type 0 = λ old new. (new.number ≡ old.number) × (disk_file_of new ≡ disk_file_of old) × (ready_of new ≡ synced_file (left_file (Filled l.filler) (disk_file_of old))) in
    IsDone done l.fn.self.list.items l.file-items l.file-index
