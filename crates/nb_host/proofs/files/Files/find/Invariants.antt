use Rattle.std.proofs.Common.{◌≡◌, ℕ, ◌<◌, false, get_or}
use Rattle.nb_host.specs.declared.stored_file.StoredFile.{StoredFile}
use Rattle.nb_host.proofs.StoredFiles.{is_file}
use Rattle.nb_host.proofs.files.Files.find.Given as goal

abbrev pub invariant-loop-index : goal.invariant-loop-index
invariant-loop-index l = (k : ℕ) (other : StoredFile) → k < l.index
    → is_file l.number (get_or l.self.list.items k other) ≡ false
