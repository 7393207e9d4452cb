-- What reads of a file that wasn't changed is all that a crash may leave of it.
use Rattle.nb_host.proofs.StoredFiles.{ready_unchanged}
use Rattle.nb_host.proofs.stored_file.StoredFile.prepare.Goals as goal

pub returns-in_default-clause-ok : goal.returns-in_default-clause-ok
returns-in_default-clause-ok c =
    ready_unchanged c.args.filler c.args.self.now.bytes.items c.args.self.now.changes c.in_default.is
