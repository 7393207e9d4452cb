use Rattle.std.proofs.Common.{length, sym, arith}
use Rattle.std.proofs.lemmas.List.{take_all}
use Rattle.nb_host.proofs.Callers.{left_stays}
use Rattle.nb_format.specs.Reader.{file_of}
use Rattle.nb_format.proofs.writer_laws.law_reading_kept.Goals as goal

pub returns-clause-begun : goal.returns-clause-begun
returns-clause-begun g c = λ reader host.
    let bytes = (g.H.Host.meaning.contents host).file (file_of reader) in
    record { reads = λ _. (length bytes, sym (take_all (length bytes) bytes (omega arith))); images = λ _ _ _. tt }

pub returns-clause-kept : goal.returns-clause-kept
returns-clause-kept g c = λ reader bytes old new leads open'. left_stays g.H.Host.meaning leads open'
