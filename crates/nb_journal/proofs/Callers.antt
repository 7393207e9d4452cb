-- What crates above may cite. Every other proof file of this crate is its own.
use Rattle.std.proofs.Common.{IsTrue, List, ℕ, ap, ◌∙◌}
use Rattle.nb_host.specs.Meaning.{HostModel, IsDurable}
use Rattle.nb_host.proofs.Callers.{durable_each}
use Rattle.nb_journal.specs.declared.entry.Entry.{Entry}
use Rattle.nb_journal.specs.Counters.{Counters, Answers, counters_after, counters_of}
use Rattle.nb_journal.specs.Finding.{IsFound}
use Rattle.nb_journal.specs.Form.{Log, IsJournal, IsCleanJournal, with_entry}
use Rattle.nb_journal.specs.Images.{IsCleanNow}
use Rattle.nb_journal.proofs.Found.{counters-with_entry}
use Rattle.nb_journal.proofs.Unique.{one_journal}
-- what a file is
pub use Rattle.nb_journal.proofs.Total.{every_file}
pub use Rattle.nb_journal.proofs.Unique.{one_journal, one_damage, not_both, fresh_alone}
-- a log with one more entry
pub use Rattle.nb_journal.proofs.Gates.{lawful_more, progress-with_entry}
pub use Rattle.nb_journal.proofs.Texts.{length-with_entry}
pub use Rattle.nb_journal.proofs.Found.{counters-with_entry}
-- what `prepare` leaves of the file
pub use Rattle.nb_journal.proofs.Starting.{prepared_then}
-- how often what is cut off is synced
pub use Rattle.nb_journal.proofs.Steps.{long_syncs, short_syncs}

-- the counters of a log, with one more entry
pub answers_more : {counters : Counters} (log : Log) (entry : Entry) → Answers log counters
    → Answers (with_entry log entry) (counters_after entry counters)
answers_more log entry answers = ap (counters_after entry) answers ∙ counters-with_entry log entry

-- what is found of a journal are its log's counters
pub found_answers : {counters : Counters} (log : Log) (file : List ℕ) → IsJournal log file → IsFound counters file
    → Answers log counters
found_answers log file journal found =
    found.answers ∙ ap counters_of (one_journal found.log log file found.journal journal)

-- what `start_gate` and `append` leave
pub ready_then : {H : Type 0} (m : HostModel H) {log : Log} {host : H}
    → (IsTrue m.tells → IsCleanJournal log ((m.contents host).file 2)) → IsDurable m host → IsCleanNow m log host
ready_then m journal durable =
    record { reads = journal; images = durable_each m 2 durable }
