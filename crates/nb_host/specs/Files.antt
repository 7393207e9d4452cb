-- The files of a host that keeps them in memory.
use Rattle.std.specs.Prelude.{◌≡◌, ℕ, List, [], ◌∷◌, ◌==◌, if◌then◌else◌, reverse, Option, None, Some}
use Rattle.nb_host.specs.Disk.{DiskFile, synced_file}
use Rattle.nb_host.specs.declared.stored_file.StoredFile.{StoredFile}
use Rattle.nb_host.specs.declared.stored_file.Changes.{Changes}
use Rattle.nb_host.specs.declared.files.Files.{Files}

-- a file of these bytes, with what changed since the last sync
abbrev pub changed_file : List ℕ → Option Changes → DiskFile
changed_file bytes None = synced_file bytes
changed_file bytes (Some changes) = record {
  base = changes.base.items;
  reads = bytes;
  least = changes.least;
  greatest = changes.greatest;
  unsynced = reverse changes.unsynced.items;
}

abbrev pub disk_file_of : StoredFile → DiskFile
disk_file_of stored = changed_file stored.bytes.items stored.changes

-- what the one with this number among the stored files is made of, and a file without bytes where none has it
abbrev pub found : (StoredFile → DiskFile) → List StoredFile → ℕ → DiskFile
found f [] number = synced_file []
found f (stored ∷ others) number = if stored.number == number then f stored else found f others number

-- the files of a host in memory, by their numbers
abbrev pub file_in : Files → ℕ → DiskFile
file_in files number = found disk_file_of files.list.items number

-- no file changes
abbrev pub KeepsFiles : Files → Files → Type 0
KeepsFiles old new = (number : ℕ) → file_in new number ≡ file_in old number

-- What follows is cited by no public clause: a crash that fills makes all files ready before it changes one, and this is
-- for the proofs of these two steps.

-- what was made ready of a file
abbrev pub ready_file : List ℕ → Option Changes → List ℕ
ready_file bytes None = bytes
ready_file bytes (Some changes) = changes.filled.items

abbrev pub filled_of : StoredFile → List ℕ
filled_of stored = ready_file stored.bytes.items stored.changes

-- a file once what was made ready is made its bytes
abbrev pub ready_of : StoredFile → DiskFile
ready_of stored = synced_file (filled_of stored)

abbrev pub ready_in : Files → ℕ → DiskFile
ready_in files number = found ready_of files.list.items number
