-- The files of a run, beside its journal and its snapshots.
use Rattle.std.specs.Prelude.{ℕ, ◌≤◌}
use Rattle.nb_tick.specs.Slots.{slot_of, cell_file}

-- the number of the file of the parameters
abbrev pub params_file : ℕ
params_file = 0

-- the number of the file of the initial snapshot
abbrev pub init_file : ℕ
init_file = 1

-- a file of pages, of bodies or of cells: from the first slot to the tree's cells
abbrev pub IsPagedFile : ℕ → Type 0
IsPagedFile number = (slot_of 0 ≤ number) × (number ≤ cell_file)
