-- The files of a tick. Bodies stand in one of two slots, and a tick leads from one to the other.
use Rattle.std.specs.Prelude.{ℕ, ◌+◌, ◌%◌, List, [], ◌∷◌}
use Rattle.nb_tick.specs.declared.slot.Slot.{Slot}
use Rattle.nb_tick.specs.declared.slot.Slot.TheVariants.{Even, Odd}

-- the number of a slot's file
abbrev pub slot_file : Slot → ℕ
slot_file Even = 3
slot_file Odd = 4

-- the file of the slot after so many ticks
abbrev pub slot_of : ℕ → ℕ
slot_of k = 3 + k % 2

abbrev pub other_slot : Slot → Slot
other_slot Even = Odd
other_slot Odd = Even

-- the file of the bodies after their drift, that of the same bodies in Morton order, and that of the cells of their tree
abbrev pub drifted_file : ℕ
drifted_file = 5

abbrev pub sorted_file : ℕ
sorted_file = 6

abbrev pub cell_file : ℕ
cell_file = 7

-- the files that a tick from a slot writes
abbrev pub tick_files : Slot → List ℕ
tick_files from = slot_file (other_slot from) ∷ drifted_file ∷ sorted_file ∷ cell_file ∷ []
