-- The names of the program's files in its folder, by their numbers.
use Rattle.std.specs.Prelude.{ℕ, ◌-◌, nat_lt, List, [], ◌∷◌, ◌++◌, codes, decimal, slice_get, unwrap_or, if◌then◌else◌}

-- the names of the files from 0 on
abbrev pub fixed_names : List (List ℕ)
fixed_names =
    codes "params" ∷ codes "init.nbs" ∷ codes "journal" ∷ codes "bodies.0" ∷ codes "bodies.1" ∷ codes "moved"
    ∷ codes "sorted" ∷ codes "cells" ∷ codes "once.nbs" ∷ codes "track" ∷ []

-- The file 16 + k is the snapshot of tick k, from k = 1 on. The other numbers aren't used, and have names that no
-- file of the program has.
abbrev pub file_name : ℕ → List ℕ
file_name number =
    if nat_lt 16 number then codes "snap." ++ decimal (number - 16) ++ codes ".nbs"
    else unwrap_or (slice_get fixed_names number) (codes "unused." ++ decimal number)
