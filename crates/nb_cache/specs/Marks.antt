-- The marks of the files that go through a cache, one for each.
use Rattle.std.specs.Prelude.{ℕ, ◌-◌, Bool, false, List, get_or, filter}
use Rattle.std.specs.List.{range_with_len}
use Rattle.nb_cache.specs.declared.marks.TheConstants.{FIRST_CACHED_FILE, CACHED_FILES}

-- the files that are marked
abbrev pub marked_files : List Bool → List ℕ
marked_files marks = filter (λ file. get_or marks (file - FIRST_CACHED_FILE) false)
    (range_with_len FIRST_CACHED_FILE CACHED_FILES)
