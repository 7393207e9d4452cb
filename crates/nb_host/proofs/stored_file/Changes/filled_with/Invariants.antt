use Rattle.std.proofs.Common.{◌≡◌, ℕ, List, map, Some}
use Rattle.std.specs.List.{range_with_len}
use Rattle.nb_host.specs.Disk.{filled_byte}
use Rattle.nb_host.specs.Files.{changed_file}
use Rattle.nb_host.proofs.stored_file.Changes.filled_with.Given as goal

abbrev pub invariant-loop-offset : goal.invariant-loop-offset
invariant-loop-offset l = (bytes : List ℕ)
    → l.filled.items ≡ map (filled_byte l.filler (changed_file bytes (Some l.self))) (range_with_len 0 l.offset)
