use Rattle.std.proofs.Common.{◌≡◌}
use Rattle.nb_cache.specs.InStep.{IsInStep}
use Rattle.nb_cell.proofs.tests.insert_keys.Given as goal

abbrev pub invariant-loop-number : goal.invariant-loop-number
invariant-loop-number g l =
    (l.table.file ≡ l.fn.table.file) × (l.table.bits ≡ l.fn.table.bits)
    × IsInStep g.H.Host.meaning l.cache l.host
