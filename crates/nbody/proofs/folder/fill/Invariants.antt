use Rattle.std.proofs.Common.{◌≤◌, length}
use Rattle.nbody.proofs.folder.fill.Given as goal

-- The count never passes the end of the buffer.
abbrev pub invariant-loop : goal.invariant-loop
invariant-loop l = l.count ≤ length l.into
