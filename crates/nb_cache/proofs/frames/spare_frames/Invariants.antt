use Rattle.std.proofs.Common.{◌≡◌, ◌≤◌, vec_len, vec_capacity}
use Rattle.nb_cache.proofs.frames.spare_frames.Given as goal

abbrev pub invariant-loop : goal.invariant-loop
invariant-loop l = (vec_len l.frames ≡ l.counter) × (l.count ≤ vec_capacity l.frames)
