use Rattle.std.proofs.Common.{◌≡◌, length}
use Rattle.nb_cache.specs.View.{held_names}
use Rattle.nb_cache.proofs.Forgetting.{Forgets}
use Rattle.nb_cache.proofs.frames.Frames.forget_file.Given as goal

abbrev pub invariant-loop : goal.invariant-loop
invariant-loop l = (l.resident ≡ length (held_names l.fn.self.held)) × Forgets l.file l.counter l.fn.self l.self
