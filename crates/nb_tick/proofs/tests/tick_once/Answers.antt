use Rattle.std.specs.Prelude.{Contains, List, ℕ}
use Rattle.std.proofs.Common.{subst}
use Rattle.nb_cache.proofs.Callers.{no_file}
use Rattle.nb_tick.proofs.tests.tick_once.Goals as goal

pub tick-requires-clause-unwritten : goal.tick-requires-clause-unwritten
tick-requires-clause-unwritten g c = λ file has.
    absurd (no_file file (subst (λ (l : List ℕ). Contains l file) c.requires.unwritten has))
