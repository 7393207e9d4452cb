-- What the command `once` answers, and what it leaves.
use Rattle.std.specs.Prelude.{◌≡◌, ◌⊎◌, ℕ, List, ⊤}
use Rattle.nb_model.specs.Leapfrog.{escaped_count}
use Rattle.nb_engine.specs.declared.going.Done.{Done}
use Rattle.nb_host.specs.Image.{Image, FileBecomes}
use Rattle.nb_engine.specs.Start.{Start}
use Rattle.nb_cli.specs.Once.{once_file, once_ticks, list_at, IsOnceReady}

-- The answer tells the target, the ticks from the start to it, and how many bodies have left the box there.
pub record TellsOnce (target : ℕ) (start : Start) (done : Done) : Type 0 where
  pub time : done.time ≡ target
  pub ticks : done.ticks ≡ once_ticks target start
  pub gone : done.gone ≡ escaped_count (list_at target start)

-- A file may become anything.
abbrev pub BecomesAny : List ℕ → List ℕ → Type 0
BecomesAny old new = ⊤

-- What a call of `once` may have changed at some moment, where the files were these: nothing, or its own file, where it can
-- be done.
abbrev pub OnceLeads : (ℕ → List ℕ) → ℕ → Image → Image → Type 0
OnceLeads files target old new =
    (new ≡ old) ⊎ ((start : Start) × IsOnceReady files target start × FileBecomes once_file BecomesAny old new)
