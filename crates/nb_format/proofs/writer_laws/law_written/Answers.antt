use Rattle.std.proofs.Common.{◌⊎◌, inr, ℕ, List}
use Rattle.nb_format.specs.Snapshot.{IsSnapshot, IsUnfinished}
use Rattle.nb_format.proofs.Callers.{written_every, unfinished_durable}
use Rattle.nb_format.proofs.writer_laws.law_written.Goals as goal

pub returns-clause-every : goal.returns-clause-every
returns-clause-every g c = λ others file time bodies start now unfinished leads.
    written_every (λ (w : List ℕ). IsSnapshot w bodies time ⊎ IsUnfinished w) (λ bytes is. inr is) (λ old new is step. step is)
    unfinished leads

pub returns-clause-still : goal.returns-clause-still
returns-clause-still g c = λ others file start now unfinished leads.
    written_every IsUnfinished (λ bytes is. is) (λ old new is step. step is) unfinished leads

pub returns-clause-durable : goal.returns-clause-durable
returns-clause-durable g c = λ file host durable unfinished. unfinished_durable g.H.Host.meaning durable unfinished
