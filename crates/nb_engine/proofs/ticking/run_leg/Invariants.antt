use Rattle.nb_engine.proofs.Running.{HasRun}
use Rattle.nb_engine.proofs.ticking.run_leg.Given as goal

abbrev pub invariant-loop : goal.invariant-loop
invariant-loop g l =
    HasRun g.H.Host.meaning l.counter l.initial.journal l.journal l.work.cache l.initial.host l.host
