use Rattle.std.proofs.Common.{[], ◌∷◌, refl}
use Rattle.nb_cache.proofs.Callers.{writes_begins}
use Rattle.nb_force.proofs.tests.KeptReceiver.take.Goals as goal

pub returns-clause-ran : goal.returns-clause-ran
returns-clause-ran g c = record {
  writes = writes_begins g.H.Host.meaning (5 ∷ []) c.args._cache.now c.args._host.now c.requires.in_step;
  rose = λ faulted. absurd (cc);
  spared = λ _. refl;
}
