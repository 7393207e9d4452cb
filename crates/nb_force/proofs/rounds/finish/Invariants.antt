use Rattle.std.proofs.Common.{IsTrue, List, []}
use Rattle.nb_model.specs.declared.body.Body.{Body}
use Rattle.nb_cache.specs.View.{seen}
use Rattle.nb_record.specs.Tree.{IsTreeOf}
use Rattle.nb_walk.specs.Pool.{AreOn, pool_bound}
use Rattle.nb_force.specs.Rounds.{KeepsWalks, HasPaused}
use Rattle.nb_force.proofs.Calls.{Goes}
use Rattle.nb_force.proofs.rounds.finish.Given as goal

abbrev pub invariant-loop-done : goal.invariant-loop-done
invariant-loop-done g l = record {
  goes : Goes g.H.Host.meaning [] l.fn.cache l.fn.host l.cache l.host;
  kept : KeepsWalks l.params l.tree l.fn.pool l.pool;
  paused : HasPaused l.cache l.tree l.pool l.done;
  on : IsTrue g.H.Host.meaning.tells → (bodies : List Body) → IsTreeOf l.tree (seen g.H.Host.meaning l.fn.cache l.fn.host) l.params bodies
      → AreOn l.params bodies l.tree (seen g.H.Host.meaning l.fn.cache l.fn.host l.tree.cells) l.pool.walks;
}

abbrev pub decreases-loop-done : goal.decreases-loop-done
decreases-loop-done g l = pool_bound l.tree l.pool.walks
