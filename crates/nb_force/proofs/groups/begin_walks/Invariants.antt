use Rattle.std.proofs.Common.{◌≡◌, ◌+◌, IsTrue, List, [], length}
use Rattle.nb_model.specs.declared.body.Body.{Body}
use Rattle.nb_model.specs.declared.params.Params.{Params}
use Rattle.nb_cache.specs.View.{seen}
use Rattle.nb_record.specs.Tree.{IsTreeOf}
use Rattle.nb_force.specs.Groups.{AreBegun, GoTo}
use Rattle.nb_force.proofs.Calls.{Goes}
use Rattle.nb_force.proofs.groups.begin_walks.Given as goal

abbrev pub invariant-loop-index : goal.invariant-loop-index
invariant-loop-index g l = record {
  goes : Goes g.H.Host.meaning [] l.fn.cache l.fn.host l.cache l.host;
  room : l.pool.room ≡ l.fn.pool.room;
  begun : AreBegun l.pool.walks;
  many : l.from + length l.pool.walks ≡ l.index;
  targets : IsTrue g.H.Host.meaning.tells → (params : Params) (bodies : List Body)
      → IsTreeOf l.tree (seen g.H.Host.meaning l.fn.cache l.fn.host) params bodies → GoTo bodies l.from l.pool.walks;
}
