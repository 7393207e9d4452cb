use Rattle.std.proofs.Common.{◌≡◌, ◌<◌, IsTrue, []}
use Rattle.std.specs.Prelude.{All}
use Rattle.std.specs.BTreeMap.{values, btree_map_len}
use Rattle.nb_cache.specs.View.{seen}
use Rattle.nb_cache.specs.Writes.{Writes}
use Rattle.nb_order.specs.Indexes.{AreReadTo}
use Rattle.nb_order.proofs.sorter.indexes_of.Given as goal

abbrev pub invariant-loop-index : goal.invariant-loop-index
invariant-loop-index g l = record {
  writes : Writes g.H.Host.meaning [] l.fn.cache l.fn.host l.cache l.host;
  spared : g.H.Host.meaning.faults l.host ≡ g.H.Host.meaning.faults l.fn.host;
  numbers : All (λ number. number < l.index) (values l.indexes);
  count : btree_map_len l.indexes ≡ l.index;
  read : IsTrue g.H.Host.meaning.tells
      → AreReadTo g.O.Order.rank_of (seen g.H.Host.meaning l.fn.cache l.fn.host l.from) l.index l.indexes.entries;
}
