use Rattle.std.proofs.Common.{◌≡◌, ◌+◌, ◌<◌, ◌≤◌, IsTrue, List, [], ◌∷◌, length}
use Rattle.std.specs.Prelude.{All}
use Rattle.std.specs.BTreeMap.{values}
use Rattle.nb_model.specs.declared.body.Body.{Body}
use Rattle.nb_model.specs.Limits.{most_bodies}
use Rattle.nb_cache.specs.View.{seen}
use Rattle.nb_cache.specs.Writes.{Writes}
use Rattle.nb_order.specs.Indexes.{HasFirst, AreIndexesOf}
use Rattle.nb_order.proofs.Copying.{IsCopied}
use Rattle.nb_order.proofs.sorter.copy.Given as goal

abbrev pub invariant-loop-index : goal.invariant-loop-index
invariant-loop-index g l = record {
  writes : Writes g.H.Host.meaning (l.to ∷ []) l.fn.cache l.fn.host l.cache l.host;
  spared : g.H.Host.meaning.faults l.host ≡ g.H.Host.meaning.faults l.fn.host;
  numbers : All (λ number. number < most_bodies) l.index-iterator;
  few : length l.index-iterator + l.count ≤ most_bodies;
  copied : IsTrue g.H.Host.meaning.tells → (bodies list : List Body)
      → HasFirst (seen g.H.Host.meaning l.fn.cache l.fn.host l.from) bodies
      → AreIndexesOf bodies (values l.indexes) list
      → IsCopied (seen g.H.Host.meaning l.fn.cache l.fn.host l.from) bodies list l.count l.index-iterator
      (seen g.H.Host.meaning l.cache l.host l.to);
}
