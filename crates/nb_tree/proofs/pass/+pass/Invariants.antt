use Rattle.std.proofs.Common.{◌≡◌, ◌-◌, ◌++◌, IsTrue, List, [], ◌∷◌, length, drop}
use Rattle.std.specs.Prelude.{All, ◌≢◌}
use Rattle.nb_model.specs.declared.body.Body.{Body}
use Rattle.nb_model.specs.declared.params.Params.{Params}
use Rattle.nb_cache.specs.View.{seen}
use Rattle.nb_record.specs.Cells.{first_body, in_cell}
use Rattle.nb_tree.specs.Fronts.{IsFront}
use Rattle.nb_tree.specs.Passes.{IsReader, IsMaker, SameMaker, Reads, IsSmall, IsClosed, LiesIn, IsAt, IsHeld, cells_closed}
use Rattle.nb_tree.proofs.Calls.{Goes}
use Rattle.nb_tree.proofs.Passing.{IsReadTo}
use Rattle.nb_tree.proofs.pass.+pass.Given as goal

abbrev pub invariant-loop-octant : goal.invariant-loop-octant
invariant-loop-octant g l = record {
  reader : IsReader l.reader;
  maker : IsMaker l.maker;
  same : SameMaker l.fn.maker l.maker;
  reads : Reads l.fn.reader l.reader l.sums.count;
  small : IsSmall l.sums;
  some : l.sums.count ≡ 0 → LiesIn (21 - l.depth) l.key l.reader;
  from : l.from ≡ length l.fn.waiting.items;
  closed : All IsClosed l.waiting.items;
  waits : l.waiting.items ≡ l.fn.waiting.items ++ drop (length l.fn.waiting.items) l.waiting.items;
  goes : Goes g.H.Host.meaning (l.fn.maker.table.file ∷ []) l.fn.cache l.fn.host l.cache l.host;
  at : IsTrue g.H.Host.meaning.tells → (front : List Body)
      → IsFront (seen g.H.Host.meaning l.fn.cache l.fn.host l.fn.reader.file) l.fn.reader.count front
      → IsAt front l.fn.reader → IsAt front l.reader;
  held : IsTrue g.H.Host.meaning.tells → IsHeld (seen g.H.Host.meaning l.fn.cache l.fn.host l.fn.reader.file) l.fn.reader
      → IsHeld (seen g.H.Host.meaning l.fn.cache l.fn.host l.fn.reader.file) l.reader;
  read : IsTrue g.H.Host.meaning.tells → (params : Params) (front : List Body) → params.leaf ≡ l.fn.maker.leaf
      → IsFront (seen g.H.Host.meaning l.fn.cache l.fn.host l.fn.reader.file) l.fn.reader.count front
      → IsAt front l.fn.reader → first_body front (in_cell (21 - l.depth) l.key front) ≡ l.fn.reader.taken
      → IsReadTo params front l.depth l.key l.reader.taken l.sums l.kids
      (cells_closed (drop (length l.fn.waiting.items) l.waiting.items))
      (seen g.H.Host.meaning l.fn.cache l.fn.host l.fn.maker.table.file) l.fn.maker
      (seen g.H.Host.meaning l.cache l.host l.fn.maker.table.file) l.maker;
}

abbrev pub decreases-loop-octant : goal.decreases-loop-octant
decreases-loop-octant g l = l.reader.count - l.reader.taken

abbrev pub decreases-pass : goal.decreases-pass
decreases-pass g l = l.depth
