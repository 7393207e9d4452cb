use Rattle.std.proofs.Common.{IsTrue, [], ◌∷◌, take}
use Rattle.nb_cache.specs.View.{seen}
use Rattle.nb_tree.specs.Passes.{IsMaker, SameMaker, Inserts, cells_closed}
use Rattle.nb_tree.proofs.Calls.{Goes}
use Rattle.nb_tree.proofs.maker.Maker.put_all.Given as goal

abbrev pub invariant-loop-closed : goal.invariant-loop-closed
invariant-loop-closed g l = record {
  maker : IsMaker l.self;
  same : SameMaker l.fn.self l.self;
  goes : Goes g.H.Host.meaning (l.fn.self.table.file ∷ []) l.fn.cache l.fn.host l.cache l.host;
  inserts : IsTrue g.H.Host.meaning.tells → Inserts (cells_closed (take l.closed-index l.cells))
      (seen g.H.Host.meaning l.fn.cache l.fn.host l.fn.self.table.file) l.fn.self
      (seen g.H.Host.meaning l.cache l.host l.fn.self.table.file) l.self;
}
