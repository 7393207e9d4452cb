use Rattle.std.proofs.Common.{◌≡◌, ◌-◌, IsTrue, List, []}
use Rattle.std.specs.Prelude.{◌≢◌}
use Rattle.nb_model.specs.declared.body.Body.{Body}
use Rattle.nb_cache.specs.View.{seen}
use Rattle.nb_record.specs.Cells.{first_body, in_cell}
use Rattle.nb_tree.specs.Fronts.{IsFront}
use Rattle.nb_tree.specs.Passes.{IsReader, Reads, IsSmall, LiesIn, IsAt, IsHeld}
use Rattle.nb_tree.proofs.Calls.{Goes}
use Rattle.nb_tree.proofs.Deepest.{AreSumsTo}
use Rattle.nb_tree.proofs.pass.add_bodies.Given as goal

abbrev pub invariant-loop-key : goal.invariant-loop-key
invariant-loop-key g l = record {
  reader : IsReader l.reader;
  reads : Reads l.fn.reader l.reader l.sums.count;
  small : IsSmall l.sums;
  some : l.sums.count ≡ 0 → LiesIn 21 l.key l.reader;
  goes : Goes g.H.Host.meaning [] l.fn.cache l.fn.host l.cache l.host;
  at : IsTrue g.H.Host.meaning.tells → (front : List Body)
      → IsFront (seen g.H.Host.meaning l.fn.cache l.fn.host l.fn.reader.file) l.fn.reader.count front
      → IsAt front l.fn.reader → IsAt front l.reader;
  held : IsTrue g.H.Host.meaning.tells → IsHeld (seen g.H.Host.meaning l.fn.cache l.fn.host l.fn.reader.file) l.fn.reader
      → IsHeld (seen g.H.Host.meaning l.fn.cache l.fn.host l.fn.reader.file) l.reader;
  sums : IsTrue g.H.Host.meaning.tells → (front : List Body)
      → IsFront (seen g.H.Host.meaning l.fn.cache l.fn.host l.fn.reader.file) l.fn.reader.count front
      → IsAt front l.fn.reader → first_body front (in_cell 21 l.key front) ≡ l.fn.reader.taken
      → AreSumsTo front l.key l.fn.reader.taken l.sums;
}

abbrev pub decreases-loop-key : goal.decreases-loop-key
decreases-loop-key g l = l.reader.count - l.reader.taken
