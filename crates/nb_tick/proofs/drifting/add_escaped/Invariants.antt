use Rattle.std.proofs.Common.{◌≡◌, [], ◌∷◌}
use Rattle.nb_tick.specs.Steps.{resting_one}
use Rattle.nb_tick.specs.Writer.{HasCopied}
use Rattle.nb_tick.proofs.Calls.{Went}
use Rattle.nb_tick.proofs.drifting.add_escaped.Given as goal

abbrev pub invariant-loop-index : goal.invariant-loop-index
invariant-loop-index g l = record {
  went : Went g.H.Host.meaning (l.fn.writer.file ∷ []) l.fn.cache l.fn.host l.cache l.host;
  file : l.writer.file ≡ l.fn.writer.file;
  copied : HasCopied g.H.Host.meaning resting_one l.from l.begin l.index l.fn.cache l.fn.host l.fn.writer l.cache l.host l.writer;
}
