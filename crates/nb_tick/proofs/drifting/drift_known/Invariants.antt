use Rattle.std.proofs.Common.{◌≡◌, [], ◌∷◌}
use Rattle.nb_tick.specs.Slots.{drifted_file}
use Rattle.nb_tick.specs.Steps.{drifted_one}
use Rattle.nb_tick.specs.Writer.{HasCopied}
use Rattle.nb_tick.proofs.Calls.{Went}
use Rattle.nb_tick.proofs.drifting.drift_known.Given as goal

abbrev pub invariant-loop-index : goal.invariant-loop-index
invariant-loop-index g l = record {
  went : Went g.H.Host.meaning (drifted_file ∷ []) l.fn.cache l.fn.host l.cache l.host;
  file : l.writer.file ≡ drifted_file;
  copied : HasCopied g.H.Host.meaning (drifted_one l.params l.way) l.from 0 l.index l.fn.cache l.fn.host (record { file = drifted_file; count = 0 })
      l.cache l.host l.writer;
}
