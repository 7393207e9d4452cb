use Rattle.std.proofs.Common.{◌≡◌, [], ◌∷◌}
use Rattle.nb_model.specs.declared.params.Params.{Params}
use Rattle.nb_force.specs.Groups.{TakesRange, AreKicksFrom}
use Rattle.nb_force.proofs.Calls.{Goes}
use Rattle.nb_force.proofs.groups.hand_over.Given as goal

abbrev pub invariant-loop-index : goal.invariant-loop-index
invariant-loop-index g l = record {
  goes : Goes g.H.Host.meaning (g.R.Receiver.model.file l.fn.receiver ∷ []) l.fn.cache l.fn.host l.cache l.host;
  file : g.R.Receiver.model.file l.receiver ≡ g.R.Receiver.model.file l.fn.receiver;
  setting : g.R.Receiver.model.setting l.receiver ≡ g.R.Receiver.model.setting l.fn.receiver;
  takes : (params : Params) → AreKicksFrom g.H.Host.meaning params l.tree l.fn.cache l.fn.host l.from l.pool.walks
      → TakesRange g.H.Host.meaning g.R.Receiver.model params l.tree l.from l.index l.fn.cache l.fn.host l.fn.receiver l.cache l.host l.receiver;
}
