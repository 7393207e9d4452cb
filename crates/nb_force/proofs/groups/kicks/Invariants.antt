use Rattle.std.proofs.Common.{◌≡◌, ◌≤◌, ◌-◌, [], ◌∷◌}
use Rattle.nb_force.specs.Groups.{TakesRange}
use Rattle.nb_force.proofs.Calls.{Goes}
use Rattle.nb_force.proofs.groups.kicks.Given as goal

abbrev pub invariant-loop-from : goal.invariant-loop-from
invariant-loop-from g l = record {
  within : l.from ≤ l.tree.count;
  goes : Goes g.H.Host.meaning (g.R.Receiver.model.file l.fn.receiver ∷ []) l.fn.cache l.fn.host l.cache l.host;
  file : g.R.Receiver.model.file l.receiver ≡ g.R.Receiver.model.file l.fn.receiver;
  setting : g.R.Receiver.model.setting l.receiver ≡ g.R.Receiver.model.setting l.fn.receiver;
  room : l.pool.room ≡ l.fn.pool.room;
  takes : TakesRange g.H.Host.meaning g.R.Receiver.model l.params l.tree 0 l.from l.fn.cache l.fn.host l.fn.receiver l.cache l.host l.receiver;
}

abbrev pub decreases-loop-from : goal.decreases-loop-from
decreases-loop-from g l = l.tree.count - l.from
