use Rattle.std.proofs.Common.{[], ◌∷◌}
use Rattle.nb_tree.proofs.Calls.{goes_none, goes_done}
use Rattle.nb_tree.proofs.maker.Maker.put_octants.Goals as goal

pub returns-then-count-self-clause-ran : goal.returns-then-count-self-clause-ran
returns-then-count-self-clause-ran g c =
    goes_done (goes_none g.H.Host.meaning (c.args.self.now.table.file ∷ []) c.args.cache.now c.args.host.now c.requires.in_step)
    (λ faulted. absurd (cc))
