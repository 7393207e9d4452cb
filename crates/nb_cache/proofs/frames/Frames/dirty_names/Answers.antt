use Rattle.std.proofs.Common.{Contains, vec_len, vec_capacity, sym, subst}
use Rattle.std.proofs.lemmas.List.Sorted.{Contains-permutation}
use Rattle.nb_cache.proofs.Residents.{dirty_name}
use Rattle.nb_cache.proofs.frames.Frames.dirty_names.Goals as goal

pub returns : goal.returns
returns c = λ name waits.
    Contains-permutation c.in_ok-names.names.items c.sort_unstable.new.self.items name c.sort_unstable.ensures.permutation
    (subst (λ l. Contains l name) (sym c.in_ok-names.ensures)
    (dirty_name c.self.inside.resident (vec_len c.self.inside.spare) (vec_capacity c.self.inside.spare) c.args.self.now c.self.view_is name waits))
