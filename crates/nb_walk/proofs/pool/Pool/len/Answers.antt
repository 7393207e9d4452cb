use Rattle.std.proofs.Common.{length, arith, ap}
use Rattle.nb_walk.proofs.Pools.{group_length}
use Rattle.nb_walk.proofs.pool.Pool.len.Goals as goal

pub returns-clause-length : goal.returns-clause-length
returns-clause-length c =
    let inside = c.self.inside in
    let seen = ap (λ v. length v.walks) c.self.view_is in
    omega (arith, c.len.ensures, group_length inside.asked inside.group c.self.invariant.0.owns, inside.group.tallies.ok.0)
