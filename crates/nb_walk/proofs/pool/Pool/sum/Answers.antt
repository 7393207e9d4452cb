use Rattle.std.proofs.Common.{length, arith, sym, ap, ◌∙◌}
use Rattle.std.specs.Prelude.{slice_get}
use Rattle.nb_walk.specs.Pool.{sums}
use Rattle.nb_walk.proofs.Pools.{group_length, sum_at}
use Rattle.nb_walk.proofs.pool.Pool.sum.Goals as goal

pub returns : goal.returns
returns c =
    let inside = c.self.inside in
    let seen = ap (λ v. length v.walks) c.self.view_is in
    let long = group_length inside.asked inside.group c.self.invariant.0.owns in
    sym (ap (λ v. slice_get (sums v.walks) c.args.i) c.self.view_is)
    ∙ sum_at inside.asked inside.group c.args.i c.index.result.now c.self.invariant.0.owns (omega (arith, c.requires)) c.index.ensures

pub index-requires : goal.index-requires
index-requires c =
    let inside = c.self.inside in
    let seen = ap (λ v. length v.walks) c.self.view_is in
    let long = group_length inside.asked inside.group c.self.invariant.0.owns in
    omega (arith, c.requires, inside.group.tallies.ok.0)
