use Rattle.std.proofs.Common.{◌≡◌, ℕ, List, [], ◌∷◌, ◌++◌, length, arith, ap, ◌∙◌}
use Rattle.std.proofs.lemmas.List.{length_push}
use Rattle.nb_host.specs.declared.page_name.PageName.{PageName}
use Rattle.nb_walk.specs.Group.{all_shared, group_walks}
use Rattle.nb_walk.specs.Pool.{PooledWalk, PoolValue, unasked, all_unasked}
use Rattle.nb_walk.specs.Walk.{new_walk}
use Rattle.nb_walk.proofs.Pools.{begun_walks, group_length}
use Rattle.nb_walk.proofs.Sharing.{walks_length}
use Rattle.nb_walk.proofs.pool.Pool.begin.Goals as goal

same_pool : (room was : ℕ) (walks are : List PooledWalk) (wants names : List PageName) → room ≡ was → walks ≡ are → wants ≡ names
    → ◌≡◌ {A = PoolValue} (record { room = room; walks = walks; wants = wants }) (record { room = was; walks = are; wants = names })
same_pool room was walks are wants names a b c = cc

pub begin-requires-clause-tallies : goal.begin-requires-clause-tallies
begin-requires-clause-tallies c =
    let seen = ap (λ v. length v.walks) c.self.view_is in
    let long = group_length c.self.inside.asked c.self.inside.group c.self.invariant.0.owns in
    let rooms = ap (λ v. v.room) c.self.view_is in
    omega (arith, c.requires.room, c.self.invariant.1, c.self.invariant.2)

pub begin-requires-clause-owns : goal.begin-requires-clause-owns
begin-requires-clause-owns c =
    let seen = ap (λ v. length v.walks) c.self.view_is in
    let long = group_length c.self.inside.asked c.self.inside.group c.self.invariant.0.owns in
    let rooms = ap (λ v. v.room) c.self.view_is in
    omega (arith, c.requires.room, c.self.invariant.0.owns, c.self.invariant.1, c.self.invariant.3)

pub returns : goal.returns
returns c =
    let now = c.args.self.now in
    let inside = c.self.inside in
    let target = c.args.target in
    same_pool inside.room now.room _ (all_unasked now.walks ++ unasked (new_walk target) ∷ []) c.clear.new.self.items [] (ap (λ v. v.room) c.self.view_is)
    (begun_walks inside.asked inside.group c.begin.new.self (new_walk target) c.begin.ensures.walks ∙ ap (λ v. all_unasked v.walks ++ unasked (new_walk target) ∷ []) c.self.view_is)
    c.clear.ensures.items

pub invariant_of-self : goal.invariant_of-self
invariant_of-self c =
    let old = c.self.inside.group in
    let new = c.begin.new.self in
    let was = walks_length 0 old.tallies.items old.owns.items (all_shared old) c.self.invariant.0.owns in
    let are = walks_length 0 new.tallies.items new.owns.items (all_shared new) c.begin.ensures.group.owns in
    let more = ap length c.begin.ensures.walks in
    let push = length_push (group_walks old) (new_walk c.args.target) in
    let seen = ap (λ v. length v.walks) c.self.view_is in
    let long = group_length c.self.inside.asked old c.self.invariant.0.owns in
    let rooms = ap (λ v. v.room) c.self.view_is in
    let tallies = c.begin.ensures.tallies in
    let owns = c.begin.ensures.owns in
    let cap = c.clear.ensures.capacity in (
      c.begin.ensures.group,
      omega (arith, c.requires.room),
      omega (arith, c.self.invariant.2),
      omega (arith, c.self.invariant.3),
      omega (arith, c.self.invariant.4),
      c.self.invariant.5,
      c.self.invariant.6,
      λ e. absurd (cc),
    )
