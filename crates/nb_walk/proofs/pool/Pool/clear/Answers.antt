use Rattle.std.proofs.Common.{◌≡◌, ℕ, false, List, [], ap}
use Rattle.nb_host.specs.declared.page_name.PageName.{PageName}
use Rattle.nb_walk.specs.Pool.{PooledWalk, PoolValue}
use Rattle.nb_walk.proofs.Pools.{no_walks}
use Rattle.nb_walk.proofs.pool.Pool.clear.Goals as goal

same_pool : (room was : ℕ) (walks : List PooledWalk) (wants : List PageName) → room ≡ was → walks ≡ [] → wants ≡ []
    → ◌≡◌ {A = PoolValue} (record { room = room; walks = walks; wants = wants }) (record { room = was; walks = []; wants = [] })
same_pool room was walks wants a b c = cc

pub returns : goal.returns
returns c = same_pool c.self.inside.room c.args.self.now.room _ c.clear-2.new.self.items (ap (λ v. v.room) c.self.view_is) (no_walks false c.clear.new.self c.clear.ensures.none.0) c.clear-2.ensures.items
