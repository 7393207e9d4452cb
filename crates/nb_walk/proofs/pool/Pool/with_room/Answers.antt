use Rattle.std.proofs.Common.{◌≡◌, ℕ, false, List, []}
use Rattle.nb_host.specs.declared.page_name.PageName.{PageName}
use Rattle.nb_walk.specs.Pool.{PooledWalk, PoolValue}
use Rattle.nb_walk.proofs.Pools.{no_walks}
use Rattle.nb_walk.proofs.pool.Pool.with_room.Goals as goal

same_pool : (room : ℕ) (walks : List PooledWalk) (wants : List PageName) → walks ≡ [] → wants ≡ []
    → ◌≡◌ {A = PoolValue} (record { room = room; walks = walks; wants = wants }) (record { room = room; walks = []; wants = [] })
same_pool room walks wants a b = cc

pub returns : goal.returns
returns c = same_pool c.args.walks _ c.in_ok-with_capacity.field-0.items (no_walks false c.in_ok-new.field-0 c.in_ok-new.ensures.none.0) c.in_ok-with_capacity.ensures.items
