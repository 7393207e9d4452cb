-- The refusals of the crates below, as they are handed on.
use Rattle.std.proofs.Common.{◌≡◌}
use Rattle.nb_host.specs.declared.page_name.PageName.{PageName}
use Rattle.nb_cache.specs.declared.cache_error.CacheError.{CacheError}
use Rattle.nb_cache.specs.declared.cache_error.CacheError.TheVariants as cache
use Rattle.nb_order.specs.declared.order_error.OrderError.{OrderError}
use Rattle.nb_order.specs.declared.order_error.OrderError.TheVariants as order
use Rattle.nb_tree.specs.declared.tree_error.TreeError.{TreeError}
use Rattle.nb_tree.specs.declared.tree_error.TreeError.TheVariants as tree
use Rattle.nb_force.specs.declared.force_error.ForceError.{ForceError}
use Rattle.nb_force.specs.declared.force_error.ForceError.TheVariants as force
use Rattle.nb_tick.specs.declared.tick_error.TickError.TheVariants.{Fault, Damaged}
use Rattle.nb_tick.specs.Errors.{of_cache, of_order, of_tree, of_force}

pub cache_fault : (error : CacheError) → of_cache error ≡ Fault → error ≡ cache.Fault
cache_fault cache.Fault is = cc
cache_fault cache.NoMemory is = cc
cache_fault (cache.Short name) is = cc

pub cache_damaged : (error : CacheError) (name : PageName) → of_cache error ≡ Damaged name → error ≡ cache.Short name
cache_damaged cache.Fault name is = cc
cache_damaged cache.NoMemory name is = cc
cache_damaged (cache.Short other) name is = cc

pub order_fault : (error : OrderError) → of_order error ≡ Fault → error ≡ order.Fault
order_fault order.Fault is = cc
order_fault order.NoMemory is = cc
order_fault (order.Damaged name) is = cc

pub order_damaged : (error : OrderError) (name : PageName) → of_order error ≡ Damaged name → error ≡ order.Damaged name
order_damaged order.Fault name is = cc
order_damaged order.NoMemory name is = cc
order_damaged (order.Damaged other) name is = cc

pub tree_fault : (error : TreeError) → of_tree error ≡ Fault → error ≡ tree.Fault
tree_fault tree.Fault is = cc
tree_fault tree.NoMemory is = cc
tree_fault (tree.Damaged name) is = cc

pub tree_damaged : (error : TreeError) (name : PageName) → of_tree error ≡ Damaged name → error ≡ tree.Damaged name
tree_damaged tree.Fault name is = cc
tree_damaged tree.NoMemory name is = cc
tree_damaged (tree.Damaged other) name is = cc

pub force_fault : (error : ForceError) → of_force error ≡ Fault → error ≡ force.Fault
force_fault force.Fault is = cc
force_fault force.NoMemory is = cc
force_fault (force.Damaged name) is = cc

pub force_damaged : (error : ForceError) (name : PageName) → of_force error ≡ Damaged name → error ≡ force.Damaged name
force_damaged force.Fault name is = cc
force_damaged force.NoMemory name is = cc
force_damaged (force.Damaged other) name is = cc
