-- The refusals of the crates below, as a tick tells them.
use Rattle.nb_cache.specs.declared.cache_error.CacheError.{CacheError}
use Rattle.nb_cache.specs.declared.cache_error.CacheError.TheVariants as cache
use Rattle.nb_order.specs.declared.order_error.OrderError.{OrderError}
use Rattle.nb_order.specs.declared.order_error.OrderError.TheVariants as order
use Rattle.nb_tree.specs.declared.tree_error.TreeError.{TreeError}
use Rattle.nb_tree.specs.declared.tree_error.TreeError.TheVariants as tree
use Rattle.nb_force.specs.declared.force_error.ForceError.{ForceError}
use Rattle.nb_force.specs.declared.force_error.ForceError.TheVariants as force
use Rattle.nb_tick.specs.declared.tick_error.TickError.{TickError}
use Rattle.nb_tick.specs.declared.tick_error.TickError.TheVariants.{Fault, NoMemory, Damaged}

abbrev pub of_cache : CacheError → TickError
of_cache cache.Fault = Fault
of_cache cache.NoMemory = NoMemory
of_cache (cache.Short name) = Damaged name

abbrev pub of_order : OrderError → TickError
of_order order.Fault = Fault
of_order order.NoMemory = NoMemory
of_order (order.Damaged name) = Damaged name

abbrev pub of_tree : TreeError → TickError
of_tree tree.Fault = Fault
of_tree tree.NoMemory = NoMemory
of_tree (tree.Damaged name) = Damaged name

abbrev pub of_force : ForceError → TickError
of_force force.Fault = Fault
of_force force.NoMemory = NoMemory
of_force (force.Damaged name) = Damaged name
