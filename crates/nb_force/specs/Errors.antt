-- The refusals of the crates below, as the force phase tells them.
use Rattle.nb_cache.specs.declared.cache_error.CacheError.{CacheError}
use Rattle.nb_cache.specs.declared.cache_error.CacheError.TheVariants as cache
use Rattle.nb_order.specs.declared.order_error.OrderError.{OrderError}
use Rattle.nb_order.specs.declared.order_error.OrderError.TheVariants as order
use Rattle.nb_force.specs.declared.force_error.ForceError.{ForceError}
use Rattle.nb_force.specs.declared.force_error.ForceError.TheVariants.{Fault, NoMemory, Damaged}

-- a page that isn't whole in its file is damaged
abbrev pub of_cache : CacheError → ForceError
of_cache cache.Fault = Fault
of_cache cache.NoMemory = NoMemory
of_cache (cache.Short name) = Damaged name

abbrev pub of_order : OrderError → ForceError
of_order order.Fault = Fault
of_order order.NoMemory = NoMemory
of_order (order.Damaged name) = Damaged name
