-- The cache's refusal, as the calls on a file of bodies tell it.
use Rattle.nb_cache.specs.declared.cache_error.CacheError.{CacheError}
use Rattle.nb_cache.specs.declared.cache_error.CacheError.TheVariants as cache
use Rattle.nb_order.specs.declared.order_error.OrderError.{OrderError}
use Rattle.nb_order.specs.declared.order_error.OrderError.TheVariants.{Fault, NoMemory, Damaged}

-- a page that isn't whole in its file is damaged
abbrev pub of_cache : CacheError → OrderError
of_cache cache.Fault = Fault
of_cache cache.NoMemory = NoMemory
of_cache (cache.Short name) = Damaged name
